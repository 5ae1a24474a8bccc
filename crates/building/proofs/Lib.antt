pub mod BuildLaws
pub mod PassedLaws
pub mod FinishLaws
pub mod Cited
