pub mod NameLaws
pub mod Cases
