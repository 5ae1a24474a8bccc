pub mod LineLaws
pub mod CouldLaws
pub mod SecondLaws
pub mod Cases
