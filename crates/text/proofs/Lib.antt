pub mod WroteLaws
pub mod LineLaws
pub mod DecimalLaws
pub mod SignedLaws
pub mod Determined
pub mod Cases
