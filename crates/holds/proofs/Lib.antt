pub mod Fitting
pub mod Looping
pub mod Whole
pub mod Decided
