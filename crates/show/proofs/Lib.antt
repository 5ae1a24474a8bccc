pub mod Turns
pub mod Whole
pub mod Listed
pub mod OfState
pub mod OfRows
