pub mod Asking
pub mod Determined
