pub mod BeforeOrder2
pub mod Compared
pub mod BeforeOrder5
