pub mod Holds
pub mod Says
