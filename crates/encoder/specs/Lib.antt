pub mod Encodes
pub mod Says
