pub mod Pieces
pub mod Rest
pub mod Counts
pub mod Hands
pub mod Bits
