pub mod Behind
pub mod Draws
