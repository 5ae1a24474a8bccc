pub mod Room
pub mod Built
pub mod Grown
pub mod Finish
