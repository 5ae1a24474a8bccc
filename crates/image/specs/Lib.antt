pub mod Read
pub mod Refusals
