pub mod Judged
pub mod Fault
pub mod Names
pub mod Answer
