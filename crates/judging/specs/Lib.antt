pub mod Wrong
pub mod Worth
pub mod Judged
