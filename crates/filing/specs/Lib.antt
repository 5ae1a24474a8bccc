pub mod Given
pub mod Names
