pub mod Makes
pub mod Says
