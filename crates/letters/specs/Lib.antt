pub mod Table
pub mod Token
pub mod Past
pub mod Runs
pub mod Kinds
pub mod Pieces
pub mod Says
pub mod Upto
