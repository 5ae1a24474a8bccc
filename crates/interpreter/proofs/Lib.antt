pub mod Asking
pub mod AskingFair
pub mod Determined
