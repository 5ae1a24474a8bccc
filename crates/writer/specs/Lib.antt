pub mod Forms
pub mod Ends
pub mod Fields
pub mod Walk
pub mod Answer
