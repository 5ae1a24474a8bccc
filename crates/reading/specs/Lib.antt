pub mod Levels
pub mod Items
pub mod Table
pub mod Marks
pub mod Progress
pub mod Links
