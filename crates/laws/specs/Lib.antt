pub mod Backs
pub mod Bools
pub mod Course
pub mod Elems
pub mod Lists
pub mod Options
pub mod UpTo
