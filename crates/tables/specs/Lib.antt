pub mod Puts
pub mod Tabled
