pub mod RowCount
pub mod Listed
pub mod Printed
pub mod Cut
