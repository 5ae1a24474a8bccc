pub mod SameTables
pub mod Sizes
pub mod Waiting
pub mod Looking
pub mod Walking
