pub mod Under
pub mod Steps
pub mod Says
pub mod Taking
pub mod Why
