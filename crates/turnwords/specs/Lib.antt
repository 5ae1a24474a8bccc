pub mod FairContract
pub mod Rounds
