pub mod Saying
pub mod FairSaying
