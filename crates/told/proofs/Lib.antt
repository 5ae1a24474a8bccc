pub mod Answers
pub mod Readings
pub mod Spellings
pub mod FairTold
