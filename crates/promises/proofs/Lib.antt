pub mod Answers
pub mod LastStep
pub mod Promises
pub mod Excluded
pub mod WrittenScripts
pub mod Changed
pub mod NotSet
pub mod FairTurns
