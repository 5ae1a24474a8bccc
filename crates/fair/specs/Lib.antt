pub mod FairRun
pub mod WholeTurns
