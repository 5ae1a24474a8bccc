pub mod WriteTokens
pub mod Spell
pub mod Renumber
pub mod Back
