pub mod DrawLaws
pub mod RunLaws
pub mod DecimalLaws
pub mod GapLaws
pub mod MarkLaws
pub mod SpellLaws
pub mod Determined
pub mod Cited
