pub mod WorthLaws
pub mod DecideLaws
pub mod JudgeLaws
