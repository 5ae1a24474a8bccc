pub mod CodeLaws
pub mod ValueLaws
pub mod LineLaws
pub mod EndLaws
pub mod Growing
