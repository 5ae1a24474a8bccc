pub mod ByteLaws
pub mod NodeLaws
pub mod Tabling
pub mod HeadLaws
pub mod ReadTabled
pub mod Cited
