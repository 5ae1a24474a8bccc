pub mod AnswerLaws
pub mod OneAnswer
pub mod Cut
pub mod SameEnd
pub mod Cases
