pub mod FaultLaws
pub mod AnswerLaws
pub mod Cut
pub mod OneAnswer
