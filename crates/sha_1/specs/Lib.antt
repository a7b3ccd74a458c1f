pub mod Sha1
pub mod Answer
pub mod AnswerLaws
pub mod Sha1Laws
