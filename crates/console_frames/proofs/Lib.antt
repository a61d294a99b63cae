pub mod Rests
pub mod Answers
