pub mod Lines
pub mod Calling
pub mod Saying
pub mod Answered
