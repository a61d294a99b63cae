-- What came of reading, what a program answers to it, and what a function says of what was read.
pub mod Reads
pub mod Answers
pub mod Saying
