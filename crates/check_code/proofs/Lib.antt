-- Rules 1 to 5 over one function's code.
pub mod Instructions
pub mod Turns
pub mod Tests
pub mod Counting
pub mod Entries
pub mod Marks
