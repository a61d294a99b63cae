-- A number in groups, read and written; and that the two undo each other.
pub mod Digits
pub mod Codes
pub mod Reading
pub mod Writing
