-- What is read of a record, and what records come to.
pub mod Reading
pub mod Counting
