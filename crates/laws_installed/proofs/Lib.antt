pub mod Running
pub mod Entries
