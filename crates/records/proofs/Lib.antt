pub mod Read
pub mod Counts
