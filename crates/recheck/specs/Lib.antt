-- A record's parts, and what is said of it.
pub mod Parts
