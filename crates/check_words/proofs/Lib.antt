pub mod Judged
pub mod Crossing
pub mod One
