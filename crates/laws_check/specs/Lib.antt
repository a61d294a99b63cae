pub mod Row
pub mod Good
pub mod Passed
