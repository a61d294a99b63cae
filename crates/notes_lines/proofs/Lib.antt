pub mod Named
pub mod Whole
