pub mod Weights
pub mod Alongs
pub mod Nexts
