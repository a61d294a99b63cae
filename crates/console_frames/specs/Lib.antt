pub mod Resting
pub mod Calls
