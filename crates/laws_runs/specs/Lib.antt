-- What the theorems say of a run.
pub mod Sane
pub mod Paths
pub mod Parts
pub mod Ordered
pub mod Demand
pub mod Entered
pub mod Strict
