-- A step, and the steps inside one function.
pub mod Dispatch
pub mod Stepping
pub mod Following
