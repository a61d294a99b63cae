-- The run's loop.
pub mod Turning
