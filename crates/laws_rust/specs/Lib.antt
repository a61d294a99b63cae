-- The Rust, as it is.
pub mod Vm
-- What it is to do the same.
pub mod Same
-- The Rust on document 01's examples.
pub mod Samples
