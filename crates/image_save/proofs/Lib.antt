-- What saving writes.
pub mod Putting
pub mod Imaging
pub mod Orderly
