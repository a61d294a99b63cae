-- What the writing pass leaves in the stores.
pub mod Filling
pub mod Placing
pub mod Loads
pub mod Loaded
