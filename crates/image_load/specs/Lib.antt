-- What the writing pass asks for, and what it leaves in the stores.
pub mod Fills
