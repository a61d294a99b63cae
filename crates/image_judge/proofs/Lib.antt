-- What the code reads.
pub mod Reading
pub mod Near
pub mod Items
pub mod Repeating
pub mod Passes
pub mod Runs
pub mod Functions
pub mod Judges
