-- The listing with notes, from a function to the entry.
pub mod Lent
pub mod Passing
pub mod Entry
pub mod Walking
