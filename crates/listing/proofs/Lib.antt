-- A listing, from its letters to the entry.
pub mod Names
pub mod Pieces
pub mod Lent
pub mod Judging
pub mod Turns
pub mod Functions
pub mod Entry
