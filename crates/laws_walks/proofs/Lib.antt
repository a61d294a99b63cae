pub mod Branches
pub mod Loops
pub mod Matches
