-- The arms of a match on a byte, and the tables that they give.
pub mod Arms
pub mod Counts
pub mod Names
pub mod Naming
