-- what the Rust reads of its code, and pops from its stack
pub mod Reading
pub mod Pops
-- the orderings, and `==`
pub mod Orderings
pub mod Equal
-- stacks of values and of what they mean
pub mod Stacks
-- names
pub mod Names
-- the arms
pub mod Arms
pub mod Calls
pub mod Builds
-- a step, and a turn of the loop
pub mod Turns
-- 26 comes of a strict machine alone
pub mod Strict
-- a run
pub mod Loop
pub mod Back
