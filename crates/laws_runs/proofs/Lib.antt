-- a step: one law per combinator of the rules, then all that a step can do
pub mod Combinators
pub mod Does
-- what follows of every step: its units, its heap
pub mod Spends
pub mod Adds
-- runs: their end, and the written steps that lead to it
pub mod Ends
pub mod Paths
-- good order
pub mod Placed
pub mod Keeps
pub mod Runs
-- more units, and units that are dealt out
pub mod More
pub mod Parts
-- when frames were entered
pub mod Entered
-- good order as a run judges it
pub mod Tests
pub mod Programs
pub mod Frames
pub mod Ordered
-- what a run that faults leaves
pub mod Demands
-- strict and not
pub mod Strict
