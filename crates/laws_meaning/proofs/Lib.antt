-- two values, two builds
pub mod Values
pub mod Builds
-- a step, a run: `step_alike`, `run_alike`
pub mod Steps
pub mod Runs
-- a program that has grown: `later_alike`
pub mod Texts
-- what a host reads: `lists_alike`, `structs_alike`, `strings_alike`, `references_alike`
pub mod Blocks
