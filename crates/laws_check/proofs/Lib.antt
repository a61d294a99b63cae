-- an opcode's row is what its step does
pub mod Rows
-- paths and the walk
pub mod Walked
-- the invariant, kept by every step
pub mod Kept
-- what is said of a passed program
pub mod Theorems
