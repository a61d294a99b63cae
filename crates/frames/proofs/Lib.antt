-- what the definitions say to the code
pub mod Orders
pub mod Traces
pub mod Meaning
pub mod Unentering
-- a machine's frames in a slice
pub mod Callers
