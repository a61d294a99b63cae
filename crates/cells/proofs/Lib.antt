-- the laws of heaps: good order, cells added above, meaning
pub mod Order
pub mod Frame
pub mod Meaning
-- a heap in a store
pub mod Stands
-- what each function does: texts, two values, build, fields, equality, good order
pub mod Texts
pub mod Pairs
pub mod Builds
pub mod Fields
pub mod Turns
pub mod Scans
