-- The laws of the pass: of the walk, of an instruction, of the table, of the scan, and of the answer.
pub mod Walks
pub mod Instructions
pub mod Tables
pub mod Visits
pub mod Halves
pub mod Scans
pub mod Answers
