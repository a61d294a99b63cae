-- tests, words and written stores
pub mod Bools
pub mod Parts
pub mod Rooms
pub mod Writing
-- names in order
pub mod Names
