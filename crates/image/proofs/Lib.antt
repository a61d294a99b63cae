-- What is saved is a program, and loads.
pub mod Sounds
-- The return trip: the statements to read.
pub mod Trip
