-- the order of byte lists
pub mod Before
-- a search by halves among names in order
pub mod Halves
-- as many different numbers as there are below n are all of them
pub mod Pigeons
-- numbers put in the order of names
pub mod Putting
-- names that stand in order: all different, found by halves, and one more put in
pub mod Standing
-- a list of numbers in the order of names, and the stores that loading lays
pub mod Laying
