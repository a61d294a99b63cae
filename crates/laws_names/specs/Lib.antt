-- What a search by halves finds, and how a number is put in the order of names.
pub mod Sorted
