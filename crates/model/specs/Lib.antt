-- What a reader must believe first, from the bottom up.
pub mod Basics
-- the leaves: opcodes, the image's numbers, values and their words, arithmetic, the heap, equality, meaning
pub mod Opcodes
pub mod Numbers
pub mod Values
pub mod Scalars
pub mod Heap
pub mod Equality
pub mod Trees
-- programs, their one image, their listing
pub mod Programs
pub mod Images
pub mod Listings
-- what comes back, as a number
pub mod Answers
-- the machine: a step; a run with its recovery and backtrace
pub mod Steps
pub mod Runs
-- what is lent: how a program lies in stores, good order, emission, loading and saving, the entries of a machine
pub mod Stores
pub mod Orders
pub mod Emission
pub mod Loading
pub mod Machines
pub mod Readers
-- what the runner and the lister print
pub mod Reports
-- the examples to hold
pub mod Examples
-- for each of the mistakes that invite themselves, an answer that shows it
pub mod Mistakes
-- the calls of a run as entries
pub mod Entries
