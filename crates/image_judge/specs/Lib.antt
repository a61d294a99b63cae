-- What the code's answers stand for.
pub mod Links
-- The texts that are there again.
pub mod Repeats
