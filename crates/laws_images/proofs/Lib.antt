-- What is written reads back, and nothing else reads.
pub mod Codecs
pub mod Places
pub mod Formats
-- Stores that are written one piece behind another, and what they then hold.
pub mod Written
pub mod Held
