-- A run before and behind its loop.
pub mod Judging
pub mod Refusing
pub mod Starting
pub mod Answering
-- and in the words of the rules
pub mod Ruled
-- and what a paused run leaves is in good order
pub mod Leaving
