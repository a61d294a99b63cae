-- What saving asks for, and what it leaves.
pub mod Puts
