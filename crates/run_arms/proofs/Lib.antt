-- What the rules come to, and what an arm ensures.
pub mod Keeping
pub mod Posts
pub mod Rules
