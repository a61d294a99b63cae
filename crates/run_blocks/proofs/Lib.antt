-- What the rules of equality, lists and structs come to, and what their arms ensure.
pub mod Cellwise
