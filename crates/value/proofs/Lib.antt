-- Values in words, in stores, and on a stack.
pub mod Floats
pub mod Coding
pub mod Lasts
pub mod Stores
pub mod Operands
