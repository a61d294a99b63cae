pub mod Said
pub mod Asks
pub mod Lendings
pub mod Turns
