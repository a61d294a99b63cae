pub mod Shows
pub mod Ordered
