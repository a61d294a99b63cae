pub mod Places
pub mod Along
