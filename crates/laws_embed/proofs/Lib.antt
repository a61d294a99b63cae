pub mod Says
pub mod Foretells
pub mod Through
