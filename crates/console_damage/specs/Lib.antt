pub mod Sums
pub mod Damage
