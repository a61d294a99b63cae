-- What the contracts cite besides the rules.
pub mod Tallies
pub mod Links
