pub mod Links
pub mod Flaws
