-- What the checker prints, and what the contracts cite besides.
pub mod Details
pub mod Texts
pub mod Links
