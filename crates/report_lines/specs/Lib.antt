-- What the contracts cite besides the model's definitions.
pub mod Links
