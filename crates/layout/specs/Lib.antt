-- What the contracts of the entries cite besides the model's definitions: which slice is which store.
pub mod Links
pub mod Lent
