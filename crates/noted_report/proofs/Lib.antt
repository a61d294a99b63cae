-- What the noter prints, and that it fits.
pub mod Prints
pub mod Fits
