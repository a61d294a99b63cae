-- Nothing of the text is lost.
pub mod Whole
