-- What an image's loading, saving, running and listing are held against.
pub mod Compared
