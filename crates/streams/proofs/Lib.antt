-- What a reading tells, and that it is answered.
pub mod Told
