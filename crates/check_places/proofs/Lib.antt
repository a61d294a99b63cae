pub mod Tests
pub mod Turning
pub mod Calling
pub mod TwoCounts
