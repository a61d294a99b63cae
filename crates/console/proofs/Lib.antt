pub mod Obeys
pub mod Turning
pub mod Tellings
