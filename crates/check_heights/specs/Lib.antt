pub mod Answer
pub mod Links
