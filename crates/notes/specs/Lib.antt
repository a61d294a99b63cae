-- What a note says, and how a text is cut.
pub mod Notes
pub mod Links
pub mod Examples
