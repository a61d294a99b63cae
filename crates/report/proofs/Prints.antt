-- What is printed of a text, passed on.
pub use Rattle.report_lines.proofs.Prints.{too_long, fits, no_room, room_for, inside}
