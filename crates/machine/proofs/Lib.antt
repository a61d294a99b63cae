-- tests
pub mod Tests
-- a call of a run: refused or granted, and in what order
pub mod Granted
pub mod Refusals
-- its copied stack
pub mod Copies
-- what it comes to, and leaves in good order
pub mod Leaves
-- a beginning
pub mod Beginnings
-- a continuing: its start, its backtrace, its end
pub mod Lends
pub mod Begins
pub mod Traced
pub mod Stops
pub mod Settles
-- an abandoning
pub mod Abandons
-- the backtrace as an entry
pub mod Tracings
-- making a machine
pub mod Makings
