-- place after place
pub mod Every
-- good order: what each check answers, and what it hands on
pub mod Checks
pub mod Known
-- what each function answers, way by way
pub mod Searching
pub mod Entered
pub mod Emitting
pub mod Adding
-- what an entry leaves: good order, and which program
pub mod Keeping
pub mod Growing
pub mod Reading
pub mod Naming
