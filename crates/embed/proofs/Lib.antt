-- what an entry itself answers
pub mod Own
-- what the functions ensure
pub mod Through
