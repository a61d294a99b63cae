-- What the demands speak of: what a host holds, its calls, and what each does
pub mod Host
pub mod Jobs
-- demand 1: refusals, and good order through every call
pub mod Refusals
pub mod Kept
-- demand 2: values as trees, units and written steps
pub mod Trees
pub mod Units
-- what no answer tells apart, by its words and by its meaning
pub mod Agree
pub mod Meant
-- a run in parts, over calls
pub mod Parts
-- demand 3: what a fault leaves, or abandoning
pub mod Recovery
-- a machine in stores that are lent anew
pub mod Relent
-- demand 4: no second answer
pub mod One
