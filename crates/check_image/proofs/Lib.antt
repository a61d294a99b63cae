-- one rule, over one function and over all of them
pub mod Judged
-- rule 4 and rule 6
pub mod Counting
pub mod Measures
-- all rules in their order, and the entry
pub mod Findings
pub mod Entries
-- what breaks the rule of heights
pub mod Seeking
