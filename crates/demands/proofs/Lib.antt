-- The theorems. Demand 1: `refuses`, `steps_within`, `new_in_order`, `load_in_order`, `chain_kept`, `run_in_order`.
-- A run in parts: `parts_come_to`, `over_is_one`, `dealings_agree`, `dealt_ends_agree`, `more_units_change_nothing`, `any_call_goes_on`.
-- Demand 2: `run_written`, `pause_written`, `paused_where_one_run_ends_in_13`, with `step_cost`, `fault_cost`, `path_units`, `run_is_steps` and `as_trees`.
-- Demand 3: `fault_recovers`, with `fault_leaves`, `a_backtrace_tells_when_its_frames_were_entered`, `chain_alike`, `chains_agree` and `past_counts_unseen`. Demand 4: `run_one`, `ask_one`.

-- lent stores that are the same below the counts; a machine in good order fixes its words
pub mod Fronts
pub mod Agreeing
pub mod Fixed
-- a machine whose setting changes
pub mod Setting
-- `run_one`
pub mod OneRun
-- `chains_agree`, `past_counts_unseen`, `ask_one`
pub mod Asks
pub mod Chains
-- a call of a run that was not refused does what the rules say
pub mod Went
-- `refuses`; while a run is under way
pub mod Refusing
pub mod WhileRunning
-- `parts_come_to`, `over_is_one`, `dealings_agree`, `dealt_ends_agree`, `more_units_change_nothing`, `any_call_goes_on`
pub mod Parting
-- `step_cost`, `fault_cost`, `path_units`, `run_is_steps`, `as_trees`, `run_written`, `pause_written`, `steps_within`
pub mod Paying
pub mod Growing
pub mod Written
-- good order where a program grows; `new_in_order`, `load_in_order`, `chain_kept`, `run_in_order`
pub mod Wider
pub mod Emitted
pub mod Orderly
-- code stays bytes; one program wherever its texts lie; `chain_alike`
pub mod Bytes
pub mod Beside
pub mod Made
pub mod Constants
pub mod MeantRuns
pub mod MeantAsks
pub mod MeantChains
pub mod Example
-- `a_backtrace_tells_when_its_frames_were_entered`
pub mod Traces
-- `fault_leaves`, `fault_recovers`
pub mod Recovering
-- `relent_stands`, `relent_alike`
pub mod Relending
-- `relent_chain_says`
pub mod AnewChains
