-- The theorems. A call from C does what the entry does: `crossing`; one whose answer has no room: `short_answer`. Demand 1: `c_refuses`, `no_record_refused`,
-- `zero_is_done`, `c_new_made`, `c_load_made`, `c_chain_kept`, `c_run_in_order`. The setting: `c_set_strict`. Calls one after another: `c_chain_is_a_chain`, `c_chains_alike`.
-- Demand 3: `c_fault_recovers`; with the dealing law, `c_dealings_agree`.

-- what the exports ensure is what is said of them
pub mod Exports
-- a run keeps what the types say of its values
pub mod Typed
-- the record that a call leaves; answers in words
pub mod Records
pub mod Coded
-- `crossing`
pub mod Crossing
-- `short_answer`
pub mod Short
-- `c_refuses`, `no_record_refused`, `no_value_shown`, `no_value_put`, `exact_words`
pub mod Refusing
-- `zero_is_done`
pub mod Zero
-- `c_new_made`, `c_load_made`
pub mod Made
-- `c_set_strict`
pub mod Set
-- `c_chain_is_a_chain`, `c_chain_kept`, `c_run_in_order`, `c_chains_alike`
pub mod Chains
-- `c_dealings_agree`, `c_fault_recovers`
pub mod Recovering
