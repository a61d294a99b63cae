-- [programs] What the runner and the lister print.
use Rattle.std.specs.Prelude.{Bool, true, false, List, [], ◌∷◌, ◌++◌, ℕ, zero, suc, ◌+◌, ◌/◌, ◌%◌, ltb, eqb, length, replicate, if◌then◌else◌, Err, Ok, Result}
use Rattle.std.specs.Float.{binary64}
use Rattle.std.specs.Float.Ieee.{to_bits}
use Rattle.model.specs.declared.Frame.{Frame}
use Rattle.model.specs.declared.Tally.{Tally}
use Rattle.model.specs.declared.Vm.{Vm}
use Rattle.model.specs.declared.Value.{Value}
use Rattle.model.specs.declared.Value.TheVariants as v
use Rattle.model.specs.Basics.{ascii}
use Rattle.model.specs.Heap.{Cell, head_in}
use Rattle.model.specs.Answers.{refusal_number}
use Rattle.model.specs.Listings.{Listed, text, unlisted, decimal, listing_of}
use Rattle.model.specs.Runs.{Machine, root, Entry, Reply, value, continue, fault, Ran, run_of}
use Rattle.model.specs.Stores.{Stores, program_in}
use Rattle.model.specs.Loading.{load_of}
use Rattle.model.specs.Machines.{Lent, machine_in, world_of, run_refusal, StartRes, load_machine_of}
use Rattle.model.specs.declared.Counts.{Counts}
use Rattle.model.specs.declared.Refusal.{Refusal}

-- ---- a value: `scalar` and 16 capital hex digits, `true`, `false`, `string N`, `function N`, `list N`, `struct S N`

unfoldable pub hex_digit : ℕ → ℕ
hex_digit d = if ltb d 10 then 48 + d else 55 + d

-- the n lowest hex digits of w
unfoldable pub hex_for : ℕ → ℕ → List ℕ
hex_for zero w = []
hex_for (suc n) w = hex_for n (w / 16) ++ (hex_digit (w % 16) ∷ [])

unfoldable pub boolean_text : Bool → List ℕ
boolean_text true = ascii "true"
boolean_text false = ascii "false"

unfoldable pub value_text : List Cell → Value → List ℕ
value_text H (v.Scalar x) = ascii "scalar " ++ hex_for 16 (to_bits binary64 x)
value_text H (v.Boolean b) = boolean_text b
value_text H (v.String o n) = ascii "string " ++ decimal n
value_text H (v.FunctionReference o n) = ascii "function " ++ decimal n
value_text H (v.List p) = ascii "list " ++ decimal (head_in H p).count
value_text H (v.StructInstance p) = ascii "struct " ++ decimal (head_in H p).number ++ ascii " " ++ decimal (head_in H p).count

-- ---- a run: `value` and the value, or `continue`, or `fault N`; then `spent N`, `stack N`, and after a fault `at FUNCTION PLACE ENTERED` for each frame

unfoldable pub entry_lines : List Entry → List ℕ
entry_lines [] = []
entry_lines (e ∷ es) = ascii "at " ++ decimal e.function ++ ascii " " ++ decimal e.place ++ ascii " " ++ decimal e.entered ++ ascii "\n" ++ entry_lines es

unfoldable pub spent_lines : Tally → Machine → List ℕ
spent_lines t m = ascii "spent " ++ decimal t.spent ++ ascii "\nstack " ++ decimal (length m.stack) ++ ascii "\n"

unfoldable pub reply_lines : Reply → Machine → List ℕ
reply_lines (value x t) m = ascii "value " ++ value_text m.heap x ++ ascii "\n" ++ spent_lines t m
reply_lines (continue t) m = ascii "continue\n" ++ spent_lines t m
reply_lines (fault n t es) m = ascii "fault " ++ decimal n ++ ascii "\n" ++ spent_lines t m ++ entry_lines es

unfoldable pub refused_line : ℕ → List ℕ
refused_line n = ascii "refused " ++ decimal n ++ ascii "\n"

unfoldable pub ran_lines : Ran → List ℕ
ran_lines r = reply_lines r.reply r.machine

-- one run of u units: begun, continued, and abandoned where it is paused
unfoldable pub report_of : Vm → Stores → Lent → (units : ℕ) → List ℕ
report_of m s l u = if eqb (run_refusal m s l) 0 then ran_lines (run_of (world_of m s l) (machine_in m l) u) else refused_line (run_refusal m s l)

-- ---- the runner's and the lister's stores: 1,024 values, 256 frames, 2,048 cells, 256 each of constants, structs and functions, 8,192 bytes of
-- main, 8,192 of other code, 16,384 of text

unfoldable pub empty_stores : Stores
empty_stores = record {
  constants = replicate 512 0;
  structs = replicate 512 0;
  functions = replicate 512 0;
  text = replicate 16384 0;
  main = replicate 8192 0;
  main_places = replicate 8192 0;
  other = replicate 8192 0;
  other_places = replicate 8192 0;
}

unfoldable pub empty_lent : List Frame → Lent
empty_lent frames = record { stack = replicate 2048 0; cells = replicate 4096 0; frames = frames; copy = replicate 2048 0; backtrace = replicate 768 0 }

-- ---- [runner] an image of at most 16,384 bytes, run with 1,000,000 units

unfoldable pub started_text : Result Vm Refusal → Stores → List Frame → List ℕ
started_text (Ok m) s frames = report_of m s (empty_lent frames) 1000000
started_text (Err e) s frames = refused_line (refusal_number e)

unfoldable pub started : StartRes → List ℕ
started r = started_text r.answer r.stores r.frames

unfoldable pub runner_text : List ℕ → List ℕ
runner_text image = if ltb 16384 (length image) then refused_line 22 else started (load_machine_of false image empty_stores (replicate 256 (root 0)))

-- ---- [lister] likewise: each function's listing in order, or `refused N` alone

unfoldable pub listed_text : Listed → List ℕ
listed_text (text bytes) = bytes
listed_text (unlisted before e) = refused_line (refusal_number e)

unfoldable pub loaded_text : Result Counts Refusal → Stores → List ℕ
loaded_text (Ok c) s = listed_text (listing_of (program_in c s))
loaded_text (Err e) s = refused_line (refusal_number e)

unfoldable pub lister_text : List ℕ → List ℕ
lister_text image = if ltb 16384 (length image) then refused_line 22 else loaded_text (load_of image empty_stores).answer (load_of image empty_stores).stores

-- all that an example computes with here
unfoldable pub computes : Type 1
unfolding hex_digit hex_for boolean_text value_text entry_lines spent_lines reply_lines refused_line ran_lines report_of empty_stores empty_lent started_text started
    runner_text listed_text loaded_text lister_text
computes = Type 0
