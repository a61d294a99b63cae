-- Demand 1: each entry refuses bad input by a number from document 01: which, exactly when, and in which order.
use Rattle.std.specs.Prelude.{◌≡◌, Bool, true, false, not, ◌&&◌, ◌||◌, List, [], ◌∷◌, ℕ, suc, ◌+◌, ltb, leb, length, if◌then◌else◌, Err, None, Ok, Option, Result, Some}
use Rattle.std.proofs.Math.Option.{Option as Maybe, none, some}
use Rattle.model.specs.declared.Constant.{Constant}
use Rattle.model.specs.declared.Constant.TheVariants as k
use Rattle.model.specs.declared.Value.{Value}
use Rattle.model.specs.declared.Value.TheVariants as v
use Rattle.model.specs.Answers.{refusal_number}
use Rattle.model.specs.Values.{places, kind_at, payload_at, value_at, exact_value}
use Rattle.model.specs.Heap.{heap_of, head_in, placed_below}
use Rattle.model.specs.Programs.{newest_from, first_from, code_limit, constant_limit, name_limit, within_limits}
use Rattle.model.specs.Images.{image_of, Judged, fine, broken, judge}
use Rattle.model.specs.Listings.{Listed, text, unlisted, listing_of}
use Rattle.model.specs.Runs.{traceable}
use Rattle.model.specs.Stores.{functions_from, program_in}
use Rattle.model.specs.Orders.{counts_ok, text_ok, functions_ok, program_ok}
use Rattle.model.specs.Emission.{struct_names, text_room, size_here, end_here, code_room, code_order, patch_order, constant_order, struct_order, function_order, names_from}
use Rattle.model.specs.Loading.{room_for, list_order}
use Rattle.model.specs.Machines.{innermost, callers_in, run_order, copy_short, trace_short, RunCall, begins, continues, abandons, RunAnswer, ran as answered, refused, trace_order}
use Rattle.model.specs.Readers.{reads, header_at, reads_text}
use Rattle.demands.specs.Host.{Held, Ask, new, load, add_op, add_op1, add_op2, add_op3, patch, add_constant, add_struct, begin_function, end_function, set_strict, current_offset, function_idx, save, disassemble, backtrace, last_result, stack_value, block_header, element, text_bytes, Call, run, ask, Answer, ran, emitted, started, changed, told, put, shown, headed}
use Rattle.model.specs.declared.Refusal.{Refusal}

-- a test that must hold, or must not hold; else the number comes back
pub data Check : Type 0 where
  must : Bool → ℕ → Check
  must_not : Bool → ℕ → Check

-- the number comes back at once
abbrev pub always : ℕ → Check
always n = must_not true n

-- the checks are made in order: the number of the first that fails
unfoldable pub first_of : List Check → Maybe ℕ
first_of [] = none
first_of (must b n ∷ cs) = if b then first_of cs else some n
first_of (must_not b n ∷ cs) = if b then some n else first_of cs

-- ---- the checks of each entry

abbrev pub is_none : {A : Type 0} → Maybe A → Bool
is_none none = true
is_none (some x) = false

abbrev pub is_empty : {A : Type 0} → List A → Bool
is_empty [] = true
is_empty (x ∷ l) = false

-- what writes to the program judges it, and then sees that no run is under way
abbrev pub writing : Held → (inOrder : Bool) → List Check → List Check
writing h inOrder rest = must inOrder 19 ∷ must_not h.vm.run.on 25 ∷ rest

-- what makes a machine sees first that no run is under way
abbrev pub making : Held → List Check → List Check
making h rest = must_not h.vm.run.on 25 ∷ rest

unfoldable pub code_checks : Held → ℕ → ℕ → List Check
code_checks h op n =
    writing h (code_order h.vm.program h.stores)
    (must_not (ltb code_limit (size_here h.vm.program h.stores + n)) 22
    ∷ must_not (ltb (code_room h.vm.program h.stores) (end_here h.vm.program h.stores + n)) 21
    ∷ must_not (leb 38 op) 1
    ∷ [])

-- a string or a function reference brings a text
abbrev pub has_text : Constant → Bool
has_text (k.Scalar x) = false
has_text (k.Boolean x) = false
has_text k.String = true
has_text k.FunctionReference = true

-- 20 comes with the offset of the first item that breaks a rule
unfoldable pub load_checks : Held → Judged → List Check
load_checks h (broken i) = always 20 ∷ []
load_checks h (fine p) =
    must (within_limits p) 22
    ∷ must (room_for p h.stores) 21
    ∷ must_not (is_empty h.lent.frames) 21
    ∷ []

unfoldable pub new_name : Held → List ℕ → Bool
new_name h name = is_none (first_from 0 name (struct_names h.vm.program h.stores))

-- n bytes fit
unfoldable pub fits_out : List ℕ → ℕ → Bool
fits_out out n = leb n (places 1 out)

-- its number is 1 or 3, as met first (`listing_numbers`)
unfoldable pub list_checks : List ℕ → Listed → List Check
list_checks out (text bytes) = must (fits_out out (length bytes)) 17 ∷ []
list_checks out (unlisted before e) = always (refusal_number e) ∷ []

abbrev pub no_last : Option Value → Bool
no_last None = true
no_last (Some x) = false

-- place i of a store holds exactly a value's words
unfoldable pub exact_at : List ℕ → ℕ → Bool
exact_at s i = exact_value (kind_at s i) (payload_at s i)

-- element i is there, placed below its list's or struct's header at p; other values have no elements
unfoldable pub element_checks : Held → ℕ → Maybe ℕ → List Check
element_checks h i none = always 5 ∷ []
element_checks h i (some p) =
    must (ltb i (head_in (heap_of h.vm.cells h.lent.cells) p).count) 6
    ∷ must (placed_below h.vm.program.text (heap_of p h.lent.cells) p (value_at h.lent.cells (suc p + i))) 19
    ∷ must (exact_at h.lent.cells (suc p + i)) 19
    ∷ []

-- the text of a string or a function reference fits; other values have none
abbrev pub text_checks : List ℕ → Value → List Check
text_checks out (v.Scalar x) = always 5 ∷ []
text_checks out (v.Boolean x) = always 5 ∷ []
text_checks out (v.String o n) = must (fits_out out n) 17 ∷ []
text_checks out (v.FunctionReference o n) = must (fits_out out n) 17 ∷ []
text_checks out (v.List p) = always 5 ∷ []
text_checks out (v.StructInstance p) = always 5 ∷ []

unfoldable pub ask_checks : Ask → Held → List Check
ask_checks new h =
    making h
    (must (leb 6 (places 1 h.stores.text) && leb 1 (places 2 h.stores.functions)) 21
    ∷ must_not (is_empty h.lent.frames) 21
    ∷ [])
ask_checks (load image) h = making h (load_checks h (judge image))
ask_checks (add_op op place) h = code_checks h op 1
ask_checks (add_op1 op a place) h = code_checks h op 3
ask_checks (add_op2 op a b place) h = code_checks h op 5
ask_checks (add_op3 op a b c place) h = code_checks h op 7
ask_checks (patch offset word) h =
    writing h (patch_order h.vm.program h.stores)
    (must_not (ltb (size_here h.vm.program h.stores) (offset + 2)) 23
    ∷ [])
ask_checks (add_constant x bytes) h =
    writing h (constant_order h.vm.program h.stores)
    (must_not (leb constant_limit h.vm.program.constants) 22
    ∷ must_not (leb (places 2 h.stores.constants) h.vm.program.constants) 21
    ∷ must (not (has_text x) || text_room h.vm.program h.stores (length bytes)) 21
    ∷ [])
ask_checks (add_struct name) h =
    writing h (struct_order h.vm.program h.stores)
    (must_not (new_name h name && leb name_limit h.vm.program.structs) 22
    ∷ must_not (new_name h name && leb (places 2 h.stores.structs) h.vm.program.structs) 21
    ∷ must (not (new_name h name) || text_room h.vm.program h.stores (length name)) 21
    ∷ [])
ask_checks (begin_function name) h =
    writing h (function_order h.vm.program h.stores)
    (must_not (leb name_limit h.vm.program.functions) 22
    ∷ must_not (leb (places 2 h.stores.functions) h.vm.program.functions) 21
    ∷ must (text_room h.vm.program h.stores (length name)) 21
    ∷ [])
ask_checks end_function h = writing h (counts_ok h.vm.program) []
-- the whole machine is judged, as before a run; and no run is under way, even where the setting asked for is the present one
ask_checks (set_strict b) h = must (run_order h.vm h.stores h.lent) 19 ∷ must_not h.vm.run.on 25 ∷ []
ask_checks current_offset h = must (counts_ok h.vm.program && functions_ok h.vm.program h.stores.functions) 19 ∷ []
ask_checks (function_idx name) h =
    must (function_order h.vm.program h.stores) 19
    ∷ must_not (is_none (newest_from 0 name (names_from h.vm.program.functions 0 h.stores))) 14
    ∷ []
ask_checks (save out) h =
    must (program_ok h.vm.program h.stores) 19
    ∷ must (fits_out out (length (image_of (program_in h.vm.program h.stores)))) 17
    ∷ []
ask_checks (disassemble out) h =
    must (list_order h.vm.program h.stores) 19
    ∷ list_checks out (listing_of (program_in h.vm.program h.stores))
ask_checks (backtrace out) h =
    must (trace_order h.vm h.stores h.lent.stack h.lent.frames) 19
    ∷ must_not (ltb (places 3 out) h.vm.frames) 17
    ∷ must (traceable (functions_from h.vm.program.functions 0 h.stores) (innermost h.vm.frames h.lent.frames ∷ callers_in h.vm.frames h.lent.frames)) 16
    ∷ []
ask_checks last_result h = must_not (no_last h.vm.last) 7 ∷ []
ask_checks (stack_value i) h =
    must (leb h.vm.stack (places 2 h.lent.stack)) 19
    ∷ must (ltb i h.vm.stack) 6
    ∷ must (exact_at h.lent.stack i) 19
    ∷ []
ask_checks (block_header x) h =
    must (reads h.vm x h.lent.cells) 19
    ∷ must_not (is_none (header_at x)) 5
    ∷ []
ask_checks (element x i) h =
    must (reads h.vm x h.lent.cells) 19
    ∷ element_checks h i (header_at x)
ask_checks (text_bytes x out) h =
    must (text_ok h.vm.program h.stores.text && reads_text h.vm x) 19
    ∷ text_checks out x

-- 25, a run is under way; 18, none is
unfoldable pub run_checks : RunCall → Held → List Check
run_checks begins h =
    must (run_order h.vm h.stores h.lent) 19
    ∷ must_not h.vm.run.on 25
    ∷ must_not (copy_short h.lent) 17
    ∷ []
run_checks (continues units) h =
    must (run_order h.vm h.stores h.lent) 19
    ∷ must h.vm.run.on 18
    ∷ must_not (trace_short h.lent) 17
    ∷ must_not (ltb 0xFFFF_FFFF_FFFF_FFFF (h.vm.run.given + units)) 22
    ∷ []
run_checks abandons h =
    must (run_order h.vm h.stores h.lent) 19
    ∷ must h.vm.run.on 18
    ∷ must_not (trace_short h.lent) 17
    ∷ []

unfoldable pub checks : Call → Held → List Check
checks (run c) h = run_checks c h
checks (ask q) h = ask_checks q h

-- ---- what an answer says of a refusal

abbrev pub refused_in : {A : Type 0} → Result A Refusal → Maybe ℕ
refused_in (Ok x) = none
refused_in (Err e) = some (refusal_number e)

abbrev pub refused_run : RunAnswer → Maybe ℕ
refused_run (answered c x) = none
refused_run (refused n) = some n

abbrev pub refused_by : Answer → Maybe ℕ
refused_by (ran x) = refused_run x
refused_by (emitted x) = refused_in x
refused_by (started x) = refused_in x
refused_by (changed x) = refused_in x
refused_by (told x) = refused_in x
refused_by (put out x) = refused_in x.answer
refused_by (shown x) = refused_in x
refused_by (headed x) = refused_in x

-- ---- a result store that is as it was lent

abbrev pub OutKept : Answer → Type 0
OutKept (ran x) = Unit
OutKept (emitted x) = Unit
OutKept (started x) = Unit
OutKept (changed x) = Unit
OutKept (told x) = Unit
OutKept (put out x) = x.out ≡ out
OutKept (shown x) = Unit
OutKept (headed x) = Unit

-- ---- DEMAND 1, of a call that answered a and left h': it is refused by the first check that fails and by no other number; a refusal changes nothing
pub record Demand1 (c : Call) (h : Held) (a : Answer) (h' : Held) : Type 0 where
  pub number : refused_by a ≡ first_of (checks c h)
  pub kept : (n : ℕ) → refused_by a ≡ some n → (h' ≡ h) × OutKept a
