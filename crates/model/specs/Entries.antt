-- [parts] The calls of a run as entries, over small stores: what each answers and leaves, and every refusal of it in its place. One table, one claim.
use Rattle.std.specs.Prelude.{◌≡◌, refl, Bool, true, false, List, [], ◌∷◌, ◌++◌, map, ℕ, replicate, Err, None, Ok, Option, Result, Some}
use Rattle.std.specs.Int.Count.{count_trailing_zeros}
use Rattle.std.specs.Float.Ieee as Ieee
use Rattle.model.specs.declared.Value.{Value}
use Rattle.model.specs.declared.Value.TheVariants as v
use Rattle.model.specs.declared.Frame.{Frame}
use Rattle.model.specs.declared.Run.{Run}
use Rattle.model.specs.declared.Tally.{Tally}
use Rattle.model.specs.declared.Vm.{Vm}
use Rattle.model.specs.Programs.{Program}
use Rattle.model.specs.Heap.{heap_of}
use Rattle.model.specs.Runs.{Machine, root, entry, value, continue, fault, Part, ends, pauses}
use Rattle.model.specs.Stores.{Stores}
use Rattle.model.specs.Loading.{laid, counts_for}
use Rattle.model.specs.Emission.{add_op_of, patch_of, end_function_of}
use Rattle.model.specs.Machines.{Lent, RunAnswer, ran, refused, RunCall, begins, continues, abandons, run_answer, copy_after, trace_after, set_strict, no_run, load_machine_of, new_machine_of}
use Rattle.model.specs.Examples.{n42, n1, alone, product, p1_image}
use Rattle.model.specs.Basics as basics
use Rattle.model.specs.Opcodes as opcodes
use Rattle.model.specs.Numbers as numbers
use Rattle.model.specs.Values as values
use Rattle.model.specs.Scalars as scalars
use Rattle.model.specs.Heap as heap
use Rattle.model.specs.Equality as equality
use Rattle.model.specs.Programs as programs
use Rattle.model.specs.Images as images
use Rattle.model.specs.Steps as steps
use Rattle.model.specs.Runs as runs
use Rattle.model.specs.Stores as stores
use Rattle.model.specs.Orders as orders
use Rattle.model.specs.Emission as emission
use Rattle.model.specs.Loading as loading
use Rattle.model.specs.Machines as machines
use Rattle.model.specs.Reports as reports
use Rattle.model.specs.Reports.{empty_stores}
use Rattle.model.specs.Examples as examples
use Rattle.model.specs.declared.Counts.{Counts}
use Rattle.model.specs.declared.Refusal.{Refusal}
use Rattle.model.specs.Answers.{refusal_number}

-- ---- the program: a list of 42 is returned; another is built and compared with it, and the verdict returned. 9 units, 2 of them for Equal at byte 14

unfoldable pub twice : Program
twice = alone n42 n1 (0x00 ∷ 0x00 ∷ 0x00 ∷ 0x24 ∷ 0x01 ∷ 0x00 ∷ 0x25 ∷ 0x00 ∷ 0x00 ∷ 0x00 ∷ 0x24 ∷ 0x01 ∷ 0x00 ∷ 0x05 ∷ 0x12 ∷ 0x25 ∷ [])

unfoldable pub stores_for : Program → Stores
stores_for p = laid p (record {
  constants = replicate 4 0;
  structs = [];
  functions = replicate 2 0;
  text = replicate 6 0;
  main = replicate 16 0;
  main_places = replicate 16 0;
  other = [];
  other_places = [];
})

unfoldable pub lent_stores : Stores
lent_stores = stores_for twice

-- ---- the machine: true on the stack. Idle, at the start of main; and given 7 units, before Equal with 1 unit left

abbrev vm : ℕ → ℕ → Option Value → Run → Vm
vm n cells last r = record { program = counts_for twice; stack = n; frames = 1; cells = cells; last = last; run = r; strict = false }

abbrev under : ℕ → ℕ → ℕ → ℕ → ℕ → Run
under given spent returns mark saved = record { on = true; given = given; spent = spent; returns = returns; mark = mark; saved = saved }

abbrev idle : Vm
idle = vm 1 0 None no_run

-- the same, with n frames
abbrev vm_in : ℕ → Vm
vm_in n = record { program = counts_for twice; stack = 1; frames = n; cells = 0; last = None; run = no_run; strict = false }

abbrev paused : Vm
paused = vm 3 4 (Some (v.List 0)) (under 7 6 1 2 1)

-- a list of 42
abbrev block : List ℕ
block = 6 ∷ 0x1_0000_0001 ∷ 0 ∷ n42 ∷ []

abbrev lent_over : (copy backtrace : List ℕ) → List Frame → Lent
lent_over copy backtrace frames = record {
  stack = 1 ∷ 1 ∷ 4 ∷ 2 ∷ 4 ∷ 0 ∷ 0 ∷ 0 ∷ [];
  cells = block ++ block;
  frames = frames;
  copy = copy;
  backtrace = backtrace;
}

abbrev lent_with : (copy backtrace : List ℕ) → (position : ℕ) → Lent
lent_with copy backtrace i = lent_over copy backtrace (root i ∷ [])

abbrev saved : List ℕ
saved = 1 ∷ 1 ∷ 9 ∷ 9 ∷ 9 ∷ 9 ∷ 9 ∷ 9 ∷ []

abbrev lent_at : ℕ → Lent
lent_at i = lent_with saved (9 ∷ 9 ∷ 9 ∷ []) i

-- a frame of main that was entered when the run had spent e units
abbrev main_at : (position entered : ℕ) → Frame
main_at i e = record { function = 0; position = i; base = 0; entered = e }

-- ---- what is shown: of a call that is not refused its answer, the copy and the backtrace; or a number

pub data Shown : Type 0 where
  part : Part → (copy backtrace : List ℕ) → Shown
  not : ℕ → Shown
  -- whether the machine is strict
  setting : Bool → Shown

unfoldable pub shown_as : RunAnswer → List ℕ → List ℕ → Shown
shown_as (ran c x) copy trace = part x copy trace
shown_as (refused n) copy trace = not n

unfoldable pub asked : RunCall → Vm → Lent → Shown
asked c m l = shown_as (run_answer c m lent_stores l) (copy_after c m lent_stores l) (trace_after l (run_answer c m lent_stores l))

-- ---- two large readings are multiplied, on a machine that has been begun

abbrev multiplying : Bool → Vm
multiplying strict = record { program = counts_for product; stack = 0; frames = 1; cells = 0; last = None; run = under 0 0 0 0 0; strict = strict }

unfoldable pub multiplied : Bool → RunAnswer
multiplied strict = run_answer (continues 9) (multiplying strict) (stores_for product) (lent_at 0)

unfoldable pub setting_of : Result Vm Refusal → Shown
setting_of (Ok m) = setting m.strict
setting_of (Err e) = not (refusal_number e)

unfoldable pub setting_in : RunAnswer → Shown
setting_in (ran c x) = setting c.strict
setting_in (refused n) = not n

unfoldable pub started_setting : Result Vm Refusal → Shown
started_setting (Ok m) = setting m.strict
started_setting (Err e) = not (refusal_number e)

unfoldable pub started_as : Result Vm Refusal → Shown
started_as (Ok m) = not 0
started_as (Err e) = not (refusal_number e)

unfoldable pub emitted_as : Result (Counts × ℕ) Refusal → Shown
emitted_as (Ok (c, n)) = not 0
emitted_as (Err e) = not (refusal_number e)

-- a state of main
abbrev state : List Value → ℕ → ℕ → Option Value → (spent units : ℕ) → steps.State
state vs i n last e u = record { stack = vs; frame = root i; callers = []; heap = heap_of n (block ++ block); last = last; spent = e; units = u }

abbrev left : List Value → ℕ → ℕ → Option Value → Machine
left vs i n last = record { stack = vs; frame = root i; callers = []; heap = heap_of n (block ++ block); last = last }

abbrev paid : ℕ → ℕ → Tally
paid spent returns = record { spent = spent; returns = returns }

-- what is paused: units given; how far it has come; its state
abbrev waits : ℕ → Option Value → ℕ → ℕ → Option Value → steps.State → Part
waits g answer returns mark last s = pauses (record {
  given = g;
  start = v.Boolean true ∷ [];
  progress = record { answer = answer; returns = returns; heap = heap_of mark (block ++ block); last = last };
  state = s;
})

abbrev lists : List Value
lists = v.List 0 ∷ v.List 2 ∷ v.Boolean true ∷ []

pub record Row : Type 0 where
  pub shown : Shown
  pub is : Shown

abbrev pub ◌is◌ : Shown → Shown → Row
a is b = record { shown = a; is = b }

infix 4 ◌is◌
-- ---- the table

unfoldable pub entries : List Row
entries =
    -- a beginning copies the stack, takes no unit and asks for no backtrace store
    (asked begins idle (lent_with (replicate 8 9) [] 0) is part (waits 0 None 0 0 None (state (v.Boolean true ∷ []) 0 0 None 0 0)) saved [])
    -- abandoned right then: 0 units, byte 0
    ∷ (asked abandons (vm 1 0 None (under 0 0 0 0 1)) (lent_at 0)
    is part (ends (record { reply = fault 13 (paid 0 0) (entry 0 0 0 ∷ []); machine = left (v.Boolean true ∷ []) 16 0 None })) saved (0 ∷ 0 ∷ 0 ∷ []))
    -- it sets the numbers of units in all frames to 0
    ∷ (asked begins idle (lent_over (replicate 8 9) [] (main_at 0 9 ∷ []))
    is part (waits 0 None 0 0 None (state (v.Boolean true ∷ []) 0 0 None 0 0)) saved [])
    ∷ (asked begins (vm_in 2) (lent_over (replicate 8 9) [] (main_at 1 8 ∷ main_at 16 9 ∷ []))
    is part (ends (record { reply = continue (paid 0 0); machine = record { stack = v.Boolean true ∷ []; frame = root 16; callers = root 1 ∷ []; heap = []; last = None } })) saved [])
    -- a former last result is no answer of the run
    ∷ (asked (continues 0) (vm 1 2 (Some (v.List 0)) (under 0 0 0 2 1)) (lent_at 0)
    is part (waits 0 None 0 2 (Some (v.List 0)) (state (v.Boolean true ∷ []) 0 2 (Some (v.List 0)) 0 0)) saved (9 ∷ 9 ∷ 9 ∷ []))
    -- at the end of its code, and with a last result: over at once with "continue"; the stack is copied
    ∷ (asked begins (vm 1 2 (Some (v.List 0)) no_run) (lent_with (replicate 8 9) (9 ∷ 9 ∷ 9 ∷ []) 16)
    is part (ends (record { reply = continue (paid 0 0); machine = left (v.Boolean true ∷ []) 16 2 (Some (v.List 0)) })) saved (9 ∷ 9 ∷ 9 ∷ []))
    -- no units: as it was
    ∷ (asked (continues 0) paused (lent_at 14) is part (waits 7 (Some (v.List 0)) 1 2 (Some (v.List 0)) (state lists 14 4 (Some (v.List 0)) 6 1)) saved (9 ∷ 9 ∷ 9 ∷ []))
    -- one unit: it and the one that was left pay for Equal
    ∷ (asked (continues 1) paused (lent_at 14)
    is part (waits 8 (Some (v.List 0)) 1 2 (Some (v.List 0)) (state (v.Boolean true ∷ v.Boolean true ∷ []) 15 4 (Some (v.List 0)) 8 0)) saved (9 ∷ 9 ∷ 9 ∷ []))
    -- and as many as 64 bits hold in all: the value of the second root Return
    ∷ (asked (continues 0xFFFF_FFFF_FFFF_FFF8) paused (lent_at 14)
    is part (ends (record { reply = value (v.Boolean true) (paid 9 2); machine = left (v.Boolean true ∷ []) 16 4 (Some (v.Boolean true)) })) saved (9 ∷ 9 ∷ 9 ∷ []))
    -- abandoned: all 7 units, the byte of Equal; the stack of the start, the cells and the last result of the first root Return
    ∷ (asked abandons paused (lent_at 14)
    is part (ends (record { reply = fault 13 (paid 7 1) (entry 0 14 0 ∷ []); machine = left (v.Boolean true ∷ []) 16 2 (Some (v.List 0)) })) saved (0 ∷ 14 ∷ 0 ∷ []))
    -- 25, and 19 before it, and 17 behind it
    ∷ (asked begins paused (lent_at 14) is not 25)
    ∷ (asked begins paused (lent_with (1 ∷ 1 ∷ []) [] 14) is not 25)
    ∷ (asked begins (vm 3 4 (Some (v.List 0)) (under 5 6 1 2 1)) (lent_at 14) is not 19)
    ∷ (asked begins idle (lent_with (replicate 6 9) [] 0) is not 17)
    -- 18, and 19 before it, and 17 behind it
    ∷ (asked (continues 1) idle (lent_with saved [] 0) is not 18)
    ∷ (asked abandons idle (lent_with saved [] 0) is not 18)
    ∷ (asked (continues 1) (vm 1 0 None (record { on = false; given = 1; spent = 0; returns = 0; mark = 0; saved = 0 })) (lent_at 0) is not 19)
    -- 17 before 22, 22 of the units given, spent or not
    ∷ (asked (continues 0xFFFF_FFFF_FFFF_FFF9) paused (lent_with saved [] 14) is not 17)
    ∷ (asked abandons paused (lent_with saved [] 14) is not 17)
    ∷ (asked abandons paused (lent_with saved (9 ∷ 9 ∷ []) 14) is not 17)
    ∷ (asked (continues 0xFFFF_FFFF_FFFF_FFF9) paused (lent_at 14) is not 22)
    -- good order of a run under way: more spent than given; more root Returns than units spent, or one and no last result; a mark above the cells, or
    -- inside a list
    ∷ (asked abandons (vm 3 4 (Some (v.List 0)) (under 5 6 1 2 1)) (lent_at 14) is not 19)
    ∷ (asked abandons (vm 3 4 (Some (v.List 0)) (under 7 6 7 2 1)) (lent_at 14) is not 19)
    ∷ (asked abandons (vm 3 4 None (under 7 6 1 2 1)) (lent_at 14) is not 19)
    ∷ (asked abandons (vm 1 2 (Some (v.List 0)) (under 7 6 1 4 1)) (lent_at 14) is not 19)
    ∷ (asked abandons (vm 3 4 (Some (v.List 0)) (under 7 6 1 3 1)) (lent_at 14) is not 19)
    -- more values in the copy than the stack has places; one of no known kind, or one above the mark
    ∷ (asked abandons (vm 3 4 (Some (v.List 0)) (under 7 6 1 2 5)) (lent_with (1 ∷ 1 ∷ 1 ∷ 1 ∷ 1 ∷ 1 ∷ 1 ∷ 1 ∷ 1 ∷ 1 ∷ []) (9 ∷ 9 ∷ 9 ∷ []) 14) is not 19)
    ∷ (asked abandons paused (lent_with (replicate 8 9) (9 ∷ 9 ∷ 9 ∷ []) 14) is not 19)
    ∷ (asked abandons paused (lent_with (4 ∷ 2 ∷ replicate 6 9) (9 ∷ 9 ∷ 9 ∷ []) 14) is not 19)
    -- a last result above the mark; a position at the end of the code
    ∷ (asked abandons (vm 3 4 (Some (v.List 2)) (under 7 6 1 2 1)) (lent_at 14) is not 19)
    ∷ (asked abandons paused (lent_at 16) is not 19)
    -- a frame that was entered at more units than are spent; one that was entered before its caller
    ∷ (asked abandons paused (lent_over saved (9 ∷ 9 ∷ 9 ∷ []) (main_at 14 7 ∷ [])) is not 19)
    ∷ (asked begins (vm_in 2) (lent_over (replicate 8 9) [] (main_at 1 9 ∷ main_at 16 8 ∷ [])) is not 19)
    -- the setting: 19, 25 even if it is what it is already, and then it is changed
    ∷ (setting_of (set_strict true (vm 1 0 None (record { on = false; given = 1; spent = 0; returns = 0; mark = 0; saved = 0 })) lent_stores (lent_at 0)) is not 19)
    ∷ (setting_of (set_strict false paused lent_stores (lent_at 14)) is not 25)
    ∷ (setting_of (set_strict true idle lent_stores (lent_at 0)) is setting true)
    ∷ (setting_of (set_strict false idle lent_stores (lent_at 0)) is setting false)
    -- a run goes by the machine's setting, and leaves it as it is; a machine is not strict as loaded
    ∷ (shown_as (multiplied true) [] []
    is part (ends (record { reply = fault 26 (paid 3 0) (entry 0 6 0 ∷ []); machine = record { stack = []; frame = root 8; callers = []; heap = []; last = None } })) [] [])
    ∷ (shown_as (multiplied false) [] []
    is part (ends (record { reply = value (v.Scalar (Ieee.inf false)) (paid 4 1); machine = record { stack = []; frame = root 8; callers = []; heap = []; last = Some (v.Scalar (Ieee.inf false)) } })) [] [])
    ∷ (setting_in (multiplied true) is setting true)
    ∷ (setting_in (multiplied false) is setting false)
    ∷ (started_setting (load_machine_of false p1_image empty_stores (replicate 1 (root 0))).answer is setting false)
    -- loading and making anew: 25 first, also of what is no image
    ∷ (started_as (load_machine_of true (0x80 ∷ []) lent_stores []).answer is not 25)
    ∷ (started_as (load_machine_of false (0x80 ∷ []) lent_stores []).answer is not 20)
    ∷ (started_as (new_machine_of true lent_stores []).answer is not 25)
    -- emitting and patching: 25, and 19 before it, 21 and 23 behind it
    ∷ (emitted_as (add_op_of true (counts_for twice) 99 0 lent_stores).answer is not 25)
    ∷ (emitted_as (add_op_of true (emission.counts 0 0 0 0 0) 0 0 lent_stores).answer is not 19)
    ∷ (emitted_as (patch_of true (counts_for twice) 99 0 lent_stores).answer is not 25)
    ∷ (emitted_as (end_function_of true (counts_for twice)) is not 25)
    ∷ []

-- each call answers so
pub entries_answer : map (λ r. r.shown) entries ≡ map (λ r. r.is) entries
unfolding twice stores_for lent_stores shown_as asked multiplied setting_of setting_in started_setting started_as emitted_as entries count_trailing_zeros examples.calculating examples.product examples.p1_image
    basics.computes opcodes.computes numbers.computes values.computes scalars.computes heap.computes equality.computes programs.computes
    images.computes steps.computes runs.computes stores.computes orders.computes loading.computes machines.computes examples.computes examples.alone examples.program
    emission.code_order emission.emit_in emission.emit_of emission.add_op_of emission.patch_order emission.patch_of emission.end_function_of emission.size_here emission.end_here emission.code_room emission.new_of
    Ieee.of_bits Ieee.of_fields Ieee.odd Ieee.eq Ieee.to_bits Ieee.mul Ieee.round Ieee.units Ieee.size Ieee.span Ieee.climb reports.empty_stores
entries_answer = refl
