-- Whether a call of a run is granted or refused, by the number that its refusal has; and the bounds that follow.
--     refused_with                      a call is refused with its refusal
--     granted_by                        and it is granted where there is none
--     functions-there                   the functions' words are there
--     frames-there                      so are the frames
--     lengths-of, saved-of              the stack's words, the cells and the current frame are there; so are the copy's
--     copy-long, trace-long             the copy and the backtrace store are long enough
-- Assumes nothing.
use Rattle.std.specs.Prelude.{if◌then◌else◌, Err}
use mathlib.Core.Path.{◌≡◌, refl, sym, ap, ◌∙◌}
use mathlib.Core.Bool.{Bool, true, false, ◌&&◌}
use mathlib.Core.List.{List}
use Prim.Native.Nat.{ℕ, ◌+◌, ◌-◌, ◌*◌, ◌≤◌, ◌<◌, min}
use native.Mathlib.Omega.{arith}
use borrow.Author.Tests.{leb-true, ltb-false}
use lib.Dec.{leb, ltb}
use lib.ListN.{length, take}
use Rattle.model.specs.declared.Counts.{Counts}
use Rattle.model.specs.declared.Vm.{Vm}
use Rattle.model.specs.declared.Frame.{Frame}
use Rattle.model.specs.Basics.{every_from}
use Rattle.model.specs.Values.{places, most_places, kind_at, payload_at, value_at, exact_value}
use Rattle.model.specs.Heap.{Cell, heap_of, heap_ok, exact_cells, placed_below}
use Rattle.model.specs.Programs.{Function}
use Rattle.model.specs.Runs.{Part}
use Rattle.model.specs.Stores.{Stores, functions_from}
use Rattle.model.specs.Orders.{cells_ok, stack_ok, function_ok, functions_ok, frames_ok, frame_store_ok}
use Rattle.model.specs.Machines.{Unchanged, unchanged, Lent, frame_room, run_order, copy_short, trace_short, RunAnswer, ran, refused, RunCall, begins, continues, abandons, run_answer, begin_answer, continue_answer, abandon_answer, copied, copy_after, trace_after, answer_in, RunPost, refusal_of}
use Rattle.value.proofs.Coding.{and_left, and_right}
use Rattle.laws_runs.proofs.Tests.{every_of}
use Rattle.laws_runs.proofs.Programs.{Parts}
use Rattle.laws_runs.proofs.Frames.{some_frame}
use Rattle.laws_runs.proofs.Ordered.{order_of_lem, under_of_lem}
use Rattle.model.specs.declared.Refusal.{Refusal}
use Rattle.model.specs.Answers.{refusal_number}
use Rattle.run_ends.proofs.Refusing.{is_refused}
use Rattle.machine.specs.Links.{Granted}

-- ---- refusals change nothing

module _ (m : Vm) (s : Stores) (l : Lent) where
  copy_kept : (c : RunCall) {n : ℕ} → run_answer c m s l ≡ refused n → l.copy ≡ copy_after c m s l
  unfolding run_answer copy_after copied
  copy_kept begins e = rw e
  copy_kept (continues u) e = refl
  copy_kept abandons e = refl

  refuses : (c : RunCall) {e : Refusal} → run_answer c m s l ≡ refused (refusal_number e) → RunPost c m s l (Err e) l
  unfolding answer_in trace_after
  refuses c e = record {
    answer = sym e;
    copy = copy_kept c e;
    backtrace = rw e;
    rooms = record { stack = refl; cells = refl; frames = refl };
    left = refl;
  }

  some_refusal : (a : RunAnswer) {n : ℕ} → n ≡ refusal_of a → (n ≡ 0 → ⊥) → a ≡ refused n
  unfolding refusal_of
  some_refusal (ran k x) e some = absurd (some e)
  some_refusal (refused i) e some = ap refused (sym e)

  pub refused_with : (c : RunCall) {e : Refusal} → refusal_number e ≡ refusal_of (run_answer c m s l) → RunPost c m s l (Err e) l
  refused_with c {e} h = refuses c (some_refusal (run_answer c m s l) h (is_refused e))

-- ---- the tests that a call has passed which is not refused

module _ (k : Unchanged) (x : Part) where
  begins_by : (order on short : Bool) → refusal_of (if order then (if on then refused 25 else (if short then refused 17 else ran k x)) else refused 19) ≡ 0
      → (order ≡ true) × ((on ≡ false) × (short ≡ false))
  unfolding refusal_of
  begins_by true true short e = absurd (let z : ⊥ = omega (arith, e) in z)
  begins_by true false true e = absurd (let z : ⊥ = omega (arith, e) in z)
  begins_by true false false e = (refl, (refl, refl))
  begins_by false on short e = absurd (let z : ⊥ = omega (arith, e) in z)

  continues_by : (order on short long : Bool)
      → refusal_of (if order then (if on then (if short then refused 17 else (if long then refused 22 else ran k x)) else refused 18) else refused 19) ≡ 0
      → (order ≡ true) × ((on ≡ true) × ((short ≡ false) × (long ≡ false)))
  unfolding refusal_of
  continues_by true true true long e = absurd (let z : ⊥ = omega (arith, e) in z)
  continues_by true true false true e = absurd (let z : ⊥ = omega (arith, e) in z)
  continues_by true true false false e = (refl, (refl, (refl, refl)))
  continues_by true false short long e = absurd (let z : ⊥ = omega (arith, e) in z)
  continues_by false on short long e = absurd (let z : ⊥ = omega (arith, e) in z)

  abandons_by : (order on short : Bool) → refusal_of (if order then (if on then (if short then refused 17 else ran k x) else refused 18) else refused 19) ≡ 0
      → (order ≡ true) × ((on ≡ true) × (short ≡ false))
  unfolding refusal_of
  abandons_by true true true e = absurd (let z : ⊥ = omega (arith, e) in z)
  abandons_by true true false e = (refl, (refl, refl))
  abandons_by true false short e = absurd (let z : ⊥ = omega (arith, e) in z)
  abandons_by false on short e = absurd (let z : ⊥ = omega (arith, e) in z)

module _ (m : Vm) (s : Stores) (l : Lent) where
  pub granted_by : (c : RunCall) → 0 ≡ refusal_of (run_answer c m s l) → Granted c m s l
  unfolding run_answer begin_answer continue_answer abandon_answer
  granted_by begins e = let t = begins_by (unchanged m) _ (run_order m s l) m.run.on (copy_short l) (sym e) in record { order = t.0; fits = t.1 }
  granted_by (continues u) e =
      let t = continues_by (unchanged m) _ (run_order m s l) m.run.on (trace_short l) (ltb 0xFFFF_FFFF_FFFF_FFFF (m.run.given + u)) (sym e) in
      let few : m.run.given + u ≤ 0xFFFF_FFFF_FFFF_FFFF = ltb-false _ _ t.1.1.1 in
      record { order = t.0; fits = (t.1.0, (t.1.1.0, omega arith)) }
  granted_by abandons e = let t = abandons_by (unchanged m) _ (run_order m s l) m.run.on (trace_short l) (sym e) in record { order = t.0; fits = t.1 }

-- ---- bounds

pub functions_there : (c : Counts) (s : Stores) → Parts c s → c.functions ≤ places 2 s.functions
unfolding functions_ok
functions_there c s p = leb-true _ _ (and_left (leb c.functions (places 2 s.functions)) (every_from c.functions 0 (function_ok c s.functions)) p.functions)

pub record Lengths (m : Vm) (l : Lent) : Type 0 where
  pub slots : m.stack ≤ places 2 l.stack
  pub stack : 2 * m.stack ≤ length l.stack
  pub cells : m.cells ≤ places 2 l.cells
  pub some : 1 ≤ m.frames
  pub frames : m.frames ≤ frame_room l.frames
  pub current : m.frames - 1 < length l.frames

-- frames in good order are there
pub frames_there : (gs : List Function) (room n : ℕ) (fs : List Frame) → frame_store_ok gs room n fs ≡ true → (n ≤ frame_room fs) × (n - 1 < length fs)
unfolding frame_store_ok frame_room
frames_there gs room n fs e =
    let some = some_frame gs room n fs e in
    let there : n ≤ min (length fs) most_places = leb-true _ _ (and_left (leb n (min (length fs) most_places)) (frames_ok gs room (take n fs)) e) in
    (there, omega arith)

pub lengths_of : (m : Vm) (s : Stores) (l : Lent) → run_order m s l ≡ true → Lengths m l
unfolding cells_ok stack_ok
lengths_of m s l e =
    let o = order_of_lem m s l e in
    let there = leb m.cells (places 2 l.cells) in
    let exact = exact_cells m.cells 0 l.cells in
    let slots : m.stack ≤ places 2 l.stack = leb-true _ _ (and_left (leb m.stack (places 2 l.stack)) _ o.stack) in
    let frames = frames_there (functions_from m.program.functions 0 s) (places 2 l.stack) m.frames l.frames o.frames in
    record {
      slots = slots;
      stack = unfold places in omega arith;
      cells = leb-true _ _ (and_left there exact (and_left (there && exact) (heap_ok m.program.text (heap_of m.cells l.cells)) o.cells));
      some = some_frame (functions_from m.program.functions 0 s) (places 2 l.stack) m.frames l.frames o.frames;
      frames = frames.0;
      current = frames.1;
    }

-- of a run under way: the copy of its stack is there, in exact words, and goes into the stack
pub record Saved (m : Vm) (l : Lent) : Type 0 where
  pub slots : m.run.saved ≤ places 2 l.copy
  pub copy : 2 * m.run.saved ≤ length l.copy
  pub back : 2 * m.run.saved ≤ length l.stack
  pub exact : (i : ℕ) → i < m.run.saved → exact_value (kind_at l.copy i) (payload_at l.copy i) ≡ true

module _ (m : Vm) (s : Stores) (l : Lent) (e : run_order m s l ≡ true) (on : m.run.on ≡ true) where
  abbrev marked : List Cell
  marked = heap_of m.run.mark l.cells

  abbrev exact_at : ℕ → Bool
  exact_at i = exact_value (kind_at l.copy i) (payload_at l.copy i)

  abbrev placed_at : ℕ → Bool
  placed_at i = placed_below m.program.text marked (length marked) (value_at l.copy i)

  saved_slots : m.run.saved ≤ places 2 l.copy
  unfolding stack_ok
  saved_slots = leb-true _ _ (and_left (leb m.run.saved (places 2 l.copy)) (every_from m.run.saved 0 (λ i. exact_at i && placed_at i)) (under_of_lem m s l e on).copy)

  saved_exact : (i : ℕ) → i < m.run.saved → exact_at i ≡ true
  unfolding stack_ok
  saved_exact i h =
      let every = and_right (leb m.run.saved (places 2 l.copy)) (every_from m.run.saved 0 (λ i. exact_at i && placed_at i)) (under_of_lem m s l e on).copy in
      and_left (exact_at i) (placed_at i) (every_of (λ i. exact_at i && placed_at i) m.run.saved 0 every i (omega arith) (omega arith))

  pub saved_of : Saved m l
  unfolding places
  saved_of =
      let slots = saved_slots in
      let fits = (under_of_lem m s l e on).saved in
      record { slots = slots; copy = omega arith; back = omega arith; exact = saved_exact }

-- 17 is not the answer: the copy store has room for the stack, the backtrace store for the frames
pub copy_long : (m : Vm) (s : Stores) (l : Lent) → run_order m s l ≡ true → copy_short l ≡ false → 2 * m.stack ≤ length l.copy
unfolding copy_short places
copy_long m s l e short = let z : places 2 l.stack ≤ places 2 l.copy = ltb-false _ _ short in let n = lengths_of m s l e in omega arith

pub trace_long : (l : Lent) → trace_short l ≡ false → frame_room l.frames ≤ places 3 l.backtrace
unfolding trace_short
trace_long l short = ltb-false _ _ short
