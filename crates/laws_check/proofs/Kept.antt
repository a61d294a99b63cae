-- THE INVARIANT IS KEPT: a step of a passed program from a good state gives a good state, or a fault that is allowed.
use mathlib.Core.Path.{◌≡◌, refl, sym, ap, ◌∙◌}
use mathlib.Core.Bool.{Bool, true, false, not, ◌&&◌, ◌||◌, true≢false}
use mathlib.Core.List.{List, [], ◌∷◌}
use Prim.Native.Nat.{ℕ, suc, ◌+◌, ◌-◌, ◌≤◌, ◌<◌}
use native.Mathlib.Omega.{arith}
use borrow.Author.Tests.{ltb-true, leb-true, eq-eqb, eqb-false, not-true}
use lib.Dec.{ltb, leb, eqb}
use lib.ListN.{length, get_or}
use Rattle.model.specs.declared.Op.{Op}
use Rattle.model.specs.declared.Names.{Names}
use Rattle.model.specs.declared.Names.TheVariants as n
use Rattle.model.specs.declared.Decoded.{Decoded}
use Rattle.model.specs.declared.Decoded.TheVariants as d
use Rattle.model.specs.declared.Fault.{Fault}
use Rattle.model.specs.declared.Fault.TheVariants as f
use Rattle.model.specs.declared.Frame.{Frame}
use Rattle.model.specs.Basics.{ascii}
use Rattle.model.specs.Opcodes.{first_names, second_names, as_count, popped, opcodes, opcode_at}
use Rattle.model.specs.Programs.{Program, opcode_in, next_in}
use Rattle.model.specs.Steps.{World, State, Outcome, at, position, paid, exec_of, step_of}
use Rattle.model.specs.Steps as steps
use Rattle.laws_code.specs.Walk.{walked}
use Rattle.laws_code.proofs.Walks.{step_takes_the_walk}
use Rattle.check_rules.specs.Rules.{get_local, jump, call, call_callable, return, is_at, first_at, second_at, is_carried, whole_at, in_range, numbers_at, call_at, suffices, height_after, leads_on, starts, goes as path-goes, leaps as path-leaps, Passed, code_of, is_main}
use Rattle.value.proofs.Coding.{and_left, and_right}
use Rattle.laws_check.specs.Row.{Unsure, Missing, constant, function, struct, slot, unsure, Why, Onward, Inward, Outward, Tied, goes, leaps, calls, calls_named, comes_back, ends, faults, pauses}
use Rattle.laws_check.specs.Good.{Serves, Stands, Calls, Waiting, Good, Allowed, Safe}
use Rattle.laws_check.proofs.Rows.{a_step_keeps_its_row}
use Rattle.laws_check.proofs.Walked.{or_left, or_right, whole_here, numbers_here, call_here, suffices_here, count_here}

-- a state by its frame, its callers and how many values it has
pub good_at : (p : Program) (t : State) {g i base e h : ℕ} {cs : List Frame} → t.frame ≡ record { function = g; position = i; base = base; entered = e } → t.callers ≡ cs
    → Waiting p cs g base → base + h ≡ length t.stack → Stands p g i h → Good p t
good_at p t {h = h} u c waits sum stands = record { waiting = rw (u, c) waits; height = h; sum = rw u sum; stands = rw u stands }

-- what the row of Call says
record CallRow (k a b : ℕ) : Type 0 where
  names : first_names (opcode_at k) ≡ n.Function
  pops : (opcode_at k).pops ≡ 0
  all : popped (opcode_at k) a b ≡ b
  pushes : (opcode_at k).pushes ≡ 1
  no_jump : eqb k jump ≡ false
  no_return : eqb k return ≡ false

call_row : (k a b : ℕ) → k ≡ call → CallRow k a b
unfolding ascii opcodes opcode_at popped as_count
call_row k a b e =
    let all : popped (opcode_at call) a b ≡ b = omega arith in
    record { names = rw e; pops = rw e; all = rw e all; pushes = rw e; no_jump = rw e; no_return = rw e }

leads_on_lem : (main : Bool) (code : List ℕ) (i : ℕ) → is_at jump code i ≡ false → (main || not (is_at return code i)) ≡ true → leads_on main code i ≡ true
unfolding leads_on
leads_on_lem main code i e h = rw e h

-- the world's code is the program's
pub same_code : (p : Program) (w : World) → Serves p w → (s : State) → steps.code_of w s ≡ code_of p s.frame.function
unfolding steps.code_of
same_code p w of s = rw of.functions

module _ (p : Program) (ok : Passed p) (w : World) (of : Serves p w) (s : State) (good : Good p s) (l : position s < length (code_of p s.frame.function)) where
  -- the instruction, and the state behind its operands
  abbrev code : List ℕ
  code = code_of p s.frame.function

  abbrev byte : ℕ
  byte = get_or code (position s) 0

  abbrev first : ℕ
  first = first_at code (position s)

  abbrev second : ℕ
  second = second_at code (position s)

  abbrev behind : State
  behind = at (next_in code (position s)) (paid 1 s)

  abbrev takes : ℕ
  takes = popped (opcode_at byte) first second

  abbrev opcode : Decoded
  opcode = (opcode_at byte).what

  -- ---- what the rules say here

  enough : takes ≤ good.height
  unfolding suffices
  enough = leb-true _ _ (and_left _ _ (suffices_here p ok s.frame.function good.stands l))

  slot_below : is_at get_local code (position s) ≡ true → first < good.height
  unfolding suffices
  slot_below e =
      let z = and_right (leb takes good.height) (not (is_at get_local code (position s)) || ltb first good.height) (suffices_here p ok s.frame.function good.stands l) in
      ltb-true _ _ (rw e at z)

  in_range_lem : (x : Names) → first_names (opcode_at byte) ≡ x → in_range p x first ≡ true
  unfolding numbers_at
  in_range_lem x e =
      let z = and_left (in_range p (first_names (opcode_at byte)) first) (in_range p (second_names (opcode_at byte)) second) (numbers_here p ok s.frame.function good.stands l) in
      rw e at z

  no_named_call : byte ≡ call_callable → ⊥
  unfolding call_at
  no_named_call e =
      let other = not (is_at call code (position s) && eqb first 0) in
      let z = and_left (not (is_at call_callable code (position s))) other (call_here p ok s.frame.function good.stands l) in
      eqb-false byte call_callable (not-true _ z) e

  -- ---- faults

  missing_unsure : Missing byte first second w behind → Unsure opcode
  unfolding in_range
  missing_unsure (constant e h) = absurd (let z : first < length p.constants = ltb-true _ _ (in_range_lem n.Constant e) in let q = of.constants in let y : ⊥ = omega arith in y)
  missing_unsure (function e h) =
      let same : length w.functions ≡ length p.functions = ap length of.functions in
      absurd (let z : first < length p.functions = ltb-true _ _ (in_range_lem n.Function e) in let y : ⊥ = omega arith in y)
  missing_unsure (struct e h) = absurd (let z : first < length p.structs = ltb-true _ _ (in_range_lem n.Struct e) in let q = of.structs in let y : ⊥ = omega arith in y)
  missing_unsure (slot e h) = absurd (let z = slot_below (eq-eqb byte get_local e) in let q = good.sum in let y : ⊥ = omega arith in y)
  missing_unsure (unsure u) = u

  why_allowed : (m : Fault) → Why byte first second w behind m → Allowed opcode m
  why_allowed f.UnknownOpcode h = h
  why_allowed f.NotCarried h = h
  why_allowed f.CodeEnds h = h
  why_allowed f.TooFewValues h = let z = enough in let q = good.sum in omega arith
  why_allowed (f.WrongKind x) h = tt
  why_allowed f.OutOfRange h = missing_unsure h
  why_allowed f.NoLastResult h = tt
  why_allowed f.ZeroDivisor h = tt
  why_allowed f.NotFinite h = tt
  why_allowed f.StackFull h = tt
  why_allowed f.FramesFull h = tt
  why_allowed f.CellsFull h = tt
  why_allowed f.TooDeep h = tt
  why_allowed f.NoFunction h = no_named_call h

  -- ---- where the instruction leads

  abbrev main : Bool
  main = is_main s.frame.function

  onward_good : (i : ℕ) (t : State) → Onward byte first second i behind t → Stands p s.frame.function i (height_after code (position s) good.height) → Good p t
  unfolding height_after
  onward_good i t on stands =
      let z = enough in let y = good.sum in let x = on.stack in
      good_at p t on.frame on.callers good.waiting (omega arith) stands

  next_stands : is_at jump code (position s) ≡ false → (main || not (is_at return code (position s))) ≡ true
      → Stands p s.frame.function (next_in code (position s)) (height_after code (position s) good.height)
  next_stands e h = record { known = good.stands.known; path = path-goes good.stands.path l (leads_on_lem main code (position s) e h) }

  inward_good : (t : State) → byte ≡ call → Inward byte first second first behind t → Good p t
  unfolding height_after in_range Waiting
  inward_good t e inn =
      let row = call_row byte first second e in
      let known : first < length p.functions = ltb-true _ _ (in_range_lem n.Function row.names) in
      let count = count_here p ok s.frame.function good.stands l (eq-eqb byte call e) known in
      let h = good.height in
      let z = enough in let y = good.sum in let x = inn.stack in
      let up : height_after code (position s) h ≡ suc (h - takes) = omega arith in
      let waits : Calls p behind.frame (length s.stack - takes) = record {
        waits = h - takes;
        sum = omega arith;
        stands = rw up at (next_stands row.no_jump (or_right main _ (ap not row.no_return)));
      } in
      good_at p t inn.frame inn.callers (waits, good.waiting) (omega arith) (record { known = known; path = starts })

  outward_good : (t : State) (c : Frame) (cs : List Frame) → Outward byte first second c cs behind t → Good p t
  unfolding Waiting
  outward_good t c cs out =
      let all : Waiting p (c ∷ cs) s.frame.function s.frame.base = rw out.from at good.waiting in
      let z = enough in let y = good.sum in let x = out.stack in let u = all.0.sum in
      good_at p t out.frame out.callers all.1 (omega arith) all.0.stands

  root_good : (t : State) → byte ≡ return → s.callers ≡ [] → Onward byte first second (position behind) behind t → Good p t
  unfolding Waiting
  root_good t e none on =
      let root : Waiting p [] s.frame.function s.frame.base = rw none at good.waiting in
      onward_good _ t on (next_stands (rw e) (or_left main _ (eq-eqb _ _ root.0)))

  tied_safe : {x : Outcome} → Tied byte first second w behind x → Safe p opcode x
  tied_safe (goes {t = t} e h on) = onward_good _ t on (next_stands e (or_right main _ (ap not h)))
  tied_safe (leaps {t = t} e on) = onward_good _ t on (record { known = good.stands.known; path = path-leaps good.stands.path l e })
  tied_safe (calls {t = t} e inn) = inward_good t e inn
  tied_safe (calls_named g e inn) = absurd (no_named_call e)
  tied_safe (comes_back {t = t} c cs e out) = outward_good t c cs out
  tied_safe (ends {t = t} e none on) = root_good t e none on
  tied_safe (faults {n = m} h) = why_allowed m h
  tied_safe pauses = tt

  -- ---- the step

  step_is : (q : Op) → (s.units ≡ 0 → ⊥) → opcode ≡ d.Carried q → next_in code (position s) ≤ length code → step_of w s ≡ exec_of w q first second behind
  unfolding walked
  step_is q paid e h = let same = same_code p w of s in step_takes_the_walk w s q paid (rw same e) (rw same h) ∙ rw same

  paid_safe : (x : Decoded) → opcode ≡ x → is_carried x ≡ true → (s.units ≡ 0 → ⊥) → Safe p opcode (step_of w s)
  unfolding is_carried whole_at
  paid_safe (d.Carried q) e c paid =
      let whole = leb-true _ _ (and_right (is_carried opcode) (leb (next_in code (position s)) (length code)) (whole_here p ok s.frame.function good.stands l)) in
      rw (step_is q paid e whole) (tied_safe (a_step_keeps_its_row byte q e first second w behind))
  paid_safe d.NotCarried e c paid = absurd (true≢false (sym c))
  paid_safe d.Unknown e c paid = absurd (true≢false (sym c))

  carried : is_carried opcode ≡ true
  unfolding whole_at
  carried = and_left (is_carried opcode) (leb (next_in code (position s)) (length code)) (whole_here p ok s.frame.function good.stands l)

  unpaid_or_paid : (b : Bool) → eqb s.units 0 ≡ b → Safe p opcode (step_of w s)
  unpaid_or_paid true e = unfold step_of in rw e tt
  unpaid_or_paid false e = paid_safe opcode refl carried (eqb-false _ _ e)

-- THE LAW: a step keeps the invariant, or meets an allowed fault
pub a_step_stays_good : (p : Program) → Passed p → (w : World) → Serves p w → (s : State) → Good p s → position s < length (steps.code_of w s)
    → Safe p (opcode_in (steps.code_of w s) (position s)).what (step_of w s)
a_step_stays_good p ok w of s good l =
    let same = same_code p w of s in
    rw same (unpaid_or_paid p ok w of s good (rw same at l) (eqb s.units 0) refl)
