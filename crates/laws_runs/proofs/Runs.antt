-- A run keeps good order, whether it ends or faults.
use mathlib.Core.Path.{◌≡◌, refl, subst, ◌∙◌}
use mathlib.Core.Bool.{true, false}
use mathlib.Core.List.{List, [], ◌∷◌, map}
use Prim.Native.Nat.{ℕ, ◌+◌, ◌≤◌}
use native.Mathlib.Omega.{arith}
use lib.ListN.{length, length-map}
use Rattle.model.specs.declared.Value.{Value}
use Rattle.model.specs.declared.Fault.{Fault}
use Rattle.model.specs.declared.Frame.{Frame}
use Rattle.model.specs.Steps.{World, State, went, returned, with_units, step_of}
use Rattle.model.specs.Runs.{Machine, standing, unentered, begin, machine_of, Progress, at_start, counted, Ended, ended, stopped, paused, over, end_from, end_of, traceable, cut_at, recovered, Under, Part, ends, pauses, part_of, begin_of, continue_of, abandon_of, given_up, run_of}
use Rattle.laws_runs.specs.Sane.{AllPlaced, SaneWorld, CallersFit, Rooted, Rising, Sane, SaneMark, Returns, Faults, Kept}
use Rattle.laws_runs.specs.Paths.{Steps, none, on, ret, By, EndedBy, StoppedBy, PausedBy, Marked, AnswersReturns}
use Rattle.laws_runs.specs.Parts.{SaneUnder, SaneMachine, SanePart}
use Rattle.laws_runs.proofs.Paths.{run_by, run_path, path_balances, marked, mark_last, mark_grows, a_run_that_starts_has_no_value, a_run_has_a_value_exactly_behind_a_root_return}
use Rattle.laws_runs.proofs.Placed.{all_grows}
use Rattle.laws_runs.proofs.Keeps.{code_fits, cut_faults, step_keeps}

-- good order does not ask for the units that are left
pub any_units : {w : World} (q : State) {n : ℕ} → Sane w q → Sane w (with_units n q)
any_units q s = record {
  stack = s.stack;
  frames = s.frames;
  cells = s.cells;
  heap = s.heap;
  placed = s.placed;
  last = s.last;
  frame = s.frame;
  callers = s.callers;
  root = s.root;
  rising = s.rising;
}

-- a machine at rest is in good order where its last state was
at_rest : {w : World} (q : State) {n : ℕ} → Sane w q → Sane w (standing (machine_of q) q.frame.entered n)
unfolding Rising
at_rest q s = record {
  stack = s.stack;
  frames = s.frames;
  cells = s.cells;
  heap = s.heap;
  placed = s.placed;
  last = s.last;
  frame = s.frame;
  callers = s.callers;
  root = s.root;
  rising = (omega arith, s.rising.1);
}

-- ---- a beginning: when frames were entered is no matter of good order, if it is 0 for all

module _ (w : World) where
  callers_unentered : (cs : List Frame) → CallersFit w cs → CallersFit w (map unentered cs)
  unfolding CallersFit
  callers_unentered [] h = tt
  callers_unentered (c ∷ cs) h =
      let f = h.0.frame in
      (record { frame = record { known = f.known; base = f.base; position = f.position }; from = h.0.from; to = h.0.to }, callers_unentered cs h.1)

  root_unentered : (f : Frame) (cs : List Frame) → Rooted f cs → Rooted (unentered f) (map unentered cs)
  unfolding Rooted
  root_unentered f [] r = r
  root_unentered f (c ∷ cs) r = root_unentered c cs r

  unentered_rises : (cs : List Frame) → Rising 0 (map unentered cs)
  unfolding Rising
  unentered_rises [] = tt
  unentered_rises (c ∷ cs) = (omega arith, unentered_rises cs)

  -- a machine in good order is begun in good order
  pub begins_sane : (m : Machine) (e u n : ℕ) → Sane w (standing m e u) → Sane w (begin m n)
  unfolding Rising
  begins_sane m e u n s = record {
    stack = s.stack;
    frames = rw (length-map m.callers unentered) s.frames;
    cells = s.cells;
    heap = s.heap;
    placed = s.placed;
    last = s.last;
    frame = record { known = s.frame.known; base = s.frame.base; position = s.frame.position };
    callers = callers_unentered m.callers s.callers;
    root = root_unentered m.frame m.callers s.root;
    rising = (omega arith, unentered_rises m.callers);
  }

pub mark_sane : {w : World} {s : State} → Sane w s → SaneMark w (at_start s)
mark_sane s = record { cells = s.cells; heap = s.heap; last = s.last }

returned_mark : {w : World} (v : Value) (m : Progress) {s : State} → Sane w s → SaneMark w (counted v m s)
returned_mark v m s = record { cells = s.cells; heap = s.heap; last = s.last }

-- ---- along a path

module _ (w : World) (good : SaneWorld w) where
  went_sane : (s s' : State) → Sane w s → over w s ≡ false → step_of w s ≡ went s' → Sane w s'
  went_sane s s' a o q = subst (Kept w s) q (step_keeps w s good a o)

  returned_sane : (s s' : State) (x : Value) → Sane w s → over w s ≡ false → step_of w s ≡ returned x s' → Sane w s'
  returned_sane s s' x a o q = let r : Returns w s x s' = subst (Kept w s) q (step_keeps w s good a o) in r.sane

  pub path_sane : {n : ℕ} {m k : Progress} {s t : State} → Sane w s → Steps w n m s k t → Sane w t
  path_sane h none = h
  path_sane h (on {s = s} {s' = s'} o q p) = path_sane (went_sane s s' h o q) p
  path_sane h (ret {s = s} {s' = s'} {v = x} o q p) = path_sane (returned_sane s s' x h o q) p

  -- the mark of a path from a good mark is good
  pub path_mark : {n : ℕ} {m k : Progress} {s t : State} → Sane w s → SaneMark w m → Steps w n m s k t → SaneMark w k
  path_mark h g none = g
  path_mark h g (on {s = s} {s' = s'} o q p) = path_mark (went_sane s s' h o q) g p
  path_mark h g (ret {m = m} {s = s} {s' = s'} {v = x} o q p) = let z = returned_sane s s' x h o q in path_mark z (returned_mark x m z) p

  -- ---- a run

  pub run_sane : (m : Progress) (s : State) {k : Progress} {t : State} → Sane w s → end_from w m s ≡ ended k t → Sane w t
  run_sane m s {k} {t} h q = let r : EndedBy w m s k t = run_path w m s q in path_sane h r.path

  -- the backtrace of a fault stands
  pub run_traced : (m : Progress) (s : State) {n : Fault} {t : State} {k : Progress} → Sane w s → end_from w m s ≡ stopped n t k → traceable w.functions (t.frame ∷ t.callers) ≡ true
  run_traced m s {n} {t} {k} h q =
      let r : StoppedBy w m s n t k = run_path w m s q in
      let f : Faults w r.at t = subst (Kept w r.at) r.stops (step_keeps w r.at good (path_sane h r.path) r.goes_on_lem) in
      f.traced

  -- so does that of a run that is given up
  pub run_cut : (m : Progress) (s : State) {k : Progress} {t : State} → Sane w s → end_from w m s ≡ paused k t → Faults w t (cut_at t)
  run_cut m s {k} {t} h q = let r : PausedBy w m s k t = run_path w m s q in cut_faults w t (path_sane h r.path) r.goes_on_lem

  -- a starting stack over a good mark
  pub recover_sane : {s : State} (start : List Value) {k : Progress} → Sane w s → length start ≤ w.stack_room → AllPlaced (length w.text) k.heap start → SaneMark w k
      → SaneMachine w (recovered w start k)
  unfolding recovered CallersFit Rooted Rising
  recover_sane start h l p g i = record {
    stack = l;
    frames = let z = h.frames in omega arith;
    cells = g.cells;
    heap = g.heap;
    placed = p;
    last = g.last;
    frame = record {
      known = let z = h.frame.known in omega arith;
      base = omega arith;
      position = let z = code_fits w.functions good.codes 0 in omega arith;
    };
    callers = tt;
    root = (refl, refl);
    rising = (omega arith, tt);
  }

  -- ---- a part of a run, from s, where the run had come as far as m and was given g units in all

  module _ {m : Progress} {s : State} (start : List Value) {g : ℕ} (h : Sane w s) (k : SaneMark w m) (f : Marked m s) (a : AnswersReturns m) (l : length start ≤ w.stack_room)
      (p : AllPlaced (length w.text) m.heap start) (u : s.spent + s.units ≡ g) where
    by_sane : (e : Ended) → By w m s e → SanePart w (part_of w start g e)
    unfolding part_of
    by_sane (ended j t) r = λ i. at_rest t (path_sane h r.path)
    by_sane (stopped n t j) r = recover_sane start h l (all_grows (length w.text) (mark_grows w f r.path) start p) (path_mark h k r.path)
    by_sane (paused j t) r = record {
      state = path_sane h r.path;
      inside = r.goes_on_lem;
      units = path_balances w r.path ∙ u;
      start = l;
      placed = all_grows (length w.text) (mark_grows w f r.path) start p;
      mark = path_mark h k r.path;
      marked = mark_last w f r.path;
      answer = a_run_has_a_value_exactly_behind_a_root_return w a r.path;
    }

    -- what it leaves is in good order
    part_sane : SanePart w (part_of w start g (end_from w m s))
    part_sane = by_sane (end_from w m s) (run_by w m s)

  -- from its start, given u units at once
  pub first_part_sane : (m : Machine) (u : ℕ) → Sane w (begin m u) → SanePart w (part_of w m.stack u (end_of w (begin m u)))
  unfolding end_of
  first_part_sane m u h = part_sane m.stack h (mark_sane h) (marked (begin m u)) (a_run_that_starts_has_no_value (begin m u)) h.stack h.placed (omega arith)

  pub begun_sane : (m : Machine) → Sane w (begin m 0) → SanePart w (begin_of w m)
  unfolding begin_of
  begun_sane m h = first_part_sane m 0 h

  pub continued_sane : (r : Under) → SaneUnder w r → (u : ℕ) → SanePart w (continue_of w r u)
  unfolding continue_of
  continued_sane r h u =
      part_sane r.start (any_units r.state h.state) h.mark (record { last = h.marked.last; heap = h.marked.heap }) h.answer h.start h.placed
      (let z = h.units in omega arith)

  pub abandoned_sane : (r : Under) → SaneUnder w r → SaneMachine w (abandon_of w r).machine
  unfolding abandon_of
  abandoned_sane r h = recover_sane r.start h.state h.start h.placed h.mark

  -- whatever a part comes to, giving it up leaves a machine in good order
  given_up_sane : (x : Part) → SanePart w x → SaneMachine w (given_up w x).machine
  unfolding given_up
  given_up_sane (ends x) h = h
  given_up_sane (pauses r) h = abandoned_sane r h

  -- so is what one run leaves
  pub ran_sane : (m : Machine) (u : ℕ) → Sane w (begin m u) → SaneMachine w (run_of w m u).machine
  unfolding run_of
  ran_sane m u h = given_up_sane _ (first_part_sane m u h)
