-- A run in parts comes to what one run comes to that is given the sum.
use mathlib.Core.Path.{◌≡◌, refl, sym, ap, ◌∙◌}
use mathlib.Core.Bool.{true, false}
use mathlib.Core.List.{List, [], ◌∷◌}
use Prim.Native.Nat.{ℕ, ◌+◌}
use native.Mathlib.Omega.{arith}
use Rattle.model.specs.declared.Value.{Value}
use Rattle.model.specs.Steps.{World, step_of}
use Rattle.model.specs.Runs.{Machine, begin, machine_of, at_start, Ended, ended, stopped, paused, over, next, end_from, end_of, continue, answered, Under, Part, ends, pauses, part_of, begin_of, continue_of, dealt, given_up, run_of}
use Rattle.laws_runs.specs.Paths.{more, resumed}
use Rattle.laws_runs.specs.Parts.{onward, sum_of}
use Rattle.laws_runs.proofs.Ends.{end_of_lem, end_over, end_step}
use Rattle.laws_runs.proofs.More as more-law

module _ (w : World) where
  -- ---- a beginning: "over at once, with 'continue'", and nothing changes but when its frames were entered; or paused before its first instruction, with all of it still to do

  module _ (m : Machine) where
    pub a_run_begun_at_its_end_is_over_at_once : over w (begin m 0) ≡ true → begin_of w m ≡ ends (record { reply = continue (record { spent = 0; returns = 0 }); machine = machine_of (begin m 0) })
    unfolding begin_of part_of answered
    a_run_begun_at_its_end_is_over_at_once e = rw (end_of_lem w (begin m 0), end_over w (at_start (begin m 0)) (begin m 0) e)

    pub a_run_begun_before_an_instruction_is_paused_there : over w (begin m 0) ≡ false
        → begin_of w m ≡ pauses (record { given = 0; start = m.stack; progress = at_start (begin m 0); state = begin m 0 })
    unfolding begin_of part_of step_of next
    a_run_begun_before_an_instruction_is_paused_there e = rw (end_of_lem w (begin m 0), end_step w (at_start (begin m 0)) (begin m 0) e)

  -- ---- parts

  -- d units more, given to a run that has come to e with g units in all
  part_resumed : (start : List Value) (g d : ℕ) (e : Ended) → part_of w start (g + d) (resumed w d e) ≡ onward w d (part_of w start g e)
  unfolding part_of onward continue_of
  part_resumed start g d (ended k t) = refl
  part_resumed start g d (stopped n t k) = refl
  part_resumed start g d (paused k t) = refl

  -- two parts are one with the sum
  pub continued_twice : (r : Under) (u v : ℕ) → continue_of w r (u + v) ≡ onward w v (continue_of w r u)
  unfolding continue_of
  continued_twice r u v =
      let s = more u r.state in
      let z : r.given + (u + v) ≡ r.given + u + v = omega arith in
      let y : r.state.units + (u + v) ≡ r.state.units + u + v = omega arith in
      rw (z, y) (ap (part_of w r.start (r.given + u + v)) (more-law.dealt w v r.progress s) ∙ part_resumed r.start (r.given + u) v (end_from w r.progress s))

  -- so are any number of parts
  module _ (v : ℕ) (us : List ℕ) (rest : (x : Part) → dealt w x (v ∷ us) ≡ onward w (sum_of (v ∷ us)) x) (u : ℕ) where
    dealt_first : (x : Part) → dealt w x (u ∷ v ∷ us) ≡ onward w (sum_of (u ∷ v ∷ us)) x
    unfolding dealt onward sum_of
    dealt_first (ends x) = refl
    dealt_first (pauses r) = rest (continue_of w r u) ∙ sym (continued_twice r u (v + sum_of us))

  dealt_last : (u : ℕ) (x : Part) → dealt w x (u ∷ []) ≡ onward w (sum_of (u ∷ [])) x
  unfolding dealt onward sum_of
  dealt_last u (ends x) = refl
  dealt_last u (pauses r) = let z : u + 0 ≡ u = omega arith in rw z

  dealt_sum : (us : List ℕ) (u : ℕ) (x : Part) → dealt w x (u ∷ us) ≡ onward w (sum_of (u ∷ us)) x
  dealt_sum [] u x = dealt_last u x
  dealt_sum (v ∷ us) u x = dealt_first v us (dealt_sum us v) u x

  -- a beginning is a part without units
  begun_then : (m : Machine) (u : ℕ) → part_of w m.stack u (end_of w (begin m u)) ≡ onward w u (begin_of w m)
  unfolding begin_of end_of
  begun_then m u =
      let s = begin m 0 in
      let z : 0 + u ≡ u = omega arith in
      rw z at (ap (part_of w m.stack (0 + u)) (more-law.dealt w u (at_start s) s) ∙ part_resumed m.stack 0 u (end_from w (at_start s) s))

  -- THE DEALING LAW: however units are dealt out, the run comes to what it comes to with their sum at once, state for state
  pub dealt_as_one : (m : Machine) (u : ℕ) (us : List ℕ) → dealt w (begin_of w m) (u ∷ us) ≡ part_of w m.stack (sum_of (u ∷ us)) (end_of w (begin m (sum_of (u ∷ us))))
  dealt_as_one m u us = dealt_sum us u (begin_of w m) ∙ sym (begun_then m (sum_of (u ∷ us)))

  -- and where it is then abandoned if it is paused, that is one run given the sum
  pub parts_are_one_run : (m : Machine) (us : List ℕ) → given_up w (dealt w (begin_of w m) us) ≡ run_of w m (sum_of us)
  unfolding dealt sum_of run_of begin_of
  parts_are_one_run m [] = refl
  parts_are_one_run m (u ∷ us) = ap (given_up w) (dealt_as_one m u us)
