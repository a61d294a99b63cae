-- Demand 2, over lent stores.
use mathlib.Core.Path.{◌≡◌, refl, sym, ap, ◌∙◌}
use mathlib.Core.Bool.{not}
use mathlib.Core.List.{List}
use Prim.Native.Nat.{ℕ, ◌+◌, ◌≤◌}
use native.Mathlib.Omega.{arith}
use borrow.Author.Tests.{eqb-true, eqb-false, not-true, not-false}
use lib.Dec.{eqb}
use Rattle.model.specs.declared.Tally.{Tally}
use Rattle.model.specs.declared.Fault.{Fault}
use Rattle.model.specs.declared.Fault.TheVariants as f
use Rattle.model.specs.Values.{fault_number}
use Rattle.model.specs.Steps.{World, State}
use Rattle.model.specs.Runs.{Machine, begin, Progress, at_start, Ended, ended, stopped, paused, end_of, Entry, fault, Ran, tally, answered, Under, Part, pauses, part_of, abandon_of, given_up, run_of}
use Rattle.model.specs.Stores as st
use Rattle.model.specs.Machines.{progress_in, under_in, world_of, some_last, unchanged}
use Rattle.laws_runs.specs.Paths.{Steps, root_returns, By, PausedBy}
use Rattle.laws_runs.specs.Demand.{Cut, faulting, unpaid}
use Rattle.laws_runs.proofs.Ends.{end_of_lem}
use Rattle.laws_runs.proofs.Paths.{run_path, returns_counted, path_spends, a_run_that_starts_has_no_value, a_run_has_a_value_exactly_behind_a_root_return}
use Rattle.laws_runs.proofs.Entered.{every_frame_tells_when_it_was_entered}
use Rattle.laws_runs.proofs.Demands.{run_recovered}
use Rattle.laws_runs.proofs.Ordered.{order_world, order_sane}
use Rattle.laws_runs.proofs.Runs.{path_sane}
use Rattle.laws_rust.proofs.Strict.{Tells, a_fault_tells}
use Rattle.demands.specs.Units.{spent_on, FaultOf, of_any, of_a_strict, Within, Demand2}
use Rattle.demands.specs.Host.{Held}
use Rattle.demands.specs.Meant.{world_in, machine_of, under_of}
use Rattle.demands.specs.Parts.{Parts, Over, IsThirteen, PausedAtThirteen, StandsBefore}
use Rattle.demands.proofs.Parting.{parts_come_to, over_is_one}
use Rattle.demands.proofs.Paying.{fault_cost, path_units, run_is_steps}
use Rattle.demands.proofs.Growing.{as_trees}
use Rattle.std.specs.Prelude.{None, Option, Some}
use Rattle.model.specs.declared.Value.{Value}

fault_known : (w : World) (n : Fault) → Tells w n → FaultOf w.strict (fault_number n)
unfolding fault_number
fault_known w f.UnknownOpcode h = of_any (omega arith) (omega arith)
fault_known w f.NotCarried h = of_any (omega arith) (omega arith)
fault_known w f.CodeEnds h = of_any (omega arith) (omega arith)
fault_known w f.TooFewValues h = of_any (omega arith) (omega arith)
fault_known w (f.WrongKind x) h = of_any (omega arith) (omega arith)
fault_known w f.OutOfRange h = of_any (omega arith) (omega arith)
fault_known w f.NoLastResult h = of_any (omega arith) (omega arith)
fault_known w f.ZeroDivisor h = of_any (omega arith) (omega arith)
fault_known w f.NotFinite h = of_a_strict h refl
fault_known w f.StackFull h = of_any (omega arith) (omega arith)
fault_known w f.FramesFull h = of_any (omega arith) (omega arith)
fault_known w f.CellsFull h = of_any (omega arith) (omega arith)
fault_known w f.TooDeep h = of_any (omega arith) (omega arith)
fault_known w f.NoFunction h = of_any (omega arith) (omega arith)

module _ (w : World) (m : Machine) (u : ℕ) where
  answered_within : (a : Option Value) (i : Tally) → i.spent ≤ u → some_last a ≡ not (eqb i.returns 0) → Within w.strict u (answered a i)
  unfolding answered some_last
  answered_within None i h e = (h, eqb-true _ _ (not-false _ (sym e)))
  answered_within (Some x) i h e = let some : i.returns ≡ 0 → ⊥ = eqb-false _ _ (not-true _ (sym e)) in (h, omega (arith, some))

  settled_within : (e : Ended) → By w (at_start (begin m u)) (begin m u) e → Within w.strict u (given_up w (part_of w m.stack u e)).reply
  unfolding part_of given_up abandon_of
  settled_within (ended k t) r =
      answered_within k.answer (tally t.spent k) (omega (arith, (path_units r.path).spent, (path_units r.path).left))
      (a_run_has_a_value_exactly_behind_a_root_return w (a_run_that_starts_has_no_value (begin m u)) r.path)
  settled_within (stopped n t k) r =
      let path = path_units r.path in
      let cut = fault_cost w r.at r.stops in
      (omega (arith, path.spent, path.left, cut.spent, cut.left), fault_known w n (a_fault_tells w r.at r.stops))
  settled_within (paused k t) r = (omega arith, of_any (omega arith) (omega arith))

  run_within : Within w.strict u (run_of w m u).reply
  unfolding run_of
  run_within = let s = begin m u in settled_within (end_of w s) (run_path w (at_start s) s (sym (end_of_lem w s)))

  not_thirteen : (n : Fault) → fault_number n ≡ 13 → ⊥
  unfolding fault_number
  not_thirteen f.UnknownOpcode e = omega arith
  not_thirteen f.NotCarried e = omega arith
  not_thirteen f.CodeEnds e = omega arith
  not_thirteen f.TooFewValues e = omega arith
  not_thirteen (f.WrongKind x) e = omega arith
  not_thirteen f.OutOfRange e = omega arith
  not_thirteen f.NoLastResult e = omega arith
  not_thirteen f.ZeroDivisor e = omega arith
  not_thirteen f.NotFinite e = omega arith
  not_thirteen f.StackFull e = omega arith
  not_thirteen f.FramesFull e = omega arith
  not_thirteen f.CellsFull e = omega arith
  not_thirteen f.TooDeep e = omega arith
  not_thirteen f.NoFunction e = omega arith

  whole_cut : {s t : State} {n spent : ℕ} → n ≡ 13 → Cut w u s t n spent → spent ≡ u
  whole_cut e (faulting i t q) = absurd (not_thirteen i e)
  whole_cut e (unpaid q) = refl

  -- fault 13 reports the whole budget
  run_whole : (did : Tally) (es : List Entry) → (run_of w m u).reply ≡ fault 13 did es → did.spent ≡ u
  run_whole did es e = whole_cut refl (run_recovered w m u 13 did es e).cut

-- DEMAND 1: no code makes a run go on; with u units there is no path of more than u written steps
pub steps_within : {w : World} (m : Machine) {u n : ℕ} {j k : Progress} {t : State} → Steps w n j (begin m u) k t → n ≤ u
steps_within {w} m p = omega (arith, path_spends w p)

-- DEMAND 2
pub run_written : {h k : Held} {u : ℕ} {x : Ran} → Over h u x k → Demand2 h.vm h.stores h.lent u (unchanged k.vm) x
run_written {h} {k} {u} {x} p =
    let w = world_in h in
    let a = machine_of h in
    let z = over_is_one p in
    record {
      program = z.beside.program;
      strict = z.beside.strict;
      steps = rw z.one (run_is_steps w a u);
      within = unfold world_of st.world_in in rw z.one (run_within w a u);
      whole = λ did es q. run_whole w a u did es (rw (← z.one) q);
      trees = λ b p. as_trees w _ (path_sane w (order_world h.vm h.stores h.lent z.order b) (order_sane h.vm h.stores h.lent z.order u) p);
    }

-- ---- a run in parts is paused where one run ends in 13

answered_not_thirteen : (a : Option Value) (i : Tally) → IsThirteen (answered a i) → ⊥
unfolding answered
answered_not_thirteen None i e = e
answered_not_thirteen (Some x) i e = e

thirteen_by : (w : World) (m : Machine) (u : ℕ) (e : Ended) → PausedAtThirteen (given_up w (part_of w m.stack u e)).reply (part_of w m.stack u e)
unfolding part_of given_up abandon_of
thirteen_by w m u (ended k t) = answered_not_thirteen k.answer _
thirteen_by w m u (stopped n t k) = not_thirteen w m u n
thirteen_by w m u (paused k t) = refl

pub paused_where_one_run_ends_in_13 : {h k : Held} {g : ℕ} {x : Part} → Parts h g x k → PausedAtThirteen (run_of (world_in h) (machine_of h) g).reply x
unfolding run_of
paused_where_one_run_ends_in_13 {h} {g = g} p = rw (parts_come_to p).one (thirteen_by (world_in h) (machine_of h) g (end_of (world_in h) (begin (machine_of h) g)))

-- ---- a run that is paused

module _ (w : World) (m : Machine) (g : ℕ) where
  -- only a run that is short is paused
  paused_by : {r : Under} (e : Ended) → end_of w (begin m g) ≡ e → pauses r ≡ part_of w m.stack g e → PausedBy w (at_start (begin m g)) (begin m g) r.progress r.state
  unfolding part_of
  paused_by (ended k t) q e = absurd (let z : ◌≡◌ {A = ℕ} 0 1 = cc in let y : ⊥ = omega arith in y)
  paused_by (stopped n t k) q e = absurd (let z : ◌≡◌ {A = ℕ} 0 1 = cc in let y : ⊥ = omega arith in y)
  paused_by {r} (paused k t) q e =
      let same : r ≡ record { given = g; start = m.stack; progress = k; state = t } = cc in
      rw same (run_path w (at_start (begin m g)) (begin m g) (sym (end_of_lem w (begin m g)) ∙ q))

  paused_given : {r : Under} (e : Ended) → pauses r ≡ part_of w m.stack g e → r.given ≡ g
  unfolding part_of
  paused_given (ended k t) e = absurd (let z : ◌≡◌ {A = ℕ} 0 1 = cc in let y : ⊥ = omega arith in y)
  paused_given (stopped n t k) e = absurd (let z : ◌≡◌ {A = ℕ} 0 1 = cc in let y : ⊥ = omega arith in y)
  paused_given {r} (paused k t) e = let same : r ≡ record { given = g; start = m.stack; progress = k; state = t } = cc in ap (λ (x : Under). x.given) same

-- DEMAND 2, between two parts
pub pause_written : {h k : Held} {g : ℕ} {r : Under} → Parts h g (pauses r) k → StandsBefore h g k
unfolding under_in progress_in
pause_written {h} {k} {g} p =
    let z = parts_come_to p in
    let is : pauses (under_of k) ≡ part_of (world_in h) (machine_of h).stack g (end_of (world_in h) (begin (machine_of h) g)) = ap pauses z.stands.under ∙ z.one in
    let by = paused_by (world_in h) (machine_of h) g (end_of (world_in h) (begin (machine_of h) g)) refl is in
    let given : k.vm.run.given ≡ g = paused_given (world_in h) (machine_of h) g (end_of (world_in h) (begin (machine_of h) g)) is in
    let units : k.vm.run.spent ≡ 0 + spent_on by.path = (path_units by.path).spent in
    let returns : k.vm.run.returns ≡ 0 + root_returns by.path = returns_counted (world_in h) by.path in
    record { by = by; given = given; spent = omega arith; returns = omega arith; entered = every_frame_tells_when_it_was_entered (world_in h) by.path }
