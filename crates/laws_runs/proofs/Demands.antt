-- A run that answers a fault has recovered.
use Rattle.std.specs.Prelude.{None, Option, Some}
use mathlib.Core.Path.{◌≡◌, refl, sym, ap, subst, ◌∙◌}
use mathlib.Core.Bool.{false}
use mathlib.Core.List.{List, ◌∷◌}
use Prim.Native.Nat.{ℕ}
use native.Mathlib.Omega.{arith}
use Rattle.model.specs.declared.Value.{Value}
use Rattle.model.specs.declared.Tally.{Tally}
use Rattle.model.specs.Steps.{World, State, went, returned, step_of}
use Rattle.model.specs.Runs.{Machine, begin, Progress, at_start, counted, Ended, ended, stopped, paused, over, end_of, Entry, trace_of, fault, tally, answered, recovered, part_of, abandon_of, given_up, run_of}
use Rattle.laws_runs.specs.Paths.{Steps, none, on, ret, StoppedBy, PausedBy}
use Rattle.laws_runs.specs.Demand.{stay, go, Since, start, return, replies_of, Cut, faulting, unpaid, Recovered}
use Rattle.laws_runs.specs.Sane.{SaneWorld, Sane, Faults, Kept}
use Rattle.laws_runs.proofs.Ends.{end_of_lem}
use Rattle.laws_runs.proofs.Paths.{run_path, returns_counted, marked, mark_last}
use Rattle.laws_runs.proofs.Keeps.{cut_faults, step_keeps}
use Rattle.laws_runs.proofs.Runs.{path_sane}

module _ (w : World) where
  -- ---- where the mark of a path is from

  since_on : {m k : Progress} {s s' t : State} → over w s ≡ false → step_of w s ≡ went s' → Since w m s' k t → Since w m s k t
  since_on o q (start p) = start (go o q p)
  since_on o q (return p r e z) = return (on o q p) r e z

  since_ret : {m k : Progress} {s s' t : State} {x : Value} → over w s ≡ false → step_of w s ≡ returned x s' → Since w (counted x m s') s' k t → Since w m s k t
  since_ret o q (start p) = return none o q p
  since_ret o q (return p r e z) = return (ret o q p) r e z

  pub mark_since : {n : ℕ} {m k : Progress} {s t : State} → Steps w n m s k t → Since w m s k t
  mark_since none = start stay
  mark_since (on o q p) = since_on o q (mark_since p)
  mark_since (ret o q p) = since_ret o q (mark_since p)

  -- ---- a run that answers a fault

  no_fault : (a : Option Value) (x : Tally) (n : ℕ) (did : Tally) (trace : List Entry) → answered a x ≡ fault n did trace → ⊥
  unfolding answered
  no_fault None x n did trace e = let z : ◌≡◌ {A = ℕ} 0 1 = cc in omega arith
  no_fault (Some y) x n did trace e = let z : ◌≡◌ {A = ℕ} 0 1 = cc in omega arith

  module _ (m : Machine) (u n : ℕ) (did : Tally) (trace : List Entry) where
    -- cut at s, where the run had come as far as k
    cut_recovered : {c i spent : ℕ} {k : Progress} {s t : State} → Steps w c (at_start (begin m u)) (begin m u) k s → over w s ≡ false → Cut w u s t i spent
        → (run_of w m u).machine ≡ recovered w m.stack k → fault i (tally spent k) (trace_of w.functions (t.frame ∷ t.callers)) ≡ fault n did trace
        → Recovered w m u n did trace
    cut_recovered {i = i} {spent = spent} {k = k} {s = s} {t = t} p o cut left e =
        let same : did ≡ tally spent k = cc in
        let number : i ≡ n = cc in
        record {
          steps = _;
          kept = k;
          at = s;
          path = p;
          since = mark_since p;
          marked = mark_last w (marked (begin m u)) p;
          goes_on_lem = o;
          after = t;
          cut = subst (λ (x : ℕ). Cut w u s t x did.spent) number (subst (Cut w u s t i) (sym (ap (λ (x : Tally). x.spent) same)) cut);
          returns = ap (λ (x : Tally). x.returns) same ∙ returns_counted w p ∙ omega arith;
          traced = cc;
          leaves = left;
          later = (λ calls. ap (replies_of calls) left);
        }

    settled_recovered : (x : Ended) → end_of w (begin m u) ≡ x → (given_up w (part_of w m.stack u x)).reply ≡ fault n did trace → Recovered w m u n did trace
    unfolding part_of abandon_of given_up
    settled_recovered (ended k t) q e = absurd (no_fault k.answer (tally t.spent k) n did trace e)
    settled_recovered (stopped i t k) q e =
        let s = begin m u in
        let r : StoppedBy w (at_start s) s i t k = run_path w (at_start s) s (sym (end_of_lem w s) ∙ q) in
        cut_recovered r.path r.goes_on_lem (faulting i t r.stops) (unfold run_of in rw q) e
    settled_recovered (paused k t) q e =
        let s = begin m u in
        let r : PausedBy w (at_start s) s k t = run_path w (at_start s) s (sym (end_of_lem w s) ∙ q) in
        cut_recovered r.path r.goes_on_lem (unpaid r.unpaid) (unfold run_of in rw q) e

    pub run_recovered : (run_of w m u).reply ≡ fault n did trace → Recovered w m u n did trace
    unfolding run_of
    run_recovered e = settled_recovered (end_of w (begin m u)) refl e

  -- in good order a step that faults drops and adds no frame, nor does giving up, and the backtrace stands
  cut_stands : {u n spent : ℕ} {s t : State} → SaneWorld w → Sane w s → over w s ≡ false → Cut w u s t n spent → Faults w s t
  cut_stands {s = s} good h o (faulting f t q) = subst (Kept w s) q (step_keeps w s good h o)
  cut_stands {s = s} good h o (unpaid q) = cut_faults w s h o

  pub recovered_faults : {m : Machine} {u n : ℕ} {did : Tally} {trace : List Entry} → SaneWorld w → Sane w (begin m u) → (r : Recovered w m u n did trace) → Faults w r.at r.after
  recovered_faults good h r = cut_stands good (path_sane w good h r.path) r.goes_on_lem r.cut
