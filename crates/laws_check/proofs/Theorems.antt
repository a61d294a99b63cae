-- THE THEOREMS over a program that passed the check: what its runs never meet, and how high its frames grow.
use mathlib.Core.Path.{◌≡◌, refl, ap, subst}
use mathlib.Core.Bool.{Bool, true, false}
use mathlib.Core.List.{List, [], ◌∷◌, map}
use Prim.Native.Nat.{ℕ, ◌≤◌, ◌<◌}
use native.Mathlib.Omega.{arith}
use borrow.Author.Tests.{leb-true, leb-false, eqb-true}
use lib.ListN.{length}
use Rattle.model.specs.declared.Decoded.{Decoded}
use Rattle.model.specs.declared.Fault.{Fault}
use Rattle.model.specs.declared.Fault.TheVariants as f
use Rattle.model.specs.declared.Frame.{Frame}
use Rattle.model.specs.declared.Tally.{Tally}
use Rattle.model.specs.Values.{fault_number}
use Rattle.model.specs.Programs.{Program, opcode_in}
use Rattle.model.specs.Steps.{World, State, faulted, position, step_of}
use Rattle.model.specs.Steps as steps
use Rattle.model.specs.Runs.{Machine, Progress, Entry, unentered, begin, over}
use Rattle.laws_runs.specs.Paths.{Steps, none, on, ret}
use Rattle.laws_runs.specs.Demand.{Cut, faulting, unpaid, Recovered}
use Rattle.laws_runs.proofs.Demands.{run_recovered}
use Rattle.check_rules.specs.declared.Rule.TheVariants as r
use Rattle.check_rules.specs.Rules.{starts, Keeps, Passed, code_of, is_main}
use Rattle.laws_check.specs.Row.{Unsure}
use Rattle.laws_check.specs.Good.{Serves, Stands, Waiting, Good, Allowed, Safe}
use Rattle.laws_check.specs.Passed.{JustLoaded, Comes, ruled_out, Meets, NeverFaultsSo, AsksInRange, Parts, FramesWithin, EndsInMain, RunsSo, Asked, RunsAskInRange}
use Rattle.laws_check.proofs.Walked.{main_is_taken_with_none}
use Rattle.laws_check.proofs.Kept.{good_at, same_code, a_step_stays_good}

-- a fault that is allowed has none of the numbers that are ruled out
allowed_not_ruled_out : (x : Decoded) (n : Fault) → Allowed x n → ruled_out (fault_number n) ≡ false
unfolding ruled_out fault_number
allowed_not_ruled_out x f.UnknownOpcode h = absurd h
allowed_not_ruled_out x f.NotCarried h = absurd h
allowed_not_ruled_out x f.CodeEnds h = absurd h
allowed_not_ruled_out x f.TooFewValues h = absurd h
allowed_not_ruled_out x (f.WrongKind v) h = refl
allowed_not_ruled_out x f.OutOfRange h = refl
allowed_not_ruled_out x f.NoLastResult h = refl
allowed_not_ruled_out x f.ZeroDivisor h = refl
allowed_not_ruled_out x f.NotFinite h = refl
allowed_not_ruled_out x f.StackFull h = refl
allowed_not_ruled_out x f.FramesFull h = refl
allowed_not_ruled_out x f.CellsFull h = refl
allowed_not_ruled_out x f.TooDeep h = refl
allowed_not_ruled_out x f.NoFunction h = absurd h

-- 6 is the number of one fault
only_six : (n : Fault) → fault_number n ≡ 6 → n ≡ f.OutOfRange
unfolding fault_number
only_six f.UnknownOpcode e = absurd (let z : ⊥ = omega arith in z)
only_six f.NotCarried e = absurd (let z : ⊥ = omega arith in z)
only_six f.CodeEnds e = absurd (let z : ⊥ = omega arith in z)
only_six f.TooFewValues e = absurd (let z : ⊥ = omega arith in z)
only_six (f.WrongKind v) e = absurd (let z : ⊥ = omega arith in z)
only_six f.OutOfRange e = refl
only_six f.NoLastResult e = absurd (let z : ⊥ = omega arith in z)
only_six f.ZeroDivisor e = absurd (let z : ⊥ = omega arith in z)
only_six f.NotFinite e = absurd (let z : ⊥ = omega arith in z)
only_six f.StackFull e = absurd (let z : ⊥ = omega arith in z)
only_six f.FramesFull e = absurd (let z : ⊥ = omega arith in z)
only_six f.CellsFull e = absurd (let z : ⊥ = omega arith in z)
only_six f.TooDeep e = absurd (let z : ⊥ = omega arith in z)
only_six f.NoFunction e = absurd (let z : ⊥ = omega arith in z)

module _ (p : Program) (ok : Passed p) where
  -- ---- the invariant holds along every run

  pub a_fresh_machine_is_good : 0 < length p.functions → (m : Machine) → JustLoaded m → (u : ℕ) → Good p (begin m u)
  unfolding Waiting
  a_fresh_machine_is_good main m loaded u =
      let taken = main_is_taken_with_none p ok in
      let empty : length m.stack ≡ 0 = rw loaded.stack in
      good_at p (begin m u) (ap unentered loaded.frame) (ap (map unentered) loaded.callers) (refl, refl) (omega arith) (record { known = main; path = starts })

  module _ (w : World) (of : Serves p w) where
    next_safe : (s : State) → Good p s → over w s ≡ false → Safe p (opcode_in (steps.code_of w s) (position s)).what (step_of w s)
    unfolding over
    next_safe s good o = a_step_stays_good p ok w of s good (leb-false _ _ o)

    pub a_run_stays_good : {n : ℕ} {m k : Progress} {s t : State} → Good p s → Steps w n m s k t → Good p t
    a_run_stays_good good none = good
    a_run_stays_good good (on {s = s} o q rest) = a_run_stays_good (subst (Safe p _) q (next_safe s good o)) rest
    a_run_stays_good good (ret {s = s} o q rest) = a_run_stays_good (subst (Safe p _) q (next_safe s good o)) rest

  comes_good : {w : World} {s : State} → Comes p w s → Good p s
  comes_good {w} c = a_run_stays_good w c.serves (a_fresh_machine_is_good c.serves.main c.machine c.loaded c.units) c.path

  fault_allowed : (w : World) (s : State) (n : Fault) → Meets p w s n → Allowed (opcode_in (steps.code_of w s) (position s)).what n
  fault_allowed w s n h =
      let c = h.comes in
      subst (Safe p (opcode_in (steps.code_of w s) (position s)).what) h.step (a_step_stays_good p ok w c.serves s (comes_good c) h.inside)

  -- ---- THE THEOREMS

  pub passed_never_faults_so : NeverFaultsSo p
  passed_never_faults_so w s n h = allowed_not_ruled_out _ n (fault_allowed w s n h)

  pub passed_asks_in_range : AsksInRange p
  passed_asks_in_range w s h = fault_allowed w s f.OutOfRange h

  callers_fit : (cs : List Frame) (g base : ℕ) → Waiting p cs g base → Parts p cs base
  unfolding Waiting Parts
  callers_fit [] g base h = tt
  callers_fit (c ∷ cs) g base h =
      let waits = h.0.sum in
      (record { known = h.0.stands.known; begins = omega arith; fits = λ m top. let z = top.most h.0.stands.path in omega arith }, callers_fit cs c.function c.base h.1)

  pub good_frames_fit : (s : State) → Good p s → Parts p (s.frame ∷ s.callers) (length s.stack)
  unfolding Parts
  good_frames_fit s good =
      let sum = good.sum in
      (record { known = good.stands.known; begins = omega arith; fits = λ m top. let z = top.most good.stands.path in omega arith }, callers_fit s.callers _ _ good.waiting)

  pub passed_frames_fit : FramesWithin p
  passed_frames_fit w s c = good_frames_fit s (comes_good c)

  -- a frame of another function than main stands on an instruction
  stands_inside : (f : ℕ) {i h : ℕ} → Stands p f i h → is_main f ≡ false → i < length (code_of p f)
  unfolding Keeps
  stands_inside f here e = (ok r.Heights f here.known).inside here.path e

  pub passed_ends_in_main : EndsInMain p
  unfolding over
  passed_ends_in_main w s c o = by (is_main s.frame.function) refl
    where
      end : length (code_of p s.frame.function) ≤ position s
      end = subst (λ (code : List ℕ). length code ≤ position s) (same_code p w c.serves s) (leb-true (length (steps.code_of w s)) (position s) o)

      by : (b : Bool) → is_main s.frame.function ≡ b → s.frame.function ≡ 0
      by true e = eqb-true s.frame.function 0 e
      by false e = absurd (let z = stands_inside s.frame.function (comes_good c).stands e in let y : ⊥ = omega (arith, z, end) in y)

  -- ---- whole runs

  -- the step that stopped a run, at a state that it came to
  run_stops : {w : World} → Serves p w → {m : Machine} → JustLoaded m → {u n : ℕ} {did : Tally} {trace : List Entry} (r : Recovered w m u n did trace)
      → (i : Fault) (t : State) → step_of w r.at ≡ faulted i t → Meets p w r.at i
  unfolding over
  run_stops of {m} loaded {u} r i t q = record {
    comes = record { serves = of; machine = m; loaded = loaded; units = u; count = r.steps; before = _; after = r.kept; path = r.path };
    inside = leb-false _ _ r.goes_on_lem;
    left = t;
    step = q;
  }

  pub passed_runs_so : RunsSo p
  unfolding ruled_out
  passed_runs_so w of m loaded u n did trace e = let r = run_recovered w m u n did trace e in by r r.cut
    where
      by : (r : Recovered w m u n did trace) {t : State} {i spent : ℕ} → Cut w u r.at t i spent → ruled_out i ≡ false
      by r (faulting i t q) = passed_never_faults_so w r.at i (run_stops of loaded r i t q)
      by r (unpaid q) = refl

  pub passed_runs_ask_in_range : RunsAskInRange p
  passed_runs_ask_in_range w of m loaded u did trace e = by (run_recovered w m u 6 did trace e)
    where
      asked : (r : Recovered w m u 6 did trace) {t : State} {n spent : ℕ} → n ≡ 6 → Cut w u r.at t n spent → Unsure (opcode_in (steps.code_of w r.at) (position r.at)).what
      asked r six (faulting i t q) = passed_asks_in_range w r.at (rw (only_six i six) at (run_stops of loaded r i t q))
      asked r six (unpaid q) = absurd (let z : ⊥ = omega arith in z)

      by : Recovered w m u 6 did trace → Asked w m u did trace
      by r = record { run = r; opcode = asked r refl r.cut }
