-- The other way: what the Rust comes to is what the rules answer, if they meet no limit and, on a strict machine, do not fault by 26. More turns change nothing of an end.
use Rattle.std.specs.Prelude.{None, Option, Some}
use mathlib.Core.Path.{◌≡◌, refl, sym, ap, subst, ◌∙◌}
use mathlib.Core.Bool.{Bool, true, false, ◌&&◌, true≢false}
use mathlib.Core.Option.{Option as Maybe, none, some}
use Prim.Native.Nat.{ℕ, zero, suc, ◌+◌, ◌≤◌}
use native.Mathlib.Omega.{arith}
use lib.ListN.{length}
use Rattle.model.specs.declared.Tally.{Tally}
use Rattle.model.specs.declared.Fault.TheVariants as f
use Rattle.model.specs.declared.Value.{Value}
use Rattle.model.specs.Values.{fault_number}
use Rattle.model.specs.Trees.{Tree}
use Rattle.model.specs.Steps.{World, State}
use Rattle.model.specs.Runs.{Machine, begin, Ended, ended, stopped, paused, end_of, machine_of, answered, part_of, given_up, run_of}
use Rattle.laws_runs.specs.Sane.{SaneWorld, Sane}
use Rattle.laws_rust.specs.Vm as rust
use Rattle.laws_rust.specs.Vm.{Vm, Did, Result, run_without_cleanup}
use Rattle.laws_rust.specs.Same.{last_in, rust_of, RunAs, Ends, Unlimited, Means, IsFault, AnswersAs}
use Rattle.laws_rust.proofs.Loop.{run_same}

-- ---- more turns

module _ (loop loop' : Maybe Tree → Vm → Result) (same : (r : Maybe Tree) (vm : Vm) → Ends (loop r vm) → loop' r vm ≡ loop r vm) (r : Maybe Tree) where
  behind_same : (d : Did) → Ends (rust.behind loop r d) → rust.behind loop' r d ≡ rust.behind loop r d
  unfolding rust.behind
  behind_same (rust.went vm) e = same r vm e
  behind_same (rust.returned v vm) e = same (some v) vm e
  behind_same (rust.division_by_zero vm) e = refl
  behind_same rust.panic e = refl
  behind_same rust.cast e = refl
  behind_same rust.not_carried e = refl

  test_same : (vm : Vm) (b : Maybe Bool) → Ends (rust.test loop r vm b) → rust.test loop' r vm b ≡ rust.test loop r vm b
  unfolding rust.test
  test_same vm none e = refl
  test_same vm (some true) e = refl
  test_same vm (some false) e = behind_same (rust.turn vm) e

loop_more : (n k : ℕ) (r : Maybe Tree) (vm : Vm) → Ends (run_without_cleanup n r vm) → run_without_cleanup (n + k) r vm ≡ run_without_cleanup n r vm
unfolding run_without_cleanup
loop_more zero k r vm e = absurd e
loop_more (suc n) k r vm e =
    let z : suc n + k ≡ suc (n + k) = omega arith in
    rw z (test_same (run_without_cleanup n) (run_without_cleanup (n + k)) (λ r' vm' e'. loop_more n k r' vm' e') r vm (rust.is_at_the_end vm) e)

ends_uncleaned : (old : Vm) (x : Result) → Ends (rust.clean_up old x) → Ends x
unfolding rust.clean_up
ends_uncleaned old (rust.ok r vm) e = tt
ends_uncleaned old (rust.err vm) e = tt
ends_uncleaned old rust.panics e = tt
ends_uncleaned old rust.casts e = tt
ends_uncleaned old rust.leaves e = tt
ends_uncleaned old rust.goes_on_lem e = e

pub more_turns : (n k : ℕ) (vm : Vm) → Ends (rust.run n vm) → rust.run (n + k) vm ≡ rust.run n vm
unfolding rust.run
more_turns n k vm e = ap (rust.clean_up vm) (loop_more n k none vm (ends_uncleaned vm (run_without_cleanup n none vm) e))

-- ---- from the Rust to the rules

-- however many turns it took
pub ends_same : (w : World) → SaneWorld w → length w.functions ≤ 65536 → (m : Machine) (u : ℕ) → Sane w (begin m u) → (turns : ℕ)
    → Ends (rust.run turns (rust_of w m)) → RunAs w (run_of w m u).machine (end_of w (begin m u)) (rust.run turns (rust_of w m))
ends_same w good few m u sane turns e =
    let z : suc u + turns ≡ turns + suc u = omega arith in
    let same : rust.run (suc u + turns) (rust_of w m) ≡ rust.run turns (rust_of w m) =
    ap (λ (i : ℕ). rust.run i (rust_of w m)) z ∙ more_turns turns (suc u) (rust_of w m) e in
    subst (RunAs w (run_of w m u).machine (end_of w (begin m u))) same (run_same w good few m u sane turns)

module _ (w : World) (m : Machine) (u : ℕ) where
  answered_so : (s : State) (a : Option Value) (t : Tally) → Means w (machine_of s) (answered a t) (last_in w.text s.heap a)
  unfolding Means answered
  answered_so s None t = refl
  answered_so s (Some x) t = refl

  answers_as : (e : Ended) {x y : Result} → x ≡ y → AnswersAs w (given_up w (part_of w m.stack u e)) y → AnswersAs w (given_up w (part_of w m.stack u e)) x
  answers_as e q a = subst (AnswersAs w (given_up w (part_of w m.stack u e))) (sym q) a

  -- where x is what `run` comes to
  answers_so : (e : Ended) → Unlimited w e → (x : Result) → RunAs w (given_up w (part_of w m.stack u e)).machine e x → AnswersAs w (given_up w (part_of w m.stack u e)) x
  unfolding RunAs Unlimited part_of given_up fault_number IsFault AnswersAs
  answers_so (ended k s) l x h = answers_as (ended k s) h (answered_so s k.answer _, refl)
  answers_so (stopped f.UnknownOpcode s k) l x h = answers_as (stopped f.UnknownOpcode s k) h refl
  answers_so (stopped f.NotCarried s k) l x h = answers_as (stopped f.NotCarried s k) h refl
  answers_so (stopped f.CodeEnds s k) l x h = answers_as (stopped f.CodeEnds s k) h refl
  answers_so (stopped f.TooFewValues s k) l x h = answers_as (stopped f.TooFewValues s k) h refl
  answers_so (stopped (f.WrongKind v) s k) l x h = answers_as (stopped (f.WrongKind v) s k) h refl
  answers_so (stopped f.OutOfRange s k) l x h = answers_as (stopped f.OutOfRange s k) h refl
  answers_so (stopped f.NoLastResult s k) l x h = answers_as (stopped f.NoLastResult s k) h refl
  answers_so (stopped f.ZeroDivisor s k) l x h = answers_as (stopped f.ZeroDivisor s k) h (refl, refl)
  answers_so (stopped f.NotFinite s k) l x h = absurd (true≢false (sym (ap (λ (b : Bool). b && true) h) ∙ l))
  answers_so (stopped f.StackFull s k) l x h = absurd (true≢false l)
  answers_so (stopped f.FramesFull s k) l x h = absurd (true≢false l)
  answers_so (stopped f.CellsFull s k) l x h = absurd (true≢false l)
  answers_so (stopped f.TooDeep s k) l x h = absurd (true≢false l)
  answers_so (stopped f.NoFunction s k) l x h = answers_as (stopped f.NoFunction s k) h refl
  answers_so (paused k s) l x h = absurd l

-- THE THEOREM, THE OTHER WAY: whatever the Rust comes to, in however many turns, the rules answer, and leave the machine that it leaves
pub rust_same : (w : World) → SaneWorld w → length w.functions ≤ 65536 → (m : Machine) (u : ℕ) → Sane w (begin m u)
    → Unlimited w (end_of w (begin m u)) → (turns : ℕ) → AnswersAs w (run_of w m u) (rust.run turns (rust_of w m))
unfolding run_of
rust_same w good few m u sane l turns = on (rust.run turns (rust_of w m)) (ends_same w good few m u sane turns)
  where
    on : (x : Result) → (Ends x → RunAs w (run_of w m u).machine (end_of w (begin m u)) x) → AnswersAs w (given_up w (part_of w m.stack u (end_of w (begin m u)))) x
    on (rust.ok r vm) h = answers_so w m u (end_of w (begin m u)) l (rust.ok r vm) (h tt)
    on (rust.err vm) h = answers_so w m u (end_of w (begin m u)) l (rust.err vm) (h tt)
    on rust.panics h = answers_so w m u (end_of w (begin m u)) l rust.panics (h tt)
    on rust.casts h = answers_so w m u (end_of w (begin m u)) l rust.casts (h tt)
    on rust.leaves h = answers_so w m u (end_of w (begin m u)) l rust.leaves (h tt)
    on rust.goes_on_lem h = unfold AnswersAs in tt

-- so, if the Rust answers Ok, the rules answer that value, or "continue", and leave a machine that is the Rust's
pub ok_same : (w : World) → SaneWorld w → length w.functions ≤ 65536 → (m : Machine) (u : ℕ) → Sane w (begin m u) → Unlimited w (end_of w (begin m u))
    → (turns : ℕ) (r : Maybe Tree) (vm : Vm) → rust.run turns (rust_of w m) ≡ rust.ok r vm
    → Means w (run_of w m u).machine (run_of w m u).reply r × (vm ≡ rust_of w (run_of w m u).machine)
unfolding AnswersAs
ok_same w good few m u sane l turns r vm e = subst (AnswersAs w (run_of w m u)) e (rust_same w good few m u sane l turns)
