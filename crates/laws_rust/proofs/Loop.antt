-- THE RUN: from a machine in good order the rules' run and the Rust's `run` come to the same, if no limit of the rules is met and no strict machine faults by 26.
use mathlib.Core.Path.{◌≡◌, refl, sym, ap, subst, ◌∙◌}
use mathlib.Core.Bool.{Bool, true, false}
use mathlib.Core.List.{List, [], ◌∷◌, map}
use mathlib.Core.Option.{Option, some}
use Prim.Native.Nat.{ℕ, zero, suc, ◌+◌, ◌-◌, ◌≤◌}
use native.Mathlib.Omega.{arith}
use lib.ListN.{length}
use Rattle.model.specs.declared.Value.{Value}
use Rattle.model.specs.declared.Fault.{Fault}
use Rattle.model.specs.declared.Fault.TheVariants as f
use Rattle.model.specs.declared.Frame.{Frame}
use Rattle.model.specs.Trees.{Tree}
use Rattle.model.specs.Programs.{Function, function_at}
use Rattle.model.specs.Steps.{World, State, Outcome, went, returned, faulted, short, step_of}
use Rattle.model.specs.Runs.{Machine, unentered, begin, Progress, at_start, counted, Ended, ended, stopped, paused, over, end_of, recovered, part_of, given_up, run_of}
use Rattle.laws_runs.specs.Sane.{LastPlaced, SaneWorld, Sane, SaneMark}
use Rattle.laws_runs.specs.Paths.{Grows, Adds, Steps, EndedBy, StoppedBy, Marked}
use Rattle.laws_runs.specs.Paths as paths
use Rattle.laws_runs.proofs.Spends.{no_units}
use Rattle.laws_runs.proofs.Adds.{grows_on, step_adds}
use Rattle.laws_runs.proofs.Ends.{end_of_lem}
use Rattle.laws_runs.proofs.Paths.{marked, run_path, path_spends, mark_last, mark_grows}
use Rattle.laws_runs.proofs.Placed.{last_grows}
use Rattle.laws_runs.proofs.Runs.{mark_sane, path_sane, path_mark}
use Rattle.laws_rust.specs.Vm as rust
use Rattle.laws_rust.specs.Vm.{Did, run_without_cleanup}
use Rattle.laws_rust.specs.Same.{chunk_of, frame_of, last_in, rust_of, rust_at, Panics, DividesByZero, FaultsAs, Agrees, RunAs}
use Rattle.laws_rust.proofs.Reading.{end_is_over}
use Rattle.laws_rust.proofs.Stacks.{stack_grown, last_grown}
use Rattle.laws_rust.proofs.Turns.{step_same}
use Rattle.laws_rust.proofs.Strict.{Tells, a_fault_tells}

-- ---- one turn

-- the loop's test, which is [run.end]
tested : (w : World) (s : State) → Sane w s → (turns : ℕ) (r : Option Tree) (b : Bool) → over w s ≡ b
    → run_without_cleanup (suc turns) r (rust_at w s) ≡ rust.test (run_without_cleanup turns) r (rust_at w s) (some b)
unfolding run_without_cleanup
tested w s sane turns r b o = ap (rust.test (run_without_cleanup turns) r (rust_at w s)) (end_is_over w s sane.frame.known ∙ ap some o)

-- the value of the last statement, as it is in a state that has come so far
abbrev answer_in : World → Progress → State → Option Tree
answer_in w m s = last_in w.text s.heap m.answer

-- ---- turn by turn: the written steps of the rules are the Rust's turns

module _ (w : World) (good : SaneWorld w) (few : length w.functions ≤ 65536) where
  does : {s : State} {out : Outcome} → Sane w s → over w s ≡ false → step_of w s ≡ out → Agrees w out (rust.turn (rust_at w s))
  does {s} sane o q = subst (λ (x : Outcome). Agrees w x (rust.turn (rust_at w s))) q (step_same w good few s sane o)

  went_on : {s s' : State} (m : Progress) → Sane w s → LastPlaced (length w.text) s.heap m.answer → over w s ≡ false → step_of w s ≡ went s' → (turns : ℕ)
      → run_without_cleanup (suc turns) (answer_in w m s) (rust_at w s) ≡ run_without_cleanup turns (answer_in w m s') (rust_at w s')
  unfolding rust.test rust.behind Agrees
  went_on {s} {s'} m sane placed o q turns =
      let z : Adds s.heap s.last (went s') = subst (Adds s.heap s.last) q (step_adds w s) in
      tested w s sane turns (answer_in w m s) false o
      ∙ ap (rust.behind (run_without_cleanup turns) (answer_in w m s)) (does sane o q)
      ∙ ap (λ (r : Option Tree). run_without_cleanup turns r (rust_at w s')) (sym (last_grown w.text sane.heap z.0 m.answer placed))

  came_back : {s s' : State} {x : Value} (m : Progress) → Sane w s → over w s ≡ false → step_of w s ≡ returned x s' → (turns : ℕ)
      → run_without_cleanup (suc turns) (answer_in w m s) (rust_at w s) ≡ run_without_cleanup turns (answer_in w (counted x m s') s') (rust_at w s')
  unfolding rust.test rust.behind Agrees
  came_back {s} m sane o q turns = tested w s sane turns (answer_in w m s) false o ∙ ap (rust.behind (run_without_cleanup turns) (answer_in w m s)) (does sane o q)

  along : {n : ℕ} {m k : Progress} {s t : State} → Steps w n m s k t → Sane w s → LastPlaced (length w.text) s.heap m.answer → (turns : ℕ)
      → run_without_cleanup (n + turns) (answer_in w m s) (rust_at w s) ≡ run_without_cleanup turns (answer_in w k t) (rust_at w t)
  unfolding LastPlaced
  along paths.none sane placed turns = let z : 0 + turns ≡ turns = omega arith in rw z refl
  along (paths.on {n = n} {m = m} {s = s} {s' = s'} o q p) sane placed turns =
      let z : suc n + turns ≡ suc (n + turns) = omega arith in
      let a : Adds s.heap s.last (went s') = subst (Adds s.heap s.last) q (step_adds w s) in
      rw z (went_on m sane placed o q (n + turns)
      ∙ along p (path_sane w good {m = m} sane (paths.on o q paths.none)) (last_grows (length w.text) a.0 m.answer placed) turns)
  along (paths.ret {n = n} {m = m} {s = s} {s' = s'} {v = x} o q p) sane placed turns =
      let z : suc n + turns ≡ suc (n + turns) = omega arith in
      let a : Adds s.heap s.last (returned x s') = subst (Adds s.heap s.last) q (step_adds w s) in
      let next : Sane w s' = path_sane w good {m = m} sane (paths.ret o q paths.none) in
      rw z (came_back m sane o q (n + turns)
      ∙ along p next (subst (LastPlaced (length w.text) s'.heap) a.1 next.last) turns)

-- ---- behind the last turn

-- a panic, in the arm or in the loop's test behind it
panicked_behind : (turns : ℕ) (r : Option Tree) (d : Did) → Panics d → rust.behind (run_without_cleanup (suc turns)) r d ≡ rust.panics
unfolding rust.behind run_without_cleanup rust.test Panics
panicked_behind turns r (rust.went vm) p = ap (rust.test (run_without_cleanup turns) r vm) p
panicked_behind turns r (rust.returned v vm) p = absurd p
panicked_behind turns r (rust.division_by_zero vm) p = absurd p
panicked_behind turns r rust.panic p = refl
panicked_behind turns r rust.cast p = absurd p
panicked_behind turns r rust.not_carried p = absurd p

main_is : (fs : List Function) → rust.main_length (map chunk_of fs) ≡ length (function_at fs 0).code
unfolding rust.main_length function_at
main_is [] = refl
main_is (f ∷ fs) = refl

-- what the Rust's cleanup leaves of vm, whose stack is vs: the stack of the start, one frame at the end of main, and the last result as it is
module _ (w : World) (m : Machine) (u : ℕ) (sane : Sane w (begin m u)) (k : Progress) (t : State) (mark : SaneMark w k) (last : k.last ≡ t.last)
    (start : Grows m.heap k.heap) (since : Grows k.heap t.heap) where
  cleaned_is : (vs : List Tree) → rust.cleaned (rust_at w (begin m u)) (rust.with_stack_lem vs (rust_at w t)) ≡ rust_of w (recovered w m.stack k)
  unfolding rust.cleaned rust_of recovered
  cleaned_is vs =
      rw (main_is w.functions, sym last, last_grown w.text mark.heap since k.last mark.last, stack_grown w.text sane.heap start m.stack sane.placed) refl

  -- d is what the turn did from which the rules fault
  module _ (turns : ℕ) (r : Option Tree) (d : Did) where
    comes_to_lem : {d' : Did} → d ≡ d' → rust.clean_up (rust_at w (begin m u)) (rust.behind (run_without_cleanup (suc turns)) r d)
        ≡ rust.clean_up (rust_at w (begin m u)) (rust.behind (run_without_cleanup (suc turns)) r d')
    comes_to_lem h = ap (λ (x : Did). rust.clean_up (rust_at w (begin m u)) (rust.behind (run_without_cleanup (suc turns)) r x)) h

    comes_to_panic : Panics d → rust.clean_up (rust_at w (begin m u)) (rust.behind (run_without_cleanup (suc turns)) r d) ≡ rust.panics
    unfolding rust.clean_up
    comes_to_panic h = ap (rust.clean_up (rust_at w (begin m u))) (panicked_behind turns r d h)

    stops_so : (n : Fault) → Tells w n → FaultsAs (rust_at w t) n d
        → RunAs w (recovered w m.stack k) (stopped n t k) (rust.clean_up (rust_at w (begin m u)) (rust.behind (run_without_cleanup (suc turns)) r d))
    unfolding FaultsAs RunAs DividesByZero rust.clean_up rust.behind
    stops_so f.UnknownOpcode tells h = comes_to_lem h
    stops_so f.NotCarried tells h = comes_to_lem h
    stops_so f.CodeEnds tells h = comes_to_panic h
    stops_so f.TooFewValues tells h = comes_to_panic h
    stops_so (f.WrongKind v) tells h = comes_to_panic h
    stops_so f.OutOfRange tells h = comes_to_panic h
    stops_so f.NoLastResult tells h = comes_to_panic h
    stops_so f.ZeroDivisor tells h = comes_to_lem h.1 ∙ ap rust.err (cleaned_is h.0)
    stops_so f.NotFinite tells h = tells
    stops_so f.StackFull tells h = tt
    stops_so f.FramesFull tells h = tt
    stops_so f.CellsFull tells h = tt
    stops_so f.TooDeep tells h = tt
    stops_so f.NoFunction tells h = comes_to_panic h

-- ---- a run

module _ (w : World) (good : SaneWorld w) (few : length w.functions ≤ 65536) (m : Machine) (u : ℕ) (sane : Sane w (begin m u)) where
  ended_same : {k : Progress} {t : State} → EndedBy w (at_start (begin m u)) (begin m u) k t → (turns : ℕ)
      → RunAs w (given_up w (part_of w m.stack u (ended k t))).machine (ended k t) (rust.run (suc u + turns) (rust_at w (begin m u)))
  unfolding RunAs part_of given_up rust.run rust.clean_up rust.test LastPlaced
  ended_same {k} {t} by turns =
      let spent = path_spends w by.path in
      let z : suc u + turns ≡ by.steps + suc (u - by.steps + turns) = omega arith in
      rw z (ap (rust.clean_up (rust_at w (begin m u)))
      (along w good few by.path sane tt (suc (u - by.steps + turns)) ∙ tested w t (path_sane w good sane by.path) _ _ true by.over))

  module _ {n : Fault} {t : State} {k : Progress} (by : StoppedBy w (at_start (begin m u)) (begin m u) n t k) where
    -- the state before the step that faults, and what is kept of it
    before : Sane w by.at
    before = path_sane w good sane by.path

    so : Marked k by.at
    so = mark_last w (marked (begin m u)) by.path

    adds : Adds by.at.heap by.at.last (faulted n t)
    adds = subst (Adds by.at.heap by.at.last) by.stops (step_adds w by.at)

    turns_to : (turns : ℕ)
        → rust.run (by.steps + suc turns) (rust_at w (begin m u))
        ≡ rust.clean_up (rust_at w (begin m u)) (rust.behind (run_without_cleanup turns) (answer_in w k by.at) (rust.turn (rust_at w by.at)))
    unfolding rust.run rust.test LastPlaced
    turns_to turns =
        ap (rust.clean_up (rust_at w (begin m u))) (along w good few by.path sane tt (suc turns) ∙ tested w by.at before turns _ false by.goes_on_lem)

    -- there is a unit for the step, and so there are two turns: the one that faults, and the test behind it
    stopped_paid : (turns : ℕ) → 1 ≤ by.at.units → RunAs w (recovered w m.stack k) (stopped n t k) (rust.run (suc u + turns) (rust_at w (begin m u)))
    unfolding Agrees
    stopped_paid turns paid =
        let spent = path_spends w by.path in
        let z : suc u + turns ≡ by.steps + suc (suc (u - by.steps - 1 + turns)) = omega arith in
        let d : FaultsAs (rust_at w t) n (rust.turn (rust_at w by.at)) = does w good few before by.goes_on_lem by.stops in
        rw (z, turns_to (suc (u - by.steps - 1 + turns)))
        (stops_so w m u sane k t (path_mark w good sane (mark_sane sane) by.path) (so.last ∙ sym adds.1) (mark_grows w (marked (begin m u)) by.path)
        (grows_on so.heap adds.0) _ _ _ n (a_fault_tells w by.at by.stops) d)

    stopped_same : (turns : ℕ) → RunAs w (given_up w (part_of w m.stack u (stopped n t k))).machine (stopped n t k) (rust.run (suc u + turns) (rust_at w (begin m u)))
    unfolding part_of given_up RunAs
    stopped_same turns = on by.at.units refl
      where
        on : (x : ℕ) → by.at.units ≡ x → RunAs w (recovered w m.stack k) (stopped n t k) (rust.run (suc u + turns) (rust_at w (begin m u)))
        on zero e =
            let z : short ≡ faulted n t = sym (no_units w by.at e) ∙ by.stops in
            absurd (let y : ◌≡◌ {A = ℕ} 0 1 = cc in let no : ⊥ = omega arith in no)
        on (suc x) e = stopped_paid turns (omega arith)

  settled_same : (e : Ended) → end_of w (begin m u) ≡ e → (turns : ℕ) → RunAs w (given_up w (part_of w m.stack u e)).machine e (rust.run (suc u + turns) (rust_at w (begin m u)))
  settled_same (ended k t) q turns = ended_same (run_path w (at_start (begin m u)) (begin m u) (sym (end_of_lem w (begin m u)) ∙ q)) turns
  settled_same (stopped n t k) q turns = stopped_same (run_path w (at_start (begin m u)) (begin m u) (sym (end_of_lem w (begin m u)) ∙ q)) turns
  settled_same (paused k t) q turns = unfold RunAs in tt

-- when a frame was entered is not the Rust's, and so a beginning, which sets that to 0, leaves what the Rust sees
unentered_same : (fs : List Frame) → map frame_of (map unentered fs) ≡ map frame_of fs
unentered_same [] = refl
unentered_same (f ∷ fs) = ap (λ (rest : List rust.CallFrame). frame_of f ∷ rest) (unentered_same fs)

begun_same : (w : World) (m : Machine) (u : ℕ) → rust_at w (begin m u) ≡ rust_of w m
unfolding rust_of
begun_same w m u = rw (unentered_same m.callers) refl

-- THE THEOREM: in one turn more than there are units, and in any more than that, the Rust comes to what the rules' run comes to, and leaves its machine
pub run_same : (w : World) → SaneWorld w → length w.functions ≤ 65536 → (m : Machine) (u : ℕ) → Sane w (begin m u) → (turns : ℕ)
    → RunAs w (run_of w m u).machine (end_of w (begin m u)) (rust.run (suc u + turns) (rust_of w m))
unfolding run_of
run_same w good few m u sane turns =
    subst (λ (vm : rust.Vm). RunAs w (run_of w m u).machine (end_of w (begin m u)) (rust.run (suc u + turns) vm)) (begun_same w m u)
    (settled_same w good few m u sane (end_of w (begin m u)) refl turns)
