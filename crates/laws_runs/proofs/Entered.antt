-- The number in a frame is the units that were spent when the step that entered it had completed, however units are dealt out.
use mathlib.Core.Path.{◌≡◌, refl, sym, ap, subst, ◌∙◌}
use mathlib.Core.List.{List, ◌∷◌, map}
use Prim.Native.Nat.{ℕ, suc, ◌-◌}
use native.Mathlib.Omega.{arith}
use borrow.Author.Tests.{lt-ltb, le-ltb}
use lib.ListN.{length}
use Rattle.model.specs.declared.Frame.{Frame}
use Rattle.model.specs.Steps.{World, State, Outcome, went, returned, faulted, short, step_of}
use Rattle.model.specs.Runs.{Machine, begin, Progress, at_start, Ended, ended, stopped, paused, end_of, Under, pauses, part_of, begin_of, dealt}
use Rattle.laws_runs.specs.Paths.{Steps, none, on, ret, PausedBy}
use Rattle.laws_runs.specs.Parts.{sum_of}
use Rattle.laws_runs.specs.Entered.{entered_in, noted, noted_along, Watched}
use Rattle.laws_runs.proofs.Does.{Does, fault, spent, full, push, answer, compare, fall, leap, call, build, field, back, home, fetched_at, Stepped, unpaid, unread, ran, step_one}
use Rattle.laws_runs.proofs.Ends.{end_of_lem}
use Rattle.laws_runs.proofs.Paths.{run_path}
use Rattle.laws_runs.proofs.Parts.{dealt_as_one}

-- ---- a step

-- the watch kept beside a step from s
abbrev Noted : State → Outcome → Type 0
Noted s (went t) = entered_in t ≡ noted s t (entered_in s)
Noted s (returned v t) = entered_in t ≡ noted s t (entered_in s)
Noted s (faulted n t) = Unit
Noted s short = Unit

-- as many frames: no note is made, and none goes
as_many : (s t : State) → length t.callers ≡ length s.callers → (notes : List ℕ) → notes ≡ noted s t notes
unfolding noted
as_many s t e notes = let z : length s.callers - length t.callers ≡ 0 = omega arith in rw (le-ltb (length s.callers) (length t.callers) (omega arith), z)

one_more : (s t : State) → length t.callers ≡ suc (length s.callers) → (notes : List ℕ) → t.spent ∷ notes ≡ noted s t notes
unfolding noted
one_more s t e notes = rw (lt-ltb (length s.callers) (length t.callers) (omega arith))

one_less : (s t : State) → length s.callers ≡ suc (length t.callers) → (n : ℕ) (notes : List ℕ) → notes ≡ noted s t (n ∷ notes)
unfolding noted
one_less s t e n notes = let z : length s.callers - length t.callers ≡ 1 = omega arith in rw (le-ltb (length s.callers) (length t.callers) (omega arith), z)

does_noted : {w : World} {a : ℕ} {s t : State} {x y : Outcome} → Does w a s t x y → Noted s x
does_noted (fault n) = tt
does_noted (spent x) = tt
does_noted (full b) = tt
does_noted {s = s} (push h l) = as_many s _ refl _
does_noted {s = s} (answer b p) = as_many s _ refl _
does_noted {s = s} (compare b k l h) = as_many s _ refl _
does_noted {s = s} (fall b) = as_many s _ refl _
does_noted {s = s} (leap b) = as_many s _ refl _
does_noted {s = s} (call i n b l h g) = one_more s _ refl _
does_noted {s = s} (build b l) = as_many s _ refl _
does_noted {s = s} (field p i b e) = as_many s _ refl _
does_noted {s = s} (back {c = c} {cs = cs} b e) =
    let known : map (λ (f : Frame). f.entered) (c ∷ cs) ≡ map (λ (f : Frame). f.entered) s.callers = ap (map (λ (f : Frame). f.entered)) (sym e) in
    known ∙ one_less s _ (ap length e) s.frame.entered _
does_noted {s = s} (home b e) = as_many s _ refl _

-- fetching an opcode enters and leaves no frame
fetched_noted : (s : State) (i : ℕ) (x : Outcome) → Noted (fetched_at i s) x → Noted s x
unfolding noted
fetched_noted s i (went t) e = e
fetched_noted s i (returned v t) e = e
fetched_noted s i (faulted n t) e = tt
fetched_noted s i short e = tt

stepped_noted : {w : World} {s t : State} {x y : Outcome} → Stepped w s t x y → Noted s x
stepped_noted (unpaid e x) = tt
stepped_noted (unread h n) = tt
stepped_noted {s = s} {x = x} (ran i a h l k e d) = fetched_noted s i x (does_noted d)

module _ (w : World) where
  step_noted : (s : State) {x : Outcome} → step_of w s ≡ x → Noted s x
  step_noted s q = subst (Noted s) q (stepped_noted (step_one w s))

  -- ---- along written steps

  pub every_frame_tells_when_it_was_entered : {n : ℕ} {m k : Progress} {s t : State} (p : Steps w n m s k t) → entered_in t ≡ noted_along p (entered_in s)
  unfolding noted_along
  every_frame_tells_when_it_was_entered none = refl
  every_frame_tells_when_it_was_entered (on {s = s} {s' = s'} o q p) = every_frame_tells_when_it_was_entered p ∙ ap (noted_along p) (step_noted s q)
  every_frame_tells_when_it_was_entered (ret {s = s} {s' = s'} o q p) = every_frame_tells_when_it_was_entered p ∙ ap (noted_along p) (step_noted s q)

  -- ---- a run in parts

  module _ (m : Machine) (u : ℕ) where
    begun_watched : (e : Ended) → end_of w (begin m u) ≡ e → {r : Under} → part_of w m.stack u e ≡ pauses r → Watched w m u r.state
    unfolding part_of
    begun_watched (ended k t) q z = absurd (let y : ◌≡◌ {A = ℕ} 0 1 = cc in let x : ⊥ = omega arith in x)
    begun_watched (stopped n t k) q z = absurd (let y : ◌≡◌ {A = ℕ} 0 1 = cc in let x : ⊥ = omega arith in x)
    begun_watched (paused k t) q {r} z =
        let s = begin m u in
        let by : PausedBy w (at_start s) s k t = run_path w (at_start s) s (sym (end_of_lem w s) ∙ q) in
        let same : t ≡ r.state = cc in
        subst (Watched w m u) same (record { steps = _; kept = k; path = by.path; tells = every_frame_tells_when_it_was_entered by.path })

  pub a_paused_run_tells_when_its_frames_were_entered : (m : Machine) (u : ℕ) (us : List ℕ) {r : Under} → dealt w (begin_of w m) (u ∷ us) ≡ pauses r → Watched w m (sum_of (u ∷ us)) r.state
  a_paused_run_tells_when_its_frames_were_entered m u us e = begun_watched m (sum_of (u ∷ us)) _ refl (sym (dealt_as_one w m u us) ∙ e)
