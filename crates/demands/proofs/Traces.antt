-- [entered] The backtrace of a run that ends in a fault, or is given up, tells when its frames were entered.
use mathlib.Core.Path.{◌≡◌, refl, ap, subst, ◌∙◌}
use mathlib.Core.List.{List, [], ◌∷◌, map}
use Prim.Native.Nat.{ℕ}
use Rattle.model.specs.declared.Fault.{Fault}
use Rattle.model.specs.declared.Frame.{Frame}
use Rattle.model.specs.declared.Tally.{Tally}
use Rattle.model.specs.Programs.{Function}
use Rattle.model.specs.Steps.{World, State, Outcome, went, returned, faulted, short, step_of}
use Rattle.model.specs.Runs.{Machine, begin, Entry, trace_of, cut_at}
use Rattle.laws_runs.specs.Entered.{entered_in, noted_along}
use Rattle.laws_runs.specs.Demand.{Cut, Recovered}
use Rattle.laws_runs.specs.Demand as d
use Rattle.laws_runs.proofs.Does.{Does, fault, spent, full, push, answer, compare, fall, leap, call, build, field, back, home, fetched_at, Stepped, unpaid, unread, ran, step_one}
use Rattle.laws_runs.proofs.Entered.{every_frame_tells_when_it_was_entered}

-- ---- a step that faults enters no frame and leaves none

abbrev Stays : State → Outcome → Type 0
Stays s (went t) = Unit
Stays s (returned v t) = Unit
Stays s (faulted n t) = entered_in t ≡ entered_in s
Stays s short = Unit

does_stay : {w : World} {a : ℕ} {s t : State} {x y : Outcome} → Does w a s t x y → Stays s x
does_stay (fault n) = refl
does_stay (spent x) = tt
does_stay (full b) = refl
does_stay (push h l) = tt
does_stay (answer b p) = tt
does_stay (compare b k l h) = tt
does_stay (fall b) = tt
does_stay (leap b) = tt
does_stay (call i n b l h g) = tt
does_stay (build b l) = tt
does_stay (field p i b e) = tt
does_stay (back b e) = tt
does_stay (home b e) = tt

fetched_stays : (s : State) (i : ℕ) (x : Outcome) → Stays (fetched_at i s) x → Stays s x
fetched_stays s i (went t) e = tt
fetched_stays s i (returned v t) e = tt
fetched_stays s i (faulted n t) e = e
fetched_stays s i short e = tt

stepped_stays : {w : World} {s t : State} {x y : Outcome} → Stepped w s t x y → Stays s x
stepped_stays (unpaid e x) = tt
stepped_stays (unread h n) = refl
stepped_stays {s = s} {x = x} (ran i a h l k e d) = fetched_stays s i x (does_stay d)

fault_stays : (w : World) (s : State) {n : Fault} {t : State} → step_of w s ≡ faulted n t → entered_in t ≡ entered_in s
fault_stays w s q = subst (Stays s) q (stepped_stays (step_one w s))

cut_stays : {w : World} {u n i : ℕ} {s t : State} → Cut w u s t n i → entered_in t ≡ entered_in s
unfolding cut_at
cut_stays {w} {s = s} (d.faulting f t q) = fault_stays w s q
cut_stays (d.unpaid q) = refl

-- ---- an entry tells what its frame tells

trace_entered : (fs : List Function) (rs : List Frame) → map (λ (e : Entry). e.entered) (trace_of fs rs) ≡ map (λ (r : Frame). r.entered) rs
unfolding trace_of
trace_entered fs [] = refl
trace_entered fs (r ∷ rs) = ap (λ (es : List ℕ). r.entered ∷ es) (trace_entered fs rs)

pub a_backtrace_tells_when_its_frames_were_entered : (w : World) {m : Machine} {u n : ℕ} {did : Tally} {trace : List Entry} (r : Recovered w m u n did trace)
    → map (λ (e : Entry). e.entered) trace ≡ noted_along r.path (entered_in (begin m u))
a_backtrace_tells_when_its_frames_were_entered w r =
    ap (map (λ (e : Entry). e.entered)) r.traced ∙ trace_entered w.functions _ ∙ cut_stays r.cut ∙ every_frame_tells_when_it_was_entered w r.path
