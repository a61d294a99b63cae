-- The heap only grows, and only a completed root Return sets the last result.
use mathlib.Core.Path.{◌≡◌, refl, sym, ap, ◌∙◌}
use mathlib.Core.List.{List, [], ◌++◌, append-nil, append_assoc}
use Prim.Native.Nat.{ℕ}
use Rattle.model.specs.declared.Value.{Value}
use Rattle.model.specs.Heap.{Cell, built, build_of, block_of}
use Rattle.model.specs.Steps.{World, State, Outcome, step_of}
use Rattle.cells.proofs.Frame.{grown_of}
use Rattle.laws_runs.specs.Paths.{Grows, Adds}
use Rattle.laws_runs.proofs.Does.{Does, fault, spent, full, push, answer, compare, fall, leap, call, build, field, back, home, Stepped, unpaid, unread, ran, step_one}

pub grows_none : (H : List Cell) → Grows H H
grows_none H = record { more = []; is = sym (append-nil H) }

pub grows_on : {H K L : List Cell} → Grows H K → Grows K L → Grows H L
grows_on {H} {K} {L} g h = record { more = g.more ++ h.more; is = h.is ∙ ap (λ (l : List Cell). l ++ h.more) g.is ∙ append_assoc H g.more h.more }

pub built_grows : (room : ℕ) (H : List Cell) (k : ℕ) (us : List Value) {H' : List Cell} → build_of room H k us ≡ built H' → Grows H H'
built_grows room H k us {H'} e = record { more = block_of H k us; is = (grown_of room H k us H' e).is }

does_adds : {w : World} {a : ℕ} {s t : State} {x y : Outcome} → Does w a s t x y → Adds s.heap s.last x
does_adds (fault n) = (grows_none _, refl)
does_adds (spent x) = tt
does_adds (full b) = (built_grows _ _ _ _ b.gives, refl)
does_adds (push h l) = (grows_none _, refl)
does_adds (answer b p) = (grows_none _, refl)
does_adds (compare b k l h) = (grows_none _, refl)
does_adds (fall b) = (grows_none _, refl)
does_adds (leap b) = (grows_none _, refl)
does_adds (call i n b l h g) = (grows_none _, refl)
does_adds (build b l) = (built_grows _ _ _ _ b.gives, refl)
does_adds (field p i b e) = (grows_none _, refl)
does_adds (back b e) = (grows_none _, refl)
does_adds (home b e) = (refl, refl)

stepped_adds : {w : World} {s t : State} {x y : Outcome} → Stepped w s t x y → Adds s.heap s.last x
stepped_adds (unpaid e x) = tt
stepped_adds (unread h n) = (grows_none _, refl)
stepped_adds (ran i a h l k e d) = does_adds d

pub step_adds : (w : World) (s : State) → Adds s.heap s.last (step_of w s)
step_adds w s = stepped_adds (step_one w s)
