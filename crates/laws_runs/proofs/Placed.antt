-- Values stay placed: what pops leave of a stack, what cells behind a heap change, what a build and a field give.
use Rattle.std.specs.Prelude.{None, Ok, Option, Some}
use mathlib.Core.Path.{◌≡◌, refl, sym}
use mathlib.Core.Bool.{true, false}
use mathlib.Core.List.{List, [], ◌∷◌, ◌++◌, reverse_aux}
use Prim.Native.Nat.{ℕ, zero, suc, ◌≤◌, ◌<◌}
use native.Mathlib.Omega.{arith}
use borrow.Author.Tests.{ltb-true}
use lib.ListN.{length, get_or, take, drop, length-append}
use Rattle.model.specs.declared.Value.{Value}
use Rattle.model.specs.declared.Value.TheVariants as v
use Rattle.model.specs.Heap.{Cell, list_elements, struct_fields, field_of, head_in, heap_ok, placed_below}
use Rattle.model.specs.Steps.{World, State}
use Rattle.cells.proofs.Order.{Every, nil, cons, Placed, placed_more, struct_of, good_of}
use Rattle.cells.proofs.Frame.{placed_frame, length_new, Keeps, build_good, grown_of}
use Rattle.laws_runs.specs.Sane.{AllPlaced, LastPlaced}
use Rattle.laws_runs.specs.Paths.{Grows}
use Rattle.cells.proofs.Meaning.{got}
use Rattle.laws_runs.proofs.Does.{Below, here, under, Plain, number, truth, Makes, list, struct, Builds}

-- cells behind a heap change nothing below
pub grows_placed : (t : ℕ) {H H' : List Cell} → Grows H H' → (x : Value) → Placed t H (length H) x → Placed t H' (length H') x
grows_placed t {H} g x p =
    let X = g.more in
    rw g.is (placed_more t (H ++ X) (length H) (length (H ++ X)) (let z = length-append H X in omega arith) x (placed_frame H X (length H) (omega arith) t x p))

pub plain_placed : (t : ℕ) (H : List Cell) (b : ℕ) {x : Value} → Plain x → Placed t H b x
unfolding placed_below
plain_placed t H b (number x) = refl
plain_placed t H b (truth x) = refl

module _ (t : ℕ) (H : List Cell) where
  pub all_at : (vs : List Value) → AllPlaced t H vs → (i : ℕ) → i < length vs → Placed t H (length H) (get_or vs i (v.Boolean false))
  unfolding AllPlaced
  all_at [] a i l = absurd (let z : ⊥ = omega arith in z)
  all_at (x ∷ vs) a zero l = a.0
  all_at (x ∷ vs) a (suc i) l = all_at vs a.1 i (omega arith)

  pub all_below : {q vs : List Value} → Below q vs → AllPlaced t H vs → AllPlaced t H q
  unfolding AllPlaced
  all_below here a = a
  all_below (under b) a = all_below b a.1

  pub all_drop : (n : ℕ) (vs : List Value) → AllPlaced t H vs → AllPlaced t H (drop n vs)
  unfolding AllPlaced
  all_drop zero vs a = a
  all_drop (suc n) [] a = a
  all_drop (suc n) (x ∷ vs) a = all_drop n vs a.1

  every_take : (n : ℕ) (vs : List Value) → AllPlaced t H vs → Every (Placed t H (length H)) (take n vs)
  unfolding AllPlaced
  every_take zero vs a = nil
  every_take (suc n) [] a = nil
  every_take (suc n) (x ∷ vs) a = cons a.0 (every_take n vs a.1)

  every_turned : {us qs : List Value} → Every (Placed t H (length H)) us → Every (Placed t H (length H)) qs → Every (Placed t H (length H)) (reverse_aux us qs)
  every_turned nil e = e
  every_turned (cons p ps) e = every_turned ps (cons p e)

  pub every_made : {c : ℕ → Value} {elements : ℕ → List Value → List Value} {k : ℕ} → Makes c elements k → (n : ℕ) (vs : List Value) → AllPlaced t H vs
      → Every (Placed t H (length H)) (elements n vs)
  unfolding list_elements struct_fields
  every_made list n vs a = every_turned (every_take n vs a) nil
  every_made (struct k) n vs a = every_take n vs a

pub all_grows : (t : ℕ) {H H' : List Cell} → Grows H H' → (vs : List Value) → AllPlaced t H vs → AllPlaced t H' vs
unfolding AllPlaced
all_grows t g [] a = tt
all_grows t g (x ∷ vs) a = (grows_placed t g x a.0, all_grows t g vs a.1)

pub last_grows : (t : ℕ) {H H' : List Cell} → Grows H H' → (l : Option Value) → LastPlaced t H l → LastPlaced t H' l
unfolding LastPlaced
last_grows t g None a = tt
last_grows t g (Some x) a = grows_placed t g x a

made_placed : {t : ℕ} {H : List Cell} {k : ℕ} {H' : List Cell} {c : ℕ → Value} {elements : ℕ → List Value → List Value} → Makes c elements k → Keeps t H k H' → Placed t H' (length H') (c (length H))
made_placed list k = k.list refl
made_placed (struct n) k = k.struct

-- what a build gives: a good heap that fits, and a value placed in it
pub record Made (t room : ℕ) (x : Value) (H : List Cell) : Type 0 where
  pub fits : length H ≤ room
  pub good : heap_ok t H ≡ true
  pub placed : Placed t H (length H) x

pub built_made : (t : ℕ) {w : World} {s : State} {c : ℕ → Value} {elements : ℕ → List Value → List Value} {k n : ℕ} {H : List Cell}
    → heap_ok t s.heap ≡ true → AllPlaced t s.heap s.stack → Builds w s c elements k n H → Made t w.cell_room (c (length s.heap)) H
built_made t {w} {s} {elements = elements} {k = k} {n = n} {H = H} e a b =
    let us = elements n s.stack in
    let keeps = build_good t w.cell_room s.heap k us H e (every_made t s.heap b.makes n s.stack a) b.gives in
    let grown = grown_of w.cell_room s.heap k us H b.gives in
    record {
      fits = let y = grown.fits in let z = length_new s.heap k us in rw grown.is (omega arith);
      good = keeps.good;
      placed = made_placed b.makes keeps;
    }

-- the fields of a struct in a good heap are placed
pub field_placed : (t : ℕ) (H : List Cell) → heap_ok t H ≡ true → (p i : ℕ) {x : Value} → Placed t H (length H) (v.StructInstance p) → field_of H p i ≡ Ok x → Placed t H (length H) x
unfolding field_of
field_placed t H e p i {x} s q =
    let (b, z) = got _ _ _ _ q in
    let w = struct_of t H (length H) p s in
    let k = good_of t H e p w.headed in
    let l : i < (head_in H p).count = ltb-true _ _ b in
    rw (sym z) (placed_more t H p (length H) (let y = w.ends in omega arith) _ (k.element i l).placed)
