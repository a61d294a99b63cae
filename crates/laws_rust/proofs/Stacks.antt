-- Lists of values and lists of what they mean: the bottom's slots, the shortened stack, what a build pops; and cells added above change none of it.
use Rattle.std.specs.Prelude.{None, Option, Some}
use mathlib.Core.Path.{◌≡◌, refl, sym, ap, ◌∙◌}
use mathlib.Core.Bool.{true, false}
use mathlib.Core.List.{List, [], ◌∷◌, map, reverse, reverse_aux}
use mathlib.Core.Logic.{⊎_elim}
use mathlib.Core.Option.{some}
use Prim.Native.Nat.{ℕ, zero, suc, ◌+◌, ◌-◌, ◌≤◌, ◌<◌}
use native.Mathlib.Omega.{arith}
use borrow.Author.Tests.{lt-ltb, le-ltb}
use lib.ListN.{length, get_or, take, drop, length-map, length-reverse_aux, get_or-map}
use Rattle.model.specs.declared.Value.{Value}
use Rattle.model.specs.declared.Value.TheVariants as v
use Rattle.model.specs.Heap.{Cell, heap_ok}
use Rattle.model.specs.Trees.{Tree, Trees, trees_of, meaning, more}
use Rattle.cells.proofs.Order.{by_less}
use Rattle.cells.proofs.Meaning.{meaning_kept, At, here, later}
use Rattle.laws_runs.specs.Sane.{AllPlaced, LastPlaced}
use Rattle.laws_runs.specs.Paths.{Grows}
use Rattle.laws_rust.specs.Vm.{Vm, Did, panic, index, pop, pop_from, push_each, push_front_each, swap_remove, truncate, with_stack_lem}
use Rattle.laws_rust.specs.Same.{last_in}
use Rattle.laws_rust.proofs.Reading.{index_there}

-- ---- cells added above

module _ (t : List ℕ) {H K : List Cell} (good : heap_ok (length t) H ≡ true) (g : Grows H K) where
  pub meaning_grown : (x : Value) → LastPlaced (length t) H (Some x) → meaning t K x ≡ meaning t H x
  unfolding LastPlaced
  meaning_grown x p = ap (λ (L : List Cell). meaning t L x) g.is ∙ meaning_kept t H g.more good x p

  pub stack_grown : (vs : List Value) → AllPlaced (length t) H vs → map (meaning t K) vs ≡ map (meaning t H) vs
  unfolding AllPlaced LastPlaced
  stack_grown [] a = refl
  stack_grown (x ∷ vs) a = rw (meaning_grown x a.0, stack_grown vs a.1)

  pub last_grown : (l : Option Value) → LastPlaced (length t) H l → last_in t K l ≡ last_in t H l
  last_grown None a = refl
  last_grown (Some x) a = ap some (meaning_grown x a)

-- ---- a slot, counted from the bottom

-- of a list turned over onto qs, place i behind those of xs is place i of qs
onto_rest : (xs qs : List Tree) (i : ℕ) (d : Tree) → get_or (reverse_aux xs qs) (length xs + i) d ≡ get_or qs i d
onto_rest [] qs i d = let z : 0 + i ≡ i = omega arith in ap (λ (j : ℕ). get_or qs j d) z
onto_rest (x ∷ xs) qs i d =
    let z : suc (length xs) + i ≡ length xs + suc i = omega arith in
    ap (λ (j : ℕ). get_or (reverse_aux xs (x ∷ qs)) j d) z ∙ onto_rest xs (x ∷ qs) (suc i) d

onto_front : (xs qs : List Tree) (i : ℕ) (d : Tree) → i < length xs → get_or (reverse_aux xs qs) (length xs - suc i) d ≡ get_or xs i d
onto_front [] qs i d h = absurd (let z : ⊥ = omega arith in z)
onto_front (x ∷ xs) qs zero d h =
    let z : suc (length xs) - 1 ≡ length xs + 0 = omega arith in
    ap (λ (j : ℕ). get_or (reverse_aux xs (x ∷ qs)) j d) z ∙ onto_rest xs (x ∷ qs) 0 d
onto_front (x ∷ xs) qs (suc i) d h =
    let z : suc (length xs) - suc (suc i) ≡ length xs - suc i = omega arith in
    ap (λ (j : ℕ). get_or (reverse_aux xs (x ∷ qs)) j d) z ∙ onto_front xs (x ∷ qs) i d (omega arith)

module _ (m : Value → Tree) where
  pub slot_there : (vs : List Value) (i : ℕ) (k : Tree → Did) → i < length vs → index (reverse (map m vs)) i k ≡ k (m (get_or vs (length vs - suc i) (v.Boolean false)))
  slot_there vs i k h =
      let n : length (map m vs) ≡ length vs = length-map vs m in
      let r : length (reverse (map m vs)) ≡ length (map m vs) + 0 = length-reverse_aux (map m vs) [] in
      let j : ℕ = length vs - suc i in
      let z : length (map m vs) - suc j ≡ i = omega arith in
      index_there (reverse (map m vs)) i (m (v.Boolean false)) k (omega arith)
      ∙ ap k (ap (λ (a : ℕ). get_or (reverse (map m vs)) a (m (v.Boolean false))) (sym z)
      ∙ onto_front (map m vs) [] j (m (v.Boolean false)) (omega arith)
      ∙ get_or-map m vs j (v.Boolean false))

  -- ---- the stack shortened to b values

  drop_map : (n : ℕ) (vs : List Value) → drop n (map m vs) ≡ map m (drop n vs)
  drop_map zero vs = refl
  drop_map (suc n) [] = refl
  drop_map (suc n) (x ∷ vs) = drop_map n vs

  pub truncated : (b : ℕ) (vs : List Value) → truncate b (map m vs) ≡ map m (drop (length vs - b) vs)
  unfolding truncate
  truncated b [] = ap (λ (n : ℕ). map m (drop n [])) (let z : 0 ≡ 0 - b = omega arith in z)
  truncated b (x ∷ vs) =
      let n : length (map m vs) ≡ length vs = length-map vs m in
      ⊎_elim
      (λ l. let z : suc (length vs) - b ≡ suc (length vs - b) = omega arith in rw (lt-ltb b (suc (length (map m vs))) (omega arith), z) (truncated b vs))
      (λ g. let z : suc (length vs) - b ≡ 0 = omega arith in rw (le-ltb b (suc (length (map m vs))) (omega arith), z) refl)
      (by_less b (suc (length vs)))

  -- ---- what a build pops: field 0 is popped first, the last element too

  pub pushed_each : (n : ℕ) (vs : List Value) (vm : Vm) (k : Trees → Vm → Did) → n ≤ length vs
      → push_each n (with_stack_lem (map m vs) vm) k ≡ k (trees_of m (take n vs)) (with_stack_lem (map m (drop n vs)) vm)
  unfolding push_each pop pop_from trees_of
  pushed_each zero vs vm k h = refl
  pushed_each (suc n) [] vm k h = absurd (let z : ⊥ = omega arith in z)
  pushed_each (suc n) (x ∷ vs) vm k h = pushed_each n vs vm (λ content vm'. k (more (m x) content) vm') (omega arith)

  pub pushed_short : (n : ℕ) (vs : List Value) (vm : Vm) (k : Trees → Vm → Did) → length vs < n → push_each n (with_stack_lem (map m vs) vm) k ≡ panic
  unfolding push_each pop pop_from
  pushed_short zero vs vm k h = absurd (let z : ⊥ = omega arith in z)
  pushed_short (suc n) [] vm k h = refl
  pushed_short (suc n) (x ∷ vs) vm k h = pushed_short n vs vm _ (omega arith)

  pub pushed_front : (n : ℕ) (vs us : List Value) (vm : Vm) (k : Trees → Vm → Did) → n ≤ length vs
      → push_front_each n (trees_of m us) (with_stack_lem (map m vs) vm) k ≡ k (trees_of m (reverse_aux (take n vs) us)) (with_stack_lem (map m (drop n vs)) vm)
  unfolding push_front_each pop pop_from trees_of
  pushed_front zero vs us vm k h = refl
  pushed_front (suc n) [] us vm k h = absurd (let z : ⊥ = omega arith in z)
  pushed_front (suc n) (x ∷ vs) us vm k h = pushed_front n vs (x ∷ us) vm k (omega arith)

  pub pushed_front_short : (n : ℕ) (vs : List Value) (l : Trees) (vm : Vm) (k : Trees → Vm → Did) → length vs < n → push_front_each n l (with_stack_lem (map m vs) vm) k ≡ panic
  unfolding push_front_each pop pop_from
  pushed_front_short zero vs l vm k h = absurd (let z : ⊥ = omega arith in z)
  pushed_front_short (suc n) [] l vm k h = refl
  pushed_front_short (suc n) (x ∷ vs) l vm k h = pushed_front_short n vs (more (m x) l) vm k (omega arith)

  -- ---- a field

  pub removed_past : (vs : List Value) (i : ℕ) (k : Tree → Did) → length vs ≤ i → swap_remove (trees_of m vs) i k ≡ panic
  unfolding swap_remove trees_of
  removed_past [] i k h = refl
  removed_past (x ∷ vs) zero k h = absurd (let z : ⊥ = omega arith in z)
  removed_past (x ∷ vs) (suc i) k h = removed_past vs i k (omega arith)

pub removed_at : {us : Trees} {i : ℕ} {u : Tree} (k : Tree → Did) → At us i u → swap_remove us i k ≡ k u
unfolding swap_remove
removed_at k here = refl
removed_at k (later a) = removed_at k a
