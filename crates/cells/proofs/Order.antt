-- What the test of good order says of a heap: the facts that the code and the theorems lean on.
use Rattle.std.specs.Prelude.{if◌then◌else◌}
use mathlib.Core.Path.{◌≡◌, refl, sym, ap, ◌∙◌, subst}
use mathlib.Core.Bool.{Bool, true, false, ◌&&◌, true≢false}
use mathlib.Core.Logic.{◌⊎◌, inl, inr, ⊎_elim}
use mathlib.Core.List.{List, [], ◌∷◌}
use Prim.Native.Nat.{ℕ, zero, suc, ◌+◌, ◌-◌, ◌<◌, ◌≤◌}
use native.Mathlib.Nat.{eq-or-lt_of_le}
use native.Mathlib.Omega.{arith}
use borrow.Author.Tests.{ltb-true, ltb-false, leb-true, le-leb, eqb-true, eq-eqb}
use lib.Dec.{eqb, leb, ltb}
use lib.ListN.{length, get_or, get_or-eq_default}
use Rattle.value.proofs.Coding.{and_left, and_right}
use Rattle.model.specs.declared.Value.{Value}
use Rattle.model.specs.declared.Value.TheVariants as v
use Rattle.model.specs.Heap.{Cell, item, head, is_head, item_of, cell_in, item_in, head_in, items, elements_in, depth_in, deepest, whole_below, placed_below, element_below, elements_below, block_ok, blocks_from, heap_ok}

-- ---- tests

pub and_both : (x y : Bool) → x ≡ true → y ≡ true → x && y ≡ true
and_both x y e f = rw e f

pub same_test : (x y : Bool) → (x ≡ true → y ≡ true) → (x ≡ false → y ≡ false) → x ≡ y
same_test true y f g = sym (f refl)
same_test false y f g = sym (g refl)

pub by_less : (a b : ℕ) → (a < b) ⊎ (b ≤ a)
by_less a b = on (ltb a b) refl
  where
    on : (z : Bool) → ltb a b ≡ z → (a < b) ⊎ (b ≤ a)
    on true e = inl (ltb-true a b e)
    on false e = inr (ltb-false a b e)

-- ---- every value of a list

pub data Every (P : Value → Type 0) : List Value → Type 0 where
  nil : Every P []
  cons : {u : Value} {us : List Value} → P u → Every P us → Every P (u ∷ us)

pub every_map : {P Q : Value → Type 0} → ((u : Value) → P u → Q u) → {us : List Value} → Every P us → Every Q us
every_map f nil = nil
every_map f (cons {u} p ps) = cons (f u p) (every_map f ps)

pub every_at : {P : Value → Type 0} {us : List Value} → Every P us → (k : ℕ) → k < length us → P (get_or us k (v.Boolean false))
every_at nil k h = absurd (let z : ⊥ = omega arith in z)
every_at (cons p ps) zero h = p
every_at (cons p ps) (suc k) h = every_at ps k (omega arith)

pub every_item : (P : Value → Type 0) (H : List Cell) (n i : ℕ) → ((k : ℕ) → k < n → P (item_in H (i + k))) → Every P (items n i H)
unfolding items
every_item P H zero i f = nil
every_item P H (suc n) i f =
    let z : i + 0 ≡ i = omega arith in
    cons (rw z at (f 0 (omega arith))) (every_item P H n (suc i) (λ k h. let y : i + suc k ≡ suc i + k = omega arith in rw y at (f (suc k) (omega arith))))

-- ---- where a list or a struct stands

-- a header at p, whose elements end at or below b
pub record Whole (H : List Cell) (p b : ℕ) : Type 0 where
  pub headed : is_head (cell_in H p) ≡ true
  pub ends : suc p + (head_in H p).count ≤ b

pub whole_of : (H : List Cell) (p b : ℕ) → whole_below H p b ≡ true → Whole H p b
unfolding whole_below
whole_of H p b e =
    let x = is_head (cell_in H p) in
    let y = leb (suc p + (head_in H p).count) b in
    record { headed = and_left x y e; ends = leb-true _ _ (and_right x y e) }

pub whole_to : (H : List Cell) (p b : ℕ) → Whole H p b → whole_below H p b ≡ true
unfolding whole_below
whole_to H p b w = and_both (is_head (cell_in H p)) (leb (suc p + (head_in H p).count) b) w.headed (le-leb _ _ w.ends)

abbrev pub Placed : ℕ → List Cell → ℕ → Value → Type 0
Placed t H b u = placed_below t H b u ≡ true

module _ (t : ℕ) (H : List Cell) (b p : ℕ) where
  pub list_of : Placed t H b (v.List p) → Whole H p b
  unfolding placed_below
  list_of e = whole_of H p b (and_left (whole_below H p b) (eqb (head_in H p).number 0) e)

  pub list_number : Placed t H b (v.List p) → (head_in H p).number ≡ 0
  unfolding placed_below
  list_number e = eqb-true _ _ (and_right (whole_below H p b) (eqb (head_in H p).number 0) e)

  pub list_to : Whole H p b → (head_in H p).number ≡ 0 → Placed t H b (v.List p)
  unfolding placed_below
  list_to w e = and_both (whole_below H p b) (eqb (head_in H p).number 0) (whole_to H p b w) (eq-eqb _ _ e)

  pub struct_of : Placed t H b (v.StructInstance p) → Whole H p b
  unfolding placed_below
  struct_of e = whole_of H p b e

  pub struct_to : Whole H p b → Placed t H b (v.StructInstance p)
  unfolding placed_below
  struct_to w = whole_to H p b w

whole_more : (H : List Cell) (p b c : ℕ) → b ≤ c → Whole H p b → Whole H p c
whole_more H p b c h w = record { headed = w.headed; ends = let z = w.ends in omega arith }

-- what is placed below b is placed below more
pub placed_more : (t : ℕ) (H : List Cell) (b c : ℕ) → b ≤ c → (u : Value) → Placed t H b u → Placed t H c u
unfolding placed_below
placed_more t H b c h (v.Scalar x) f = refl
placed_more t H b c h (v.Boolean x) f = refl
placed_more t H b c h (v.String o n) f = f
placed_more t H b c h (v.FunctionReference o n) f = f
placed_more t H b c h (v.List p) f = list_to t H c p (whole_more H p b c h (list_of t H b p f)) (list_number t H b p f)
placed_more t H b c h (v.StructInstance p) f = struct_to t H c p (whole_more H p b c h (struct_of t H b p f))

-- ---- a block

-- the cell at i: a value, placed below b
pub record Element (t : ℕ) (H : List Cell) (b i : ℕ) : Type 0 where
  pub plain : is_head (cell_in H i) ≡ false
  pub placed : Placed t H b (item_in H i)

element_of_lem : (t : ℕ) (H : List Cell) (b : ℕ) (c : Cell) → element_below t H b c ≡ true → (is_head c ≡ false) × Placed t H b (item_of c)
unfolding element_below
element_of_lem t H b (item u) e = (refl, e)
element_of_lem t H b (head h) e = absurd (true≢false (sym e))

element_to : (t : ℕ) (H : List Cell) (b : ℕ) (c : Cell) → is_head c ≡ false → Placed t H b (item_of c) → element_below t H b c ≡ true
unfolding element_below
element_to t H b (item u) e f = f
element_to t H b (head h) e f = absurd (true≢false e)

elements_of_lem : (t : ℕ) (H : List Cell) (b n i : ℕ) → elements_below t H b n i ≡ true → (k : ℕ) → k < n → Element t H b (i + k)
unfolding elements_below item_in
elements_of_lem t H b zero i e k h = absurd (let z : ⊥ = omega arith in z)
elements_of_lem t H b (suc n) i e zero h =
    let z : i + 0 ≡ i = omega arith in
    let f = element_of_lem t H b (cell_in H i) (and_left (element_below t H b (cell_in H i)) (elements_below t H b n (suc i)) e) in
    rw z (record { plain = f.0; placed = f.1 })
elements_of_lem t H b (suc n) i e (suc k) h =
    let z : i + suc k ≡ suc i + k = omega arith in
    rw z (elements_of_lem t H b n (suc i) (and_right (element_below t H b (cell_in H i)) (elements_below t H b n (suc i)) e) k (omega arith))

elements_to : (t : ℕ) (H : List Cell) (b n i : ℕ) → ((k : ℕ) → k < n → Element t H b (i + k)) → elements_below t H b n i ≡ true
unfolding elements_below item_in
elements_to t H b zero i f = refl
elements_to t H b (suc n) i f =
    let z : i + 0 ≡ i = omega arith in
    let x : Element t H b i = rw z at (f 0 (omega arith)) in
    and_both (element_below t H b (cell_in H i)) (elements_below t H b n (suc i)) (element_to t H b (cell_in H i) x.plain x.placed)
    (elements_to t H b n (suc i) (λ k h. let y : i + suc k ≡ suc i + k = omega arith in rw y at (f (suc k) (omega arith))))

pub record Block (t : ℕ) (H : List Cell) (p : ℕ) : Type 0 where
  pub whole : Whole H p (length H)
  pub element : (k : ℕ) → k < (head_in H p).count → Element t H p (suc p + k)
  pub deep : (head_in H p).depth ≡ suc (deepest H (elements_in H p))
  pub shallow : (head_in H p).depth ≤ 64

pub block_of_lem : (t : ℕ) (H : List Cell) (p : ℕ) → block_ok t H p ≡ true → Block t H p
unfolding block_ok
block_of_lem t H p e =
    let a = whole_below H p (length H) in
    let b = elements_below t H p (head_in H p).count (suc p) in
    let c = eqb (head_in H p).depth (suc (deepest H (elements_in H p))) in
    let d = leb (head_in H p).depth 64 in
    let abc = and_left (a && b && c) d e in
    let ab = and_left (a && b) c abc in
    record {
      whole = whole_of H p (length H) (and_left a b ab);
      element = elements_of_lem t H p (head_in H p).count (suc p) (and_right a b ab);
      deep = eqb-true _ _ (and_right (a && b) c abc);
      shallow = leb-true _ _ (and_right (a && b && c) d e);
    }

pub block_to : (t : ℕ) (H : List Cell) (p : ℕ) → Block t H p → block_ok t H p ≡ true
unfolding block_ok
block_to t H p k =
    let a = whole_below H p (length H) in
    let b = elements_below t H p (head_in H p).count (suc p) in
    let c = eqb (head_in H p).depth (suc (deepest H (elements_in H p))) in
    let d = leb (head_in H p).depth 64 in
    and_both (a && b && c) d
    (and_both (a && b) c (and_both a b (whole_to H p (length H) k.whole) (elements_to t H p (head_in H p).count (suc p) k.element)) (eq-eqb _ _ k.deep))
    (le-leb _ _ k.shallow)

-- ---- a heap

abbrev pub Good : ℕ → List Cell → Type 0
Good t H = (p : ℕ) → is_head (cell_in H p) ≡ true → Block t H p

past_end : (H : List Cell) (p : ℕ) → length H ≤ p → is_head (cell_in H p) ≡ false
unfolding cell_in
past_end H p h = ap is_head (get_or-eq_default H (item (v.Boolean false)) h)

-- a header from i on is the one at i, or stands past the block at i
module _ (t : ℕ) (H : List Cell) (i p : ℕ) (l : i ≤ p) (h : is_head (cell_in H p) ≡ true) where
  met : Block t H i → (suc i + (head_in H i).count ≤ p → Block t H p) → Block t H p
  met b on =
      ⊎_elim (λ same. subst (λ (x : ℕ). Block t H x) same b)
      (λ other. ⊎_elim
      (λ inside. absurd (true≢false (sym h ∙ (let z : suc i + (p - suc i) ≡ p = omega arith in rw z at (b.element (p - suc i) (omega arith)).plain))))
      on
      (by_less p (suc i + (head_in H i).count)))
      (eq-or-lt_of_le {n = i} {m = p} l)

  met_or_end : (y : Bool) → (y ≡ true → suc i + (head_in H i).count ≤ p → Block t H p) → (z : Bool) → eqb i (length H) ≡ z → (if z then true else block_ok t H i && y) ≡ true → Block t H p
  met_or_end y on true q e = absurd (true≢false (sym h ∙ past_end H p (let z : i ≡ length H = eqb-true _ _ q in omega arith)))
  met_or_end y on false q e = met (block_of_lem t H i (and_left (block_ok t H i) y e)) (on (and_right (block_ok t H i) y e))

heads : (f t : ℕ) (H : List Cell) (i : ℕ) → blocks_from f t H i ≡ true → (p : ℕ) → i ≤ p → is_head (cell_in H p) ≡ true → Block t H p
unfolding blocks_from
heads zero t H i e p l h = absurd (true≢false (sym h ∙ past_end H p (let z : i ≡ length H = eqb-true _ _ e in omega arith)))
heads (suc f) t H i e p l h =
    met_or_end t H i p l h (blocks_from f t H (suc i + (head_in H i).count)) (λ r past. heads f t H (suc i + (head_in H i).count) r p past h) (eqb i (length H)) refl e

-- in a heap in good order a block stands behind every header
pub good_of : (t : ℕ) (H : List Cell) → heap_ok t H ≡ true → Good t H
unfolding heap_ok
good_of t H e p h = heads (length H) t H 0 e p (omega arith) h

-- ---- depths

deep_at : (H : List Cell) (n i k : ℕ) → k < n → depth_in H (item_in H (i + k)) ≤ deepest H (items n i H)
unfolding items deepest
deep_at H zero i k h = absurd (let z : ⊥ = omega arith in z)
deep_at H (suc n) i zero h =
    let z : i + 0 ≡ i = omega arith in
    rw z (let x = depth_in H (item_in H i) in let y = deepest H (items n (suc i) H) in omega arith)
deep_at H (suc n) i (suc k) h =
    let z : i + suc k ≡ suc i + k = omega arith in
    let y = deep_at H n (suc i) k (omega arith) in
    rw z (let x = depth_in H (item_in H i) in omega arith)

-- an element of the block at p
pub record Inner (t : ℕ) (H : List Cell) (p : ℕ) (u : Value) : Type 0 where
  pub placed : Placed t H p u
  pub lower : depth_in H u < (head_in H p).depth

pub inner_at : (t : ℕ) (H : List Cell) (p : ℕ) → Block t H p → (k : ℕ) → k < (head_in H p).count → Inner t H p (item_in H (suc p + k))
unfolding elements_in
inner_at t H p b k h = record {
  placed = (b.element k h).placed;
  lower = let x = deep_at H (head_in H p).count (suc p) k h in let y = b.deep in omega arith;
}

pub inner : (t : ℕ) (H : List Cell) (p : ℕ) → Block t H p → Every (Inner t H p) (elements_in H p)
unfolding elements_in
inner t H p b = every_item (Inner t H p) H (head_in H p).count (suc p) (inner_at t H p b)

-- no placed value is deeper than 64
pub depth_64 : (t : ℕ) (H : List Cell) → Good t H → (b : ℕ) (u : Value) → Placed t H b u → depth_in H u ≤ 64
unfolding depth_in
depth_64 t H g b (v.Scalar x) f = omega arith
depth_64 t H g b (v.Boolean x) f = omega arith
depth_64 t H g b (v.String o n) f = omega arith
depth_64 t H g b (v.FunctionReference o n) f = omega arith
depth_64 t H g b (v.List p) f = (g p (list_of t H b p f).headed).shallow
depth_64 t H g b (v.StructInstance p) f = (g p (struct_of t H b p f).headed).shallow
