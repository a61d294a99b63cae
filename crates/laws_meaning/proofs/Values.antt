-- Values that mean the same are of one kind, equally deep, compare alike, and their elements mean the same.
use Rattle.std.specs.Prelude.{if◌then◌else◌, Err, None, Ok, Option, Result, Some}
use mathlib.Core.Path.{◌≡◌, refl, sym, ap, ◌∙◌}
use mathlib.Core.Bool.{Bool, true, false}
use mathlib.Core.List.{List, [], ◌∷◌, reverse_aux}
use Prim.Native.Nat.{ℕ, zero, suc, ◌+◌, ◌≤◌, ◌<◌, max}
use native.Mathlib.Omega.{arith}
use borrow.Author.Tests.{ltb-true}
use lib.Dec.{ltb}
use lib.ListN.{length, get_or, take, drop}
use lib.Ieee.{Float}
use Rattle.model.specs.declared.Value.{Value}
use Rattle.model.specs.declared.Value.TheVariants as v
use Rattle.model.specs.declared.Fault.{Fault}
use Rattle.model.specs.Values.{text_at}
use Rattle.model.specs.Heap.{Cell, item_in, head_in, items, elements_in, field_of, depth_in, deepest, heap_ok}
use Rattle.model.specs.Trees.{Tree, scalar, boolean, string, reference, list, struct, Trees, none, more, trees_of, tree_of, meaning}
use Rattle.model.specs.Equality.{same_of}
use Rattle.cells.proofs.Order.{Every, nil, cons, every_map, Whole, Placed, list_of, struct_of, Good, good_of}
use Rattle.cells.proofs.Meaning.{equal_is_trees, lower, meaning_step}
use Rattle.laws_runs.specs.Sane.{AllPlaced, LastPlaced}
use Rattle.laws_runs.proofs.Placed.{field_placed}
use Rattle.laws_meaning.specs.Alike.{AlikeValue, AlikeValues, AlikeLast, Both}
use Rattle.laws_meaning.specs.Alike as a

-- the kind of a tree shows the kind of the value that means it
data Means (t : List ℕ) (H : List Cell) : Value → Tree → Type 0 where
  number : (x : Float) → Means t H (v.Scalar x) (scalar x)
  truth : (x : Bool) → Means t H (v.Boolean x) (boolean x)
  words : (o n : ℕ) {b : List ℕ} → Means t H (v.String o n) (string b)
  name : (o n : ℕ) {b : List ℕ} → text_at t o n ≡ b → Means t H (v.FunctionReference o n) (reference b)
  row : (p : ℕ) {us : Trees} → Means t H (v.List p) (list us)
  fields : (p : ℕ) {k : ℕ} {us : Trees} → trees_of (λ x. meaning t H x) (elements_in H p) ≡ us → Means t H (v.StructInstance p) (struct k us)

pub data Kinds (t t' : List ℕ) (H H' : List Cell) : Value → Value → Type 0 where
  scalars : (x : Float) → Kinds t t' H H' (v.Scalar x) (v.Scalar x)
  booleans : (x : Bool) → Kinds t t' H H' (v.Boolean x) (v.Boolean x)
  strings : {o n o' n' : ℕ} → Kinds t t' H H' (v.String o n) (v.String o' n')
  references : {o n o' n' : ℕ} → text_at t o n ≡ text_at t' o' n' → Kinds t t' H H' (v.FunctionReference o n) (v.FunctionReference o' n')
  lists : {p p' : ℕ} → Kinds t t' H H' (v.List p) (v.List p')
  structs : {p p' : ℕ} → trees_of (λ x. meaning t H x) (elements_in H p) ≡ trees_of (λ x. meaning t' H' x) (elements_in H' p') → Kinds t t' H H' (v.StructInstance p) (v.StructInstance p')

module _ (t : List ℕ) (H : List Cell) (g : Good (length t) H) where
  tree_means : (x : Value) → Means t H x (tree_of (λ u. meaning t H u) t H x)
  unfolding tree_of
  tree_means (v.Scalar x) = number x
  tree_means (v.Boolean x) = truth x
  tree_means (v.String o n) = words o n
  tree_means (v.FunctionReference o n) = name o n refl
  tree_means (v.List p) = row p
  tree_means (v.StructInstance p) = fields p refl

  means : (x : Value) → Placed (length t) H (length H) x → Means t H x (meaning t H x)
  means x f = rw (meaning_step t H g x f) (tree_means x)

-- ---- [depth] is the tree's

unfoldable mutual
  pub tree_depth : Tree → ℕ
  tree_depth (scalar x) = 0
  tree_depth (boolean x) = 0
  tree_depth (string b) = 0
  tree_depth (reference b) = 0
  tree_depth (list us) = suc (trees_depth us)
  tree_depth (struct k us) = suc (trees_depth us)

  pub trees_depth : Trees → ℕ
  trees_depth none = 0
  trees_depth (more u us) = max (tree_depth u) (trees_depth us)

module _ (t : List ℕ) (H : List Cell) (g : Good (length t) H) where
  abbrev Deep : Value → Type 0
  Deep x = depth_in H x ≡ tree_depth (meaning t H x)

  deepest_trees : {xs : List Value} → Every Deep xs → deepest H xs ≡ trees_depth (trees_of (λ x. meaning t H x) xs)
  unfolding deepest trees_of tree_depth
  deepest_trees nil = refl
  deepest_trees (cons e es) = rw (e, deepest_trees es)

  block_depth : (d p : ℕ) → Whole H p (length H) → (head_in H p).depth ≤ d → ((x : Value) → Placed (length t) H (length H) x → depth_in H x < d → Deep x)
      → (head_in H p).depth ≡ suc (trees_depth (trees_of (λ x. meaning t H x) (elements_in H p)))
  block_depth d p w l on =
      (g p w.headed).deep ∙ ap suc (deepest_trees (every_map (λ x i. on x i.0 (let z = i.1 in omega arith)) (lower t H g p w)))

  module _ (d : ℕ) (on : (y : Value) → Placed (length t) H (length H) y → depth_in H y < d → Deep y) where
    kind_depth : (x : Value) → Placed (length t) H (length H) x → depth_in H x ≤ d → depth_in H x ≡ tree_depth (tree_of (λ u. meaning t H u) t H x)
    unfolding depth_in tree_of tree_depth
    kind_depth (v.Scalar x) f l = refl
    kind_depth (v.Boolean x) f l = refl
    kind_depth (v.String o n) f l = refl
    kind_depth (v.FunctionReference o n) f l = refl
    kind_depth (v.List p) f l = block_depth d p (list_of (length t) H (length H) p f) l on
    kind_depth (v.StructInstance p) f l = block_depth d p (struct_of (length t) H (length H) p f) l on

    tree_depth_lem : (x : Value) → Placed (length t) H (length H) x → depth_in H x ≤ d → Deep x
    tree_depth_lem x f l = rw (meaning_step t H g x f) (kind_depth x f l)

  depth_to : (d : ℕ) (x : Value) → Placed (length t) H (length H) x → depth_in H x ≤ d → Deep x
  depth_to zero x f l = tree_depth_lem zero (λ y h z. absurd (let n : ⊥ = omega arith in n)) x f l
  depth_to (suc d) x f l = tree_depth_lem (suc d) (λ y h z. depth_to d y h (omega arith)) x f l

  pub deepest_is : {xs : List Value} → Every (Placed (length t) H (length H)) xs → deepest H xs ≡ trees_depth (trees_of (λ x. meaning t H x) xs)
  deepest_is f = deepest_trees (every_map (λ x h. depth_to (depth_in H x) x h (omega arith)) f)

-- ---- values, each placed in its heap, that mean the same

pub data Boths (t t' : List ℕ) (H H' : List Cell) : List Value → List Value → Type 0 where
  empty : Boths t t' H H' [] []
  over : {x x' : Value} {xs xs' : List Value} → Both t t' H H' x x' → Boths t t' H H' xs xs' → Boths t t' H H' (x ∷ xs) (x' ∷ xs')

pub data BothLast (t t' : List ℕ) (H H' : List Cell) : Option Value → Option Value → Type 0 where
  nothing : BothLast t t' H H' None None
  is : {x x' : Value} → Both t t' H H' x x' → BothLast t t' H H' (Some x) (Some x')

module _ {t t' : List ℕ} {H H' : List Cell} where
  pub boths_of : {xs xs' : List Value} → AlikeValues t t' H H' xs xs' → AllPlaced (length t) H xs → AllPlaced (length t') H' xs' → Boths t t' H H' xs xs'
  unfolding AllPlaced
  boths_of a.none p q = empty
  boths_of (a.more h hs) p q = over (record { alike = h; left = p.0; right = q.0 }) (boths_of hs p.1 q.1)

  pub last_of_lem : {l l' : Option Value} → AlikeLast t t' H H' l l' → LastPlaced (length t) H l → LastPlaced (length t') H' l' → BothLast t t' H H' l l'
  unfolding LastPlaced
  last_of_lem a.nothing p q = nothing
  last_of_lem (a.is h) p q = is (record { alike = h; left = p; right = q })

  -- what keeps values alike keeps a stack and a last result alike: over another text u, in other heaps
  module _ {u u' : List ℕ} {K K' : List Cell} (on : (x x' : Value) → Both t t' H H' x x' → AlikeValue u u' K K' x x') where
    pub values_on : {xs xs' : List Value} → Boths t t' H H' xs xs' → AlikeValues u u' K K' xs xs'
    values_on empty = a.none
    values_on (over b bs) = a.more (on _ _ b) (values_on bs)

    pub last_on : {l l' : Option Value} → BothLast t t' H H' l l' → AlikeLast u u' K K' l l'
    last_on nothing = a.nothing
    last_on (is b) = a.is (on _ _ b)

-- a constant, a slot, the last result or a field
pub data BothFound (t t' : List ℕ) (H H' : List Cell) : Result Value Fault → Result Value Fault → Type 0 where
  got : {x x' : Value} → Both t t' H H' x x' → BothFound t t' H H' (Ok x) (Ok x')
  bad : (n : Fault) → BothFound t t' H H' (Err n) (Err n)

-- found by the same test
pub found_if : (t t' : List ℕ) (H H' : List Cell) (b : Bool) (x x' : Value) (n : Fault) → (b ≡ true → Both t t' H H' x x')
    → BothFound t t' H H' (if b then Ok x else Err n) (if b then Ok x' else Err n)
found_if t t' H H' true x x' n f = got (f refl)
found_if t t' H H' false x x' n f = bad n

-- the elements of two blocks whose trees are the same
pub items_count : (m m' : Value → Tree) (H H' : List Cell) (n n' i i' : ℕ) → trees_of m (items n i H) ≡ trees_of m' (items n' i' H') → n ≡ n'
unfolding items trees_of
items_count m m' H H' zero zero i i' e = refl
items_count m m' H H' zero (suc n') i i' e = absurd (let z : ◌≡◌ {A = ℕ} 0 1 = cc in let y : ⊥ = omega arith in y)
items_count m m' H H' (suc n) zero i i' e = absurd (let z : ◌≡◌ {A = ℕ} 0 1 = cc in let y : ⊥ = omega arith in y)
items_count m m' H H' (suc n) (suc n') i i' e = ap suc (items_count m m' H H' n n' (suc i) (suc i') cc)

pub items_at : (m m' : Value → Tree) (H H' : List Cell) (n i i' : ℕ) → trees_of m (items n i H) ≡ trees_of m' (items n i' H') → (a : ℕ) → a < n → m (item_in H (i + a)) ≡ m' (item_in H' (i' + a))
unfolding items trees_of
items_at m m' H H' zero i i' e a l = absurd (let z : ⊥ = omega arith in z)
items_at m m' H H' (suc n) i i' e zero l = let z : i + 0 ≡ i = omega arith in let y : i' + 0 ≡ i' = omega arith in rw (z, y) cc
items_at m m' H H' (suc n) i i' e (suc a) l =
    let z : i + suc a ≡ suc i + a = omega arith in let y : i' + suc a ≡ suc i' + a = omega arith in rw (z, y) (items_at m m' H H' n (suc i) (suc i') (cc) a (omega arith))

module _ (t t' : List ℕ) (H H' : List Cell) where
  pub every_left : {xs xs' : List Value} → Boths t t' H H' xs xs' → Every (Placed (length t) H (length H)) xs
  every_left empty = nil
  every_left (over b bs) = cons b.left (every_left bs)

  pub every_right : {xs xs' : List Value} → Boths t t' H H' xs xs' → Every (Placed (length t') H' (length H')) xs'
  every_right empty = nil
  every_right (over b bs) = cons b.right (every_right bs)

  pub length_alike : {xs xs' : List Value} → Boths t t' H H' xs xs' → length xs ≡ length xs'
  length_alike empty = refl
  length_alike (over b bs) = ap suc (length_alike bs)

  pub trees_alike : {xs xs' : List Value} → Boths t t' H H' xs xs' → trees_of (λ x. meaning t H x) xs ≡ trees_of (λ x. meaning t' H' x) xs'
  unfolding trees_of
  trees_alike empty = refl
  trees_alike (over b bs) = rw (b.alike, trees_alike bs)

  pub at_alike : {xs xs' : List Value} → Boths t t' H H' xs xs' → (i : ℕ) → i < length xs → Both t t' H H' (get_or xs i (v.Boolean false)) (get_or xs' i (v.Boolean false))
  at_alike empty i l = absurd (let z : ⊥ = omega arith in z)
  at_alike (over b bs) zero l = b
  at_alike (over b bs) (suc i) l = at_alike bs i (omega arith)

  pub drop_alike : (n : ℕ) {xs xs' : List Value} → Boths t t' H H' xs xs' → Boths t t' H H' (drop n xs) (drop n xs')
  drop_alike zero bs = bs
  drop_alike (suc n) empty = empty
  drop_alike (suc n) (over b bs) = drop_alike n bs

  pub take_alike : (n : ℕ) {xs xs' : List Value} → Boths t t' H H' xs xs' → Boths t t' H H' (take n xs) (take n xs')
  take_alike zero bs = empty
  take_alike (suc n) empty = empty
  take_alike (suc n) (over b bs) = over b (take_alike n bs)

  pub turned_alike : {xs xs' ys ys' : List Value} → Boths t t' H H' xs xs' → Boths t t' H H' ys ys' → Boths t t' H H' (reverse_aux xs ys) (reverse_aux xs' ys')
  turned_alike empty c = c
  turned_alike (over b bs) c = turned_alike bs (over b c)

module _ (t t' : List ℕ) (H H' : List Cell) (e : heap_ok (length t) H ≡ true) (e' : heap_ok (length t') H' ≡ true) where
  one_kind : {x x' : Value} {u : Tree} → Means t H x u → Means t' H' x' u → Kinds t t' H H' x x'
  one_kind (number x) (number y) = scalars x
  one_kind (truth x) (truth y) = booleans x
  one_kind (words o n) (words o' n') = strings
  one_kind (name o n h) (name o' n' h') = references (h ∙ sym h')
  one_kind (row p) (row p') = lists
  one_kind (fields p h) (fields p' h') = structs (h ∙ sym h')

  pub kinds : {x x' : Value} → Both t t' H H' x x' → Kinds t t' H H' x x'
  kinds {x} {x'} b = one_kind (means t H (good_of _ H e) x b.left) (rw b.alike (means t' H' (good_of _ H' e') x' b.right))

  -- [equal] the same verdict, after as many pairs
  pub same_alike : {x x' y y' : Value} → Both t t' H H' x x' → Both t t' H H' y y' → same_of t H x y ≡ same_of t' H' x' y'
  same_alike {x} {x'} {y} {y'} b c =
      equal_is_trees t H e x y b.left c.left ∙ (rw (b.alike, c.alike) refl) ∙ sym (equal_is_trees t' H' e' x' y' b.right c.right)

  pub deepest_alike : {xs xs' : List Value} → Boths t t' H H' xs xs' → deepest H xs ≡ deepest H' xs'
  deepest_alike b =
      deepest_is t H (good_of _ H e) (every_left t t' H H' b) ∙ ap trees_depth (trees_alike t t' H H' b) ∙ sym (deepest_is t' H' (good_of _ H' e') (every_right t t' H H' b))

  -- [field] the same field, or none
  pub field_alike : {p p' : ℕ} → Both t t' H H' (v.StructInstance p) (v.StructInstance p') → trees_of (λ x. meaning t H x) (elements_in H p) ≡ trees_of (λ x. meaning t' H' x) (elements_in H' p')
      → (a : ℕ) → BothFound t t' H H' (field_of H p a) (field_of H' p' a)
  unfolding field_of elements_in
  field_alike {p} {p'} b q a =
      let c : (head_in H p).count ≡ (head_in H' p').count = items_count _ _ H H' _ _ (suc p) (suc p') q in
      rw (← c) (found_if t t' H H' (ltb a (head_in H p).count) _ _ _ (λ h. record {
        alike = items_at (λ x. meaning t H x) (λ x. meaning t' H' x) H H' (head_in H p).count (suc p) (suc p') (rw (← c) at q) a (ltb-true _ _ h);
        left = field_placed (length t) H e p a b.left (unfold field_of in rw h);
        right = field_placed (length t') H' e' p' a b.right (unfold field_of in rw (← c, h));
      }))
