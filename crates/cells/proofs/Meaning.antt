-- What values mean: equality of values is equality of their trees, cells added above change no meaning, and what a build and a field mean.
use Rattle.std.specs.Prelude.{if◌then◌else◌, Err, Ok}
use mathlib.Core.Path.{◌≡◌, refl, sym, ap, ◌∙◌}
use mathlib.Core.Bool.{Bool, true, false, ◌&&◌}
use mathlib.Core.List.{List, [], ◌∷◌, ◌++◌}
use Prim.Native.Nat.{ℕ, zero, suc, ◌+◌, ◌<◌, ◌≤◌}
use native.Mathlib.Omega.{arith}
use borrow.Author.Tests.{eq-eqb, ltb-true}
use lib.Dec.{eqb, ltb}
use lib.ListN.{length}
use Rattle.model.specs.declared.Value.{Value}
use Rattle.model.specs.declared.Value.TheVariants as v
use Rattle.model.specs.declared.Header.{Header}
use Rattle.model.specs.declared.Fault.{Fault}
use Rattle.model.specs.Values.{if_scalar, if_boolean, if_string, if_reference, if_list, if_struct}
use Rattle.model.specs.Heap.{Cell, item_in, head_in, items, elements_in, field_of, depth_in, block_of, built, build_of, heap_ok}
use Rattle.model.specs.Equality.{Same, said, same_elements, same_blocks, same_pair, same_to, same_of}
use Rattle.model.specs.Trees.{Tree, Trees, list, struct, none, more, trees_of, tree_of, meaning_to, meaning, size, is_scalar, is_boolean, is_string, is_reference, is_list, is_struct, is_more, same_tree, same_trees}
use Rattle.cells.proofs.Order.{Every, nil, cons, every_map, Whole, Placed, list_of, list_number, struct_of, placed_more, inner, Good, good_of, depth_64}
use Rattle.cells.proofs.Frame.{head_of_lem, elements_frame, head_new, elements_new, grown_of, Keeps, build_good}

-- ---- equality of values is equality of trees

size_trees : (m : Value → Tree) (us : List Value) → size (trees_of m us) ≡ length us
unfolding size trees_of
size_trees m [] = refl
size_trees m (u ∷ us) = ap suc (size_trees m us)

length_items : (n i : ℕ) (H : List Cell) → length (items n i H) ≡ n
unfolding items
length_items zero i H = refl
length_items (suc n) i H = ap suc (length_items n (suc i) H)

pub length_elements : (H : List Cell) (p : ℕ) → length (elements_in H p) ≡ (head_in H p).count
unfolding elements_in
length_elements H p = length_items (head_in H p).count (suc p) H

-- the elements of the block at p are placed in the whole heap
pub within : (t : ℕ) (H : List Cell) → Good t H → (p : ℕ) → Whole H p (length H) → Every (Placed t H (length H)) (elements_in H p)
within t H g p w = every_map (λ u i. placed_more t H p (length H) (let z = w.ends in omega arith) u i.placed) (inner t H p (g p w.headed))

module _ (t : List ℕ) (H : List Cell) (g : Good (length t) H) (r : Value → Value → Same) (m : Value → Tree)
    (e : (x y : Value) → Placed (length t) H (length H) x → Placed (length t) H (length H) y → r x y ≡ same_tree (m x) (m y)) where
  elements_are : {xs ys : List Value} → Every (Placed (length t) H (length H)) xs → Every (Placed (length t) H (length H)) ys
      → same_elements r xs ys ≡ same_trees (trees_of m xs) (trees_of m ys)
  unfolding same_elements trees_of same_tree is_more
  elements_are nil fb = refl
  elements_are (cons fa fas) nil = refl
  elements_are (cons {u = a} fa fas) (cons {u = b} fb fbs) = rw (e a b fa fb, elements_are fas fbs)

  sizes_are : (p q : ℕ) → eqb (size (trees_of m (elements_in H p))) (size (trees_of m (elements_in H q))) ≡ eqb (head_in H p).count (head_in H q).count
  sizes_are p q =
      let a : size (trees_of m (elements_in H p)) ≡ (head_in H p).count = size_trees m (elements_in H p) ∙ length_elements H p in
      let b : size (trees_of m (elements_in H q)) ≡ (head_in H q).count = size_trees m (elements_in H q) ∙ length_elements H q in
      rw (a, b)

  structs_are : (p q : ℕ) → Whole H p (length H) → Whole H q (length H)
      → same_blocks r H p q ≡ same_tree (struct (head_in H p).number (trees_of m (elements_in H p))) (struct (head_in H q).number (trees_of m (elements_in H q)))
  unfolding same_blocks same_tree is_struct
  structs_are p q wp wq = rw (sizes_are p q, elements_are (within (length t) H g p wp) (within (length t) H g q wq))

  and_true : (x : Bool) → x && true ≡ x
  and_true true = refl
  and_true false = refl

  lists_are : (p q : ℕ) → Whole H p (length H) → Whole H q (length H) → (head_in H p).number ≡ 0 → (head_in H q).number ≡ 0
      → same_blocks r H p q ≡ same_tree (list (trees_of m (elements_in H p))) (list (trees_of m (elements_in H q)))
  unfolding same_blocks same_tree is_list
  lists_are p q wp wq np nq =
      rw (sizes_are p q, eq-eqb (head_in H p).number (head_in H q).number (np ∙ sym nq), and_true, elements_are (within (length t) H g p wp) (within (length t) H g q wq))

  pair_is : (a b : Value) → Placed (length t) H (length H) a → Placed (length t) H (length H) b → same_pair r t H a b ≡ same_tree (tree_of m t H a) (tree_of m t H b)
  unfolding same_pair if_scalar if_boolean if_string if_reference if_list if_struct tree_of same_tree is_scalar is_boolean is_string is_reference is_list is_struct
  pair_is (v.Scalar x) (v.Scalar y) fa fb = refl
  pair_is (v.Scalar x) (v.Boolean y) fa fb = refl
  pair_is (v.Scalar x) (v.String o n) fa fb = refl
  pair_is (v.Scalar x) (v.FunctionReference o n) fa fb = refl
  pair_is (v.Scalar x) (v.List q) fa fb = refl
  pair_is (v.Scalar x) (v.StructInstance q) fa fb = refl
  pair_is (v.Boolean x) (v.Scalar y) fa fb = refl
  pair_is (v.Boolean x) (v.Boolean y) fa fb = refl
  pair_is (v.Boolean x) (v.String o n) fa fb = refl
  pair_is (v.Boolean x) (v.FunctionReference o n) fa fb = refl
  pair_is (v.Boolean x) (v.List q) fa fb = refl
  pair_is (v.Boolean x) (v.StructInstance q) fa fb = refl
  pair_is (v.String o n) (v.Scalar y) fa fb = refl
  pair_is (v.String o n) (v.Boolean y) fa fb = refl
  pair_is (v.String o n) (v.String o' n') fa fb = refl
  pair_is (v.String o n) (v.FunctionReference o' n') fa fb = refl
  pair_is (v.String o n) (v.List q) fa fb = refl
  pair_is (v.String o n) (v.StructInstance q) fa fb = refl
  pair_is (v.FunctionReference o n) (v.Scalar y) fa fb = refl
  pair_is (v.FunctionReference o n) (v.Boolean y) fa fb = refl
  pair_is (v.FunctionReference o n) (v.String o' n') fa fb = refl
  pair_is (v.FunctionReference o n) (v.FunctionReference o' n') fa fb = refl
  pair_is (v.FunctionReference o n) (v.List q) fa fb = refl
  pair_is (v.FunctionReference o n) (v.StructInstance q) fa fb = refl
  pair_is (v.List p) (v.Scalar y) fa fb = refl
  pair_is (v.List p) (v.Boolean y) fa fb = refl
  pair_is (v.List p) (v.String o n) fa fb = refl
  pair_is (v.List p) (v.FunctionReference o n) fa fb = refl
  pair_is (v.List p) (v.List q) fa fb =
      lists_are p q (list_of (length t) H (length H) p fa) (list_of (length t) H (length H) q fb) (list_number (length t) H (length H) p fa) (list_number (length t) H (length H) q fb)
  pair_is (v.List p) (v.StructInstance q) fa fb = refl
  pair_is (v.StructInstance p) (v.Scalar y) fa fb = refl
  pair_is (v.StructInstance p) (v.Boolean y) fa fb = refl
  pair_is (v.StructInstance p) (v.String o n) fa fb = refl
  pair_is (v.StructInstance p) (v.FunctionReference o n) fa fb = refl
  pair_is (v.StructInstance p) (v.List q) fa fb = refl
  pair_is (v.StructInstance p) (v.StructInstance q) fa fb = structs_are p q (struct_of (length t) H (length H) p fa) (struct_of (length t) H (length H) q fb)

said_none : said true ≡ same_tree (list none) (list none)
unfolding same_tree is_list size
said_none = refl

same_to_lem : (t : List ℕ) (H : List Cell) → Good (length t) H → (d : ℕ) (a b : Value) → Placed (length t) H (length H) a → Placed (length t) H (length H) b
    → same_to d t H a b ≡ same_tree (meaning_to d t H a) (meaning_to d t H b)
unfolding same_to meaning_to
same_to_lem t H g zero a b fa fb = pair_is t H g (λ x y. said true) (λ u. list none) (λ x y hx hy. said_none) a b fa fb
same_to_lem t H g (suc d) a b fa fb = pair_is t H g (λ x y. same_to d t H x y) (λ u. meaning_to d t H u) (λ x y hx hy. same_to_lem t H g d x y hx hy) a b fa fb

pub equal_is_trees : (t : List ℕ) (H : List Cell) → heap_ok (length t) H ≡ true → (a b : Value) → Placed (length t) H (length H) a → Placed (length t) H (length H) b
    → same_of t H a b ≡ same_tree (meaning t H a) (meaning t H b)
unfolding same_of meaning
equal_is_trees t H e a b fa fb = same_to_lem t H (good_of (length t) H e) 64 a b fa fb

-- ---- cells added above

pub trees_agree : (r r' : Value → Tree) {us : List Value} → Every (λ u. r u ≡ r' u) us → trees_of r us ≡ trees_of r' us
unfolding trees_of
trees_agree r r' nil = refl
trees_agree r r' (cons e es) = rw (e, trees_agree r r' es)

module _ (t : List ℕ) (H X : List Cell) (g : Good (length t) H) where
  tree_frame : (r r' : Value → Tree) → ((u : Value) → Placed (length t) H (length H) u → r u ≡ r' u)
      → (u : Value) → Placed (length t) H (length H) u → tree_of r t (H ++ X) u ≡ tree_of r' t H u
  unfolding tree_of
  tree_frame r r' e (v.Scalar x) f = refl
  tree_frame r r' e (v.Boolean x) f = refl
  tree_frame r r' e (v.String o n) f = refl
  tree_frame r r' e (v.FunctionReference o n) f = refl
  tree_frame r r' e (v.List p) f =
      let w = list_of (length t) H (length H) p f in
      rw (elements_frame H X (length H) (omega arith) p w, trees_agree r r' (every_map e (within (length t) H g p w)))
  tree_frame r r' e (v.StructInstance p) f =
      let w = struct_of (length t) H (length H) p f in
      rw (head_of_lem H X (length H) (omega arith) p w, elements_frame H X (length H) (omega arith) p w, trees_agree r r' (every_map e (within (length t) H g p w)))

  meaning_to_lem : (d : ℕ) (u : Value) → Placed (length t) H (length H) u → meaning_to d t (H ++ X) u ≡ meaning_to d t H u
  unfolding meaning_to
  meaning_to_lem zero u f = tree_frame (λ x. list none) (λ x. list none) (λ x h. refl) u f
  meaning_to_lem (suc d) u f = tree_frame (λ x. meaning_to d t (H ++ X) x) (λ x. meaning_to d t H x) (λ x h. meaning_to_lem d x h) u f

pub meaning_kept : (t : List ℕ) (H X : List Cell) → heap_ok (length t) H ≡ true → (u : Value) → Placed (length t) H (length H) u → meaning t (H ++ X) u ≡ meaning t H u
unfolding meaning
meaning_kept t H X e u f = meaning_to_lem t H X (good_of (length t) H e) 64 u f

-- ---- 64 is deep enough: a value's meaning is made of its elements' meanings, and so is equality

module _ (t : List ℕ) (H : List Cell) (g : Good (length t) H) where
  -- an element that is less deep than its block
  abbrev Lower : Value → Value → Type 0
  Lower u x = Placed (length t) H (length H) x × (depth_in H x < depth_in H u)

  pub lower : (p : ℕ) → Whole H p (length H) → Every (λ x. Placed (length t) H (length H) x × (depth_in H x < (head_in H p).depth)) (elements_in H p)
  lower p w = every_map (λ x i. (placed_more (length t) H p (length H) (let z = w.ends in omega arith) x i.placed, i.lower)) (inner (length t) H p (g p w.headed))

  tree_fuel : (r r' : Value → Tree) (u : Value) → Placed (length t) H (length H) u → ((x : Value) → Lower u x → r x ≡ r' x) → tree_of r t H u ≡ tree_of r' t H u
  unfolding tree_of depth_in
  tree_fuel r r' (v.Scalar x) f e = refl
  tree_fuel r r' (v.Boolean x) f e = refl
  tree_fuel r r' (v.String o n) f e = refl
  tree_fuel r r' (v.FunctionReference o n) f e = refl
  tree_fuel r r' (v.List p) f e = ap list (trees_agree r r' (every_map e (lower p (list_of (length t) H (length H) p f))))
  tree_fuel r r' (v.StructInstance p) f e = ap (struct (head_in H p).number) (trees_agree r r' (every_map e (lower p (struct_of (length t) H (length H) p f))))

  meaning_fuel : (m n : ℕ) (u : Value) → Placed (length t) H (length H) u → depth_in H u ≤ m → depth_in H u ≤ n → meaning_to m t H u ≡ meaning_to n t H u
  unfolding meaning_to
  meaning_fuel zero zero u f a b = refl
  meaning_fuel zero (suc n) u f a b = tree_fuel (λ x. list none) (λ x. meaning_to n t H x) u f (λ x l. absurd (let z : ⊥ = (let y = l.1 in omega arith) in z))
  meaning_fuel (suc m) zero u f a b = tree_fuel (λ x. meaning_to m t H x) (λ x. list none) u f (λ x l. absurd (let z : ⊥ = (let y = l.1 in omega arith) in z))
  meaning_fuel (suc m) (suc n) u f a b = tree_fuel (λ x. meaning_to m t H x) (λ x. meaning_to n t H x) u f (λ x l. let y = l.1 in meaning_fuel m n x l.0 (omega arith) (omega arith))

  -- a value's tree, of the meanings of its elements
  pub meaning_step : (u : Value) → Placed (length t) H (length H) u → meaning t H u ≡ tree_of (λ x. meaning t H x) t H u
  unfolding meaning meaning_to
  meaning_step u f =
      tree_fuel (λ x. meaning_to 63 t H x) (λ x. meaning_to 64 t H x) u f
      (λ x l. let y = l.1 in let z = depth_64 (length t) H g (length H) u f in meaning_fuel 63 64 x l.0 (omega arith) (omega arith))

  -- the same of equality, where only the left elements' depths count
  elements_agree : (r r' : Value → Value → Same) (P : Value → Type 0) → ((x y : Value) → P x → Placed (length t) H (length H) y → r x y ≡ r' x y)
      → {xs ys : List Value} → Every P xs → Every (Placed (length t) H (length H)) ys → same_elements r xs ys ≡ same_elements r' xs ys
  unfolding same_elements
  elements_agree r r' P e nil fb = refl
  elements_agree r r' P e (cons fa fas) nil = refl
  elements_agree r r' P e (cons {u = a} fa fas) (cons {u = b} fb fbs) = rw (e a b fa fb, elements_agree r r' P e fas fbs)

  blocks_fuel : (r r' : Value → Value → Same) (p q : ℕ) → Whole H p (length H) → Whole H q (length H)
      → ((x y : Value) → Placed (length t) H (length H) x × (depth_in H x < (head_in H p).depth) → Placed (length t) H (length H) y → r x y ≡ r' x y) → same_blocks r H p q ≡ same_blocks r' H p q
  unfolding same_blocks
  blocks_fuel r r' p q wp wq e = rw (elements_agree r r' _ e (lower p wp) (within (length t) H g q wq))

  abbrev Agree : (Value → Value → Same) → (Value → Value → Same) → Value → Type 0
  Agree r r' a = (x y : Value) → Lower a x → Placed (length t) H (length H) y → r x y ≡ r' x y

  list_fuel : (r r' : Value → Value → Same) (p : ℕ) → Whole H p (length H) → (b : Value) → Placed (length t) H (length H) b → Agree r r' (v.List p)
      → same_pair r t H (v.List p) b ≡ same_pair r' t H (v.List p) b
  unfolding same_pair if_list depth_in
  list_fuel r r' p w (v.Scalar x) f e = refl
  list_fuel r r' p w (v.Boolean x) f e = refl
  list_fuel r r' p w (v.String o n) f e = refl
  list_fuel r r' p w (v.FunctionReference o n) f e = refl
  list_fuel r r' p w (v.List q) f e = blocks_fuel r r' p q w (list_of (length t) H (length H) q f) e
  list_fuel r r' p w (v.StructInstance q) f e = refl

  struct_fuel : (r r' : Value → Value → Same) (p : ℕ) → Whole H p (length H) → (b : Value) → Placed (length t) H (length H) b → Agree r r' (v.StructInstance p)
      → same_pair r t H (v.StructInstance p) b ≡ same_pair r' t H (v.StructInstance p) b
  unfolding same_pair if_struct depth_in
  struct_fuel r r' p w (v.Scalar x) f e = refl
  struct_fuel r r' p w (v.Boolean x) f e = refl
  struct_fuel r r' p w (v.String o n) f e = refl
  struct_fuel r r' p w (v.FunctionReference o n) f e = refl
  struct_fuel r r' p w (v.List q) f e = refl
  struct_fuel r r' p w (v.StructInstance q) f e = blocks_fuel r r' p q w (struct_of (length t) H (length H) q f) e

  pair_fuel : (r r' : Value → Value → Same) (a b : Value) → Placed (length t) H (length H) a → Placed (length t) H (length H) b → Agree r r' a → same_pair r t H a b ≡ same_pair r' t H a b
  unfolding same_pair
  pair_fuel r r' (v.Scalar x) b fa fb e = refl
  pair_fuel r r' (v.Boolean x) b fa fb e = refl
  pair_fuel r r' (v.String o n) b fa fb e = refl
  pair_fuel r r' (v.FunctionReference o n) b fa fb e = refl
  pair_fuel r r' (v.List p) b fa fb e = list_fuel r r' p (list_of (length t) H (length H) p fa) b fb e
  pair_fuel r r' (v.StructInstance p) b fa fb e = struct_fuel r r' p (struct_of (length t) H (length H) p fa) b fb e

  same_fuel : (m n : ℕ) (a b : Value) → Placed (length t) H (length H) a → Placed (length t) H (length H) b → depth_in H a ≤ m → depth_in H a ≤ n → same_to m t H a b ≡ same_to n t H a b
  unfolding same_to
  same_fuel zero zero a b fa fb x y = refl
  same_fuel zero (suc n) a b fa fb x y = pair_fuel (λ c d. said true) (λ c d. same_to n t H c d) a b fa fb (λ c d l h. absurd (let z : ⊥ = (let w = l.1 in omega arith) in z))
  same_fuel (suc m) zero a b fa fb x y = pair_fuel (λ c d. same_to m t H c d) (λ c d. said true) a b fa fb (λ c d l h. absurd (let z : ⊥ = (let w = l.1 in omega arith) in z))
  same_fuel (suc m) (suc n) a b fa fb x y =
      pair_fuel (λ c d. same_to m t H c d) (λ c d. same_to n t H c d) a b fa fb (λ c d l h. let w = l.1 in same_fuel m n c d l.0 h (omega arith) (omega arith))

  pub same_step : (a b : Value) → Placed (length t) H (length H) a → Placed (length t) H (length H) b → same_of t H a b ≡ same_pair (λ x y. same_of t H x y) t H a b
  unfolding same_of same_to
  same_step a b fa fb =
      pair_fuel (λ x y. same_to 63 t H x y) (λ x y. same_to 64 t H x y) a b fa fb
      (λ x y l h. let w = l.1 in let z = depth_64 (length t) H g (length H) a fa in same_fuel 63 64 x y l.0 h (omega arith) (omega arith))

-- ---- what a new list and a new struct mean

module _ (t : List ℕ) (room : ℕ) (H : List Cell) (k : ℕ) (us : List Value) (H' : List Cell)
    (e : heap_ok (length t) H ≡ true) (f : Every (Placed (length t) H (length H)) us) (q : build_of room H k us ≡ built H') where
  is : H' ≡ H ++ block_of H k us
  is = (grown_of room H k us H' q).is

  kept : Keeps (length t) H k H'
  kept = build_good (length t) room H k us H' e f q

  new_elements : elements_in H' (length H) ≡ us
  new_elements = rw is (elements_new H k us)

  new_number : (head_in H' (length H)).number ≡ k
  new_number = rw is (ap (λ (h : Header). h.number) (head_new H k us))

  new_trees : trees_of (λ u. meaning t H' u) us ≡ trees_of (λ u. meaning t H u) us
  new_trees = trees_agree (λ u. meaning t H' u) (λ u. meaning t H u) (every_map (λ u p. rw is (meaning_kept t H (block_of H k us) e u p)) f)

  pub new_list : k ≡ 0 → meaning t H' (v.List (length H)) ≡ list (trees_of (λ u. meaning t H u) us)
  unfolding tree_of
  new_list z = meaning_step t H' (good_of (length t) H' kept.good) (v.List (length H)) (kept.list z) ∙ ap list (ap (trees_of (λ u. meaning t H' u)) new_elements ∙ new_trees)

  pub new_struct : meaning t H' (v.StructInstance (length H)) ≡ struct k (trees_of (λ u. meaning t H u) us)
  unfolding tree_of
  new_struct =
      meaning_step t H' (good_of (length t) H' kept.good) (v.StructInstance (length H)) kept.struct
      ∙ ap (struct (head_in H' (length H)).number) (ap (trees_of (λ u. meaning t H' u)) new_elements ∙ new_trees)
      ∙ ap (λ (n : ℕ). struct n (trees_of (λ u. meaning t H u) us)) new_number

-- ---- what a field means

-- tree number a of some trees
pub data At : Trees → ℕ → Tree → Type 0 where
  here : {u : Tree} {us : Trees} → At (more u us) 0 u
  later : {u w : Tree} {us : Trees} {a : ℕ} → At us a u → At (more w us) (suc a) u

at_items : (m : Value → Tree) (H : List Cell) (n i a : ℕ) → a < n → At (trees_of m (items n i H)) a (m (item_in H (i + a)))
unfolding trees_of items
at_items m H zero i a h = absurd (let z : ⊥ = omega arith in z)
at_items m H (suc n) i zero h = let z : i + 0 ≡ i = omega arith in rw z here
at_items m H (suc n) i (suc a) h = let z : i + suc a ≡ suc i + a = omega arith in rw z (later (at_items m H n (suc i) a (omega arith)))

pub got : (b : Bool) (x y : Value) (n : Fault) → (if b then Ok x else Err n) ≡ Ok y → (b ≡ true) × (x ≡ y)
got true x y n e = (refl, cc)
got false x y n e = absurd (let z : ◌≡◌ {A = ℕ} 0 1 = cc in omega arith)

field_at : (H : List Cell) (p a : ℕ) (u : Value) → field_of H p a ≡ Ok u → (a < (head_in H p).count) × (item_in H (suc p + a) ≡ u)
unfolding field_of
field_at H p a u e = let z = got (ltb a (head_in H p).count) (item_in H (suc p + a)) u _ e in (ltb-true _ _ z.0, z.1)

pub field_is : (t : List ℕ) (H : List Cell) → heap_ok (length t) H ≡ true → (p a : ℕ) → Placed (length t) H (length H) (v.StructInstance p)
    → (u : Value) → field_of H p a ≡ Ok u → (k : ℕ) (us : Trees) → meaning t H (v.StructInstance p) ≡ struct k us → At us a (meaning t H u)
unfolding tree_of elements_in
field_is t H e p a f u q k us s =
    let z = field_at H p a u q in
    let y : struct (head_in H p).number (trees_of (λ x. meaning t H x) (items (head_in H p).count (suc p) H)) ≡ struct k us =
    sym (meaning_step t H (good_of (length t) H e) (v.StructInstance p) f) ∙ s in
    let w : trees_of (λ x. meaning t H x) (items (head_in H p).count (suc p) H) ≡ us = cc in
    rw (← w, ← z.1) (at_items (λ x. meaning t H x) H (head_in H p).count (suc p) a z.0)
