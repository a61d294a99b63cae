-- The arms that look into cells, of which the Rust knows nothing: `==`, a field, a struct and a list built.
use Rattle.std.specs.Prelude.{if◌then◌else◌, Err, Ok}
use mathlib.Core.Path.{◌≡◌, refl, sym, ap, subst, ◌∙◌}
use mathlib.Core.Bool.{Bool, true, false}
use mathlib.Core.List.{List, [], ◌∷◌, ◌++◌, reverse}
use Prim.Native.Nat.{ℕ, suc, ◌+◌, ◌≤◌, ◌<◌}
use native.Mathlib.Omega.{arith}
use borrow.Author.Tests.{ltb-true, ltb-false}
use lib.Dec.{ltb, leb}
use lib.ListN.{length, take, drop}
use Rattle.model.specs.declared.Value.{Value}
use Rattle.model.specs.declared.Value.TheVariants as v
use Rattle.model.specs.declared.Fault.TheVariants as f
use Rattle.model.specs.Heap.{Cell, built, unbuilt, build_of, block_of, deepest, head_in, elements_in, item_in, field_of, list_elements, struct_fields}
use Rattle.model.specs.Equality.{Same}
use Rattle.model.specs.Trees.{Tree, trees_of, tree_of, meaning_to, meaning, boolean, list, struct, none as end}
use Rattle.model.specs.Steps.{World, State, went, faulted, short, with_stack, with_heap, paid, pushing, on_found, on_same, equal_step, on_built, build_step, struct_step, field_step}
use Rattle.cells.proofs.Order.{Placed, good_of}
use Rattle.cells.proofs.Meaning.{equal_is_trees, meaning_step, new_list, new_struct, field_is, length_elements}
use Rattle.laws_runs.specs.Sane.{AllPlaced}
use Rattle.laws_runs.specs.Paths.{Grows}
use Rattle.laws_runs.proofs.Does as does
use Rattle.laws_runs.proofs.Adds.{built_grows}
use Rattle.laws_runs.proofs.Placed.{all_drop, every_made}
use Rattle.laws_rust.specs.Vm as rust
use Rattle.laws_rust.specs.Vm.{Did, panic, push}
use Rattle.laws_rust.specs.Same.{rust_of, rust_at, Panics, FaultsAs, Agrees}
use Rattle.laws_rust.proofs.Reading.{Orderly, agrees_as}
use Rattle.laws_rust.proofs.Pops.{pop_agrees, struct_agrees}
use Rattle.laws_rust.proofs.Equal.{Says, says, equal_says}
use Rattle.laws_rust.proofs.Stacks.{stack_grown, last_grown, pushed_each, pushed_short, pushed_front, pushed_front_short, removed_at, removed_past}

module _ (w : World) (s : State) where
  -- what a value of s means
  abbrev tree : Value → Tree
  tree x = meaning w.text s.heap x

  -- ---- equality; of units the Rust knows nothing

  pays : (t : Bool → Bool) (q : List Value) {z : Same} {b : Bool} → Says z b → Agrees w (on_same t q s z) (rust.went (push (rust_at w (with_stack q s)) (boolean (t b))))
  unfolding on_same push rust_of meaning meaning_to tree_of Agrees FaultsAs
  pays t q (says {b = b} {k = k}) = on (leb k s.units)
    where
      on : (enough : Bool) → Agrees w (if enough then went (with_stack (v.Boolean (t b) ∷ q) (paid k s)) else short)
          (rust.went (push (rust_at w (with_stack q s)) (boolean (t b))))
      on true = refl
      on false = tt

  module _ (h : Orderly w s) where
    pub compares : (t : Bool → Bool) → Agrees w (equal_step t w s) (rust.comparison t (rust_at w s))
    unfolding equal_step rust.comparison AllPlaced
    compares t =
        pop_agrees w s s _ _ (λ y r e.
        pop_agrees w s (with_stack r s) _ _ (λ x q e'.
        let ps : AllPlaced (length w.text) s.heap (y ∷ x ∷ q) = subst (AllPlaced (length w.text) s.heap) (e ∙ ap (λ (us : List Value). y ∷ us) e') h.placed in
        pays t q (subst (λ (z : Same). Says z (rust.eq (tree x) (tree y))) (sym (equal_is_trees w.text s.heap h.heap x y ps.1.0 ps.0)) (equal_says (tree x) (tree y)))))

    -- ---- fields

    field_or : (p i : ℕ) (r : List Value) → Placed (length w.text) s.heap (length s.heap) (v.StructInstance p)
        → (b : Bool) → ltb i (head_in s.heap p).count ≡ b
        → Agrees w (on_found (if b then Ok (item_in s.heap (suc p + i)) else Err f.OutOfRange) s (λ x. went (with_stack (x ∷ r) s)))
        (rust.swap_remove (trees_of tree (elements_in s.heap p)) i (λ m. rust.went (push (rust_at w (with_stack r s)) m)))
    unfolding on_found push rust_of Agrees FaultsAs Panics
    field_or p i r placed true e =
        let means : tree (v.StructInstance p) ≡ struct (head_in s.heap p).number (trees_of tree (elements_in s.heap p)) =
        unfold tree_of in meaning_step w.text s.heap (good_of (length w.text) s.heap h.heap) (v.StructInstance p) placed in
        let found : field_of s.heap p i ≡ Ok (item_in s.heap (suc p + i)) = unfold field_of in rw e in
        removed_at _ (field_is w.text s.heap h.heap p i placed _ found _ _ means)
    field_or p i r placed false e =
        let n = length_elements s.heap p in
        agrees_as w (faulted f.OutOfRange s) (removed_past tree (elements_in s.heap p) i _ (omega (arith, ltb-false))) tt

    pub reads_field : (i : ℕ) → Agrees w (field_step i s)
        (rust.pop (rust_at w s) (λ m vm. rust.if_struct_instance m (λ n fields. rust.swap_remove fields i (λ x. rust.went (push vm x))) panic))
    unfolding field_step field_of AllPlaced
    reads_field i =
        pop_agrees w s s _ _ (λ x r e.
        let ps : AllPlaced (length w.text) s.heap (x ∷ r) = subst (AllPlaced (length w.text) s.heap) e h.placed in
        struct_agrees w s s.heap h.heap x ps.0 _ _ (λ p ex.
        field_or p i r (subst (Placed (length w.text) s.heap (length s.heap)) ex ps.0) (ltb i (head_in s.heap p).count) refl))

    -- ---- builds; of depth and cells the Rust knows nothing

    -- a value that is built stands over the values that are left, which mean what they did
    stands : (x : Value) (m : Tree) (r : List Value) (H : List Cell) → Grows s.heap H → AllPlaced (length w.text) s.heap r → meaning w.text H x ≡ m
        → Agrees w (pushing w x (with_stack r (with_heap H s))) (rust.went (push (rust_at w (with_stack r s)) m))
    unfolding pushing push rust_of Agrees FaultsAs
    stands x m r H more placed e = on (ltb (length r) w.stack_room)
      where
        on : (b : Bool) → Agrees w (if b then went (with_stack (x ∷ r) (with_heap H s)) else faulted f.StackFull (with_stack r (with_heap H s))) (rust.went (push (rust_at w (with_stack r s)) m))
        on true = rw (e, last_grown w.text h.heap more s.last h.last, stack_grown w.text h.heap more r placed) refl
        on false = tt

    built_or : (c : ℕ → Value) (k : ℕ) (us r : List Value) (m : Tree) → AllPlaced (length w.text) s.heap r
        → ((H : List Cell) → build_of w.cell_room s.heap k us ≡ built H → meaning w.text H (c (length s.heap)) ≡ m)
        → Agrees w (on_built w c r s (build_of w.cell_room s.heap k us)) (rust.went (push (rust_at w (with_stack r s)) m))
    unfolding on_built build_of Agrees FaultsAs
    built_or c k us r m placed means = on (ltb 64 (suc (deepest s.heap us))) (ltb w.cell_room (length s.heap + suc (length us))) refl
      where
        on : (deep full : Bool)
            → build_of w.cell_room s.heap k us ≡ (if deep then unbuilt f.TooDeep else (if full then unbuilt f.CellsFull else built (s.heap ++ block_of s.heap k us)))
            → Agrees w (on_built w c r s (if deep then unbuilt f.TooDeep else (if full then unbuilt f.CellsFull else built (s.heap ++ block_of s.heap k us))))
            (rust.went (push (rust_at w (with_stack r s)) m))
        on true full e = tt
        on false true e = tt
        on false false e = stands (c (length s.heap)) m r _ (built_grows w.cell_room s.heap k us e) placed (means _ e)

    -- n values are popped, or there are too few
    builds : (c : ℕ → Value) (elements : ℕ → List Value → List Value) (k n : ℕ) (d : Did) (m : Tree)
        → (n ≤ length s.stack → d ≡ rust.went (push (rust_at w (with_stack (drop n s.stack) s)) m)) → (length s.stack < n → d ≡ panic)
        → ((H : List Cell) → build_of w.cell_room s.heap k (elements n s.stack) ≡ built H → meaning w.text H (c (length s.heap)) ≡ m)
        → Agrees w (build_step w c elements k n s) d
    unfolding build_step
    builds c elements k n d m enough few means = on (ltb (length s.stack) n) refl
      where
        on : (b : Bool) → ltb (length s.stack) n ≡ b
            → Agrees w (if b then faulted f.TooFewValues s else on_built w c (drop n s.stack) s (build_of w.cell_room s.heap k (elements n s.stack))) d
        on true e = agrees_as w (faulted f.TooFewValues s) (few (ltb-true _ _ e)) (unfold Agrees FaultsAs Panics in tt)
        on false e =
            agrees_as w _ (enough (ltb-false _ _ e))
            (built_or c k (elements n s.stack) (drop n s.stack) m (all_drop (length w.text) s.heap n s.stack h.placed) means)

    pub builds_list : (n : ℕ) → Agrees w (build_step w v.List list_elements 0 n s) (rust.push_front_each n end (rust_at w s) (λ l vm. rust.went (push vm (list l))))
    unfolding rust_of trees_of list_elements
    builds_list n =
        builds v.List list_elements 0 n _ (list (trees_of tree (reverse (take n s.stack))))
        (λ l. pushed_front tree n s.stack [] (rust_at w s) _ l) (λ l. pushed_front_short tree n s.stack end (rust_at w s) _ l)
        (λ H q. new_list w.text w.cell_room s.heap 0 _ H h.heap (every_made (length w.text) s.heap does.list n s.stack h.placed) q refl)

    builds_struct : (k n : ℕ) → Agrees w (build_step w v.StructInstance struct_fields k n s) (rust.push_each n (rust_at w s) (λ fields vm. rust.went (push vm (struct k fields))))
    unfolding rust_of struct_fields
    builds_struct k n =
        builds v.StructInstance struct_fields k n _ (struct k (trees_of tree (take n s.stack)))
        (λ l. pushed_each tree n s.stack (rust_at w s) _ l) (λ l. pushed_short tree n s.stack (rust_at w s) _ l)
        (λ H q. new_struct w.text w.cell_room s.heap k _ H h.heap (every_made (length w.text) s.heap (does.struct k) n s.stack h.placed) q)

    pub builds_known_struct : (k n : ℕ)
        → Agrees w (struct_step w k n s) (if ltb k w.structs then rust.push_each n (rust_at w s) (λ fields vm. rust.went (push vm (struct k fields))) else panic)
    unfolding struct_step
    builds_known_struct k n = on (ltb k w.structs)
      where
        on : (b : Bool) → Agrees w (if b then build_step w v.StructInstance struct_fields k n s else faulted f.OutOfRange s)
            (if b then rust.push_each n (rust_at w s) (λ fields vm. rust.went (push vm (struct k fields))) else panic)
        on true = builds_struct k n
        on false = unfold Agrees FaultsAs Panics in tt
