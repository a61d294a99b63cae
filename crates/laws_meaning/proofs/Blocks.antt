-- What a host reads of two values that mean the same: the same header, elements that mean the same, the same text.
use mathlib.Core.Path.{◌≡◌, sym, ap, ◌∙◌}
use mathlib.Core.Bool.{true}
use mathlib.Core.List.{List}
use Prim.Native.Nat.{ℕ, suc}
use native.Mathlib.Omega.{arith}
use lib.ListN.{length}
use Rattle.model.specs.declared.Value.TheVariants as v
use Rattle.model.specs.declared.Header.{Header}
use Rattle.model.specs.Values.{text_at}
use Rattle.model.specs.Heap.{Cell, head_in, elements_in, heap_ok}
use Rattle.model.specs.Trees.{trees_of, tree_of, meaning_to, meaning}
use Rattle.cells.proofs.Order.{Whole, list_of, list_number, struct_of, placed_more, good_of}
use Rattle.cells.proofs.Meaning.{within, meaning_step}
use Rattle.laws_meaning.specs.Alike.{Both}
use Rattle.laws_meaning.specs.Blocks.{AlikeBlock}
use Rattle.laws_meaning.proofs.Values.{trees_depth, deepest_is, items_count, items_at}

same_header : (a b : Header) → a.count ≡ b.count → a.number ≡ b.number → a.depth ≡ b.depth → a ≡ b
same_header a b x y z = rw (x, y, z)

module _ (t t' : List ℕ) (H H' : List Cell) (e : heap_ok (length t) H ≡ true) (e' : heap_ok (length t') H' ≡ true) (p p' : ℕ) where
  abbrev T : Type 0
  T = trees_of (λ x. meaning t H x) (elements_in H p) ≡ trees_of (λ x. meaning t' H' x) (elements_in H' p')

  block_alike : Whole H p (length H) → Whole H' p' (length H') → (head_in H p).number ≡ (head_in H' p').number → T → AlikeBlock t t' H H' p p'
  unfolding elements_in
  block_alike w w' n q =
      let g = good_of (length t) H e in
      let g' = good_of (length t') H' e' in
      let c : (head_in H p).count ≡ (head_in H' p').count = items_count _ _ H H' _ _ (suc p) (suc p') q in
      let d : (head_in H p).depth ≡ (head_in H' p').depth = (g p w.headed).deep
      ∙ ap suc (deepest_is t H g (within (length t) H g p w) ∙ ap trees_depth q ∙ sym (deepest_is t' H' g' (within (length t') H' g' p' w')))
      ∙ sym (g' p' w'.headed).deep in
      record {
        header = sym (same_header (head_in H p) (head_in H' p') c n d);
        element = λ i l. record {
          alike = items_at (λ x. meaning t H x) (λ x. meaning t' H' x) H H' (head_in H p).count (suc p) (suc p') (rw (← c) at q) i l;
          left = placed_more (length t) H p (length H) (let z = w.ends in omega arith) _ ((g p w.headed).element i l).placed;
          right = placed_more (length t') H' p' (length H') (let z = w'.ends in omega arith) _ ((g' p' w'.headed).element i (rw (← c) l)).placed;
        };
      }

  pub lists_alike : Both t t' H H' (v.List p) (v.List p') → AlikeBlock t t' H H' p p'
  unfolding tree_of
  lists_alike b =
      let z = sym (meaning_step t H (good_of _ H e) (v.List p) b.left) ∙ b.alike ∙ meaning_step t' H' (good_of _ H' e') (v.List p') b.right in
      block_alike (list_of (length t) H (length H) p b.left) (list_of (length t') H' (length H') p' b.right)
      (list_number (length t) H (length H) p b.left ∙ sym (list_number (length t') H' (length H') p' b.right)) (let y : T = cc in y)

  pub structs_alike : Both t t' H H' (v.StructInstance p) (v.StructInstance p') → AlikeBlock t t' H H' p p'
  unfolding tree_of
  structs_alike b =
      let z = sym (meaning_step t H (good_of _ H e) (v.StructInstance p) b.left) ∙ b.alike ∙ meaning_step t' H' (good_of _ H' e') (v.StructInstance p') b.right in
      block_alike (struct_of (length t) H (length H) p b.left) (struct_of (length t') H' (length H') p' b.right)
      (let y : (head_in H p).number ≡ (head_in H' p').number = cc in y) (let y : T = cc in y)

pub strings_alike : (t t' : List ℕ) (H H' : List Cell) {o n o' n' : ℕ} → Both t t' H H' (v.String o n) (v.String o' n') → text_at t o n ≡ text_at t' o' n'
unfolding meaning meaning_to tree_of
strings_alike t t' H H' b = let z = b.alike in cc

pub references_alike : (t t' : List ℕ) (H H' : List Cell) {o n o' n' : ℕ} → Both t t' H H' (v.FunctionReference o n) (v.FunctionReference o' n') → text_at t o n ≡ text_at t' o' n'
unfolding meaning meaning_to tree_of
references_alike t t' H H' b = let z = b.alike in cc
