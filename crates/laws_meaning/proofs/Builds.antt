-- Two builds of elements that mean the same, with as many cells free: both are refused alike, or both give values that mean the same.
use mathlib.Core.Path.{◌≡◌, refl, sym, ap, ◌∙◌}
use mathlib.Core.Bool.{Bool, true, false}
use mathlib.Core.List.{List, ◌++◌}
use Prim.Native.Nat.{ℕ, suc, ◌+◌}
use native.Mathlib.Omega.{arith}
use borrow.Author.Tests.{ltb-true, ltb-false, lt-ltb, le-ltb}
use lib.Dec.{ltb}
use lib.ListN.{length}
use Rattle.model.specs.declared.Value.{Value}
use Rattle.model.specs.declared.Value.TheVariants as v
use Rattle.model.specs.declared.Fault.{Fault}
use Rattle.model.specs.declared.Fault.TheVariants as f
use Rattle.model.specs.Heap.{Cell, Built, built, unbuilt, build_of, block_of, deepest, heap_ok}
use Rattle.model.specs.Trees.{list, struct}
use Rattle.cells.proofs.Order.{same_test}
use Rattle.cells.proofs.Frame.{length_new}
use Rattle.cells.proofs.Meaning.{meaning_kept, new_list, new_struct}
use Rattle.laws_meaning.specs.Alike.{AlikeValue, SameFree, Both}
use Rattle.laws_meaning.proofs.Values.{Boths, every_left, every_right, length_alike, trees_alike, deepest_alike}

-- cells behind H and H' that take as much room and change no meaning; a list or struct stands where they begin
pub record BothGrow (t t' : List ℕ) (n n' : ℕ) (H H' : List Cell) (k : ℕ) (K K' : List Cell) : Type 0 where
  pub old : (x x' : Value) → Both t t' H H' x x' → AlikeValue t t' K K' x x'
  pub list : k ≡ 0 → AlikeValue t t' K K' (v.List (length H)) (v.List (length H'))
  pub struct : AlikeValue t t' K K' (v.StructInstance (length H)) (v.StructInstance (length H'))
  pub free : SameFree n n' K K'

pub data BothBuilt (t t' : List ℕ) (n n' : ℕ) (H H' : List Cell) (k : ℕ) : Built → Built → Type 0 where
  made : {K K' : List Cell} → BothGrow t t' n n' H H' k K K' → BothBuilt t t' n n' H H' k (built K) (built K')
  refused : (i : Fault) → BothBuilt t t' n n' H H' k (unbuilt i) (unbuilt i)

module _ (t t' : List ℕ) (n n' : ℕ) (H H' : List Cell) (e : heap_ok (length t) H ≡ true) (e' : heap_ok (length t') H' ≡ true) (free : SameFree n n' H H')
    (k : ℕ) {us us' : List Value} (b : Boths t t' H H' us us') where
  deep_test : ltb 64 (suc (deepest H us)) ≡ ltb 64 (suc (deepest H' us'))
  deep_test = ap (λ (d : ℕ). ltb 64 (suc d)) (deepest_alike t t' H H' e e' b)

  room_test : ltb n (length H + suc (length us)) ≡ ltb n' (length H' + suc (length us'))
  room_test =
      let l = length_alike t t' H H' b in
      let a = length H + suc (length us) in
      let a' = length H' + suc (length us') in
      same_test (ltb n a) (ltb n' a') (λ q. let z = ltb-true n a q in lt-ltb n' a' (omega arith)) (λ q. let z = ltb-false n a q in le-ltb n' a' (omega arith))

  both_grow : build_of n H k us ≡ built (H ++ block_of H k us) → build_of n' H' k us' ≡ built (H' ++ block_of H' k us') → BothGrow t t' n n' H H' k (H ++ block_of H k us) (H' ++ block_of H' k us')
  both_grow q q' =
      let trees = trees_alike t t' H H' b in
      let left = every_left t t' H H' b in
      let right = every_right t t' H H' b in
      record {
        old = λ x x' c. meaning_kept t H _ e x c.left ∙ c.alike ∙ sym (meaning_kept t' H' _ e' x' c.right);
        list = λ z. new_list t n H k us _ e left q z ∙ ap list trees ∙ sym (new_list t' n' H' k us' _ e' right q' z);
        struct = new_struct t n H k us _ e left q ∙ ap (struct k) trees ∙ sym (new_struct t' n' H' k us' _ e' right q');
        free = let l = length_alike t t' H H' b in let y = length_new H k us in let z = length_new H' k us' in omega arith;
      }

  built_by_lem : (x y : Bool) → ltb 64 (suc (deepest H us)) ≡ x → ltb n (length H + suc (length us)) ≡ y → BothBuilt t t' n n' H H' k (build_of n H k us) (build_of n' H' k us')
  unfolding build_of
  built_by_lem true y p q = rw (p, sym deep_test ∙ p) (refused f.TooDeep)
  built_by_lem false true p q = rw (p, sym deep_test ∙ p, q, sym room_test ∙ q) (refused f.CellsFull)
  built_by_lem false false p q = rw (p, sym deep_test ∙ p, q, sym room_test ∙ q) (made (both_grow (rw (p, q)) (rw (sym deep_test ∙ p, sym room_test ∙ q))))

  pub build_alike : BothBuilt t t' n n' H H' k (build_of n H k us) (build_of n' H' k us')
  build_alike = built_by_lem _ _ refl refl
