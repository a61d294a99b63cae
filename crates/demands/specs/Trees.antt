-- Demand 2: values are trees, as the Rust has them.
use Rattle.std.specs.Prelude.{◌≡◌, true, List, ◌∷◌, ℕ, length, Ok}
use Rattle.model.specs.declared.Value.{Value}
use Rattle.model.specs.declared.Value.TheVariants as v
use Rattle.model.specs.Heap.{Cell, list_elements, struct_fields, built, build_of, field_of, placed_below}
use Rattle.model.specs.Equality.{same_of}
use Rattle.model.specs.Trees.{Tree, Trees, list, struct, trees_of, meaning, same_tree}
use Rattle.model.specs.Steps.{World, State}
use Rattle.model.specs.Runs.{Progress}
use Rattle.laws_runs.specs.Paths.{Steps}
use Rattle.cells.proofs.Meaning.{At}

-- the tree that a value means in a state
unfoldable pub means : World → State → Value → Tree
means w s x = meaning w.text s.heap x

-- what the steps do to values is what the Rust does to trees
pub record AsTrees (w : World) (s : State) : Type 0 where
  -- [equal] the verdict on the two topmost values, and the pairs visited, are those of their trees
  pub equal : (y x : Value) (r : List Value) → s.stack ≡ y ∷ x ∷ r → same_of w.text s.heap x y ≡ same_tree (means w s x) (means w s y)
  -- [build] a list or a struct of the n topmost values is the list or the struct of their trees
  pub list_built : (n : ℕ) (H : List Cell) → build_of w.cell_room s.heap 0 (list_elements n s.stack) ≡ built H
      → meaning w.text H (v.List (length s.heap)) ≡ list (trees_of (means w s) (list_elements n s.stack))
  pub struct_built : (k n : ℕ) (H : List Cell) → build_of w.cell_room s.heap k (struct_fields n s.stack) ≡ built H
      → meaning w.text H (v.StructInstance (length s.heap)) ≡ struct k (trees_of (means w s) (struct_fields n s.stack))
  -- [field] field i of the topmost struct is its tree number i
  pub field : (p i : ℕ) (r : List Value) (x : Value) → s.stack ≡ v.StructInstance p ∷ r → field_of s.heap p i ≡ Ok x
      → (k : ℕ) (us : Trees) → means w s (v.StructInstance p) ≡ struct k us → At us i (means w s x)
  -- what a value of s means, no later step changes
  pub later : {n : ℕ} {m k : Progress} {t : State} → Steps w n m s k t → (x : Value) → placed_below (length w.text) s.heap (length s.heap) x ≡ true → means w t x ≡ means w s x
