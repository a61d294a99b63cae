-- [meaning] What a value means, as the Rust has it: a tree.
use Rattle.std.specs.Prelude.{Bool, true, false, ◌&&◌, List, [], ◌∷◌, ℕ, zero, suc, eqb, Float, if◌then◌else◌}
use Rattle.std.specs.Bool.{beq}
use Rattle.std.specs.Float.Ieee as Ieee
use Rattle.model.specs.declared.Value.{Value}
use Rattle.model.specs.declared.Value.TheVariants as v
use Rattle.model.specs.Values.{text_at}
use Rattle.model.specs.Heap.{Cell, head_in, elements_in}
use Rattle.model.specs.Equality.{Same, said, and_next, same_bytes}

mutual
  pub data Tree : Type 0 where
    scalar : Float → Tree
    boolean : Bool → Tree
    string : List ℕ → Tree
    reference : List ℕ → Tree
    list : Trees → Tree
    struct : ℕ → Trees → Tree

  pub data Trees : Type 0 where
    none : Trees
    more : Tree → Trees → Trees

unfoldable pub trees_of : (Value → Tree) → List Value → Trees
trees_of r [] = none
trees_of r (v ∷ vs) = more (r v) (trees_of r vs)

-- a value's tree, where the trees of its elements are by r
unfoldable pub tree_of : (Value → Tree) → List ℕ → List Cell → Value → Tree
tree_of r t H (v.Scalar x) = scalar x
tree_of r t H (v.Boolean x) = boolean x
tree_of r t H (v.String o n) = string (text_at t o n)
tree_of r t H (v.FunctionReference o n) = reference (text_at t o n)
tree_of r t H (v.List p) = list (trees_of r (elements_in H p))
tree_of r t H (v.StructInstance p) = struct (head_in H p).number (trees_of r (elements_in H p))

-- elements inside elements are read d deep
unfoldable pub meaning_to : ℕ → List ℕ → List Cell → Value → Tree
meaning_to zero t H v = tree_of (λ u. list none) t H v
meaning_to (suc d) t H v = tree_of (λ u. meaning_to d t H u) t H v

-- no value is deeper than 64
unfoldable pub meaning : List ℕ → List Cell → Value → Tree
meaning t H v = meaning_to 64 t H v

-- ---- equality of trees

unfoldable pub size : Trees → ℕ
size none = 0
size (more t ts) = suc (size ts)

-- what to do with a tree of each kind
abbrev pub by_tree : Tree → (Float → Same) → (Bool → Same) → (List ℕ → Same) → (List ℕ → Same) → (Trees → Same) → (ℕ → Trees → Same) → Same
by_tree (scalar x) s b t r l i = s x
by_tree (boolean x) s b t r l i = b x
by_tree (string x) s b t r l i = t x
by_tree (reference x) s b t r l i = r x
by_tree (list us) s b t r l i = l us
by_tree (struct n us) s b t r l i = i n us

-- a tree of another kind is not the same
unfoldable pub is_scalar : Tree → (Float → Same) → Same
is_scalar u k = by_tree u k (λ x. said false) (λ x. said false) (λ x. said false) (λ us. said false) (λ n us. said false)

unfoldable pub is_boolean : Tree → (Bool → Same) → Same
is_boolean u k = by_tree u (λ x. said false) k (λ x. said false) (λ x. said false) (λ us. said false) (λ n us. said false)

unfoldable pub is_string : Tree → (List ℕ → Same) → Same
is_string u k = by_tree u (λ x. said false) (λ x. said false) k (λ x. said false) (λ us. said false) (λ n us. said false)

unfoldable pub is_reference : Tree → (List ℕ → Same) → Same
is_reference u k = by_tree u (λ x. said false) (λ x. said false) (λ x. said false) k (λ us. said false) (λ n us. said false)

unfoldable pub is_list : Tree → (Trees → Same) → Same
is_list u k = by_tree u (λ x. said false) (λ x. said false) (λ x. said false) (λ x. said false) k (λ n us. said false)

unfoldable pub is_struct : Tree → (ℕ → Trees → Same) → Same
is_struct u k = by_tree u (λ x. said false) (λ x. said false) (λ x. said false) (λ x. said false) (λ us. said false) k

unfoldable pub is_more : Trees → (Tree → Trees → Same) → Same
is_more none k = said true
is_more (more u us) k = k u us

unfoldable mutual
  pub same_tree : Tree → Tree → Same
  same_tree (scalar x) u = is_scalar u (λ y. said (Ieee.eq x y))
  same_tree (boolean x) u = is_boolean u (λ y. said (beq x y))
  same_tree (string s) u = is_string u (λ s'. said (same_bytes s s'))
  same_tree (reference s) u = is_reference u (λ s'. said (same_bytes s s'))
  same_tree (list ts) u = is_list u (λ us. if eqb (size ts) (size us) then same_trees ts us else said false)
  same_tree (struct n ts) u = is_struct u (λ m us. if eqb (size ts) (size us) && eqb n m then same_trees ts us else said false)

  pub same_trees : Trees → Trees → Same
  same_trees none us = said true
  same_trees (more t ts) us = is_more us (λ u us'. and_next (same_tree t u) (same_trees ts us'))

-- all that an example computes with here
unfoldable pub computes : Type 1
unfolding trees_of tree_of meaning_to meaning
computes = Type 0
