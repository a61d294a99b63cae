-- Equality of trees, which the rules count pairs of, is the Rust's `==`.
use Rattle.std.specs.Prelude.{if◌then◌else◌}
use mathlib.Core.Path.{◌≡◌, refl, ap}
use mathlib.Core.Bool.{Bool, true, false, ◌&&◌, and-false}
use mathlib.Core.List.{List, [], ◌∷◌}
use Prim.Native.Nat.{ℕ, suc}
use native.Mathlib.Omega.{arith}
use borrow.Author.Tests.{eqb-true, eqb-false}
use lib.Dec.{eqb}
use lib.Ieee.{Float}
use Rattle.model.specs.Equality.{Same, same, said, same_bytes, and_next}
use Rattle.model.specs.Trees.{Tree, Trees, scalar, boolean, string, reference, list, struct, none, more, size, by_tree, is_scalar, is_boolean, is_string, is_reference, is_list, is_struct}
use Rattle.model.specs.Trees.{is_more, same_tree, same_trees}
use Rattle.laws_rust.specs.Vm.{by_kind, if_quantity, if_boolean_lem, if_string_lem, if_function_reference, if_list_lem, if_struct_instance, eq_str, if_more, eq, eqs}

-- the verdict, whatever the pairs
pub data Says : Same → Bool → Type 0 where
  says : {b : Bool} {k : ℕ} → Says (same b k) b

pub bytes_are : (xs ys : List ℕ) → same_bytes xs ys ≡ eq_str xs ys
unfolding same_bytes eq_str
bytes_are [] [] = refl
bytes_are [] (y ∷ ys) = refl
bytes_are (x ∷ xs) [] = refl
bytes_are (x ∷ xs) (y ∷ ys) = ap (λ (b : Bool). eqb x y && b) (bytes_are xs ys)

says_bytes : (xs ys : List ℕ) → Says (said (same_bytes xs ys)) (eq_str xs ys)
says_bytes xs ys = rw (bytes_are xs ys) says

-- a tree of any kind
by_each : (u : Tree) {s : Float → Same} {b : Bool → Same} {t r : List ℕ → Same} {l : Trees → Same} {i : ℕ → Trees → Same}
    {s' : Float → Bool} {b' : Bool → Bool} {t' r' : List ℕ → Bool} {l' : Trees → Bool} {i' : ℕ → Trees → Bool}
    → ((x : Float) → Says (s x) (s' x)) → ((x : Bool) → Says (b x) (b' x)) → ((x : List ℕ) → Says (t x) (t' x)) → ((x : List ℕ) → Says (r x) (r' x))
    → ((us : Trees) → Says (l us) (l' us)) → ((n : ℕ) (us : Trees) → Says (i n us) (i' n us)) → Says (by_tree u s b t r l i) (by_kind u s' b' t' r' l' i')
by_each (scalar x) s b t r l i = s x
by_each (boolean x) s b t r l i = b x
by_each (string x) s b t r l i = t x
by_each (reference x) s b t r l i = r x
by_each (list us) s b t r l i = l us
by_each (struct n us) s b t r l i = i n us

says_both : {p q : Same} {x y : Bool} → Says p x → Says q y → Says (and_next p q) (x && y)
unfolding and_next
says_both (says {b = true}) says = says
says_both (says {b = false}) q = says

-- of as many trees as the other has, or the Rust's answer is no
sizes_apart : (ts us : Trees) → (size ts ≡ size us → ⊥) → eqs ts us ≡ false
unfolding size eq if_more
sizes_apart none none h = absurd (h refl)
sizes_apart none (more u us) h = refl
sizes_apart (more t ts) none h = refl
sizes_apart (more t ts) (more u us) h = rw (sizes_apart ts us (λ e. h (ap suc e))) (and-false (eq t u))

sized : (ts us : Trees) → (size ts ≡ size us → Says (same_trees ts us) (eqs ts us)) → Says (if eqb (size ts) (size us) then same_trees ts us else said false) (eqs ts us)
sized ts us as_many = on (eqb (size ts) (size us)) refl
  where
    on : (b : Bool) → eqb (size ts) (size us) ≡ b → Says (if b then same_trees ts us else said false) (eqs ts us)
    on true e = as_many (eqb-true _ _ e)
    on false e = rw (sizes_apart ts us (eqb-false _ _ e)) says

numbered : (m n : ℕ) (ts us : Trees) → (size ts ≡ size us → Says (same_trees ts us) (eqs ts us))
    → Says (if eqb (size ts) (size us) && eqb m n then same_trees ts us else said false) (eqb m n && eqs ts us)
numbered m n ts us as_many = on (eqb (size ts) (size us)) (eqb m n) refl
  where
    on : (b c : Bool) → eqb (size ts) (size us) ≡ b → Says (if b && c then same_trees ts us else said false) (c && eqs ts us)
    on true true e = as_many (eqb-true _ _ e)
    on true false e = says
    on false true e = rw (sizes_apart ts us (eqb-false _ _ e)) says
    on false false e = says

mutual
  unfolding same_tree size eq is_scalar is_boolean is_string is_reference is_list is_struct is_more if_quantity if_boolean_lem if_string_lem if_function_reference if_list_lem if_struct_instance if_more

  pub equal_says : (t u : Tree) → Says (same_tree t u) (eq t u)
  equal_says (scalar x) u = by_each u (λ y. says) (λ y. says) (λ y. says) (λ y. says) (λ us. says) (λ n us. says)
  equal_says (boolean x) u = by_each u (λ y. says) (λ y. says) (λ y. says) (λ y. says) (λ us. says) (λ n us. says)
  equal_says (string x) u = by_each u (λ y. says) (λ y. says) (λ y. says_bytes x y) (λ y. says) (λ us. says) (λ n us. says)
  equal_says (reference x) u = by_each u (λ y. says) (λ y. says) (λ y. says) (λ y. says_bytes x y) (λ us. says) (λ n us. says)
  equal_says (list ts) u = by_each u (λ y. says) (λ y. says) (λ y. says) (λ y. says) (λ us. sized ts us (λ h. trees_say ts us h)) (λ n us. says)
  equal_says (struct m ts) u = by_each u (λ y. says) (λ y. says) (λ y. says) (λ y. says) (λ us. says) (λ n us. numbered m n ts us (λ h. trees_say ts us h))

  trees_say : (ts us : Trees) → size ts ≡ size us → Says (same_trees ts us) (eqs ts us)
  trees_say none none h = says
  trees_say none (more u us) h = absurd (let z : ⊥ = omega arith in z)
  trees_say (more t ts) none h = absurd (let z : ⊥ = omega arith in z)
  trees_say (more t ts) (more u us) h = says_both (equal_says t u) (trees_say ts us (omega arith))
