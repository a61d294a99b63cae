-- One program, wherever its texts lie: its constants mean the same.
use Rattle.std.specs.Prelude.{if◌then◌else◌}
use mathlib.Core.Path.{◌≡◌, refl, sym, ap, ◌∙◌}
use mathlib.Core.Bool.{Bool, true, false}
use mathlib.Core.List.{List, []}
use Prim.Native.Nat.{ℕ, zero, suc, ◌+◌, ◌≤◌}
use native.Mathlib.Omega.{arith}
use borrow.Author.Tests.{leb-true, eqb-false, eq-eqb}
use lib.Dec.{eqb, leb}
use lib.Ieee.{binary64, of_bits}
use lib.ListN.{length, take, drop, take-append-drop}
use lib.Seq.{length-take-le}
use Rattle.model.specs.declared.Counts.{Counts}
use Rattle.model.specs.Values.{text_at, value_of, kind_at, payload_at, value_at, values_from}
use Rattle.model.specs.Trees.{Tree, scalar, boolean, string, reference, tree_of, meaning_to, meaning}
use Rattle.model.specs.Programs.{Constant}
use Rattle.model.specs.Programs as p
use Rattle.model.specs.Stores.{start, size, part, constant_in, constants_from}
use Rattle.model.specs.Orders.{text_ok, inside_text, constant_ok, constants_ok}
use Rattle.layout.proofs.Bools.{either_way}
use Rattle.laws_programs.proofs.Known.{text_within, text_inside, constants_known}
use Rattle.laws_meaning.specs.Alike.{AlikeValues, none, more}
use Rattle.laws_meaning.proofs.Texts.{text_kept}

-- what a constant means
unfoldable constant_tree : Constant → Tree
constant_tree (p.scalar w) = scalar (of_bits binary64 w)
constant_tree (p.boolean b) = boolean b
constant_tree (p.string t) = string t
constant_tree (p.reference t) = reference t

module _ (c : Counts) (t : List ℕ) (h : text_ok c t ≡ true) where
  text_front : (a : ℕ) → start a + size a ≤ c.text → text_at (take c.text t) (start a) (size a) ≡ part t a
  unfolding part
  text_front a l =
      let n = c.text in
      let z : length (take n t) ≡ n = length-take-le n t (text_within c t h) in
      sym (text_kept (take n t) (drop n t) (start a) (size a) (omega arith)) ∙ ap (λ (u : List ℕ). text_at u (start a) (size a)) (take-append-drop n t)

  inside : (k : ℕ) (z : Bool) → (if leb k 3 then z else false) ≡ true → (leb k 3 ≡ true) × (z ≡ true)
  inside k z e = by (leb k 3) refl (sym e)
    where
      by : (b : Bool) → leb k 3 ≡ b → true ≡ (if b then z else false) → (leb k 3 ≡ true) × (z ≡ true)
      by true l q = (l, sym q)
      by false l q = absurd (let x : ◌≡◌ {A = ℕ} 0 1 = cc in let y : ⊥ = omega arith in y)

  text_means : (k a : ℕ) → (if leb k 3 then inside_text c a else false) ≡ true → text_at (take c.text t) (start a) (size a) ≡ part t a
  text_means k a e = text_front a (text_inside c a (inside k (inside_text c a) e).1)

  is_third : (k a : ℕ) → (if leb k 3 then inside_text c a else false) ≡ true → eqb k 0 ≡ false → eqb k 1 ≡ false → eqb k 2 ≡ false → eqb k 3 ≡ true
  is_third k a e x y z =
      let l : k ≤ 3 = leb-true k 3 (inside k (inside_text c a) e).0 in
      eq-eqb k 3 (third k l (eqb-false k 0 x) (eqb-false k 1 y) (eqb-false k 2 z))
    where
      third : (k : ℕ) → k ≤ 3 → (k ≡ 0 → ⊥) → (k ≡ 1 → ⊥) → (k ≡ 2 → ⊥) → k ≡ 3
      third k l x y z = omega arith

  constant_means : (k a : ℕ) → constant_ok c k a ≡ true → meaning (take c.text t) [] (value_of k a) ≡ constant_tree (constant_in t k a)
  unfolding meaning meaning_to tree_of value_of constant_in constant_ok constant_tree start size
  constant_means k a e =
      either_way (eqb k 0) (λ x. rw x) (λ x.
      either_way (eqb k 1) (λ y. rw (x, y)) (λ y.
      let i : (if leb k 3 then inside_text c a else false) ≡ true = rw (x, y) at e in
      either_way (eqb k 2) (λ z. rw (x, y, z) (ap string (text_means k a i))) (λ z. rw (x, y, z, is_third k a i x y z) (ap reference (text_means k a i)))))

-- constants from i on
module _ (c : Counts) (t t' cs cs' : List ℕ) (h : text_ok c t ≡ true) (h' : text_ok c t' ≡ true) (k : constants_ok c cs ≡ true) (k' : constants_ok c cs' ≡ true) where
  from : (n i : ℕ) → i + n ≤ c.constants → constants_from n i cs' t' ≡ constants_from n i cs t → AlikeValues (take c.text t) (take c.text t') [] [] (values_from n i cs) (values_from n i cs')
  unfolding constants_from values_from value_at
  from zero i l e = none
  from (suc n) i l e =
      let one : constant_in t' (kind_at cs' i) (payload_at cs' i) ≡ constant_in t (kind_at cs i) (payload_at cs i) = cc in
      let rest : constants_from n (suc i) cs' t' ≡ constants_from n (suc i) cs t = cc in
      more
      (constant_means c t h (kind_at cs i) (payload_at cs i) ((constants_known c cs k).each i (omega arith)) ∙ ap constant_tree (sym one)
      ∙ sym (constant_means c t' h' (kind_at cs' i) (payload_at cs' i) ((constants_known c cs' k').each i (omega arith))))
      (from n (suc i) (omega arith) rest)

  pub constants_mean : constants_from c.constants 0 cs' t' ≡ constants_from c.constants 0 cs t
      → AlikeValues (take c.text t) (take c.text t') [] [] (values_from c.constants 0 cs) (values_from c.constants 0 cs')
  constants_mean e = from c.constants 0 (omega arith) e
