-- Readings at places of an image: one behind another, and a loop over a series, whatever is read.
use mathlib.Core.Path.{◌≡◌, refl, sym, ap, subst, ◌∙◌}
use mathlib.Core.Bool.{Bool, true, false}
use mathlib.Core.List.{List, [], ◌∷◌, ◌++◌, append_assoc, append-nil}
use Prim.Native.Nat.{ℕ, suc, ◌+◌, ◌-◌, ◌<◌, ◌≤◌, ◌^◌}
use native.Mathlib.Omega.{arith}
use lib.ListN.{length, drop, length-drop, length-append}
use Rattle.model.specs.Numbers.{Step, got, bad, and_then, item, checked, number}
use Rattle.model.specs.Images.{joined, series}
use Rattle.number.specs.Links.{NumPost, num_of, Ahead}
use Rattle.image_judge.specs.Links.{Good, Bad}
use Rattle.number.proofs.Codes.{never}
use Rattle.laws_images.proofs.Codecs.{got_value}
use Rattle.laws_images.proofs.Written.{joined_more}
use Rattle.std.specs.Prelude.{None, Option, Some}

-- ---- a reading by itself

module _ {A : Type 0} {dec : List ℕ → Step A} {s : List ℕ} {at : ℕ} where
  pub bad_item : Bad dec s at at → Bad (λ b. item b (dec b)) s at at
  unfolding item
  bad_item h = record { means = rw h.means (ap bad (length-drop at s)); ahead = h.ahead; within = h.within }

  pub good_item : {next : ℕ} {a : A} → Good dec s at next a → Good (λ b. item b (dec b)) s at next a
  unfolding item
  good_item h = record { means = rw h.means; ahead = h.ahead; within = h.within }

  -- a test in an item: what fails it is named at the item's start
  pub bad_test : (t : A → Bool) {next : ℕ} {a : A} → Good dec s at next a → t a ≡ false → Bad (λ b. item b (checked t (dec b))) s at at
  unfolding item checked
  bad_test t h f = record { means = rw (h.means, f) (ap bad (length-drop at s)); ahead = omega arith; within = let x = h.ahead in let y = h.within in omega arith }

  pub bad_tested : (t : A → Bool) → Bad dec s at at → Bad (λ b. item b (checked t (dec b))) s at at
  unfolding item checked
  bad_tested t h = record { means = rw h.means (ap bad (length-drop at s)); ahead = h.ahead; within = h.within }

  pub good_test : (t : A → Bool) {next : ℕ} {a : A} → Good dec s at next a → t a ≡ true → Good (λ b. item b (checked t (dec b))) s at next a
  unfolding item checked
  good_test t h f = record { means = rw (h.means, f); ahead = h.ahead; within = h.within }

  -- a value under a constructor
  pub good_made : {C : Type 0} (mk : A → C) {next : ℕ} {a : A} → Good dec s at next a → Good (λ b. and_then (dec b) (λ x r. got (mk x) r)) s at next (mk a)
  unfolding and_then
  good_made mk h = record { means = rw h.means; ahead = h.ahead; within = h.within }

-- ---- one behind another

module _ {A B : Type 0} {dec : List ℕ → Step A} (k : A → List ℕ → Step B) {s : List ℕ} {at : ℕ} where
  pub bad_first : {o : ℕ} → Bad dec s at o → Bad (λ b. and_then (dec b) k) s at o
  unfolding and_then
  bad_first h = record { means = rw h.means; ahead = h.ahead; within = h.within }

  pub bad_second : {next : ℕ} {a : A} → Good dec s at next a → {o : ℕ} → Bad (k a) s next o → Bad (λ b. and_then (dec b) k) s at o
  unfolding and_then
  bad_second h g = record { means = rw h.means g.means; ahead = let x = h.ahead in let y = g.ahead in omega arith; within = g.within }

  pub good_both : {mid : ℕ} {a : A} → Good dec s at mid a → {next : ℕ} {c : B} → Good (k a) s mid next c → Good (λ b. and_then (dec b) k) s at next c
  unfolding and_then
  good_both h g = record { means = rw h.means g.means; ahead = let x = h.ahead in let y = g.ahead in omega arith; within = g.within }

-- ---- a number

module _ (s : List ℕ) (at : ℕ) (r : Option (ℕ × ℕ)) (p : NumPost s at r) where
  pub no_number_lem : at ≤ length s → r ≡ None → Bad number s at at
  no_number_lem h e = record { means = p.means ∙ ap (num_of s at) e; ahead = omega arith; within = h }

  pub a_number : (v next : ℕ) → r ≡ Some (v, next) → Good number s at next v
  a_number v next e =
      let a : Ahead (2 ^ 32) s at (Some (v, next)) = subst (Ahead (2 ^ 32) s at) e p.ahead in
      let a0 = a.0 in record { means = p.means ∙ ap (num_of s at) e; ahead = omega arith; within = a.1 }

-- ---- a series

unfoldable pub onto : {A : Type 0} → List A → Step (List A) → Step (List A)
onto d (got l r) = got (d ++ l) r
onto d (bad n) = bad n

pub onto_nil : {A : Type 0} (s : Step (List A)) → s ≡ onto [] s
unfolding onto
onto_nil (got l r) = refl
onto_nil (bad n) = refl

-- what is read next goes behind what was read
pub onto_more : {A : Type 0} (d x : List A) (s : Step (List A)) → onto d (and_then s (λ l q. got (x ++ l) q)) ≡ onto (d ++ x) s
unfolding onto and_then
onto_more d x (got l r) = ap (λ (y : List _). got y r) (sym (append_assoc d x l))
onto_more d x (bad n) = refl

pub onto_bad : {A : Type 0} (d : List A) (s : Step (List A)) (k : ℕ) → s ≡ bad k → onto d s ≡ bad k
unfolding onto
onto_bad d s k e = rw e

pub onto_got : {A : Type 0} (d : List A) (s : Step (List A)) (r : List ℕ) → s ≡ got [] r → onto d s ≡ got d r
unfolding onto
onto_got d s r e = rw e (ap (λ (x : List _). got x r) (append-nil d))

pub onto_only : {A : Type 0} (d : List A) (s : Step (List A)) (l : List A) (r : List ℕ) → onto d s ≡ got l r → (m : List A) × (l ≡ d ++ m)
unfolding onto
onto_only d (got x q) l r e = (x, sym (got_value e))
onto_only d (bad n) l r e = absurd (never e)

module _ {S A : Type 0} (dec : S → List ℕ → Step A) (next : S → A → S) (n : ℕ) (s₀ : S) (s : List ℕ) (at : ℕ) where
  -- `done` was read in i readings, and the rest is read at `cur` in the state x
  pub record Along (i : ℕ) (x : S) (cur : ℕ) (done : List A) : Type 0 where
    pub most : i ≤ n
    pub count : length done ≡ i
    pub means : series dec next n s₀ (drop at s) ≡ onto done (series dec next (n - i) x (drop cur s))
    pub ahead : at ≤ cur
    pub within : cur ≤ length s

  pub along_start : at ≤ length s → Along 0 s₀ at []
  along_start h = record {
    most = omega arith;
    count = refl;
    ahead = omega arith;
    within = h;
    means = let z : n - 0 ≡ n = omega arith in rw z (onto_nil (series dec next n s₀ (drop at s)));
  }

  module _ (i : ℕ) (x : S) (cur : ℕ) (done : List A) (h : Along i x cur done) where
    pub along_end : n ≤ i → Good (series dec next n s₀) s at cur done
    unfolding series
    along_end l = record {
      means = let z : n - i ≡ 0 = omega arith in h.means ∙ onto_got done _ (drop cur s) (rw z);
      ahead = h.ahead;
      within = h.within;
    }

    -- what was read is the front of the whole
    pub along_within : (k : List A) (r : List ℕ) → series dec next n s₀ (drop at s) ≡ got k r → (m : List A) × (k ≡ done ++ m)
    along_within k r e = onto_only done (series dec next (n - i) x (drop cur s)) k r (sym h.means ∙ e)

    module _ (l : i < n) where
      pub along_bad : (o : ℕ) → Bad (dec x) s cur o → Bad (series dec next n s₀) s at o
      unfolding series and_then
      along_bad o g = record {
        means = let z : n - i ≡ suc (n - (i + 1)) = omega arith in h.means ∙ onto_bad done _ (length s - o) (rw (z, g.means));
        ahead = let a = h.ahead in let b = g.ahead in omega arith;
        within = g.within;
      }

      pub along_step : (a : A) (to : ℕ) → Good (dec x) s cur to a → Along (i + 1) (next x a) to (done ++ (a ∷ []))
      unfolding series and_then
      along_step a to g = record {
        most = omega arith;
        count = length-append done (a ∷ []) ∙ (let z = h.count in omega arith);
        means = let z : n - i ≡ suc (n - (i + 1)) = omega arith in h.means ∙ rw (z, g.means) (onto_more done (a ∷ []) (series dec next (n - (i + 1)) (next x a) (drop to s)));
        ahead = let b = h.ahead in let d = g.ahead in omega arith;
        within = g.within;
      }

-- ---- what is joined of one more

pub joined_length : {A : Type 0} (f : A → List ℕ) (l : List A) (a : A) → length (joined f (l ++ (a ∷ []))) ≡ length (joined f l) + length (f a)
joined_length f l a = ap length (joined_more f l a) ∙ length-append (joined f l) (f a)

pub joined_append : {A : Type 0} (f : A → List ℕ) (l m : List A) → length (joined f (l ++ m)) ≡ length (joined f l) + length (joined f m)
unfolding joined
joined_append f [] m = omega arith
joined_append f (x ∷ l) m =
    let z = joined_append f l m in let a = length-append (f x) (joined f (l ++ m)) in let b = length-append (f x) (joined f l) in omega arith
