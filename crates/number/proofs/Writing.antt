-- The loop of `write_number`: what is left to be written completes the whole.
use mathlib.Core.Path.{◌≡◌, refl, sym, ap, ◌∙◌}
use mathlib.Core.List.{List, [], ◌∷◌}
use Prim.Native.Nat.{ℕ, suc, ◌+◌, ◌/◌, ◌%◌, ◌≤◌, ◌<◌, ◌^◌}
use native.Mathlib.Omega.{arith}
use native.Mathlib.Numerals.{add-one}
use lib.ListN.{length, set, length-set}
use Rattle.model.specs.Numbers.{digits}
use Rattle.model.specs.Basics.{written}
use Rattle.number.specs.Links.{WritePost}
use Rattle.number.proofs.Digits.{by_lt, digits_one, digits_many}

-- s is what s₀ has become, and the groups of rest belong at place i
pub record Left (s₀ : List ℕ) (at n : ℕ) (s : List ℕ) (rest i : ℕ) : Type 0 where
  pub same : length s ≡ length s₀
  pub small : rest < 2 ^ 32
  pub room : at + length (digits n) ≤ length s₀
  pub ends : i + length (digits rest) ≡ at + length (digits n)
  pub means : written s i (digits rest) ≡ written s₀ at (digits n)

pub begins : (s : List ℕ) (at n : ℕ) → n < 2 ^ 32 → at + length (digits n) ≤ length s → Left s at n s n at
begins s at n h r = record { same = refl; small = h; room = r; ends = refl; means = refl }

module _ (s₀ : List ℕ) (at n : ℕ) (s : List ℕ) (rest i : ℕ) (h : Left s₀ at n s rest i) where
  -- a group at least is left
  some : 0 < length (digits rest)
  some = by_lt rest 128 (λ l. rw (digits_one rest l) (omega arith)) (λ g. rw (digits_many rest g h.small) (omega arith))

  pub inside : i < length s
  inside = omega (arith, some)

  pub same_length : (a : ℕ) → length (set s i a) ≡ length s₀
  same_length a = length-set s i a ∙ h.same

  pub goes_on_lem : 128 ≤ rest → Left s₀ at n (set s i (128 + rest % 128)) (rest / 128) (i + 1)
  unfolding written
  goes_on_lem g =
      let e : digits rest ≡ (128 + rest % 128) ∷ digits (rest / 128) = digits_many rest g h.small in
      let l : length (digits rest) ≡ suc (length (digits (rest / 128))) = ap length e in
      let small : rest < 2 ^ 32 = h.small in
      record {
        same = same_length (128 + rest % 128);
        small = omega arith;
        room = h.room;
        ends = omega arith;
        means = rw (add-one) (ap (written s i) (sym e) ∙ h.means);
      }

  pub done : rest < 128 → WritePost (digits n) s₀ at (set s i rest) (i + 1)
  unfolding written
  done b =
      let e : digits rest ≡ rest ∷ [] = digits_one rest b in
      let l : length (digits rest) ≡ 1 = ap length e in
      record { stored = ap (written s i) (sym e) ∙ h.means; next = omega arith }
