-- Words copied to the front of a store.
--     copied_at                              they are those of the store that they come from
--     same_kind, same-payload, same_vals     the values of a stack are those of its words
-- Assumes nothing.
use mathlib.Core.Path.{◌≡◌, refl, ◌∙◌}
use mathlib.Core.List.{List}
use Prim.Native.Nat.{ℕ, zero, suc, ◌+◌, ◌*◌, ◌≤◌, ◌<◌}
use native.Mathlib.Omega.{arith}
use lib.ListN.{length, get_or, take, drop, get_or-append}
use lib.Seq.{length-take-le, get_or-take}
use Rattle.model.specs.Basics.{written}
use Rattle.model.specs.Values.{kind_at, payload_at, value_at, vals}
use Rattle.laws_images.proofs.Held.{written_front}

pub copied_at : (n : ℕ) (from to : List ℕ) → n ≤ length from → n ≤ length to → (i : ℕ) → i < n → get_or (written to 0 (take n from)) i 0 ≡ get_or from i 0
copied_at n from to f t i h =
    let long : length (take n from) ≤ length to = omega (arith, length-take-le n from f) in
    rw (written_front to (take n from) long)
    (get_or-append (take n from) (drop (length (take n from)) to) 0 i (omega (arith, length-take-le n from f)) ∙ get_or-take n from i 0 h)

-- words that agree at the first n places
module _ (n : ℕ) (s t : List ℕ) (same : (i : ℕ) → i < 2 * n → get_or s i 0 ≡ get_or t i 0) where
  pub same_kind : (i : ℕ) → i < n → kind_at s i ≡ kind_at t i
  unfolding kind_at
  same_kind i h = same (2 * i) (omega arith)

  pub same_payload : (i : ℕ) → i < n → payload_at s i ≡ payload_at t i
  unfolding payload_at
  same_payload i h = same (2 * i + 1) (omega arith)

pub same_vals : (n : ℕ) (s t : List ℕ) → ((i : ℕ) → i < 2 * n → get_or s i 0 ≡ get_or t i 0) → vals n s ≡ vals n t
unfolding vals value_at
same_vals zero s t same = refl
same_vals (suc n) s t same =
    rw (same_kind (suc n) s t same n (omega arith), same_payload (suc n) s t same n (omega arith), same_vals n s t (λ i h. same i (omega arith)))
