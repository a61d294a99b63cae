-- What the listing is lent: a function's code, and good order.
use mathlib.Core.Path.{◌≡◌, ap, ◌∙◌}
use mathlib.Core.Bool.{Bool, ◌&&◌}
use mathlib.Core.List.{List}
use Prim.Native.Nat.{ℕ, ◌/◌, ◌≤◌, ◌<◌, ◌^◌, min}
use native.Mathlib.Omega.{arith}
use native.Mathlib.Nat.{min-le_left}
use lib.ListN.{length, drop, length-take}
use borrow.Author.Tests.{eq-eqb, ne_eqb}
use Rattle.model.specs.declared.Counts.{Counts}
use Rattle.model.specs.Values.{payload_at, text_at}
use Rattle.model.specs.Stores.{Stores, start, size, part, code_word, function_in}
use Rattle.model.specs.Orders.{counts_ok, text_ok, functions_ok, main_ok, inside_codes}
use Rattle.model.specs.Loading.{list_order}
use Rattle.listing.specs.Links.{lent}

-- a part has fewer than 2 ^ 32 places
pub short : (s : List ℕ) (w : ℕ) → w < 2 ^ 64 → (p : List ℕ) → p ≡ part s w → length p < 2 ^ 32
unfolding part text_at size
short s w h p e =
    let z : length p ≡ min (w / 0x1_0000_0000) (length (drop (start w) s)) = ap length e ∙ length-take (w / 0x1_0000_0000) (drop (start w) s) in
    let y : min (w / 0x1_0000_0000) (length (drop (start w) s)) ≤ w / 0x1_0000_0000 = min-le_left _ _ in
    omega arith

module _ (fs m o : List ℕ) (i w : ℕ) (e : w ≡ payload_at fs i) (l : w < 2 ^ 64) (p : List ℕ) where
  pub main_code : i ≡ 0 → p ≡ part m w → ((rest : Stores) (t : List ℕ) → p ≡ (function_in (lent rest fs t m o) i).code) × (length p < 2 ^ 32)
  unfolding function_in code_word lent
  main_code h f = (λ rest t. rw (eq-eqb i 0 h, ← e) f, short m w l p f)

  pub other_code : (i ≡ 0 → ⊥) → p ≡ part o w → ((rest : Stores) (t : List ℕ) → p ≡ (function_in (lent rest fs t m o) i).code) × (length p < 2 ^ 32)
  unfolding function_in code_word lent
  other_code h f = (λ rest t. rw (ne_eqb i 0 h, ← e) f, short o w l p f)

module _ (c : Counts) (fs t m o : List ℕ) {b₁ b₂ b₃ b₄ b₅ : Bool} where
  pub order_is : b₁ ≡ counts_ok c → b₂ ≡ text_ok c t → b₃ ≡ functions_ok c fs → b₄ ≡ main_ok fs t → b₅ ≡ inside_codes c fs m o
      → (rest : Stores) → (b₁ && b₂ && b₃ && b₄ && b₅) ≡ list_order c (lent rest fs t m o)
  unfolding list_order lent
  order_is e₁ e₂ e₃ e₄ e₅ rest = rw (e₁, e₂, e₃, e₄, e₅)
