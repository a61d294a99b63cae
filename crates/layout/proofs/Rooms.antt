-- Room for text.
use mathlib.Core.Path.{◌≡◌, refl, sym, ◌∙◌}
use mathlib.Core.Bool.{Bool, true, false}
use mathlib.Core.List.{List, []}
use Prim.Native.Nat.{ℕ, ◌+◌, ◌-◌, ◌≤◌, ◌<◌}
use native.Mathlib.Omega.{arith}
use lib.Dec.{leb}
use lib.ListN.{length}
use borrow.Author.Tests.{le-leb, lt-leb, leb-true, leb-false}
use Rattle.model.specs.declared.Counts.{Counts}
use Rattle.model.specs.Values.{places}
use Rattle.model.specs.Stores.{Stores}
use Rattle.model.specs.Emission.{text_room}
use Rattle.layout.proofs.Bools.{either_way}
use Rattle.layout.proofs.Parts.{room_1}

sum_tests : (a n r : ℕ) → a ≤ r → leb n (r - a) ≡ leb (a + n) r
sum_tests a n r h = either_way (leb n (r - a))
    (λ e. let l : n ≤ r - a = leb-true n (r - a) e in rw (le-leb (a + n) r (omega arith)) e)
    (λ e. let l : r - a < n = leb-false n (r - a) e in rw (lt-leb (a + n) r (omega arith)) e)

module _ (c : Counts) (t : List ℕ) (n r : ℕ) (e : r ≡ places 1 t) (s : Stores) (et : s.text ≡ t) where
  pub no_room : r < c.text → false ≡ text_room c s n
  unfolding text_room
  no_room h = sym (rw (et, ← e) (lt-leb (c.text + n) r (omega arith)))

  pub room_left : c.text ≤ r → leb n (r - c.text) ≡ text_room c s n
  unfolding text_room
  room_left h = rw (et, ← e) (sum_tests c.text n r h)

-- the text fits, and so does the word that names it
pub text_fits : (c : Counts) (n : ℕ) (s : Stores) (b : Bool) → b ≡ text_room c s n → b ≡ true → (c.text + n ≤ length s.text) × (c.text + n ≤ 0xFFFF_FFFF)
unfolding text_room
text_fits c n s b e h =
    let l : c.text + n ≤ places 1 s.text = leb-true (c.text + n) (places 1 s.text) (sym e ∙ h) in
    let x = room_1 s.text in (omega arith, omega arith)

pub lent_fits : (c : Counts) (t : List ℕ) (n : ℕ) (b : Bool) → ((s : Stores) → s.text ≡ t → b ≡ text_room c s n) → b ≡ true → (c.text + n ≤ length t) × (c.text + n ≤ 0xFFFF_FFFF)
lent_fits c t n b e h =
    let s : Stores = record { constants = []; structs = []; functions = []; text = t; main = []; main_places = []; other = []; other_places = [] } in
    text_fits c n s b (e s refl) h
