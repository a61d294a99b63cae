-- A text that is printed: measured in x, which holds nothing, and then put where it fits.
use mathlib.Core.Path.{◌≡◌, ap, ◌∙◌}
use mathlib.Core.List.{List, ◌++◌}
use Prim.Native.Nat.{ℕ, ◌+◌, ◌≤◌, ◌<◌}
use native.Mathlib.Omega.{arith}
use lib.Dec.{leb}
use lib.ListN.{length}
use borrow.Author.Tests.{le-leb, lt-leb, leb-true}
use Rattle.model.specs.Values.{places}
use Rattle.model.specs.Emission.{written}
use Rattle.layout.proofs.Bools.{either_way}
use Rattle.image_load.proofs.Loads.{one_word}
use Rattle.listing.proofs.Entry.{empty}
use Rattle.printing.specs.Links.{Put}
use Rattle.report_lines.specs.Links.{Printed, printed}

module _ (bytes out : List ℕ) where
  pub too_long : places 1 out < length bytes → record { count = 0; out = out } ≡ printed bytes out
  unfolding printed
  too_long h = rw (lt-leb _ _ h)

  pub fits : length bytes ≤ places 1 out → record { count = length bytes; out = written out 0 bytes } ≡ printed bytes out
  unfolding printed
  fits h = rw (le-leb _ _ h)

  module _ {k : ℕ} {s x : List ℕ} (z : length x ≡ 0) {n : ℕ} (p : Put k bytes s 0 x n) (r : ℕ) (f : r ≡ places 1 (x ++ out)) where
    pub no_room : r < n → record { count = 0; out = x ++ out } ≡ printed bytes out
    no_room h =
        let e = p.next in
        let g = rw (empty x out z) at f in
        rw (empty x out z) (too_long (omega arith))

    pub room_for : n ≤ r → {out' : List ℕ} {i : ℕ} → Put k bytes (x ++ out) 0 out' i → record { count = i; out = out' } ≡ printed bytes out
    room_for h q =
        let e = p.next in
        let g = rw (empty x out z) at f in
        let a : _ ≡ length bytes = q.next ∙ (let y : 0 + length bytes ≡ length bytes = omega arith in y) in
        let b = q.stored ∙ ap (λ (y : List ℕ). written y 0 bytes) (empty x out z) in
        rw (a, b) (fits (omega arith))

-- what was printed lies inside the store
pub inside : (bytes out : List ℕ) {r : ℕ} {out' : List ℕ} → record { count = r; out = out' } ≡ printed bytes out → r ≤ length out
unfolding printed
inside bytes out e = either_way (leb (length bytes) (places 1 out))
    (λ h. let f = rw h at e in let k = ap (λ (x : Printed). x.count) f in rw k (one_word _ out (leb-true _ _ h)).0)
    (λ h. let f = rw h at e in let k = ap (λ (x : Printed). x.count) f in omega arith)
