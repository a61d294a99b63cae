-- What the lister prints of an image.
use mathlib.Core.Path.{◌≡◌, sym}
use mathlib.Core.Bool.{Bool, true, ◌&&◌}
use mathlib.Core.List.{List, [], ◌∷◌}
use Prim.Native.Nat.{ℕ, suc, ◌≤◌, ◌<◌}
use lib.ListN.{length, get_or}
use borrow.Author.Tests.{lt-ltb, le-ltb}
use Rattle.model.specs.Numbers.{Bytes}
use Rattle.model.specs.Stores.{Stores}
use Rattle.model.specs.Orders.{counts_ok, text_ok, constants_ok, structs_ok, functions_ok, main_ok, inside_codes, program_ok}
use Rattle.model.specs.Loading.{load_of, list_order}
use Rattle.model.specs.Reports.{empty_stores, refused_line, loaded_text, lister_text}
use Rattle.layout.proofs.Bools.{and_left, and_right, and_both}
use Rattle.model.specs.Stores.{stores_of}
use Rattle.image.proofs.Trip.{loaded_as}
use Rattle.listing.specs.Links.{lent}
use Rattle.report_lines.specs.Links.{printed}
use Rattle.report_listed.specs.Links.{Listable}
use Rattle.std.specs.Prelude.{Err, Ok, Result}
use Rattle.model.specs.declared.Counts.{Counts}
use Rattle.model.specs.declared.Refusal.{Refusal}

fewer : (a b c d e f g h : Bool) → (a && b && c && d && e && f && g && h) ≡ true → (a && b && e && f && g) ≡ true
fewer a b c d e f g h z =
    let y = and_left (a && b && c && d && e && f && g) h z in
    let x = and_left (a && b && c && d && e && f) g y in
    let w = and_left (a && b && c && d && e) f x in
    let v = and_left (a && b) c (and_left (a && b && c) d (and_left (a && b && c && d) e w)) in
    and_both (a && b && e && f) g (and_both (a && b && e) f (and_both (a && b) e v (and_right (a && b && c && d) e w)) (and_right (a && b && c && d && e) f x))
    (and_right (a && b && c && d && e && f) g y)

-- what the type of a byte slice says
pub bytes_of : (b : List ℕ) → ((i : ℕ) → get_or b i 0 < 256) → Bytes b
unfolding Bytes
bytes_of [] h = tt
bytes_of (x ∷ b) h = (h 0, bytes_of b (λ i. h (suc i)))

module _ (image : List ℕ) (small : (i : ℕ) → get_or image i 0 < 256) (cs ss fs tx mn mp ot op : List ℕ) where
  pub loads_listable : (x : Stores) (a : Result Counts Refusal) → record { answer = a; stores = stores_of cs ss fs tx mn mp ot op } ≡ load_of image x
      → (rest : Stores) → Listable a (lent rest fs tx mn ot)
  unfolding program_ok list_order lent
  loads_listable x (Ok c) e rest =
      fewer (counts_ok c) (text_ok c tx) (constants_ok c cs) (structs_ok c ss tx) (functions_ok c fs) (main_ok fs tx) (inside_codes c fs mn ot) (inside_codes c fs mp op)
      (loaded_as image x (stores_of cs ss fs tx mn mp ot op) c (bytes_of image small) (sym e)).1
  loads_listable x (Err n) e rest = tt

module _ (image out : List ℕ) {r : ℕ} {out' : List ℕ} where
  pub image_too_long : 16384 < length image → record { count = r; out = out' } ≡ printed (refused_line 22) out → record { count = r; out = out' } ≡ printed (lister_text image) out
  unfolding lister_text
  image_too_long h p = rw (lt-ltb 16384 (length image) h) p

  pub image_listed : length image ≤ 16384 → (a : Result Counts Refusal) (cs ss fs tx mn mp ot op : List ℕ) → record { answer = a; stores = stores_of cs ss fs tx mn mp ot op } ≡ load_of image empty_stores
      → ((rest : Stores) → record { count = r; out = out' } ≡ printed (loaded_text a (lent rest fs tx mn ot)) out) → record { count = r; out = out' } ≡ printed (lister_text image) out
  unfolding lister_text lent
  image_listed h a cs ss fs tx mn mp ot op e p = rw (le-ltb 16384 (length image) h, ← e) (p (stores_of cs ss fs tx mn mp ot op))
