-- What the noter prints: the listing with notes of what was loaded, or why there is none.
use mathlib.Core.Path.{◌≡◌, sym}
use mathlib.Core.Bool.{true}
use mathlib.Core.List.{List, [], ◌∷◌}
use Prim.Native.Nat.{ℕ, suc, ◌≤◌, ◌<◌}
use lib.ListN.{length, get_or}
use borrow.Author.Tests.{lt-ltb, le-ltb}
use Rattle.model.specs.declared.Counts.{Counts}
use Rattle.model.specs.Programs.{Function}
use Rattle.model.specs.Listings.{Listed, header_line, and_listed}
use Rattle.model.specs.Stores.{Stores, stores_of, program_in}
use Rattle.model.specs.Orders.{program_ok}
use Rattle.model.specs.Loading.{load_of, put_listing}
use Rattle.model.specs.Reports.{empty_stores, refused_line, listed_text}
use Rattle.image.proofs.Trip.{loaded_as}
use Rattle.notes.specs.Notes.{Known, known_of, noted_line, noted_code, noted_from, noted_listing, notes_of, loaded_notes, noter_text}
use Rattle.layout.specs.Lent.{program_lent}
use Rattle.model.specs.Answers.{refusal_number}
use Rattle.report.specs.Links.{printed}
use Rattle.report.proofs.Lists.{bytes_of}
use Rattle.report_listed.proofs.Listed.{Small, small_front, small_and, small_lines, was_put, was_too_long, was_refused}
use Rattle.noted_report.specs.Links.{Notable}
use Rattle.std.specs.Prelude.{Err, Ok, Result}
use Rattle.model.specs.declared.Refusal.{Refusal}
use Rattle.model.specs.declared.Refusal.TheVariants as why

-- ---- the listing with notes is refused 1 or 3, and never 17

small_from : (known : Known) (i : ℕ) (fs : List Function) → Small (noted_from known i fs)
unfolding noted_from
small_from known i [] = tt
small_from known i (f ∷ fs) =
    let own = noted_code known f.code f.places in
    small_front (header_line i f.name) (and_listed own (noted_from known (suc i) fs))
    (small_and own (noted_from known (suc i) fs) (small_lines (noted_line known f.code f.places) (length f.code) f.code 0) (small_from known (suc i) fs))

module _ (c : Counts) (s : Stores) (ok : program_ok c s ≡ true) (out : List ℕ) where
  abbrev noted : Listed
  noted = noted_listing (program_in c s)

  small : Small noted
  unfolding noted_listing
  small = small_from (known_of (program_in c s)) 0 (program_in c s).functions

  module _ {x : Result ℕ Refusal} {out' : List ℕ} (e : record { answer = x; out = out' } ≡ notes_of c s out) where
    is_put : record { answer = x; out = out' } ≡ put_listing noted out
    unfolding notes_of
    is_put = rw ok at e

    pub was_noted : {n : ℕ} → x ≡ Ok n → record { count = n; out = out' } ≡ printed (listed_text noted) out
    was_noted f = was_put noted small out is_put f

    module _ {y : Refusal} (f : x ≡ Err y) where
      pub did_not_fit : y ≡ why.ResultTooShort → record { count = 0; out = out' } ≡ printed (listed_text noted) out
      did_not_fit g = was_too_long noted small out is_put f g

      pub not_noted : (y ≡ why.ResultTooShort → ⊥) → {r : ℕ} {out'' : List ℕ} → record { count = r; out = out'' } ≡ printed (refused_line (refusal_number y)) out'
          → record { count = r; out = out'' } ≡ printed (listed_text noted) out
      not_noted g p = was_refused noted small out is_put f g p

-- ---- what was loaded

module _ (s : Stores) (out : List ℕ) {r : ℕ} {out' : List ℕ} where
  pub done_printed : {a : Result Counts Refusal} {c : Counts} → a ≡ Ok c → record { count = r; out = out' } ≡ printed (listed_text (noted_listing (program_in c s))) out
      → record { count = r; out = out' } ≡ printed (loaded_notes a s) out
  unfolding loaded_notes
  done_printed e p = rw e p

  pub refused_printed : {a : Result Counts Refusal} {e : Refusal} → a ≡ Err e → record { count = r; out = out' } ≡ printed (refused_line (refusal_number e)) out → record { count = r; out = out' } ≡ printed (loaded_notes a s) out
  unfolding loaded_notes
  refused_printed e p = rw e p

pub can_note : {a : Result Counts Refusal} (s : Stores) {c : Counts} → Notable a s → a ≡ Ok c → program_ok c s ≡ true
can_note s h e = rw e at h

-- ---- what an image is loaded as is in good order

module _ (image : List ℕ) (cs ss fs tx mn mp ot op : List ℕ) where
  pub loads_notable : ((i : ℕ) → get_or image i 0 < 256) → (x : Stores) (a : Result Counts Refusal) → record { answer = a; stores = stores_of cs ss fs tx mn mp ot op } ≡ load_of image x
      → Notable a (program_lent ss cs fs tx mn mp ot op)
  unfolding program_lent
  loads_notable small x (Ok c) e = (loaded_as image x (stores_of cs ss fs tx mn mp ot op) c (bytes_of image small) (sym e)).1
  loads_notable small x (Err n) e = tt

module _ (image out : List ℕ) {r : ℕ} {out' : List ℕ} where
  pub image_too_long : 16384 < length image → record { count = r; out = out' } ≡ printed (refused_line 22) out → record { count = r; out = out' } ≡ printed (noter_text image) out
  unfolding noter_text
  image_too_long h p = rw (lt-ltb 16384 (length image) h) p

  pub image_noted : length image ≤ 16384 → (a : Result Counts Refusal) (cs ss fs tx mn mp ot op : List ℕ) → record { answer = a; stores = stores_of cs ss fs tx mn mp ot op } ≡ load_of image empty_stores
      → record { count = r; out = out' } ≡ printed (loaded_notes a (program_lent ss cs fs tx mn mp ot op)) out → record { count = r; out = out' } ≡ printed (noter_text image) out
  unfolding noter_text program_lent
  image_noted h a cs ss fs tx mn mp ot op e p = rw (le-ltb 16384 (length image) h, ← e) p
