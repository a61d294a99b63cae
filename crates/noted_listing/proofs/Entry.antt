-- What the entry answers, way by way: x is what was lent to be measured, and holds nothing.
use mathlib.Core.Path.{◌≡◌, sym, ◌∙◌}
use mathlib.Core.Bool.{Bool, true, false}
use mathlib.Core.List.{List, ◌++◌}
use Prim.Native.Nat.{ℕ, ◌≤◌, ◌<◌}
use lib.ListN.{length}
use Rattle.model.specs.declared.Counts.{Counts}
use Rattle.model.specs.Values.{places}
use Rattle.model.specs.Stores.{Stores, program_in}
use Rattle.model.specs.Orders.{program_ok}
use Rattle.model.specs.Loading.{put_listing}
use Rattle.laws_programs.proofs.Known.{limited}
use Rattle.laws_programs.proofs.Keeping.{good_of}
use Rattle.listing.specs.Links.{Listing}
use Rattle.listing.proofs.Entry.{put_refused, put_too_long, put_whole}
use Rattle.notes.specs.Notes.{noted_listing, notes_of}
use Rattle.std.specs.Prelude.{Err, Ok, Result}
use Rattle.model.specs.declared.Refusal.{Refusal}
use Rattle.model.specs.declared.Refusal.TheVariants as why

-- good order limits the functions
pub few : (c : Counts) (s : Stores) {b : Bool} → b ≡ program_ok c s → b ≡ true → c.functions ≤ 65536
few c s ok e = (limited c (good_of c s (sym ok ∙ e)).counts).functions

module _ (c : Counts) (s : Stores) {b : Bool} (ok : b ≡ program_ok c s) (out : List ℕ) where
  pub out_of_order : b ≡ false → record { answer = Err why.NotInOrder; out = out } ≡ notes_of c s out
  unfolding notes_of
  out_of_order e = rw (← ok, e)

  module _ (e : b ≡ true) where
    in_order : put_listing (noted_listing (program_in c s)) out ≡ notes_of c s out
    unfolding notes_of
    in_order = rw (← ok, e)

    module _ {k : ℕ} {s₀ x : List ℕ} (z : length x ≡ 0) where
      pub refused : {e : Refusal} → Listing k (noted_listing (program_in c s)) s₀ 0 x (Err e) → record { answer = Err e; out = x ++ out } ≡ notes_of c s out
      refused h = put_refused (noted_listing (program_in c s)) out z h ∙ in_order

      module _ {n : ℕ} (h : Listing k (noted_listing (program_in c s)) s₀ 0 x (Ok n)) (r : ℕ) (f : r ≡ places 1 (x ++ out)) where
        pub no_room : r < n → record { answer = Err why.ResultTooShort; out = x ++ out } ≡ notes_of c s out
        no_room g = put_too_long (noted_listing (program_in c s)) out z h r f g ∙ in_order

        pub room_for : n ≤ r → {out' : List ℕ} {told : Result ℕ Refusal} → Listing k (noted_listing (program_in c s)) (x ++ out) 0 out' told → record { answer = told; out = out' } ≡ notes_of c s out
        room_for g q = put_whole (noted_listing (program_in c s)) out z h r f g q ∙ in_order
