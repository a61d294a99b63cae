-- What the entry answers, way by way: x is what was lent to be measured, and holds nothing. And no second answer fits.
use mathlib.Core.Path.{◌≡◌, refl, sym, ap, ◌∙◌}
use mathlib.Core.Bool.{Bool, true, false, ◌&&◌}
use mathlib.Core.List.{List, [], ◌∷◌, ◌++◌}
use Prim.Native.Nat.{ℕ, ◌+◌, ◌≤◌, ◌<◌}
use native.Mathlib.Omega.{arith}
use lib.ListN.{length}
use borrow.Author.Tests.{le-leb, lt-leb}
use Rattle.model.specs.declared.Counts.{Counts}
use Rattle.model.specs.Values.{places}
use Rattle.model.specs.Listings.{Listed, text, unlisted, listing_of}
use Rattle.model.specs.Stores.{Stores, program_in}
use Rattle.model.specs.Orders.{counts_ok, text_ok, functions_ok, main_ok, inside_codes}
use Rattle.model.specs.Emission.{written}
use Rattle.model.specs.Loading.{OutRes, put_out, put_listing, list_order, list_of}
use Rattle.layout.proofs.Bools.{and_left}
use Rattle.laws_programs.proofs.Known.{limited}
use Rattle.listing.specs.Links.{Listing, told_of, text_of, lent}
use Rattle.listing.proofs.Judging.{wrote, not_wrote}
use Rattle.std.specs.Prelude.{Err, Ok, Result}
use Rattle.model.specs.declared.Refusal.{Refusal}
use Rattle.model.specs.declared.Refusal.TheVariants as why

pub empty : (x out : List ℕ) → length x ≡ 0 → x ++ out ≡ out
empty [] out z = refl
empty (y ∷ x) out z = absurd (let k : ⊥ = omega arith in k)

-- ---- a listing put into a store

refuses : {w : Listed} {l : List ℕ} {e : Refusal} → w ≡ unlisted l e → (out : List ℕ) → record { answer = Err e; out = out } ≡ put_listing w out
unfolding put_listing
refuses h out = rw h

too_long : {w : Listed} {l : List ℕ} → w ≡ text l → (out : List ℕ) → places 1 out < length l → record { answer = Err why.ResultTooShort; out = out } ≡ put_listing w out
unfolding put_listing put_out
too_long e out h = rw (e, lt-leb _ _ h)

puts : {w : Listed} {l : List ℕ} → w ≡ text l → (out : List ℕ) → length l ≤ places 1 out → record { answer = Ok (length l); out = written out 0 l } ≡ put_listing w out
unfolding put_listing put_out
puts e out h = rw (e, le-leb _ _ h)

-- the whole w was measured in x, and is put where it fits
module _ (w : Listed) (out : List ℕ) {k : ℕ} {s x : List ℕ} (z : length x ≡ 0) where
  pub put_refused : {e : Refusal} → Listing k w s 0 x (Err e) → record { answer = Err e; out = x ++ out } ≡ put_listing w out
  put_refused h = rw (empty x out z) (refuses (not_wrote _ h).is_refused out)

  module _ {n : ℕ} (h : Listing k w s 0 x (Ok n)) (r : ℕ) (f : r ≡ places 1 (x ++ out)) where
    pub put_too_long : r < n → record { answer = Err why.ResultTooShort; out = x ++ out } ≡ put_listing w out
    put_too_long g =
        let p = wrote _ h in
        let y = p.put.next in
        let v = rw (empty x out z) at f in
        rw (empty x out z) (too_long p.is_text out (omega arith))

    pub put_whole : n ≤ r → {out' : List ℕ} {told : Result ℕ Refusal} → Listing k w (x ++ out) 0 out' told → record { answer = told; out = out' } ≡ put_listing w out
    put_whole g q =
        let p = wrote _ h in
        let y = p.put.next in
        let v = rw (empty x out z) at f in
        let e = p.is_text in
        let u : 0 + length p.l ≡ length p.l = omega arith in
        let a = q.means ∙ ap (told_of 0) e ∙ ap Ok u in
        let j = q.stored ∙ ap (λ (v : Listed). written (x ++ out) 0 (text_of v)) e ∙ ap (λ (i : List ℕ). written i 0 p.l) (empty x out z) in
        rw (a, j) (puts e out (omega arith))

-- ---- the entry

module _ (c : Counts) (fs t m o : List ℕ) {b : Bool} (ok : (rest : Stores) → b ≡ list_order c (lent rest fs t m o)) (out : List ℕ) where
  pub out_of_order : b ≡ false → (rest : Stores) → record { answer = Err why.NotInOrder; out = out } ≡ list_of c (lent rest fs t m o) out
  unfolding list_of
  out_of_order e rest = rw (← (ok rest), e)

  module _ (e : b ≡ true) where
    abbrev whole : Stores → Listed
    whole rest = listing_of (program_in c (lent rest fs t m o))

    in_order : (rest : Stores) → put_listing (whole rest) out ≡ list_of c (lent rest fs t m o) out
    unfolding list_of
    in_order rest = rw (← (ok rest), e)

    pub few : c.functions ≤ 65536
    unfolding list_order
    few =
        let rest : Stores = record { constants = []; structs = []; functions = []; text = []; main = []; main_places = []; other = []; other_places = [] } in
        let s = lent rest fs t m o in
        let b₁ = counts_ok c in
        let b₂ = text_ok c s.text in
        let b₃ = functions_ok c s.functions in
        let b₄ = main_ok s.functions s.text in
        let b₅ = inside_codes c s.functions s.main s.other in
        (limited c (and_left b₁ b₂ (and_left (b₁ && b₂) b₃ (and_left (b₁ && b₂ && b₃) b₄ (and_left (b₁ && b₂ && b₃ && b₄) b₅ (sym (ok rest) ∙ e)))))).functions

    module _ {k : ℕ} {s x : List ℕ} (z : length x ≡ 0) where
      pub refused : {e : Refusal} → ((rest : Stores) → Listing k (whole rest) s 0 x (Err e)) → (rest : Stores) → record { answer = Err e; out = x ++ out } ≡ list_of c (lent rest fs t m o) out
      refused h rest = put_refused (whole rest) out z (h rest) ∙ in_order rest

      module _ {n : ℕ} (h : (rest : Stores) → Listing k (whole rest) s 0 x (Ok n)) (r : ℕ) (f : r ≡ places 1 (x ++ out)) where
        pub no_room : r < n → (rest : Stores) → record { answer = Err why.ResultTooShort; out = x ++ out } ≡ list_of c (lent rest fs t m o) out
        no_room g rest = put_too_long (whole rest) out z (h rest) r f g ∙ in_order rest

        pub room_for : n ≤ r → {out' : List ℕ} {told : Result ℕ Refusal} → ((rest : Stores) → Listing k (whole rest) (x ++ out) 0 out' told) → (rest : Stores)
            → record { answer = told; out = out' } ≡ list_of c (lent rest fs t m o) out
        room_for g q rest = put_whole (whole rest) out z (h rest) r f g (q rest) ∙ in_order rest

-- no second answer fits
pub one_answer_lem : (want : OutRes) (r r' : Result ℕ Refusal) (o o' : List ℕ) → record { answer = r; out = o } ≡ want → record { answer = r'; out = o' } ≡ want → (r ≡ r') × (o ≡ o')
one_answer_lem want r r' o o' p q = let e = p ∙ sym q in (ap (λ (x : OutRes). x.answer) e, ap (λ (x : OutRes). x.out) e)
