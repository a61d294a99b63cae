-- What the lister prints of what was loaded: its listing, or why there is none.
use mathlib.Core.Path.{◌≡◌, refl, sym, subst}
use mathlib.Core.Bool.{Bool, true, false}
use mathlib.Core.List.{List, [], ◌∷◌}
use Prim.Native.Nat.{ℕ, zero, suc, ◌<◌}
use native.Mathlib.Omega.{arith}
use lib.Dec.{ltb, leb}
use lib.ListN.{length}
use denote.Enum.Declared.{tag_of}
use types.Run.{OneOf, miss}
use borrow.Author.Tests.{leb-true, leb-false}
use Rattle.model.specs.contracts.Refusal.{the_type}
use Rattle.model.specs.Answers.{refusal_number}
use Rattle.model.specs.declared.Counts.{Counts}
use Rattle.model.specs.declared.Decoded.{Decoded}
use Rattle.model.specs.declared.Decoded.TheVariants as d
use Rattle.model.specs.Values.{places}
use Rattle.model.specs.Programs.{Function, opcode_in, next_in}
use Rattle.model.specs.Listings.{Listed, text, unlisted, in_front, line_of, header_line, known_then, opcode_then, line_then, lines_for, code_lines, and_listed, listing_from, listing_of}
use Rattle.model.specs.Stores.{Stores, program_in}
use Rattle.model.specs.Loading.{OutRes, put_out, put_listing, list_order, list_of}
use Rattle.model.specs.Reports.{refused_line, listed_text, loaded_text}
use Rattle.layout.proofs.Bools.{either_way}
use Rattle.report_lines.specs.Links.{printed}
use Rattle.report_listed.specs.Links.{Listable}
use Rattle.report_lines.proofs.Prints.{too_long, fits}
use Rattle.std.specs.Prelude.{Err, Ok, Result}
use Rattle.model.specs.declared.Refusal.{Refusal}
use Rattle.model.specs.declared.Refusal.TheVariants as why

-- ---- a listing is refused 1 or 3, and never 17

abbrev pub Small : Listed → Type 0
Small (text b) = Unit
Small (unlisted l e) = refusal_number e < 17

pub small_front : (b : List ℕ) (w : Listed) → Small w → Small (in_front b w)
unfolding in_front
small_front b (text r) h = tt
small_front b (unlisted l e) h = h

pub small_and : (v w : Listed) → Small v → Small w → Small (and_listed v w)
unfolding and_listed
small_and (text b) w h k = small_front b w k
small_and (unlisted l e) w h k = h

module _ (k : ℕ → Listed) (h : (j : ℕ) → Small (k j)) (line : ℕ → List ℕ) (code : List ℕ) (i : ℕ) where
  small_known : Small (known_then k line code i)
  unfolding known_then
  small_known = either_way (leb (next_in code i) (length code)) (λ e. rw e (small_front (line i) (k (next_in code i)) (h (next_in code i)))) (λ e. rw e (omega arith))

  small_opcode : (x : Decoded) → Small (opcode_then k line code i x)
  unfolding opcode_then
  small_opcode (d.Carried p) = small_known
  small_opcode d.NotCarried = small_known
  small_opcode d.Unknown = omega arith

  small_line : (b : Bool) → Small (line_then k line code i b)
  unfolding line_then
  small_line true = small_opcode (opcode_in code i).what
  small_line false = tt

pub small_lines : (line : ℕ → List ℕ) (f : ℕ) (code : List ℕ) (i : ℕ) → Small (lines_for line f code i)
unfolding lines_for
small_lines line zero code i = tt
small_lines line (suc f) code i = small_line (lines_for line f code) (small_lines line f code) line code i (ltb i (length code))

small_from : (i : ℕ) (fs : List Function) → Small (listing_from i fs)
unfolding listing_from
small_from i [] = tt
small_from i (f ∷ fs) =
    small_front (header_line i f.name) (and_listed (code_lines f.code) (listing_from (suc i) fs))
    (small_and (code_lines f.code) (listing_from (suc i) fs) (small_lines (line_of f.code) (length f.code) f.code 0) (small_from (suc i) fs))

-- what the code takes for another refusal is another
pub other_refusal : {e : Refusal} → OneOf (0 ∷ 1 ∷ 2 ∷ 3 ∷ 4 ∷ 5 ∷ 6 ∷ 8 ∷ 9 ∷ 10 ∷ 11 ∷ 12 ∷ 13 ∷ 14 ∷ []) (tag_of the_type e) → e ≡ why.ResultTooShort → ⊥
other_refusal o e = absurd (miss (0 ∷ 1 ∷ 2 ∷ 3 ∷ 4 ∷ 5 ∷ 6 ∷ 8 ∷ 9 ∷ 10 ∷ 11 ∷ 12 ∷ 13 ∷ 14 ∷ []) 7 tt (rw e at o))

-- ---- what the listing's answer says: it was put, or it did not fit, or it is refused

abbrev Says : List ℕ → Listed → Result ℕ Refusal → List ℕ → Type 0
Says out w (Ok n) out' = record { count = n; out = out' } ≡ printed (listed_text w) out
Says out w (Err e) out' = (e ≡ why.ResultTooShort → record { count = 0; out = out' } ≡ printed (listed_text w) out) × ((e ≡ why.ResultTooShort → ⊥) → (listed_text w ≡ refused_line (refusal_number e)) × (out' ≡ out))

says_put : (out : List ℕ) (w : Listed) → Small w → Says out w (put_listing w out).answer (put_listing w out).out
unfolding put_listing put_out listed_text
says_put out (text b) h =
    either_way (leb (length b) (places 1 out)) (λ e. rw e (fits b out (leb-true _ _ e)))
    (λ e. rw e (λ k. too_long b out (leb-false _ _ e), λ k. absurd (k refl)))
says_put out (unlisted l e) h = (λ k. absurd (let z : 17 < 17 = rw k at h in let y : ⊥ = omega arith in y), λ k. (refl, refl))

-- the whole was listed into a store
module _ (w : Listed) (small : Small w) (out : List ℕ) {x : Result ℕ Refusal} {out' : List ℕ} (e : record { answer = x; out = out' } ≡ put_listing w out) where
  says : Says out w x out'
  says = subst (λ (r : OutRes). Says out w r.answer r.out) (sym e) (says_put out w small)

  pub was_put : {n : ℕ} → x ≡ Ok n → record { count = n; out = out' } ≡ printed (listed_text w) out
  was_put f = rw f at says

  module _ {y : Refusal} (f : x ≡ Err y) where
    said : Says out w (Err y) out'
    said = rw f at says

    pub was_too_long : y ≡ why.ResultTooShort → record { count = 0; out = out' } ≡ printed (listed_text w) out
    was_too_long g = said.0 g

    pub was_refused : (y ≡ why.ResultTooShort → ⊥) → {r : ℕ} {out'' : List ℕ} → record { count = r; out = out'' } ≡ printed (refused_line (refusal_number y)) out' → record { count = r; out = out'' } ≡ printed (listed_text w) out
    was_refused g p = let z = said.1 g in rw z.0 (rw z.1 at p)

module _ (c : Counts) (s : Stores) (ok : list_order c s ≡ true) (out : List ℕ) where
  abbrev listing : Listed
  listing = listing_of (program_in c s)

  small : Small listing
  unfolding listing_of
  small = small_from 0 (program_in c s).functions

  module _ {x : Result ℕ Refusal} {out' : List ℕ} (e : record { answer = x; out = out' } ≡ list_of c s out) where
    is_put : record { answer = x; out = out' } ≡ put_listing listing out
    unfolding list_of
    is_put = rw ok at e

    pub was_listed : {n : ℕ} → x ≡ Ok n → record { count = n; out = out' } ≡ printed (listed_text listing) out
    was_listed f = was_put listing small out is_put f

    module _ {y : Refusal} (f : x ≡ Err y) where
      pub did_not_fit : y ≡ why.ResultTooShort → record { count = 0; out = out' } ≡ printed (listed_text listing) out
      did_not_fit g = was_too_long listing small out is_put f g

      pub not_listed : (y ≡ why.ResultTooShort → ⊥) → {r : ℕ} {out'' : List ℕ} → record { count = r; out = out'' } ≡ printed (refused_line (refusal_number y)) out' → record { count = r; out = out'' } ≡ printed (listed_text listing) out
      not_listed g p = was_refused listing small out is_put f g p

-- ---- what was loaded

module _ (s : Stores) (out : List ℕ) {a : Result Counts Refusal} {r : ℕ} {out' : List ℕ} where
  pub done_printed : {c : Counts} → a ≡ Ok c → record { count = r; out = out' } ≡ printed (listed_text (listing_of (program_in c s))) out
      → record { count = r; out = out' } ≡ printed (loaded_text a s) out
  unfolding loaded_text
  done_printed e p = rw e p

  pub refused_printed : {e : Refusal} → a ≡ Err e → record { count = r; out = out' } ≡ printed (refused_line (refusal_number e)) out → record { count = r; out = out' } ≡ printed (loaded_text a s) out
  unfolding loaded_text
  refused_printed e p = rw e p

pub can_list : {a : Result Counts Refusal} (s : Stores) {c : Counts} → Listable a s → a ≡ Ok c → list_order c s ≡ true
can_list s h e = rw e at h
