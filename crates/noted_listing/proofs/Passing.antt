-- The loop over the functions of a program.
use mathlib.Core.Path.{◌≡◌, sym, ap, ◌∙◌}
use mathlib.Core.List.{List}
use Prim.Native.Nat.{ℕ, suc, ◌+◌, ◌-◌, ◌*◌, ◌≤◌, ◌<◌, ◌^◌}
use native.Mathlib.Omega.{arith}
use native.Mathlib.Numerals.{add-one}
use Rattle.model.specs.declared.Counts.{Counts}
use Rattle.model.specs.Listings.{Listed, and_listed}
use Rattle.model.specs.Stores.{Stores, function_in, functions_from, program_in}
use Rattle.listing.specs.Links.{Listing}
use Rattle.listing.proofs.Judging.{front_and, wrote, not_wrote, Sofar, at_start, onward, stops, completes}
use Rattle.notes.specs.Notes.{Known, noted_from, noted_listing}
use Rattle.layout.specs.Lent.{program_lent, stores_in}
use Rattle.layout.specs.declared.lent.ProgramStores.{ProgramStores}
use Rattle.notes.specs.Links.{known_from}
use Rattle.noted_listing.specs.Links.{noted_function}
use Rattle.noted_listing.proofs.Lent.{known_is}
use Rattle.std.specs.Prelude.{Err, Ok}
use Rattle.model.specs.declared.Refusal.{Refusal}

module _ (c : Counts) (p : ProgramStores) where
  abbrev all : Stores
  all = stores_in p

  abbrev known : Known
  known = known_from c p

  -- the listing of j functions from i on
  abbrev from : ℕ → ℕ → Listed
  from j i = noted_from known i (functions_from j i all)

  abbrev one : ℕ → Listed
  one i = noted_function known i (function_in all i)

  whole_is : from c.functions 0 ≡ noted_listing (program_in c all)
  unfolding noted_listing program_in program_lent
  whole_is = ap (λ (k : Known). noted_from k 0 (functions_from c.functions 0 all)) (sym (known_is c p.constants.now p.structs.now p.functions.now p.text.now p.main.now p.main_places.now p.other.now p.other_places.now))

  -- the first i functions were put
  pub record Passed (s s' : List ℕ) (i r : ℕ) : Type 0 where
    pub inside : i ≤ c.functions
    pub near : r ≤ 2 ^ 41 * i
    pub so_far : Sofar (2 ^ 41 * i) (noted_listing (program_in c all)) (from (c.functions - i) i) s 0 s' r

  pub none_yet : (s : List ℕ) → Passed s s 0 0
  none_yet s =
      let z : c.functions - 0 ≡ c.functions = omega arith in
      record { inside = omega arith; near = omega arith; so_far = rw (z, whole_is) (at_start _ s 0) }

  module _ {s s' : List ℕ} {i r : ℕ} (h : Passed s s' i r) where
    pub all_passed : c.functions ≤ i → c.functions ≤ 65536 → Listing (65536 * 2 ^ 41) (noted_listing (program_in c all)) s 0 s' (Ok r)
    unfolding noted_from functions_from
    all_passed g k = let z : c.functions - i ≡ 0 = omega arith in let y = h.inside in completes h.so_far (rw z) _ (omega arith)

    module _ (g : i < c.functions) where
      ahead : from (c.functions - i) i ≡ and_listed (one i) (from (c.functions - suc i) (suc i))
      unfolding noted_from functions_from
      ahead = let z : c.functions - i ≡ suc (c.functions - suc i) = omega arith in rw z (front_and _ _ _)

      ahead_as : {w : Listed} → one i ≡ w → from (c.functions - i) i ≡ and_listed w (from (c.functions - suc i) (suc i))
      ahead_as e = ahead ∙ ap (λ (y : Listed). and_listed y (from (c.functions - suc i) (suc i))) e

      pub one_stops : {u : List ℕ} {e : Refusal} → Listing (2 ^ 41) (one i) s' r u (Err e) → Listing (65536 * 2 ^ 41) (noted_listing (program_in c all)) s 0 u (Err e)
      unfolding and_listed
      one_stops l = let z = not_wrote _ l in stops h.so_far (ahead_as z.is_refused) z.stored

      pub one_more : {u : List ℕ} {q : ℕ} → Listing (2 ^ 41) (one i) s' r u (Ok q) → Passed s u (i + 1) q
      unfolding and_listed
      one_more l =
          let one = wrote _ l in
          let x = one.put.near in
          let y = h.near in
          record {
            inside = omega arith;
            near = omega arith;
            so_far = rw add-one (onward h.so_far (ahead_as one.is_text) one.put _ (omega arith));
          }
