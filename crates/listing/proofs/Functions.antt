-- The loop over the functions of a program.
use mathlib.Core.Path.{◌≡◌, ap, ◌∙◌}
use mathlib.Core.List.{List}
use Prim.Native.Nat.{ℕ, suc, ◌+◌, ◌-◌, ◌*◌, ◌≤◌, ◌<◌, ◌^◌}
use native.Mathlib.Omega.{arith}
use native.Mathlib.Numerals.{add-one}
use Rattle.model.specs.Values.{kind_at}
use Rattle.model.specs.Listings.{Listed, in_front, and_listed, header_line, code_lines, listing_from}
use Rattle.model.specs.Stores.{Stores, part, name_word, function_in, functions_from}
use Rattle.listing.specs.Links.{Listing, lent}
use Rattle.listing.proofs.Judging.{front_and, wrote, not_wrote, Sofar, at_start, onward, stops, completes}
use Rattle.std.specs.Prelude.{Err, Ok}
use Rattle.model.specs.declared.Refusal.{Refusal}

-- one function's listing
abbrev one : ℕ → List ℕ → List ℕ → Listed
one i name code = in_front (header_line i name) (code_lines code)

module _ (fs t m o : List ℕ) where
  -- the listing of j functions from i on
  abbrev from : ℕ → ℕ → Stores → Listed
  from j i rest = listing_from i (functions_from j i (lent rest fs t m o))

  -- the first i of n functions were put
  pub record Passed (n : ℕ) (s s' : List ℕ) (i r : ℕ) : Type 0 where
    pub inside : i ≤ n
    pub near : r ≤ 2 ^ 40 * i
    pub so_far : (rest : Stores) → Sofar (2 ^ 40 * i) (from n 0 rest) (from (n - i) i rest) s 0 s' r

  pub none_yet : (n : ℕ) (s : List ℕ) → Passed n s s 0 0
  none_yet n s = let z : n - 0 ≡ n = omega arith in record { inside = omega arith; near = omega arith; so_far = λ rest. rw z (at_start _ s 0) }

  module _ {n : ℕ} {s s' : List ℕ} {i r : ℕ} (h : Passed n s s' i r) where
    pub all_passed : n ≤ i → n ≤ 65536 → (rest : Stores) → Listing (65536 * 2 ^ 40) (from n 0 rest) s 0 s' (Ok r)
    unfolding listing_from functions_from
    all_passed g k rest = let z : n - i ≡ 0 = omega arith in let y = h.inside in completes (h.so_far rest) (rw z) _ (omega arith)

    module _ (g : i < n) (w : ℕ) (e : w ≡ kind_at fs i) (name code : List ℕ) (a : name ≡ part t w) (b : (rest : Stores) (u : List ℕ) → code ≡ (function_in (lent rest fs u m o) i).code) where
      ahead : (rest : Stores) → from (n - i) i rest ≡ and_listed (one i name code) (from (n - suc i) (suc i) rest)
      unfolding listing_from functions_from function_in name_word lent
      ahead rest = let z : n - i ≡ suc (n - suc i) = omega arith in rw z (front_and _ _ _ ∙ rw (a, e, b rest t))

      pub one_stops : {k : ℕ} {u : List ℕ} {e : Refusal} → Listing k (one i name code) s' r u (Err e) → (rest : Stores) → Listing (65536 * 2 ^ 40) (from n 0 rest) s 0 u (Err e)
      unfolding and_listed
      one_stops l rest =
          let z = not_wrote _ l in
          stops (h.so_far rest) (ahead rest ∙ ap (λ (y : Listed). and_listed y (from (n - suc i) (suc i) rest)) z.is_refused) z.stored

      pub one_more : {k : ℕ} {u : List ℕ} {q : ℕ} → Listing k (one i name code) s' r u (Ok q) → k ≤ 2 ^ 40 → Passed n s u (i + 1) q
      unfolding and_listed
      one_more l f =
          let p = wrote _ l in
          let x = p.put.near in
          let y = h.near in
          record {
            inside = omega arith;
            near = omega arith;
            so_far = λ rest. rw add-one (onward (h.so_far rest) (ahead rest ∙ ap (λ (v : Listed). and_listed v (from (n - suc i) (suc i) rest)) p.is_text) p.put _ (omega arith));
          }
