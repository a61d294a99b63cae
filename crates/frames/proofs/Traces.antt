-- What the definitions of a backtrace say to the code that writes one, and to the loops over the callers.
-- Assumes nothing.
use mathlib.Core.Path.{◌≡◌, refl, sym, ◌∙◌}
use mathlib.Core.Bool.{Bool, true, false, ◌&&◌, and-false}
use mathlib.Core.List.{List, [], ◌∷◌}
use Prim.Native.Nat.{ℕ, zero, suc, ◌+◌, ◌-◌, ◌*◌, ◌/◌, ◌<◌, ◌≤◌}
use native.Mathlib.Numerals.{add-one}
use native.Mathlib.Omega.{arith}
use lib.Dec.{ltb}
use lib.ListN.{length, get_or, set, take, get_or-eq_default}
use lib.Seq.{get_or-take}
use lib.ListN.{length-take}
use Rattle.std.specs.Bool.{MatchBool}
use Rattle.std.specs.List.{AllWithin, HoldsAt}
use borrow.Author.Tests.{ltb-true, ltb-false, le-ltb, eq-eqb, ne_eqb}
use Rattle.model.specs.declared.Frame.{Frame}
use Rattle.model.specs.Values.{payload_at}
use Rattle.model.specs.Stores.{start, size, code_word}
use Rattle.frames.specs.Links.{no_frame, callers_of, places_of, place_at, place_of, trace_words, written, inside_good, trace_good, Readable}

pub code_start_lem : (words : List ℕ) (i : ℕ) {w n : ℕ} → w ≡ payload_at words i → n ≡ start w → n ≡ start (code_word words i)
unfolding code_word
code_start_lem words i e f = rw e at f

-- ---- a place is read from main's places, or the others'

module _ (words main other : List ℕ) (r : Frame) (b y : ℕ) (eb : b ≡ start (code_word words r.function)) (ey : y ≡ r.position - 1) where
  pub in_main : Readable words main other r → r.function ≡ 0 → b + y < length main
  unfolding place_at places_of
  in_main h e = rw (eb, ey) (rw (eq-eqb r.function 0 e) at h.inside)

  pub in_other : Readable words main other r → (r.function ≡ 0 → ⊥) → b + y < length other
  unfolding place_at places_of
  in_other h e = rw (eb, ey) (rw (ne_eqb r.function 0 e) at h.inside)

  pub from_main : (p : ℕ) → r.function ≡ 0 → p ≡ get_or main (b + y) 0 → p ≡ place_of words main other r
  unfolding place_of place_at places_of
  from_main p e h = h ∙ rw (eb, ey, eq-eqb r.function 0 e)

  pub from_other : (p : ℕ) → (r.function ≡ 0 → ⊥) → p ≡ get_or other (b + y) 0 → p ≡ place_of words main other r
  unfolding place_of place_at places_of
  from_other p e h = h ∙ rw (eb, ey, ne_eqb r.function 0 e)

-- ---- whether a place lies inside its code

pub no_function : (words : List ℕ) (r : Frame) → length words / 2 ≤ r.function → false ≡ inside_good words r
unfolding inside_good size code_word payload_at
no_function words r h =
    let l : length words ≤ 2 * r.function + 1 = omega arith in
    rw (get_or-eq_default words 0 l) (sym (le-ltb (r.position - 1) 0 (omega arith)))

pub judged : (words : List ℕ) (r : Frame) (l y : ℕ) → l ≡ size (code_word words r.function) → y ≡ r.position - 1 → ltb y l ≡ inside_good words r
unfolding inside_good
judged words r l y e f = rw (e, f)

-- all callers are judged in the store's order, from the root on
module _ (words : List ℕ) (frames : List Frame) where
  all_inside : (n : ℕ) → ((k : ℕ) → k < n → inside_good words (get_or frames k no_frame) ≡ true) → trace_good words (callers_of n frames) ≡ true
  unfolding callers_of trace_good
  all_inside zero h = refl
  all_inside (suc n) h = rw (h n (omega arith), all_inside n (λ k l. h k (omega arith))) refl

  one_outside : (n k : ℕ) → k < n → inside_good words (get_or frames k no_frame) ≡ false → trace_good words (callers_of n frames) ≡ false
  unfolding callers_of trace_good
  one_outside zero k l e = absurd (omega (arith, l))
  one_outside (suc n) k l e = by_case (ltb k n) refl (λ b. one_outside n k b e)
    where
      by_case : (b : Bool) → ltb k n ≡ b → (k < n → trace_good words (callers_of n frames) ≡ false) → (inside_good words (get_or frames n no_frame) && trace_good words (callers_of n frames)) ≡ false
      by_case true t h = rw (h (ltb-true k n t)) (and-false (inside_good words (get_or frames n no_frame)))
      by_case false t h = let here : k ≡ n = omega (arith, ltb-false k n t) in rw (rw here at e) refl

  pub judged_callers : (n : ℕ) (r : Bool) → n ≤ length frames
      → MatchBool r (AllWithin (λ f. inside_good words f ≡ true) (take n frames) 0 (length (take n frames))) ((k : ℕ) × (k < length (take n frames)) × HoldsAt (λ f. inside_good words f ≡ false) (take n frames) k)
      → r ≡ trace_good words (callers_of n frames)
  judged_callers n true h m = sym (all_inside n (λ k l. rw (get_or-take n frames k no_frame l) at (m k no_frame (omega arith) (omega (arith, length-take n frames)))))
  judged_callers n false h m =
      let l : m.0 < n = omega (arith, m.1, length-take n frames) in
      sym (one_outside n m.0 l (rw (get_or-take n frames m.0 no_frame l) at (m.2 no_frame)))

-- ---- a backtrace is written entry by entry

module _ (words main other : List ℕ) where
  pub entry_written : (r : Frame) (out : List ℕ) (j : ℕ) → set (set (set out j r.function) (j + 1) (place_of words main other r)) (j + 2) r.entered ≡ written out j (trace_words words main other (r ∷ []))
  unfolding trace_words written
  entry_written r out j = let two : j + 2 ≡ suc (suc j) = omega arith in rw (two, add-one j) refl

  -- what is ahead of the entries that are written: an entry more, and what is ahead of it
  pub one_entry_more : (frames : List Frame) (out out' : List ℕ) (i j k k' : ℕ) → 0 < i → j ≡ k → k + 3 ≡ k'
      → out' ≡ written out j (trace_words words main other (get_or frames (i - 1) no_frame ∷ []))
      → written out' k' (trace_words words main other (callers_of (i - 1) frames)) ≡ written out k (trace_words words main other (callers_of i frames))
  unfolding callers_of trace_words written
  one_entry_more frames out out' zero j k k' h e three f = absurd (omega (arith, h))
  one_entry_more frames out out' (suc i) j k k' h e three f = let d : suc i - 1 ≡ i = omega arith in let ends : k' ≡ suc (suc (suc k)) = omega arith in rw (f, ends, d, e) refl
