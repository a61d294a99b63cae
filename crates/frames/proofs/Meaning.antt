-- What the contracts' definitions are in the model's words, where the functions' words stand for the functions.
--     frames-are-good      good order of the frames
--     trace-is-good        whether there can be a backtrace
--     trace-is             the backtrace in numbers
-- Assumes nothing.
use Rattle.std.specs.Prelude.{if◌then◌else◌}
use mathlib.Core.Path.{◌≡◌, refl, sym, ap, ◌∙◌}
use mathlib.Core.Bool.{Bool, true, false, ◌&&◌, and-false}
use mathlib.Mathlib.Data.Bool.Basic.{and_elim_left, and_elim_right}
use mathlib.Core.List.{List, [], ◌∷◌}
use Prim.Native.Nat.{ℕ, zero, suc, ◌+◌, ◌-◌, ◌<◌, ◌≤◌, min}
use native.Mathlib.Omega.{arith}
use lib.Dec.{ltb, leb, eqb, eqb-suc-zero}
use lib.ListN.{length, get_or, take, drop}
use lib.Seq.{drop-cons, get_or-take, get_or-drop}
use borrow.Author.Tests.{ltb-true, lt-ltb, le-ltb, le-leb, leb-true}
use Rattle.model.specs.declared.Frame.{Frame}
use Rattle.model.specs.Basics.{every_from}
use Rattle.model.specs.Values.{most_places, text_at}
use Rattle.model.specs.Programs.{Function, function_at}
use Rattle.model.specs.Stores.{start, size, part, code_word}
use Rattle.model.specs.Orders.{frame_ok, caller_ok, frames_from, frames_ok, frame_store_ok}
use Rattle.model.specs.Runs.{trace_of, traceable}
use Rattle.frames.specs.Links.{no_frame, frame_good, entered_good, caller_good, place_good, caller_entered, frames_good, callers_of, places_of, place_at, place_of, trace_words, entry_words, inside_good, trace_good}

last : (a f : Bool) → (a && f && true && true) ≡ (f && a)
last true true = refl
last true false = refl
last false true = refl
last false false = refl

-- the test of how a frame was entered stands in front of its others in the model
in_front_lem : (a f c l x : Bool) → (a && f && c && (l && x)) ≡ (f && (a && c && l && x))
in_front_lem true true true l x = refl
in_front_lem true true false l x = refl
in_front_lem true false c l x = refl
in_front_lem false true c l x = refl
in_front_lem false false c l x = refl

not_first : (i caller : ℕ) (r : Frame) → entered_good (suc i) caller r ≡ leb caller r.entered
unfolding entered_good
not_first i caller r = rw (eqb-suc-zero i)

module _ (words : List ℕ) (count slots : ℕ) (fs : List Function) (counted : length fs ≡ count) (sizes : (i : ℕ) → i < count → length (function_at fs i).code ≡ size (code_word words i)) where
  same_frame : (r : Frame) → frame_good count slots r ≡ frame_ok fs slots r
  unfolding frame_good frame_ok
  same_frame r = rw counted

  -- where the function is not known both are false
  by_known : (r : Frame) (b : Bool) → ltb r.function count ≡ b
      → (frame_good count slots r && (leb 1 r.position && leb r.position (size (code_word words r.function)))) ≡ (frame_ok fs slots r && caller_ok fs r)
  unfolding frame_good frame_ok caller_ok
  by_known r true e = rw (counted, sizes r.function (ltb-true r.function count e))
  by_known r false e = rw (counted, e)

  module _ (n : ℕ) (frames : List Frame) (room : n ≤ length frames) where
    abbrev at : ℕ → Frame
    at i = get_or frames i no_frame

    abbrev entry : ℕ → Bool
    entry i = entered_good i (caller_entered frames i) (at i)

    abbrev inwards : ℕ → ℕ → Bool
    inwards k i = frames_from fs slots (at i) (take k (drop (suc i) frames))

    -- the frame at the next place was entered no earlier than the one at i
    next_entry : (i : ℕ) → entry (suc i) ≡ leb (at i).entered (at (suc i)).entered
    unfolding caller_entered
    next_entry i = not_first i (at i).entered (at (suc i))

    from_here : (k i : ℕ) → i + suc k ≡ n → every_from (suc k) i (λ j. place_good words count slots n j (caller_entered frames j) (at j)) ≡ (entry i && inwards k i)
    unfolding every_from place_good caller_good frames_from
    from_here zero i e = let h : n ≤ i + 1 = omega arith in rw (le-ltb (i + 1) n) (last (frame_good count slots (at i)) (entry i) ∙ rw same_frame)
    from_here (suc k) i e =
        let h : i + 1 < n = omega arith in let l : suc i < length frames = omega arith in
        rw (lt-ltb (i + 1) n, drop-cons frames (suc i) no_frame)
        (ap (λ (x : Bool). frame_good count slots (at i) && entry i && (leb 1 (at i).position && leb (at i).position (size (code_word words (at i).function))) && x)
        (from_here k (suc i) (omega arith) ∙ ap (λ (b : Bool). b && inwards k (suc i)) (next_entry i))
        ∙ in_front_lem (frame_good count slots (at i)) (entry i) _ (leb (at i).entered (at (suc i)).entered) (inwards k (suc i))
        ∙ ap (λ (b : Bool). entry i && (b && leb (at i).entered (at (suc i)).entered && inwards k (suc i))) (by_known (at i) (ltb (at i).function count) refl))

  -- whether there is room for the frames, as both say it
  by_room : (m : ℕ) (frames : List Frame) (b : Bool) → leb (suc m) (min (length frames) most_places) ≡ b → frames_good words count slots (suc m) frames ≡ frame_store_ok fs slots (suc m) frames
  unfolding frames_good frame_store_ok frames_ok entered_good
  by_room m frames true e =
      let h : suc m ≤ length frames = omega (arith, leb-true (suc m) (min (length frames) most_places) e) in let l : 0 < length frames = omega arith in
      rw (e, le-leb 1 (suc m) (omega arith)) (from_here (suc m) frames h m 0 (omega arith) ∙ sym (ap (λ (rs : List Frame). frames_ok fs slots (take (suc m) rs)) (drop-cons frames 0 no_frame l)))
  by_room m frames false e = rw (e, le-leb 1 (suc m) (omega arith))

  pub frames_are_good : (n : ℕ) (frames : List Frame) → frames_good words count slots n frames ≡ frame_store_ok fs slots n frames
  unfolding frames_good frame_store_ok frames_ok
  frames_are_good zero frames = sym (and-false (leb 0 (min (length frames) most_places)))
  frames_are_good (suc m) frames = by_room m frames (leb (suc m) (min (length frames) most_places)) refl

-- ---- the backtrace

-- every frame's function is known
abbrev pub AllKnown : ℕ → List Frame → Type 0
AllKnown count [] = Unit {0}
AllKnown count (r ∷ rs) = (r.function < count) × AllKnown count rs

pub known_callers : (count n : ℕ) (frames : List Frame) → ((i : ℕ) → i < n → (get_or frames i no_frame).function < count) → AllKnown count (callers_of n frames)
unfolding callers_of
known_callers count zero frames h = tt
known_callers count (suc n) frames h = (h n (omega arith), known_callers count n frames (λ i l. h i (omega arith)))

module _ (words : List ℕ) (count : ℕ) (fs : List Function) (sizes : (i : ℕ) → i < count → length (function_at fs i).code ≡ size (code_word words i)) where
  pub trace_is_good : (rs : List Frame) → AllKnown count rs → trace_good words rs ≡ traceable fs rs
  unfolding trace_good traceable inside_good
  trace_is_good [] k = refl
  trace_is_good (r ∷ rs) k = rw (sizes r.function k.0, trace_is_good rs k.1)

  -- main and other are the places of main and of the others: each function's are the part that its word names
  module _ (main other : List ℕ) (places : (i : ℕ) → i < count → (function_at fs i).places ≡ part (if eqb i 0 then main else other) (code_word words i)) where
    place_is : (r : Frame) → r.function < count → r.position - 1 < size (code_word words r.function) → place_of words main other r ≡ get_or (function_at fs r.function).places (r.position - 1) 0
    unfolding place_of places_of place_at part text_at
    place_is r k l =
        sym (ap (λ (s : List ℕ). get_or s (r.position - 1) 0) (places r.function k)
        ∙ get_or-take (size (code_word words r.function)) (drop (start (code_word words r.function)) (if eqb r.function 0 then main else other)) (r.position - 1) 0 l
        ∙ get_or-drop (start (code_word words r.function)) (if eqb r.function 0 then main else other) (r.position - 1) 0)

    pub trace_is : (rs : List Frame) → AllKnown count rs → trace_good words rs ≡ true → trace_words words main other rs ≡ entry_words (trace_of fs rs)
    unfolding trace_words entry_words trace_of trace_good inside_good
    trace_is [] k g = refl
    trace_is (r ∷ rs) k g =
        rw (
          place_is r k.0 (ltb-true (r.position - 1) (size (code_word words r.function)) (and_elim_left _ (trace_good words rs) g)),
          trace_is rs k.1 (and_elim_right (ltb (r.position - 1) (size (code_word words r.function))) (trace_good words rs) g),
        )
