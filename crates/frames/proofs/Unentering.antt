-- The first n frames unentered, as the beginning of a run leaves them.
--     none_yet, next-frame, one_more, one_more_of, all_of     the loop that sets the numbers to 0
--     unentered-room                     as many frames as before
--     unentered-taken                    the first frames, each unentered
--     innermost-unentered                a machine's innermost frame in them, unentered
--     callers-unentered                  and its callers
-- Assumes nothing.
use mathlib.Core.Path.{◌≡◌, refl, sym, ap, ◌∙◌}
use mathlib.Core.List.{List, [], ◌∷◌, ◌++◌, map, reverse}
use mathlib.Mathlib.Data.List.Basic.{map-reverse_aux}
use Prim.Native.Nat.{ℕ, zero, suc, ◌-◌, ◌≤◌, ◌<◌}
use native.Mathlib.Omega.{arith}
use lib.ListN.{length, get_or, set, take, drop}
use Rattle.std.proofs.lemmas.List.{take_all, drop_all, append-nil}
use Rattle.model.specs.declared.Frame.{Frame}
use Rattle.model.specs.Runs.{root, unentered}
use Rattle.model.specs.Machines.{innermost, callers_in}
use Rattle.frames.specs.Links.{no_frame, all_unentered}

-- ---- the loop

pub unentered_room : (n : ℕ) (frames : List Frame) → length (all_unentered n frames) ≡ length frames
unfolding all_unentered
unentered_room zero [] = refl
unentered_room zero (f ∷ fs) = refl
unentered_room (suc n) [] = refl
unentered_room (suc n) (f ∷ fs) = ap suc (unentered_room n fs)

pub none_yet : (frames : List Frame) → frames ≡ all_unentered 0 frames
unfolding all_unentered
none_yet [] = refl
none_yet (f ∷ fs) = refl

-- the frame at i is still as it was
pub next_frame : (i : ℕ) (frames : List Frame) → get_or (all_unentered i frames) i no_frame ≡ get_or frames i no_frame
unfolding all_unentered
next_frame zero [] = refl
next_frame zero (f ∷ fs) = refl
next_frame (suc i) [] = refl
next_frame (suc i) (f ∷ fs) = next_frame i fs

pub one_more : (i : ℕ) (frames : List Frame) → i < length frames → set (all_unentered i frames) i (unentered (get_or frames i no_frame)) ≡ all_unentered (suc i) frames
unfolding all_unentered
one_more i [] h = absurd (omega (arith, h))
one_more zero (f ∷ []) h = refl
one_more zero (f ∷ g ∷ gs) h = refl
one_more (suc i) (f ∷ fs) h = ap (λ (gs : List Frame). unentered f ∷ gs) (one_more i fs (omega arith))

-- whatever the frames are that are gone over
pub one_more_of : (i : ℕ) (frames here : List Frame) → here ≡ all_unentered i frames → i < length here → set here i (unentered (get_or here i no_frame)) ≡ all_unentered (suc i) frames
one_more_of i frames here e h = rw (e, next_frame i frames) (one_more i frames (omega (arith, ap length e ∙ unentered_room i frames)))

-- past the last of the first n frames all of them are unentered
pub all_of : (i n : ℕ) (frames : List Frame) → length (take n frames) ≤ i → all_unentered i (take n frames) ++ drop n frames ≡ all_unentered n frames
unfolding all_unentered
all_of i n frames h = rw (take_all i (take n frames) h, drop_all i (take n frames) h, append-nil (map unentered (take n frames))) refl

-- ---- what they are

pub unentered_taken : (n k : ℕ) (frames : List Frame) → k ≤ n → take k (all_unentered n frames) ≡ map unentered (take k frames)
unfolding all_unentered
unentered_taken n zero [] h = refl
unentered_taken n zero (f ∷ fs) h = refl
unentered_taken zero (suc k) frames h = absurd (omega (arith, h))
unentered_taken (suc n) (suc k) [] h = refl
unentered_taken (suc n) (suc k) (f ∷ fs) h = ap (λ (gs : List Frame). unentered f ∷ gs) (unentered_taken n k fs (omega arith))

unentered_at : (n k : ℕ) (frames : List Frame) → k < n → get_or (all_unentered n frames) k (root 0) ≡ unentered (get_or frames k (root 0))
unfolding all_unentered
unentered_at zero k frames h = absurd (omega (arith, h))
unentered_at (suc n) k [] h = refl
unentered_at (suc n) zero (f ∷ fs) h = refl
unentered_at (suc n) (suc k) (f ∷ fs) h = unentered_at n k fs (omega arith)

pub innermost_unentered : (n : ℕ) (frames : List Frame) → 1 ≤ n → innermost n (all_unentered n frames) ≡ unentered (innermost n frames)
unfolding innermost
innermost_unentered n frames h = unentered_at n (n - 1) frames (omega arith)

pub callers_unentered : (n : ℕ) (frames : List Frame) → callers_in n (all_unentered n frames) ≡ map unentered (callers_in n frames)
unfolding callers_in
callers_unentered n frames = ap reverse (unentered_taken n (n - 1) frames (omega arith)) ∙ sym (map-reverse_aux unentered (take (n - 1) frames) [])
