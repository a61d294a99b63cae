-- Frames as a slice has them, the root first, and as a machine has them: the innermost, then its callers.
--     innermost-is      the innermost of a machine's frames stands behind its callers
--     callers-are       the callers, nearest first, are those that the run counts
--     length-callers    so many callers
--     callers-kept      a frame written behind the callers does not change them
--     callers-more      and is then the nearest of one more
--     callers-first     the nearest of them, and the others
-- Assumes nothing.
use mathlib.Core.Path.{◌≡◌, refl, ap, ◌∙◌}
use mathlib.Core.List.{List, [], ◌∷◌, reverse, reverse-append}
use Prim.Native.Nat.{ℕ, zero, suc, ◌-◌, ◌≤◌, ◌<◌}
use native.Mathlib.Omega.{arith}
use lib.ListN.{length, get_or, set, take}
use lib.Seq.{take-suc, get_or-set_same, get_or-set_other}
use Rattle.model.specs.declared.Frame.{Frame}
use Rattle.model.specs.Machines.{innermost, callers_in}
use Rattle.frames.specs.Links.{no_frame, callers_of}

pub innermost_is : (n : ℕ) {k : ℕ} (frames : List Frame) → n - 1 ≡ k → innermost n frames ≡ get_or frames k no_frame
unfolding innermost
innermost_is n frames e = rw e

taken : (n : ℕ) (frames : List Frame) → n ≤ length frames → reverse (take n frames) ≡ callers_of n frames
unfolding callers_of
taken zero frames h = refl
taken (suc n) frames h =
    rw (take-suc frames n no_frame h) (reverse-append (take n frames) (get_or frames n no_frame ∷ []) ∙ ap (λ (fs : List Frame). get_or frames n no_frame ∷ fs) (taken n frames (omega arith)))

pub callers_are : (n : ℕ) {k : ℕ} (frames : List Frame) → n - 1 ≡ k → k ≤ length frames → callers_in n frames ≡ callers_of k frames
unfolding callers_in
callers_are n {k} frames e h = rw e (taken k frames h)

pub length_callers : (n : ℕ) (frames : List Frame) → length (callers_of n frames) ≡ n
unfolding callers_of
length_callers zero frames = refl
length_callers (suc n) frames = ap suc (length_callers n frames)

pub callers_kept : (n i : ℕ) (frames : List Frame) (f : Frame) → n ≤ i → callers_of n (set frames i f) ≡ callers_of n frames
unfolding callers_of
callers_kept zero i frames f h = refl
callers_kept (suc n) i frames f h = rw (get_or-set_other frames i n f no_frame (λ e. omega arith), callers_kept n i frames f (omega arith))

pub callers_more : (n : ℕ) (frames : List Frame) (f : Frame) → n < length frames → callers_of (suc n) (set frames n f) ≡ f ∷ callers_of n frames
unfolding callers_of
callers_more n frames f h = rw (get_or-set_same frames n f no_frame h, callers_kept n n frames f (omega arith))

pub callers_first : (n : ℕ) (frames : List Frame) → callers_of (suc n) frames ≡ get_or frames n no_frame ∷ callers_of n frames
unfolding callers_of
callers_first n frames = refl
