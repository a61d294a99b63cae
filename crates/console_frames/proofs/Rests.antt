-- Frames are laid, and kept, from the last to the first: one frame further down.
use mathlib.Core.Path.{◌≡◌}
use mathlib.Core.List.{List}
use Prim.Native.Nat.{ℕ, zero, suc, ◌-◌, ◌<◌, ◌≤◌}
use native.Mathlib.Omega.{arith}
use lib.ListN.{get_or, set}
use Rattle.model.specs.declared.Frame.{Frame}
use Rattle.frames.specs.Links.{no_frame}
use Rattle.console_damage.specs.Damage.{frame_in, frame_at}
use Rattle.console_frames.specs.Resting.{laid, kept}

pub laid_turn : (n : ℕ) → 0 < n → (words : List ℕ) (fs : List Frame) → laid n words fs ≡ laid (n - 1) words (set fs (n - 1) (frame_in words (n - 1)))
unfolding laid
laid_turn zero h words fs = absurd (let z : ⊥ = omega arith in z)
laid_turn (suc n) h words fs = let e : suc n - 1 ≡ n = omega arith in rw e

pub kept_turn : (n : ℕ) → 0 < n → (frames : List Frame) (ws : List ℕ)
    → kept n frames ws ≡ kept (n - 1) frames (frame_at ws (n - 1) (get_or frames (n - 1) no_frame))
unfolding kept
kept_turn zero h frames ws = absurd (let z : ⊥ = omega arith in z)
kept_turn (suc n) h frames ws = let e : suc n - 1 ≡ n = omega arith in rw e

pub laid_end : (n : ℕ) → n ≤ 0 → (words : List ℕ) (fs : List Frame) → laid n words fs ≡ fs
unfolding laid
laid_end n h words fs = let e : n ≡ 0 = omega arith in rw e

pub kept_end : (n : ℕ) → n ≤ 0 → (frames : List Frame) (ws : List ℕ) → kept n frames ws ≡ ws
unfolding kept
kept_end n h frames ws = let e : n ≡ 0 = omega arith in rw e
