-- A frame that is put rests there whole: none of its four numbers is lost.
use mathlib.Core.Path.{◌≡◌, ◌∙◌}
use mathlib.Core.List.{List}
use Prim.Native.Nat.{ℕ, ◌+◌, ◌*◌, ◌/◌, ◌<◌}
use native.Mathlib.Omega.{arith}
use lib.Dec.{ltb}
use lib.ListN.{length, get_or, length-set}
use lib.Seq.{get_or-set_same, get_or-set_other}
use borrow.Author.Tests.{lt-ltb}
use Rattle.model.specs.declared.Frame.{Frame}
use Rattle.layout.proofs.Bools.{either_way}
use Rattle.console_damage.specs.Damage.{put_at, frame_in, frame_at}

-- ---- one number

module _ (s : List ℕ) (i n : ℕ) where
  as_long : length (put_at s i n) ≡ length s
  unfolding put_at
  as_long = either_way (ltb i (length s)) (λ e. rw e (length-set s i n)) (λ e. rw e)

  put_there : i < length s → get_or (put_at s i n) i 0 ≡ n
  unfolding put_at
  put_there h = rw (lt-ltb i (length s) h) (get_or-set_same s i n 0 h)

  put_elsewhere : (j : ℕ) → (j ≡ i → ⊥) → get_or (put_at s i n) j 0 ≡ get_or s j 0
  unfolding put_at
  put_elsewhere j d = either_way (ltb i (length s)) (λ e. rw e (get_or-set_other s i j n 0 d)) (λ e. rw e)

-- ---- the four of a frame

module _ (s : List ℕ) (i : ℕ) (f : Frame) (h : i < length s / 4) where
  abbrev s₁ : List ℕ
  s₁ = put_at s (4 * i) f.function

  abbrev s₂ : List ℕ
  s₂ = put_at s₁ (4 * i + 1) f.position

  abbrev s₃ : List ℕ
  s₃ = put_at s₂ (4 * i + 2) f.base

  abbrev s₄ : List ℕ
  s₄ = put_at s₃ (4 * i + 3) f.entered

  long₁ : length s₁ ≡ length s
  long₁ = as_long s (4 * i) f.function

  long₂ : length s₂ ≡ length s
  long₂ = as_long s₁ (4 * i + 1) f.position ∙ long₁

  long₃ : length s₃ ≡ length s
  long₃ = as_long s₂ (4 * i + 2) f.base ∙ long₂

  long₄ : length s₄ ≡ length s
  long₄ = as_long s₃ (4 * i + 3) f.entered ∙ long₃

  function_rests : get_or s₄ (4 * i) 0 ≡ f.function
  function_rests =
      put_elsewhere s₃ (4 * i + 3) f.entered (4 * i) (λ e. omega arith) ∙ put_elsewhere s₂ (4 * i + 2) f.base (4 * i) (λ e. omega arith)
      ∙ put_elsewhere s₁ (4 * i + 1) f.position (4 * i) (λ e. omega arith) ∙ put_there s (4 * i) f.function (omega arith)

  position_rests : get_or s₄ (4 * i + 1) 0 ≡ f.position
  position_rests =
      put_elsewhere s₃ (4 * i + 3) f.entered (4 * i + 1) (λ e. omega arith) ∙ put_elsewhere s₂ (4 * i + 2) f.base (4 * i + 1) (λ e. omega arith)
      ∙ put_there s₁ (4 * i + 1) f.position (let l = long₁ in omega arith)

  base_rests : get_or s₄ (4 * i + 2) 0 ≡ f.base
  base_rests =
      put_elsewhere s₃ (4 * i + 3) f.entered (4 * i + 2) (λ e. omega arith) ∙ put_there s₂ (4 * i + 2) f.base (let l = long₂ in omega arith)

  entered_rests : get_or s₄ (4 * i + 3) 0 ≡ f.entered
  entered_rests = put_there s₃ (4 * i + 3) f.entered (let l = long₃ in omega arith)

  pub put_frame_rests : frame_in (frame_at s i f) i ≡ f
  unfolding frame_in frame_at
  put_frame_rests = rw (lt-ltb i (length s / 4) h, long₄, lt-ltb i (length s / 4) h, function_rests, position_rests, base_rests, entered_rests)
