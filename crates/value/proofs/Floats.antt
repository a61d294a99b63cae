-- A float as a word: `nan` is 7FF8000000000000, and every NaN's bits are read as `nan`.
use mathlib.Core.Path.{◌≡◌, refl, sym, subst, ◌∙◌}
use mathlib.Core.Bool.{true, false, not}
use mathlib.Core.List.{[], ◌∷◌}
use Prim.Native.Nat.{ℕ, ◌<◌, ◌≤◌, ◌%◌}
use lib.Dec.{T}
use lib.Ieee as Ieee
use lib.IntN.{pos}
use lib.Ieee.{Float, nan, inf, fin, binary64, is_nan, nan_bits, of_bits, to_bits}
use lib.Ieee.Compare.{differs_from_itself, nan_differs}
use lib.Ieee.Bits.{nan_bits_is, nan_bits_above}
use borrow.Author.Tests.{lt-ltb, le-ltb}
use denote.Enum.Declared.{tag_of}
use types.Run.{OneOf, miss}
use Rattle.model.specs.contracts.Arith.{the_type}
use Rattle.model.specs.declared.Arith.{Arith}
use Rattle.model.specs.declared.Arith.TheVariants as a
use Rattle.model.specs.Scalars.{finite, zero_divisor}

-- what differs from itself is the NaN
pub nan_word : (x : Float) → Ieee.ne x x ≡ true → 0x7FF8_0000_0000_0000 ≡ to_bits binary64 x
unfolding to_bits
nan_word x e = rw (differs_from_itself x (subst T (sym e) tt))

pub no_nan : (x : Float) → Ieee.ne x x ≡ false → T (not (is_nan x))
unfolding is_nan
no_nan nan e = let z : true ≡ false = sym nan_differs ∙ e in subst T z tt
no_nan (inf s) e = tt
no_nan (fin s m d) e = tt

is_nan_lem : (x : Float) → is_nan x ≡ true → x ≡ nan
unfolding is_nan
is_nan_lem nan e = refl
is_nan_lem (inf s) e = cc
is_nan_lem (fin s m d) e = cc

-- bits above those of the infinity are a NaN's, with either sign
pub nan_above : (b : ℕ) → 0x7FF0_0000_0000_0000 < b % 0x8000_0000_0000_0000 → of_bits binary64 b ≡ nan
nan_above b h = is_nan_lem (of_bits binary64 b) (sym (nan_bits_is binary64 b) ∙ nan_bits_above binary64 b ∙ lt-ltb _ _ h)

pub no_nan_below : (b : ℕ) → b % 0x8000_0000_0000_0000 ≤ 0x7FF0_0000_0000_0000 → T (not (nan_bits binary64 b))
no_nan_below b h = rw (nan_bits_above, le-ltb _ _ h) tt

pub zero_by_zero : Ieee.div binary64 (of_bits binary64 0) (of_bits binary64 0) ≡ nan
unfolding Ieee.div Ieee.of_bits Ieee.of_fields Ieee.odd
zero_by_zero = refl

pub zero_bits : of_bits binary64 0 ≡ fin false 0 (pos 0)
unfolding Ieee.of_bits Ieee.of_fields Ieee.odd
zero_bits = refl

-- ---- what is finite lies between the infinities

pub infinity_bits : of_bits binary64 0x7FF0_0000_0000_0000 ≡ inf false
unfolding Ieee.of_bits Ieee.of_fields Ieee.odd
infinity_bits = refl

pub infinity_is_no_nan : T (not (nan_bits binary64 0x7FF0_0000_0000_0000))
unfolding nan_bits
infinity_is_no_nan = tt

pub above_the_least : (x : Float) → Ieee.lt x (inf false) ≡ true → Ieee.lt (Ieee.neg (inf false)) x ≡ finite x
unfolding Ieee.lt Ieee.neg finite
above_the_least nan e = refl
above_the_least (inf true) e = refl
above_the_least (inf false) e = sym e
above_the_least (fin s m d) e = refl

pub not_below_the_most : (x : Float) → Ieee.lt x (inf false) ≡ false → false ≡ finite x
unfolding Ieee.lt finite
not_below_the_most nan e = refl
not_below_the_most (inf s) e = refl
not_below_the_most (fin s m d) e = sym e

-- what is no division has no zero divisor
pub no_division : (w : Arith) (y : Float) → OneOf (0 ∷ 1 ∷ 2 ∷ []) (tag_of the_type w) → false ≡ zero_divisor w y
unfolding zero_divisor
no_division a.Add y h = refl
no_division a.Subtract y h = refl
no_division a.Multiply y h = refl
no_division a.Divide y h = absurd (miss (0 ∷ 1 ∷ 2 ∷ []) 3 tt h)
