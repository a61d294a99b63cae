-- Two texts in one store, as the parts of it that they are.
use mathlib.Core.Path.{◌≡◌}
use mathlib.Core.Bool.{Bool}
use mathlib.Core.List.{List}
use Prim.Native.Nat.{ℕ, ◌+◌, ◌-◌}
use native.Mathlib.Omega.{arith}
use lib.ListN.{take, drop}
use Rattle.model.specs.Values.{text_at}
use Rattle.model.specs.Equality.{same_bytes}

pub texts_same : (t : List ℕ) (o n p m : ℕ) {same : Bool} → same ≡ same_bytes (take (o + n - o) (drop o t)) (take (p + m - p) (drop p t))
    → same ≡ same_bytes (text_at t o n) (text_at t p m)
unfolding text_at
texts_same t o n p m e = let a : o + n - o ≡ n = omega arith in let b : p + m - p ≡ m = omega arith in rw (a, b) at e
