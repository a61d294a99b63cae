-- What the answers stand for.
use Rattle.std.specs.Prelude.{◌≡◌, List, ℕ, zero, suc, ◌+◌, ◌-◌, ◌*◌, ◌≤◌, ◌<◌, ◌^◌, length, drop, None, Option, Some}
use Rattle.model.specs.Basics.{written}
use Rattle.model.specs.Numbers.{Step, got, bad, groups, number}

-- a number of f groups and a last one below 16 is below this
unfoldable pub limit : ℕ → ℕ
limit zero = 16
limit (suc f) = 128 * limit f

-- the step that an answer in s stands for, bad k where it is broken
abbrev pub step_of : ℕ → List ℕ → Option (ℕ × ℕ) → Step ℕ
step_of k s (Some (v, next)) = got v (drop next s)
step_of k s None = bad k

-- the step that an answer at place i of s stands for
abbrev pub num_of : List ℕ → ℕ → Option (ℕ × ℕ) → Step ℕ
num_of s i r = step_of (length s - i) s r

-- a number is below m, and its bytes lie in s, at least one from place i on
abbrev pub Ahead : ℕ → List ℕ → ℕ → Option (ℕ × ℕ) → Type 0
Ahead m s i (Some (v, next)) = (i < next) × (next ≤ length s) × (v < m)
Ahead m s i None = Unit

pub record GroupsPost (f : ℕ) (s : List ℕ) (i : ℕ) (r : Option (ℕ × ℕ)) : Type 0 where
  pub means : groups f (drop i s) ≡ step_of 0 s r
  pub ahead : Ahead (limit f) s i r

pub record NumPost (s : List ℕ) (i : ℕ) (r : Option (ℕ × ℕ)) : Type 0 where
  pub means : number (drop i s) ≡ num_of s i r
  pub ahead : Ahead (2 ^ 32) s i r

-- the bytes l were stored, and r is the place behind them
pub record WritePost (l s : List ℕ) (i : ℕ) (s' : List ℕ) (r : ℕ) : Type 0 where
  pub stored : s' ≡ written s i l
  pub next : r ≡ i + length l
