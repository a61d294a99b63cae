-- The tally of the Calls: an entry for each function, which is 0 where no Call names it, 1 where two Calls differ, else the count and two more.
use Rattle.std.specs.Prelude.{Bool, false, ◌||◌, List, [], ◌∷◌, ℕ, ◌+◌, eqb, if◌then◌else◌}
use Rattle.check_rules.specs.Rules.{Site}

-- an entry v after a Call that passes k
unfoldable pub entered : (v k : ℕ) → ℕ
entered v k = if eqb v 0 then k + 2 else (if eqb v (k + 2) then v else 1)

-- the entry v of function f after a Call
unfoldable pub entered_at : (f v : ℕ) → Site → ℕ
entered_at f v c = if eqb c.function f then entered v c.count else v

-- the entry v of function f after all these
unfoldable pub tallied : (f v : ℕ) → List Site → ℕ
tallied f v [] = v
tallied f v (c ∷ cs) = tallied f (entered_at f v c) cs

-- a Call names f
unfoldable pub is_named : (f : ℕ) → List Site → Bool
is_named f [] = false
is_named f (c ∷ cs) = eqb c.function f || is_named f cs
