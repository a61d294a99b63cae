-- What records come to, one record more.
use mathlib.Core.Path.{◌≡◌, refl}
use mathlib.Core.Bool.{Bool, true, false, not}
use mathlib.Core.List.{List, [], ◌∷◌}
use Prim.Native.Nat.{ℕ, ◌+◌, ◌≤◌}
use native.Mathlib.Omega.{arith}
use lib.ListN.{length}
use mir.Val.{bool_byte}
use Rattle.std.specs.Prelude.{Result, Ok}
use Rattle.std.specs.Fn.{Mut, Called}
use Rattle.records.specs.declared.Stop.{Stop}
use Rattle.records.specs.declared.Tally.{Tally}
use Rattle.records.specs.Counting.{differences, none, one_more, Counted}

few : (verdicts : List Bool) → differences verdicts ≤ length verdicts
unfolding differences
few [] = omega arith
few (true ∷ verdicts) = let h = few verdicts in omega (arith, h)
few (false ∷ verdicts) = let h = few verdicts in omega (arith, h)

-- a verdict is one difference at most
pub one_at_most : (differs : Bool) {n : ℕ} → n ≡ bool_byte differs → n ≤ 1
one_at_most true e = omega (arith, e)
one_at_most false e = omega (arith, e)

module _ {F : Type 0} {g : Mut F (ℕ × Unit {0}) (Result Bool Stop)} {first : F} where
  -- no more records differ than were judged
  pub fewer : {all : Tally} {last : F} → Counted g first all last → all.differences ≤ all.cases
  fewer h = rw (h.cases, h.differing) (few h.verdicts)

  -- nothing was judged
  pub nothing : Counted g first (record { cases = 0; differences = 0 }) first
  unfolding differences
  nothing = record { verdicts = []; judged = none; cases = refl; differing = refl }

  -- one more record was
  pub counted : {all : Tally} {f f' : F} {verdict : Bool} → Counted g first all f → Called g f (all.cases, tt) (Ok verdict) f' → {n : ℕ} → n ≡ bool_byte (not verdict)
      → Counted g first (record { cases = all.cases + 1; differences = all.differences + n }) f'
  unfolding differences
  counted {verdict = true} h k e = record {
    verdicts = true ∷ h.verdicts;
    judged = one_more h.judged (rw h.cases at k);
    cases = omega (arith, h.cases);
    differing = omega (arith, e, h.differing);
  }
  counted {verdict = false} h k e = record {
    verdicts = false ∷ h.verdicts;
    judged = one_more h.judged (rw h.cases at k);
    cases = omega (arith, h.cases);
    differing = omega (arith, e, h.differing);
  }
