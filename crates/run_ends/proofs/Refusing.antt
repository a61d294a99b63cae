-- Why a call of a run is refused: the numbers, by the tests.
use Rattle.std.specs.Prelude.{if◌then◌else◌}
use mathlib.Core.Path.{◌≡◌, refl}
use mathlib.Core.Bool.{Bool, true, false}
use Prim.Native.Nat.{ℕ, ◌+◌, ◌-◌, ◌≤◌, ◌<◌, ◌^◌}
use native.Mathlib.Omega.{arith}
use borrow.Author.Tests.{lt-ltb, le-ltb, ne_eqb}
use lib.Dec.{ltb, eqb}
use lib.ListN.{length}
use Rattle.model.specs.declared.Vm.{Vm}
use Rattle.model.specs.declared.Refusal.{Refusal}
use Rattle.model.specs.declared.Refusal.TheVariants as why
use Rattle.model.specs.Answers.{refusal_number}
use Rattle.model.specs.Runs.{Part}
use Rattle.model.specs.Stores.{Stores}
use Rattle.model.specs.Machines.{Unchanged, unchanged, Lent, run_order, copy_short, trace_short, ran, refused, begins, continues, abandons, run_answer, begin_answer, continue_answer, abandon_answer, refusal_of}

-- a refusal has a number
pub is_refused : (e : Refusal) → refusal_number e ≡ 0 → ⊥
is_refused why.UnknownOpcode h = let z : ⊥ = omega arith in z
is_refused why.CodeEnds h = let z : ⊥ = omega arith in z
is_refused why.WrongKind h = let z : ⊥ = omega arith in z
is_refused why.NoSuchPlace h = let z : ⊥ = omega arith in z
is_refused why.NoLastResult h = let z : ⊥ = omega arith in z
is_refused why.NoFunction h = let z : ⊥ = omega arith in z
is_refused why.PlaceOutsideCode h = let z : ⊥ = omega arith in z
is_refused why.ResultTooShort h = let z : ⊥ = omega arith in z
is_refused why.NoRunUnderWay h = let z : ⊥ = omega arith in z
is_refused why.NotInOrder h = let z : ⊥ = omega arith in z
is_refused (why.BrokenImage offset) h = let z : ⊥ = omega arith in z
is_refused why.StoreFull h = let z : ⊥ = omega arith in z
is_refused why.OverLimit h = let z : ⊥ = omega arith in z
is_refused why.PatchOutsideCode h = let z : ⊥ = omega arith in z
is_refused why.RunUnderWay h = let z : ⊥ = omega arith in z

-- continuing is refused as abandoning is, and 22 where that is not
by_the_tests : (order on short long : Bool) (c : Unchanged) (x y : Part)
    → refusal_of (if order then (if on then (if short then refused 17 else (if long then refused 22 else ran c x)) else refused 18) else refused 19)
    ≡ (if eqb (refusal_of (if order then (if on then (if short then refused 17 else ran c y) else refused 18) else refused 19)) 0 then (if long then 22 else 0)
    else refusal_of (if order then (if on then (if short then refused 17 else ran c y) else refused 18) else refused 19))
unfolding refusal_of
by_the_tests true true true long c x y = refl
by_the_tests true true false true c x y = refl
by_the_tests true true false false c x y = refl
by_the_tests true false short long c x y = refl
by_the_tests false on short long c x y = refl

continued_as_abandoned : (m : Vm) (u : ℕ) (s : Stores) (l : Lent) → refusal_of (run_answer (continues u) m s l)
    ≡ (if eqb (refusal_of (run_answer abandons m s l)) 0 then (if ltb 0xFFFF_FFFF_FFFF_FFFF (m.run.given + u) then 22 else 0) else refusal_of (run_answer abandons m s l))
unfolding run_answer continue_answer abandon_answer
continued_as_abandoned m u s l = by_the_tests (run_order m s l) m.run.on (trace_short l) (ltb 0xFFFF_FFFF_FFFF_FFFF (m.run.given + u)) (unchanged m) _ _

-- the order of a machine is judged, and the stores by their lengths
module _ (m : Vm) (good : Bool) (a b : ℕ) where
  -- ---- beginning

  abbrev Beginning : ℕ → Type 0
  Beginning n = (s : Stores) (l : Lent) → good ≡ run_order m s l → length l.stack ≡ a → length l.copy ≡ b → n ≡ refusal_of (run_answer begins m s l)

  pub not_begun_out_of_order : good ≡ false → Beginning 19
  unfolding run_answer begin_answer refusal_of
  not_begun_out_of_order g s l e x y = rw (← e, g)

  pub not_begun_twice : good ≡ true → m.run.on ≡ true → Beginning 25
  unfolding run_answer begin_answer refusal_of
  not_begun_twice g on s l e x y = rw (← e, g, on)

  module _ (g : good ≡ true) (off : m.run.on ≡ false) {short : Bool} (is : (l : Lent) → length l.stack ≡ a → length l.copy ≡ b → short ≡ copy_short l) where
    pub not_copied : short ≡ true → Beginning 17
    unfolding run_answer begin_answer refusal_of
    not_copied h s l e x y = rw (← e, g, off, ← is l x y, h)

    pub may_begin : short ≡ false → Beginning 0
    unfolding run_answer begin_answer refusal_of
    may_begin h s l e x y = rw (← e, g, off, ← is l x y, h)

  -- ---- abandoning

  abbrev Abandoning : ℕ → Type 0
  Abandoning n = (s : Stores) (l : Lent) → good ≡ run_order m s l → length l.frames ≡ a → length l.backtrace ≡ b → n ≡ refusal_of (run_answer abandons m s l)

  pub not_abandoned_out_of_order : good ≡ false → Abandoning 19
  unfolding run_answer abandon_answer refusal_of
  not_abandoned_out_of_order g s l e x y = rw (← e, g)

  pub none_to_abandon : good ≡ true → m.run.on ≡ false → Abandoning 18
  unfolding run_answer abandon_answer refusal_of
  none_to_abandon g off s l e x y = rw (← e, g, off)

  module _ (g : good ≡ true) (on : m.run.on ≡ true) {short : Bool} (is : (l : Lent) → length l.frames ≡ a → length l.backtrace ≡ b → short ≡ trace_short l) where
    pub not_traced : short ≡ true → Abandoning 17
    unfolding run_answer abandon_answer refusal_of
    not_traced h s l e x y = rw (← e, g, on, ← is l x y, h)

    pub may_abandon : short ≡ false → Abandoning 0
    unfolding run_answer abandon_answer refusal_of
    may_abandon h s l e x y = rw (← e, g, on, ← is l x y, h)

  -- ---- continuing

  module _ (u : ℕ) {n : ℕ} (is : Abandoning n) where
    abbrev Continuing : ℕ → Type 0
    Continuing n = (s : Stores) (l : Lent) → good ≡ run_order m s l → length l.frames ≡ a → length l.backtrace ≡ b → n ≡ refusal_of (run_answer (continues u) m s l)

    pub not_continued : (n ≡ 0 → ⊥) → Continuing n
    not_continued some s l e x y = rw (continued_as_abandoned m u s l, ← is s l e x y, ne_eqb n 0 some)

    pub too_many_units : n ≡ 0 → 0xFFFF_FFFF_FFFF_FFFF - m.run.given < u → Continuing 22
    too_many_units h k s l e x y =
        let z : 0xFFFF_FFFF_FFFF_FFFF < m.run.given + u = omega arith in
        rw (continued_as_abandoned m u s l, ← is s l e x y, h, lt-ltb _ _ z)

    pub may_continue : m.run.given < 2 ^ 64 → n ≡ 0 → u ≤ 0xFFFF_FFFF_FFFF_FFFF - m.run.given → Continuing 0
    may_continue f h k s l e x y =
        let z : m.run.given + u ≤ 0xFFFF_FFFF_FFFF_FFFF = omega arith in
        rw (continued_as_abandoned m u s l, ← is s l e x y, h, le-ltb _ _ z)
