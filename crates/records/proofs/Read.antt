-- What is read of a record, by how many bytes came.
use mathlib.Core.Path.{◌≡◌, refl, subst, ◌∙◌}
use mathlib.Core.Bool.{Bool, true, false}
use mathlib.Core.List.{List, ◌++◌}
use Prim.Native.Nat.{ℕ, ◌≤◌, ◌<◌}
use native.Mathlib.Omega.{arith}
use lib.ListN.{length, take, drop}
use lib.Seq.{drop_at, length-take-le}
use borrow.Author.Tests.{le-leb, lt-leb, leb-true}
use Rattle.std.specs.Prelude.{Result, Ok, Err}
use Rattle.records.specs.declared.Stop.{Stop}
use Rattle.records.specs.declared.Stop.TheVariants.{Cut}
use Rattle.records.specs.Reading.{parts_of, PartsRead}

module _ (n : ℕ) (body : List ℕ) where
  pub no_room : length body < n → PartsRead n body body (Err Cut)
  unfolding parts_of
  no_room h = record { had = 0; inside = omega arith; behind = refl; kept = λ g. refl; answer = rw (lt-leb n 0 (omega arith)) }

  module _ (room : n ≤ length body) (read : List ℕ) (same : length read ≡ length (take n body)) (had : ℕ) (inside : had ≤ length read) where
    whole : length read ≡ n
    whole = same ∙ length-take-le _ _ room

    pub cut_short : had < n → PartsRead n body (read ++ drop n body) (Err Cut)
    unfolding parts_of
    cut_short h = record {
      had = had;
      inside = omega (arith, whole);
      behind = drop_at read _ _ whole;
      kept = λ g. absurd (let z : ⊥ = omega arith in z);
      answer = rw (lt-leb n had h);
    }

    pub came_whole : n ≤ had → PartsRead n body (read ++ drop n body) (Ok tt)
    unfolding parts_of
    came_whole h = record {
      had = had;
      inside = omega (arith, whole);
      behind = drop_at read _ _ whole;
      kept = λ g. absurd (let z : ⊥ = omega arith in z);
      answer = rw (le-leb n had h);
    }

abbrev comes : Result (Unit {0}) Stop → Type 0
comes (Ok u) = Unit {0}
comes (Err stop) = ⊥

came_so : (whole : Bool) → Ok tt ≡ parts_of whole → whole ≡ true
unfolding parts_of
came_so true e = refl
came_so false e = absurd (subst comes e tt)

-- parts that came have room
pub room : {n : ℕ} {body body' : List ℕ} → PartsRead n body body' (Ok tt) → n ≤ length body
room h =
    let k = leb-true _ _ (came_so _ h.answer) in
    let i = h.inside in
    omega (arith, k, i)
