-- The marks where instructions begin, and the jumps that land on them.
use Rattle.std.specs.Prelude.{if◌then◌else◌}
use mathlib.Core.Path.{◌≡◌, refl, sym, ◌∙◌}
use mathlib.Core.Bool.{Bool, true, false, ◌||◌, and-false, or-false, or-true}
use mathlib.Core.List.{List, [], ◌∷◌}
use Prim.Native.Nat.{ℕ, zero, suc, ◌≤◌, ◌<◌}
use native.Mathlib.Omega.{arith}
use native.Mathlib.Decide.{ℕ_discrete}
use lib.Dec.{eqb, ltb}
use lib.ListN.{length, get_or, set, length-set}
use lib.Seq.{get_or-set_same, get_or-set_other}
use borrow.Author.Tests.{eq-eqb, ne_eqb, ltb-true}
use Rattle.model.specs.Programs.{next_in, stands_for, stands}
use Rattle.check_rules.specs.Rules.{is_in, lands}
use Rattle.check_code.specs.Links.{Cleared, Marked}
use Rattle.check_code.proofs.Turns.{Turn, first_turn, last_turn, next_turn}

-- ---- marks cleared

-- ---- marks set

pub record Marking (code s now : List ℕ) (i : ℕ) : Type 0 where
  pub each : (j : ℕ) → j < length code → Turn code (is_in j (stands code)) (λ is. eqb (get_or now j 0) 1 || is_in j is) i
  pub same : length now ≡ length s
  pub room : length code ≤ length now

pub none_marked : (code : List ℕ) {s : List ℕ} → Cleared (length code) s → length code ≤ length s → Marking code s s 0
none_marked code {s} h room = record {
  each = λ j l. first_turn code (λ is. eqb (get_or s j 0) 1 || is_in j is) (rw (h.clear j l));
  same = refl;
  room = room;
}

module _ {code s now : List ℕ} {i : ℕ} (t : Marking code s now i) where
  pub all_marked : length code ≤ i → Marked code now
  unfolding is_in
  all_marked h = record { tells = λ j l. sym (last_turn (t.each j l) h ∙ or-false (eqb (get_or now j 0) 1)) }

  module _ (h : i < length code) where
    onward : (j : ℕ) (is : List ℕ) → Dec (j ≡ i) → (eqb (get_or now j 0) 1 || is_in j (i ∷ is)) ≡ (eqb (get_or (set now i 1) j 0) 1 || is_in j is)
    unfolding is_in
    onward j is (yes e) = rw (e, eq-eqb i i refl, get_or-set_same now i 1 0 (let z = t.room in omega arith)) (or-true (eqb (get_or now i 0) 1))
    onward j is (no e) = rw (ne_eqb j i e, get_or-set_other now i j 1 0 e)

    pub one_marked : {j : ℕ} → j ≡ next_in code i → Marking code s (set now i 1) j
    one_marked g = record {
      each = λ j k. next_turn (t.each j k) h (λ is. onward j is (ℕ_discrete j i)) g;
      same = length-set now i 1 ∙ t.same;
      room = let z = t.room in let y = length-set now i 1 in omega arith;
    }

-- ---- a jump to position j

-- no instruction begins at or past the end
module _ (code : List ℕ) (j : ℕ) (h : length code ≤ j) where
  not_here : (i : ℕ) (is : List ℕ) → is_in j is ≡ false → (b : Bool) → ltb i (length code) ≡ b → is_in j (if b then i ∷ is else []) ≡ false
  unfolding is_in
  not_here i is so true e = let z = ltb-true i (length code) e in rw (ne_eqb j i (λ y. omega arith)) so
  not_here i is so false e = refl

  not_from : (n i : ℕ) → is_in j (stands_for n code i) ≡ false
  unfolding is_in stands_for
  not_from zero i = refl
  not_from (suc n) i = not_here i _ (not_from n (next_in code i)) (ltb i (length code)) refl

  pub nothing_begins_there : is_in j (stands code) ≡ false
  unfolding stands
  nothing_begins_there = not_from (length code) 0

  pub to_the_end : {main : Bool} → main ≡ true → eqb j (length code) ≡ lands main code j
  unfolding lands
  to_the_end e = rw (nothing_begins_there, e)

  pub past_the_code : {main : Bool} → main ≡ false → false ≡ lands main code j
  unfolding lands
  past_the_code e = rw (nothing_begins_there, e)

pub inside_the_code : (main : Bool) {code marks : List ℕ} → Marked code marks → (j : ℕ) → j < length code → eqb (get_or marks j 0) 1 ≡ lands main code j
unfolding lands
inside_the_code main {code} m j h =
    rw (ne_eqb j (length code) (λ e. omega arith), and-false main, or-false (is_in j (stands code))) (m.tells j h)
