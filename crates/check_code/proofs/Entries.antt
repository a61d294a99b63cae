-- The tally of the Calls, as the code writes it.
use Rattle.std.specs.Prelude.{if◌then◌else◌}
use mathlib.Core.Path.{◌≡◌, refl, sym, ap, ◌∙◌}
use mathlib.Core.Bool.{Bool, true, false}
use mathlib.Core.List.{List, [], ◌∷◌, ◌++◌}
use Prim.Native.Nat.{ℕ, ◌+◌, ◌≤◌, ◌<◌}
use native.Mathlib.Omega.{arith}
use native.Mathlib.Decide.{ℕ_discrete}
use lib.Dec.{eqb}
use lib.ListN.{length, get_or, set}
use lib.Seq.{get_or-set_same, get_or-set_other}
use borrow.Author.Tests.{eq-eqb, ne_eqb, eqb-true}
use Rattle.model.specs.Programs.{next_in, stands}
use Rattle.check_rules.specs.Rules.{Site, call, is_at, first_at, second_at, calls_at}
use Rattle.check_code.specs.Tallies.{entered, entered_at, tallied}
use Rattle.check_code.specs.Links.{Enters}
use Rattle.check_code.proofs.Counting.{tallied_behind}
use Rattle.check_code.proofs.Turns.{Turn, first_turn, last_turn, next_turn}

-- ---- an entry

module _ (v k : ℕ) where
  pub first_call_lem : v ≡ 0 → k + 2 ≡ entered v k
  unfolding entered
  first_call_lem e = rw (eq-eqb v 0 e)

  module _ (h : v ≡ 0 → ⊥) where
    pub same_count : v ≡ k + 2 → k + 2 ≡ entered v k
    unfolding entered
    same_count e = rw (ne_eqb v 0 h, eq-eqb v (k + 2) e) (sym e)

    pub another_count : (v ≡ k + 2 → ⊥) → 1 ≡ entered v k
    unfolding entered
    another_count g = rw (ne_eqb v 0 h, ne_eqb v (k + 2) g)

-- an entry is 1, or a count and two more
few_entered : (v k : ℕ) → k < 65536 → entered v k < 65538
unfolding entered
few_entered v k l = by_case (eqb v 0) (eqb v (k + 2)) refl
  where
    by_case : (none same : Bool) → eqb v (k + 2) ≡ same → (if none then k + 2 else (if same then v else 1)) < 65538
    by_case true same e = omega arith
    by_case false true e = let z = eqb-true v (k + 2) e in omega arith
    by_case false false e = omega arith

-- ---- an instruction

module _ (code : List ℕ) (i : ℕ) (s : List ℕ) where
  pub nothing_to_enter : (get_or code i 0 ≡ call → ⊥) → Enters code (i ∷ []) s s
  unfolding calls_at tallied
  nothing_to_enter h = record { each = λ g. rw (ne_eqb _ _ h); few = λ g l. l }

  module _ (room : 65536 ≤ length s) (k : ℕ) {f w : ℕ} (l : f < 65536) (m : k < 65536) (e : w ≡ entered (get_or s f 0) k) where
    one_entry : (g : ℕ) → Dec (g ≡ f) → get_or (set s f w) g 0 ≡ (if eqb f g then entered (get_or s g 0) k else get_or s g 0)
    one_entry g (yes z) = rw (z, eq-eqb f f refl) (get_or-set_same s f w 0 (omega arith) ∙ e)
    one_entry g (no z) = rw (ne_eqb f g (λ y. z (sym y))) (get_or-set_other s f g w 0 z)

    few_entry : (g : ℕ) → Dec (g ≡ f) → get_or s g 0 < 65538 → get_or (set s f w) g 0 < 65538
    few_entry g (yes z) h = rw (z, get_or-set_same s f w 0 (let inside : f < length s = omega arith in inside), e) (few_entered (get_or s f 0) k m)
    few_entry g (no z) h = rw (get_or-set_other s f g w 0 z) h

    pub a_call_entered : get_or code i 0 ≡ call → f ≡ first_at code i → k ≡ second_at code i → Enters code (i ∷ []) s (set s f w)
    unfolding calls_at tallied entered_at
    a_call_entered h a b = record { each = λ g. rw (eq-eqb _ _ h, ← a, ← b) (one_entry g (ℕ_discrete g f)); few = λ g h. few_entry g (ℕ_discrete g f) h }

-- ---- the loop

if_in_front : (b : Bool) (c : Site) (cs : List Site) → (if b then c ∷ cs else cs) ≡ (if b then c ∷ [] else []) ++ cs
if_in_front true c cs = refl
if_in_front false c cs = refl

sites_onward : (code : List ℕ) (i : ℕ) (is : List ℕ) → calls_at code (i ∷ is) ≡ calls_at code (i ∷ []) ++ calls_at code is
unfolding calls_at
sites_onward code i is = if_in_front (is_at call code i) (record { function = first_at code i; count = second_at code i }) (calls_at code is)

-- THE LAW: with the Calls of a code entered, those behind are what is left to enter
pub entered_before : {code is s s' : List ℕ} → Enters code is s s' → (f : ℕ) (rest : List Site) → tallied f (get_or s f 0) (calls_at code is ++ rest) ≡ tallied f (get_or s' f 0) rest
entered_before {code} {is} e f rest = tallied_behind f _ (calls_at code is) rest ∙ rw (e.each f)

-- the entries of s are `now`, with the Calls before position i entered
pub record Tallying (code s now : List ℕ) (i : ℕ) : Type 0 where
  pub each : (f : ℕ) → Turn code (tallied f (get_or s f 0) (calls_at code (stands code))) (λ is. tallied f (get_or now f 0) (calls_at code is)) i
  pub few : (f : ℕ) → get_or s f 0 < 65538 → get_or now f 0 < 65538
  pub same : length now ≡ length s

pub none_entered : (code s : List ℕ) → Tallying code s s 0
none_entered code s = record { each = λ f. first_turn code (λ is. tallied f (get_or s f 0) (calls_at code is)) refl; few = λ f l. l; same = refl }

module _ {code s now : List ℕ} {i : ℕ} (t : Tallying code s now i) where
  pub all_entered : length code ≤ i → Enters code (stands code) s now
  unfolding calls_at tallied
  all_entered h = record { each = λ f. sym (last_turn (t.each f) h); few = t.few }

  module _ (h : i < length code) {s' : List ℕ} (e : Enters code (i ∷ []) now s') where
    onward : (f : ℕ) (is : List ℕ) → tallied f (get_or now f 0) (calls_at code (i ∷ is)) ≡ tallied f (get_or s' f 0) (calls_at code is)
    onward f is = ap (tallied f (get_or now f 0)) (sites_onward code i is) ∙ entered_before e f (calls_at code is)

    pub one_entered : length s' ≡ length now → {j : ℕ} → j ≡ next_in code i → Tallying code s s' j
    one_entered l g = record { each = λ f. next_turn (t.each f) h (onward f) g; few = λ f m. e.few f (t.few f m); same = l ∙ t.same }
