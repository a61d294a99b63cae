-- The table when the positions below i have been seen to: at the start, and after a turn.
use mathlib.Core.Path.{◌≡◌, subst}
use mathlib.Core.Bool.{Bool, true}
use mathlib.Core.List.{List}
use mathlib.Core.Logic.{⊎_elim}
use Prim.Native.Nat.{ℕ, zero, suc, ◌+◌, ◌≤◌, ◌<◌, max}
use native.Mathlib.Nat.{eq-or-lt_of_le}
use native.Mathlib.Omega.{arith, max_cases}
use lib.ListN.{length}
use Rattle.model.specs.Opcodes.{operands}
use Rattle.model.specs.Programs.{opcode_in, next_in}
use Rattle.check_rules.specs.Rules.{is_jump, target_at, height_after, leads_on, Path, starts, goes, leaps}
use Rattle.check_heights.specs.declared.Flaw.{Flaw}
use Rattle.check_heights.specs.Answer.{BreaksAt, lacks, differs}
use Rattle.check_heights.specs.Links.{Known, Unknown, From, old, new, Sent, clash, Entered, Barred, on_clash, jump_clash}
use Rattle.check_heights.specs.Links.{Visited, Stuck, lacks as falls-short, barred, Turned, passes, sees, Broke, Done, Half, prepared}
use Rattle.check_heights.proofs.Walks.{behind_is}
use Rattle.check_heights.proofs.Tables.{known_one, known_or_not, prepared_start, prepared_rest}

-- what holds of the old entries and of the new one holds of all
from_all : (P : ℕ → ℕ → Type 0) {go : Bool} {j g : ℕ} {t : List ℕ} → ((k x : ℕ) → Known t k x → P k x) → (go ≡ true → P j g)
    → {k x : ℕ} → From go j g t k x → P k x
from_all P a b (old z) = a _ _ z
from_all P a b (new z) = b z

-- below i + 1: at i, or below i
at_or_below : {A : Type 0} {k i : ℕ} → k < i + 1 → (k ≡ i → A) → (k < i → A) → A
at_or_below {A} {k} {i} lt a b = let z : k ≤ i = omega arith in ⊎_elim a b (eq-or-lt_of_le z)

-- what is sent to a position above i is not found at or below i
nothing_new : {go : Bool} {i j g : ℕ} {t t' : List ℕ} → Sent go j g t t' → i < j → {k x : ℕ} → k < i + 1 → Known t' k x → Known t k x
nothing_new {i = i} {t = t} d above l y = from_all (λ k x. k < i + 1 → Known t k x) (λ k x z. λ m. z) (λ q. λ m. absurd (omega arith)) (d.made y) l

next_above : (code : List ℕ) (i : ℕ) → i < next_in code i
next_above code i = let z = behind_is i (operands (opcode_in code i)) in omega arith

-- the greater of two heights that paths have is one that a path has
pub record Attained (main : Bool) (count : ℕ) (code : List ℕ) (m : ℕ) : Type 0 where
  pub place : ℕ
  pub path : Path main count code place m

pub greater_attained : {main : Bool} {count : ℕ} {code : List ℕ} {i j x y : ℕ} → Path main count code i x → Path main count code j y → Attained main count code (max x y)
greater_attained {x = x} {y} p q =
    max_cases x y _ (λ l e. rw e (record { place = _; path = q })) (λ l e. rw e (record { place = _; path = p }))

module _ (main : Bool) (count : ℕ) (code : List ℕ) where
  -- ---- the table at the start

  only_start : (n : ℕ) → 0 < n → (k x : ℕ) → Known (prepared count n) k x → Path main count code k x
  only_start n l zero x z = rw (known_one z (prepared_start count n l)) starts
  only_start n l (suc k) x z = absurd (known_or_not z (prepared_rest count n k))

  pub half_start : (n : ℕ) → 0 < n → Half main count code 0 count (prepared count n)
  half_start n l = record {
    begun = prepared_start count n l;
    paths = λ {k} {x} z. only_start n l k x z;
    closed = λ {k} {x} lt z. absurd (omega arith);
    below = λ {k} {x} lt z. absurd (omega arith);
    place = 0;
    attained = starts;
  }

  -- ---- a turn

  module _ {i top : ℕ} {t : List ℕ} (s : Half main count code i top t) where
    -- position i is not reached
    half_passes : Unknown t i → Half main count code (i + 1) top t
    half_passes u = record {
      begun = s.begun;
      paths = s.paths;
      closed = λ {k} {x} lt z. at_or_below lt (λ e. absurd (known_or_not z (rw e u))) (λ l. s.closed l z);
      below = λ {k} {x} lt z. at_or_below lt (λ e. absurd (known_or_not z (rw e u))) (λ l. s.below l z);
      place = s.place;
      attained = s.attained;
    }

    -- it is reached with height h
    module _ {h : ℕ} (z : Known t i h) (lt : i < length code) where
      path_on : leads_on main code i ≡ true → Path main count code (next_in code i) (height_after code i h)
      path_on q = goes (s.paths z) lt q

      path_jumps : is_jump code i ≡ true → Path main count code (target_at code i) (height_after code i h)
      path_jumps q = leaps (s.paths z) lt q

      mid_paths : {mid : List ℕ} → Sent (leads_on main code i) (next_in code i) (height_after code i h) t mid → {k x : ℕ} → Known mid k x → Path main count code k x
      mid_paths d y = from_all (Path main count code) (λ k x q. s.paths q) path_on (d.made y)

      barred_breaks : {x : Flaw} → Barred main code i (height_after code i h) t x → BreaksAt main count code x
      barred_breaks (on_clash (clash went known n)) = differs (s.paths known) (path_on went) n
      barred_breaks (jump_clash mid d (clash went known n)) = differs (mid_paths d known) (path_jumps went) n

      stuck_breaks : {x : Flaw} → Stuck main code i h t x → BreaksAt main count code x
      stuck_breaks (falls-short e) = lacks (s.paths z) lt e
      stuck_breaks (barred b) = barred_breaks b

      module _ {t' : List ℕ} (v : Visited main code i h t t') where
        abbrev way : Entered main code i (height_after code i h) t t'
        way = v.entered

        kept : {k x : ℕ} → Known t k x → Known t' k x
        kept y = way.jumps.keeps (way.on.keeps y)

        -- paths lead forwards: nothing at or below i is new
        older : {k x : ℕ} → k < i + 1 → Known t' k x → Known t k x
        older l y =
            let above = next_above code i in
            nothing_new way.on above l (nothing_new way.jumps (omega arith) l y)

        only_height : {k x : ℕ} → k < i + 1 → Known t' k x → k ≡ i → x ≡ h
        only_height {k} {x} l y e = known_one (subst (λ (n : ℕ). Known t n x) e (older l y)) z

        done_here : Done main code t' i h
        done_here = record { enough = v.enough; on = λ q. way.jumps.keeps (way.on.done q); jumps = way.jumps.done }

        done_still : {k x : ℕ} → Done main code t k x → Done main code t' k x
        done_still d = record { enough = d.enough; on = λ q. kept (d.on q); jumps = λ q. kept (d.jumps q) }

        half_sees : Half main count code (i + 1) (max top h) t'
        half_sees =
            let most = greater_attained s.attained (s.paths z) in
            record {
              begun = kept s.begun;
              paths = λ {k} {x} y. from_all (Path main count code) (λ a b w. mid_paths way.on w) path_jumps (way.jumps.made y);
              closed = λ {k} {x} l y. at_or_below l (λ e. rw (e, only_height l y e) done_here) (λ m. done_still (s.closed m (older l y)));
              below = λ {k} {x} l y. at_or_below l (λ e. let w = only_height l y e in omega arith) (λ m. let w = s.below m (older l y) in omega arith);
              place = most.place;
              attained = most.path;
            }

    -- whatever the turn comes to
    pub half_turned : i < length code → {m : ℕ} {t' : List ℕ} → Turned main code i top t m t' → Half main count code (i + 1) m t'
    half_turned lt (passes u) = half_passes u
    half_turned lt (sees z v) = half_sees z lt v

    pub half_broke : i < length code → {x : Flaw} → Broke main code i t x → BreaksAt main count code x
    half_broke lt b = stuck_breaks b.known lt b.stuck
