-- A stack in exact words stays exact, and within its room, when values are dropped and one is written on top of the rest.
use mathlib.Core.Path.{◌≡◌}
use mathlib.Core.Bool.{Bool, true}
use mathlib.Core.List.{List}
use Prim.Native.Nat.{ℕ, zero, suc, ◌+◌, ◌*◌, ◌≤◌, ◌<◌}
use native.Mathlib.Omega.{arith}
use lib.ListN.{length}
use Rattle.model.specs.declared.Value.{Value}
use Rattle.model.specs.Basics.{every_from}
use Rattle.model.specs.Values.{kind, payload, kind_at, payload_at, exact_value}
use Rattle.model.specs.Heap.{item, put_cell}
use Rattle.value.specs.Links.{Written}
use Rattle.laws_programs.proofs.Every.{passed, pass_all}
use Rattle.value.proofs.Coding.{and_left, and_right, words_exact}
use Rattle.value.proofs.Stores.{kind_same, payload_same, kind_other, payload_other, written_length}
use Rattle.run_arms.specs.declared.Fixed.{Fixed}
use Rattle.run_arms.specs.declared.Going.{Going}
use Rattle.run_arms.specs.Links.{exact_stack, Within}

-- ---- a test that holds at each of n numbers, and at one more

module _ (t : ℕ → Bool) where
  pub every_more : (n i : ℕ) → every_from n i t ≡ true → t (i + n) ≡ true → every_from (suc n) i t ≡ true
  unfolding every_from
  every_more zero i e h = let a : t i ≡ true = let z : i + 0 ≡ i = omega arith in rw z at h in rw a
  every_more (suc n) i e h =
      let z : i + suc n ≡ suc i + n = omega arith in
      rw (and_left (t i) _ e, every_more n (suc i) (and_right (t i) _ e) (rw z at h))

-- ---- a stack in exact words

module _ (n : ℕ) (s : List ℕ) where
  pub exact_at_lem : exact_stack n s ≡ true → (j : ℕ) → j < n → exact_value (kind_at s j) (payload_at s j) ≡ true
  unfolding exact_stack
  exact_at_lem = passed n _

  pub exact_all : ((j : ℕ) → j < n → exact_value (kind_at s j) (payload_at s j) ≡ true) → exact_stack n s ≡ true
  unfolding exact_stack
  exact_all h = pass_all n 0 _ (λ j b. let z : 0 + j ≡ j = omega arith in rw z (h j b))

pub exact_fewer : (n : ℕ) (s : List ℕ) → exact_stack n s ≡ true → (m : ℕ) → m ≤ n → exact_stack m s ≡ true
exact_fewer n s e m h = exact_all m s (λ j b. exact_at_lem n s e j (omega arith))

-- a value written on top of i values
pub exact_written : {s : List ℕ} {i : ℕ} {x : Value} {t : List ℕ} → Written s i (item x) t → 2 * i + 2 ≤ length s → exact_stack i s ≡ true
    → exact_stack (suc i) t ≡ true
unfolding exact_stack put_cell
exact_written {s} {i} {x} w h e =
    every_more _ i 0
    (exact_all i _ (λ j b.
    rw (w.stored, kind_other s i (kind x) (payload x) j (λ d. omega arith), payload_other s i (kind x) (payload x) j (λ d. omega arith))
    (exact_at_lem i s e j b)))
    (let z : 0 + i ≡ i = omega arith in
    rw (z, w.stored, kind_same s i (kind x) (payload x) h, payload_same s i (kind x) (payload x) h) (words_exact x w.fine))

-- ---- what the code leans on

module _ {k : Fixed} {g : Going} {s : List ℕ} (w : Within k g s) where
  -- a place of the stack is inside the store
  pub place : {i : ℕ} → i < k.slots → 2 * i + 2 ≤ length s
  place h = omega arith

  -- values are dropped
  pub fewer : {n : Going} → n.sp ≤ g.sp → n.callers ≡ g.callers → Within k n s
  fewer {n} h c = record {
    count = omega arith;
    room = w.room;
    exact = exact_fewer g.sp s w.exact n.sp h;
    callers = omega arith;
  }

  -- and one is written on top of the i that are left
  pub topped : {i : ℕ} {x : Value} {t : List ℕ} {n : Going} → Written s i (item x) t → i ≤ g.sp → i < k.slots → n.sp ≡ suc i → n.callers ≡ g.callers
      → Within k n t
  topped {i} {t = t} {n} p l h e c = record {
    count = omega arith;
    room = let z : length t ≡ length s = written_length p in omega arith;
    exact = rw e (exact_written p (place h) (exact_fewer g.sp s w.exact i l));
    callers = omega arith;
  }
