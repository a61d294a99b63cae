-- A count that the arms of a `match` give is that of the model's table, f: one law for each kind of arm.
use mathlib.Core.Path.{◌≡◌}
use mathlib.Core.Bool.{Bool}
use mathlib.Core.List.{List}
use Prim.Native.Nat.{ℕ, ◌+◌, ◌≤◌, ◌<◌}
use lib.Dec.{T, eqb, eqb→eq}
use types.Run.{OneOf}
use Rattle.model.specs.Opcodes.{Opcode, opcode_at}
use Rattle.opcode.proofs.Arms.{each, keyed, run, Past, spare, ranged}

module _ (f : Opcode → ℕ) where
  abbrev pub counts : ℕ → ℕ → Bool
  counts k x = eqb k (f (opcode_at x))

  pub at_keys : {k : ℕ} (ks : List ℕ) → T (each (counts k) ks) → (b : ℕ) → OneOf ks b → k ≡ f (opcode_at b)
  at_keys {k} ks t b o = eqb→eq k (f (opcode_at b)) (keyed (counts k) ks t b o)

  pub in_range_lem : {k : ℕ} (arms : List (List ℕ)) (a n : ℕ) → T (run (spare arms (counts k)) a n) → (b : ℕ) → Past arms b → a ≤ b → b < a + n → k ≡ f (opcode_at b)
  in_range_lem {k} arms a n t b m l h = eqb→eq k (f (opcode_at b)) (ranged (counts k) arms a n t b m l h)
