-- A record that was written is read back as the machine: a host in C that hands the record back hands the machine back.
use mathlib.Core.Path.{◌≡◌, refl}
use mathlib.Core.Bool.{Bool, true, false}
use mathlib.Core.List.{List, ◌++◌}
use Prim.Native.Nat.{ℕ, ◌≤◌}
use native.Mathlib.Omega.{arith}
use borrow.Author.Tests.{le-leb}
use lib.Dec.{eqb, leb}
use lib.ListN.{length, drop}
use lib.Seq.{sets-eq}
use Rattle.model.specs.declared.Vm.{Vm}
use Rattle.model.specs.declared.Value.{Value}
use Rattle.model.specs.declared.Value.TheVariants as v
use Rattle.model.specs.Basics.{written}
use Rattle.model.specs.Values.{kind, payload, exact_value, bit}
use Rattle.value.specs.Links.{last_in, last_kind, last_payload}
use Rattle.value.proofs.Coding.{words_exact}
use Rattle.value.proofs.Lasts.{last_words}
use Rattle.embed_words.specs.Coding.{run_in, vm_in, vm_words, FineLast, last_exact, record_ok, RecordOf}
use Rattle.std.specs.Prelude.{None, Option, Some}

-- ---- the last result

last_back : (x : Option Value) → FineLast x → last_in (last_kind x) (last_payload x) ≡ x
unfolding last_in last_kind last_payload
last_back None f = refl
last_back (Some x) f = last_words x f

-- no value has the kind 7, which says that there is none
value_exact : (x : Value) → exact_value (kind x) (payload x) ≡ true → last_exact (kind x) (payload x) ≡ true
unfolding last_exact
value_exact (v.Scalar x) e = e
value_exact (v.Boolean x) e = e
value_exact (v.String o n) e = e
value_exact (v.FunctionReference o n) e = e
value_exact (v.List p) e = e
value_exact (v.StructInstance p) e = e

last_exact_lem : (x : Option Value) → FineLast x → last_exact (last_kind x) (last_payload x) ≡ true
unfolding last_exact last_kind last_payload
last_exact_lem None f = refl
last_exact_lem (Some x) f = value_exact x (words_exact x f)

-- ---- whether a run is under way, and the setting

bit_back : (b : Bool) → eqb (bit b) 1 ≡ b
bit_back true = refl
bit_back false = refl

bit_exact : (b : Bool) → leb (bit b) 1 ≡ true
bit_exact true = refl
bit_exact false = refl

-- ---- the record

-- with whatever stands behind its seventeen words
record_front : (m : Vm) (rest : List ℕ) → FineLast m.last → RecordOf m (vm_words m ++ rest)
unfolding vm_words vm_in run_in record_ok
record_front m rest f = record {
  taken = rw (le-leb 17 (length (vm_words m ++ rest)) (omega arith), last_exact_lem m.last f, bit_exact m.run.on, bit_exact m.strict);
  machine = rw (last_back m.last f, bit_back m.run.on, bit_back m.strict);
}

-- what stood in the slice does not count: seventeen words or more are enough; a run that is under way comes back too
pub record_back : (w : List ℕ) (m : Vm) → 17 ≤ length w → FineLast m.last → RecordOf m (written w 0 (vm_words m))
unfolding written vm_words
record_back w m h f = rw (sets-eq (vm_words m) w 0 (omega arith)) (record_front m (drop 17 w) f)
