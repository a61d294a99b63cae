-- The text of a value that was shown, in a part of a store.
use mathlib.Core.Path.{◌≡◌, ap}
use mathlib.Core.List.{List, ◌++◌}
use Prim.Native.Nat.{ℕ, min}
use lib.ListN.{length, take, drop}
use Rattle.model.specs.declared.Vm.{Vm}
use Rattle.model.specs.declared.Value.{Value}
use Rattle.model.specs.Loading.{OutRes}
use Rattle.model.specs.Readers.{text_bytes_of}
use Rattle.console.specs.Asks.{text_after}
use Rattle.std.specs.Prelude.{Ok, Result}
use Rattle.model.specs.declared.Refusal.{Refusal}

pub text_told : (m : Vm) (room : ℕ) (text out : List ℕ) {s : Result Value Refusal} {x : Value} → s ≡ Ok x → {n : ℕ} → n ≡ min room (length out) → {r : Result ℕ Refusal} {o : List ℕ}
    → record { answer = r; out = o } ≡ text_bytes_of m x text (take n out) → record { answer = r; out = o ++ drop n out } ≡ text_after m s room text out
unfolding text_after
text_told m room text out e {n} f h = rw (e, ← f) (ap (λ (z : OutRes). record { answer = z.answer; out = z.out ++ drop n out }) h)
