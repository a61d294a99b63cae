-- The checksum: over the counts, the last result, the run that is under way and every store, number by number, with a prime modulus.
use Rattle.std.specs.Prelude.{List, ℕ, ◌+◌, ◌*◌, ◌/◌, ◌%◌, None, Option, Some}
use Rattle.model.specs.declared.Run.{Run}
use Rattle.model.specs.declared.Vm.{Vm}
use Rattle.model.specs.Values.{kind, payload, bit}
use Rattle.console_script.specs.Words.{along}
use Rattle.model.specs.declared.Value.{Value}

-- the sum h with a number below 2^32 behind it
unfoldable pub half_mixed : ℕ → ℕ → ℕ
half_mixed h x = ((h % 4294967291) * 65599 + x % 4294967291) % 4294967291

-- with a number behind it: its high half, then its low one
unfoldable pub mixed_with : ℕ → ℕ → ℕ
mixed_with h x = half_mixed (half_mixed h (x / 4294967296)) (x % 4294967296)

-- with a store behind it
unfoldable pub mixed_all : ℕ → List ℕ → ℕ
mixed_all h s = along mixed_with h s

unfoldable pub mixed_last : ℕ → Option Value → ℕ
mixed_last h None = mixed_with h 7
mixed_last h (Some v) = mixed_with (mixed_with h (kind v)) (payload v)

-- with the run that is under way behind it
unfoldable pub mixed_run : ℕ → Run → ℕ
mixed_run h r = mixed_with (mixed_with (mixed_with (mixed_with (mixed_with (mixed_with h (bit r.on)) r.given) r.spent) r.returns) r.mark) r.saved

-- with the counts, the last result and the run that is under way behind it
unfoldable pub mixed_counts : ℕ → Vm → ℕ
mixed_counts h m =
    mixed_run (mixed_last (mixed_with (mixed_with (mixed_with (mixed_with (mixed_with
    (mixed_with (mixed_with (mixed_with h m.program.constants) m.program.structs) m.program.functions) m.program.text) m.program.current)
    m.stack) m.frames) m.cells) m.last) m.run

-- of all counts and stores
unfoldable pub sum_of : Vm → List ℕ → List ℕ → List ℕ → List ℕ → List ℕ → List ℕ → List ℕ → List ℕ → List ℕ → List ℕ → List ℕ → List ℕ → List ℕ → ℕ
sum_of m constants structs functions text main main_places other other_places stack cells copy trace frames =
    mixed_all (mixed_all (mixed_all (mixed_all (mixed_all (mixed_all (mixed_all
    (mixed_all (mixed_all (mixed_all (mixed_all (mixed_all (mixed_all (mixed_counts 0 m) constants) structs) functions) text) main) main_places) other) other_places)
    stack) cells) copy) trace) frames
