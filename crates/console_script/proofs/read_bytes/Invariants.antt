-- The bytes are those of the characters that are passed, and the store is as long as it was.
use Rattle.std.proofs.Common.{◌≡◌, drop}
use Rattle.console_script.specs.Words.{along, with_byte}
use Rattle.console_script.proofs.read_bytes.Given as goal

abbrev pub invariant-loop-b : goal.invariant-loop-b
invariant-loop-b l =
    along with_byte (record { read = l.initial.h; out = l.initial.out }) l.words ≡ along with_byte (record { read = l.h; out = l.out }) (drop l.b-index l.words)
