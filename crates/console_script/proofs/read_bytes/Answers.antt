-- The bytes are those of the characters that are passed.
use Rattle.std.proofs.Common.{ap}
use Rattle.console_script.specs.Words.{read_of, hex_of}
use Rattle.console_script.proofs.Alongs.{along_on, along_end}
use Rattle.console_script.proofs.read_bytes.Goals as goal

pub loop-b-preserved : goal.loop-b-preserved
loop-b-preserved c = along_on _ _ _ c.loop-b.invariant c.loop-b-test.true c.with_byte-h.ensures

pub returns : goal.returns
unfolding read_of hex_of
returns c = rw (← c.all_read.ensures) at (ap read_of (along_end _ _ _ c.loop-b.invariant c.loop-b-test.false))
