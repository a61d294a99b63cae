use Rattle.std.proofs.Common.{ap}
use Rattle.console_script.specs.Stored.{stored}
use Rattle.layout.specs.Links.{code_lent, bytes_lent}
use Rattle.console_emission.specs.Emits.{known, patch_args, patch_asked}
use Rattle.console_emission.proofs.emit_patch.Goals as goal

pub returns : goal.returns
unfolding patch_args patch_asked bytes_lent code_lent
returns c =
    rw (
      ← c.in_ok-n.ensures,
      ← c.operand.ensures,
      ← c.operand-2.ensures,
    ) (ap known (c.patch_u16_value_at.ensures (stored c.args.p.now)).means)
