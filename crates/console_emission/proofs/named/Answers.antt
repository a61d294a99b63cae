use Rattle.std.proofs.Common.{ap}
use Rattle.model.specs.Basics.{ascii}
use Rattle.console_script.specs.Stored.{stored}
use Rattle.layout.specs.Links.{structs_lent, names_lent}
use Rattle.console_emission.specs.Emits.{known, name_given}
use Rattle.console_emission.proofs.named.Goals as goal

pub returns-then-same_bytes : goal.returns-then-same_bytes
unfolding ascii name_given structs_lent names_lent
returns-then-same_bytes c =
    rw (
      ← c.same_bytes.ensures,
      c.if-same_bytes.true,
    ) (ap known (c.add_struct_info.ensures (stored c.args.p.now)).means)

pub returns-then-same_bytes-2 : goal.returns-then-same_bytes-2
unfolding ascii name_given structs_lent names_lent
returns-then-same_bytes-2 c =
    rw (
      ← c.same_bytes.ensures,
      c.if-same_bytes.false,
      ← c.same_bytes-2.ensures,
      c.if-same_bytes-2.true,
    ) (ap known (c.begin_function.ensures (stored c.args.p.now)).means)
