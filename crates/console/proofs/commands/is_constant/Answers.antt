use Rattle.model.specs.Basics.{ascii}
use Rattle.console.specs.Asks.{is_constant}
use Rattle.console.proofs.commands.is_constant.Goals as goal

pub returns : goal.returns
unfolding ascii is_constant
returns c =
    rw (
      c.same_bytes.ensures,
      c.same_bytes-2.ensures,
      c.same_bytes-3.ensures,
      c.same_bytes-4.ensures,
    )
