use Rattle.model.specs.Basics.{ascii}
use Rattle.console.specs.Asks.{is_look}
use Rattle.console.proofs.commands.is_look.Goals as goal

pub returns : goal.returns
unfolding ascii is_look
returns c =
    rw (
      c.same_bytes.ensures,
      c.same_bytes-2.ensures,
      c.same_bytes-3.ensures,
      c.same_bytes-4.ensures,
    )
