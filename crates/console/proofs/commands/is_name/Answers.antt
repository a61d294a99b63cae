use Rattle.model.specs.Basics.{ascii}
use Rattle.console.specs.Asks.{is_name}
use Rattle.console.proofs.commands.is_name.Goals as goal

pub returns : goal.returns
unfolding ascii is_name
returns c = rw (c.same_bytes.ensures, c.same_bytes-2.ensures, c.same_bytes-3.ensures)
