-- `layout::ordered::put_struct` meets its contract.
use Rattle.laws_names.specs.Sorted.{struct_put}
use Rattle.layout.proofs.ordered.put_struct.Goals as goal

pub returns : goal.returns
unfolding struct_put
returns c = c.move_up.ensures
