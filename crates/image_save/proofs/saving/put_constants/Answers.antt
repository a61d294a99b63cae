-- `image_save::saving::put_constants` meets its contract.
use Rattle.image_save.proofs.Putting.{constants_near, constants_start, constants_each, constants_step, constants_end}
use Rattle.std.proofs.Common.{rules}
use Rattle.image_save.proofs.saving.put_constants.Goals as goal

pub put_number-next-requires : goal.put_number-next-requires
put_number-next-requires c = search (rules, constants_near)

pub loop-i-init : goal.loop-i-init
loop-i-init c = search (rules, constants_start)

pub put_constant-next-requires : goal.put_constant-next-requires
put_constant-next-requires c = search (rules, constants_each)

pub loop-i-preserved : goal.loop-i-preserved
loop-i-preserved c = search (rules, constants_step)

pub returns : goal.returns
returns c = search (rules, constants_end)
