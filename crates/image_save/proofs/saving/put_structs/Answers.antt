-- `image_save::saving::put_structs` meets its contract.
use Rattle.image_save.proofs.Putting.{structs_near, structs_start, structs_each, structs_step, structs_end}
use Rattle.std.proofs.Common.{rules}
use Rattle.image_save.proofs.saving.put_structs.Goals as goal

pub put_number-next-requires : goal.put_number-next-requires
put_number-next-requires c = search (rules, structs_near)

pub loop-i-init : goal.loop-i-init
loop-i-init c = search (rules, structs_start)

pub put_text-next-requires : goal.put_text-next-requires
put_text-next-requires c = search (rules, structs_each)

pub loop-i-preserved : goal.loop-i-preserved
loop-i-preserved c = search (rules, structs_step)

pub returns : goal.returns
returns c = search (rules, structs_end)
