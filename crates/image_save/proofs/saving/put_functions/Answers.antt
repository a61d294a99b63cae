-- `image_save::saving::put_functions` meets its contract.
use Rattle.image_save.proofs.Orderly.{functions_near, main_puts, functions_start, function_puts, functions_step, functions_end}
use Rattle.std.proofs.Common.{rules}
use Rattle.image_save.proofs.saving.put_functions.Goals as goal

pub put_number-behind-requires : goal.put_number-behind-requires
put_number-behind-requires c = search (rules, functions_near)

pub put_function-next-requires : goal.put_function-next-requires
put_function-next-requires c = search (rules, main_puts)

pub loop-i-init : goal.loop-i-init
loop-i-init c = search (rules, functions_start)

pub put_function-next-requires-in-loop-i : goal.put_function-next-requires-in-loop-i
put_function-next-requires-in-loop-i c =
    function_puts _ _ _ _ _ _ _ _ c.requires _ _ _ c.put_number-behind.ensures _ _
    c.put_function-next.ensures _ _ _ c.loop-i.invariant c.loop-i-test.true

pub loop-i-preserved : goal.loop-i-preserved
loop-i-preserved c = search (rules, functions_step)

pub returns : goal.returns
returns c = search (rules, functions_end)
