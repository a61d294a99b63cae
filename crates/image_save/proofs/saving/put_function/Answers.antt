-- `image_save::saving::put_function` meets its contract.
use borrow.Author.Rules.{rules}
use Rattle.image_save.proofs.Imaging.{name_puts, code_small, size_near, code_near, runs_put, function_put}
use Rattle.image_save.proofs.saving.put_function.Goals as goal

pub put_text-a-requires : goal.put_text-a-requires
put_text-a-requires c = search (rules, name_puts)

pub overflow_cast-n : goal.overflow_cast-n
overflow_cast-n c = search (code_small, rules)

pub put_number-b-requires : goal.put_number-b-requires
put_number-b-requires c = search (rules, size_near)

pub put_part-d-requires : goal.put_part-d-requires
put_part-d-requires c = search (rules, code_near)

pub put_runs-requires : goal.put_runs-requires
put_runs-requires c = search (rules, runs_put)

pub returns : goal.returns
returns c = search (rules, function_put)
