-- `image_save::saving::put_image` meets its contract.
use borrow.Author.Rules.{rules}
use Rattle.layout.specs.Lent as lent
use Rattle.image_save.proofs.Orderly.{constants_puts, structs_puts, functions_puts, image_put}
use Rattle.image_save.proofs.saving.put_image.Goals as goal

pub put_constants-a-requires : goal.put_constants-a-requires
unfolding lent.program_lent
put_constants-a-requires c = search (rules, constants_puts)

pub put_structs-b-requires : goal.put_structs-b-requires
unfolding lent.program_lent
put_structs-b-requires c = search (rules, structs_puts)

pub put_functions-requires : goal.put_functions-requires
unfolding lent.program_lent
put_functions-requires c = search (rules, functions_puts)

pub returns : goal.returns
unfolding lent.program_lent
returns c = search (rules, image_put)
