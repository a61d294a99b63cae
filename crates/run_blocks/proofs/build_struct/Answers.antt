-- `run_blocks::build_struct` meets its contract.
use borrow.Author.Rules.{rules}
use Rattle.run_blocks.proofs.Cellwise.{cells_fit, unknown_struct, builds_struct, build_few, build_pre}
use Rattle.run_blocks.proofs.build_struct.Goals as goal

pub returns-then-k-number : goal.returns-then-k-number
returns-then-k-number c = search (rules, unknown_struct)

pub returns-then-sp-n : goal.returns-then-sp-n
returns-then-sp-n c = search (rules, builds_struct, build_few)

pub build-built-requires : goal.build-built-requires
build-built-requires c = search (rules, build_pre)

pub replace-requires : goal.replace-requires
replace-requires c = search (rules, cells_fit)

pub returns : goal.returns
returns c =
    λ w d e. builds_struct w _ _ d c.if-k-number.false
    (c.replace.ensures w _ _ _ _ d e c.requires.0.1 c.build-built.ensures)
