-- `run_blocks::build_list` meets its contract.
use borrow.Author.Rules.{rules}
use Rattle.run_blocks.proofs.Cellwise.{cells_fit, builds_list, build_few, build_pre}
use Rattle.run_blocks.proofs.build_list.Goals as goal

pub returns-then-sp-n : goal.returns-then-sp-n
returns-then-sp-n c = search (rules, builds_list, build_few)

pub build-built-requires : goal.build-built-requires
build-built-requires c = search (build_pre, rules)

pub replace-requires : goal.replace-requires
replace-requires c = search (rules, cells_fit)

pub returns : goal.returns
returns c =
    λ w d e. builds_list w _ _
    (c.replace.ensures w _ _ _ _ d e c.requires.0.1 c.build-built.ensures)
