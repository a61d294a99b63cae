-- `run_arms::pushes::push` meets its contract.
use borrow.Author.Rules.{rules}
use native.Mathlib.Numerals.{add-one}
use Rattle.run_arms.proofs.Posts.{full, pushes}
use Rattle.run_arms.proofs.pushes.push.Goals as goal

pub returns-then-k-sp : goal.returns-then-k-sp
returns-then-k-sp c = search (full, rules)

pub returns : goal.returns
returns c = search (rules, pushes, add-one)
