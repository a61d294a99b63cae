-- `run_blocks::replace` meets its contract.
use mathlib.Core.Path.{refl}
use borrow.Author.Rules.{rules}
use native.Mathlib.Omega.{arith}
use Rattle.run_arms.proofs.Keeping.{fewer}
use Rattle.run_blocks.proofs.Cellwise.{build_bad, built}
use Rattle.run_blocks.proofs.replace.Goals as goal

pub push-requires : goal.push-requires
push-requires c = fewer c.requires.0 (omega arith) refl

pub returns-in-Err : goal.returns-in-Err
returns-in-Err c = search (rules, build_bad)

pub returns-in-Ok : goal.returns-in-Ok
returns-in-Ok c =
    λ w t j x y d e b p. built b c.requires.1.0 p c.in-Ok.is w e c.named-v.ensures
    (c.push.ensures w d)
