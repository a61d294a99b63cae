-- `write_noted_function`: the lines behind the header.
use native.Mathlib.Omega.{arith}
use Rattle.listing.proofs.Lent.{short}
use Rattle.noted_listing.proofs.Lent.{function_is}
use borrow.Author.Rules.{rules}
use Rattle.noted_listing.proofs.functions.write_noted_function.Goals as goal

pub write_header-next-requires : goal.write_header-next-requires
write_header-next-requires c = omega (arith, short _ _ (search rules) _ c.part-name.ensures)

pub write_noted_lines-requires : goal.write_noted_lines-requires
write_noted_lines-requires c =
    let name = short _ _ (search rules) _ c.part-name.ensures in
    let code = c.code_of-code.ensures.1 in
    let near = c.write_header-next.ensures.near in
    let room = c.requires in
    (code, omega arith)

pub returns : goal.returns
returns c = search (function_is, short, rules)
