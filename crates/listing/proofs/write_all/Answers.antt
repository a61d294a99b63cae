-- `write_all`: a function a turn.
use native.Mathlib.Omega.{arith}
use borrow.Author.Rules.{rules}
use Rattle.std.proofs.lemmas.Result.{err_from_is_err_and}
use Rattle.model.specs.Listings.{listing_of}
use Rattle.model.specs.Stores.{program_in}
use Rattle.listing.proofs.Lent.{short}
use Rattle.listing.proofs.Functions.{none_yet, all_passed, one_stops, one_more}
use Rattle.listing.proofs.write_all.Goals as goal

pub loop-i-init : goal.loop-i-init
loop-i-init c = none_yet _ _ _ _ _ _

pub write_function-requires : goal.write_function-requires
write_function-requires c = search (short, rules)

pub returns-in_err-next : goal.returns-in_err-next
unfolding listing_of program_in
returns-in_err-next c =
    let p = err_from_is_err_and c.from_residual.result c.from_residual.ensures.1 in
    rw (p.1, p.2)
    (one_stops _ _ _ _ c.loop-i.invariant c.loop-i-test.true _ c.first.ensures _ _ c.part-name.ensures c.code_of-code.ensures.0 c.in_err-next.ensures)

pub loop-i-preserved : goal.loop-i-preserved
loop-i-preserved c =
    one_more _ _ _ _ c.loop-i.invariant
    c.loop-i-test.true _
    c.first.ensures _ _
    c.part-name.ensures
    c.code_of-code.ensures.0
    c.in_ok-next.ensures
    (omega (
      arith,
      short _ _ (search rules) _ c.part-name.ensures,
      c.code_of-code.ensures.1,
    ))

pub returns : goal.returns
unfolding listing_of program_in
returns c = search (rules, all_passed)
