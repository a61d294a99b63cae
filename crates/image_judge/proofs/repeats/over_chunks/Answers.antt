-- `image_judge::repeats::over_chunks` meets its contract.
use native.Mathlib.Omega.{arith}
use mathlib.Core.Path.{refl}
use Rattle.image_judge.proofs.Repeating.{repeating_start, repeating_end, repeating_rows, repeating_fits, repeating_next}
use borrow.Author.Rules.{rules}
use Rattle.image_judge.proofs.repeats.over_chunks.Goals as goal

pub loop-done-init : goal.loop-done-init
loop-done-init c = (refl, repeating_start _ _ _ c.requires.0)

pub against_chunk-c-requires : goal.against_chunk-c-requires
against_chunk-c-requires c = (
  repeating_rows _ _ _ c.requires.0 _ _ _ c.loop-done.invariant.1
      c.loop-done-test.true,
  let z = c.loop-done.invariant.0 in
      let y = c.requires.1 in
      omega arith,
)

pub overflow_add-repeat : goal.overflow_add-repeat
overflow_add-repeat c =
    let z =
    repeating_fits _ _ _ c.requires.0 _ _ _ c.loop-done.invariant.1 c.loop-done-test.true _
    c.against_chunk-c.ensures in
    omega arith

pub overflow_add-done : goal.overflow_add-done
overflow_add-done c =
    let z =
    repeating_fits _ _ _ c.requires.0 _ _ _ c.loop-done.invariant.1 c.loop-done-test.true _
    c.against_chunk-c.ensures in
    omega arith

pub loop-done-smaller : goal.loop-done-smaller
loop-done-smaller c =
    let z =
    repeating_fits _ _ _ c.requires.0 _ _ _ c.loop-done.invariant.1 c.loop-done-test.true _
    c.against_chunk-c.ensures in
    omega arith

pub loop-done-preserved : goal.loop-done-preserved
loop-done-preserved c = (
  search rules,
  repeating_next _ _ _ c.requires.0 _ _ _ c.loop-done.invariant.1 c.loop-done-test.true _
      c.against_chunk-c.ensures,
)

pub returns : goal.returns
returns c = repeating_end _ _ _ c.requires.0 _ _ _ c.loop-done.invariant.1 c.loop-done-test.false
