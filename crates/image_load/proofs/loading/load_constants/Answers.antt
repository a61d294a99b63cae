-- `image_load::loading::load_constants` meets its contract.
use borrow.Author.Rules.{rules}
use native.Mathlib.Omega.{arith}
use Rattle.image_judge.proofs.Passes.{counted_at}
use Rattle.image_load.proofs.Filling.{constants_no_count, constants_begin, constants_same, constants_filled, constants_never, constants_room, entry_small, slice_length, constants_next}
use Rattle.image_load.proofs.loading.load_constants.Goals as goal

pub returns-in_default : goal.returns-in_default
returns-in_default c = search (rules, constants_no_count)

pub loop-i-init : goal.loop-i-init
loop-i-init c = search (rules, constants_begin, counted_at)

pub returns-in_default-read_constant : goal.returns-in_default-read_constant
returns-in_default-read_constant c = search (rules, constants_never, counted_at)

pub payload-word-requires : goal.payload-word-requires
payload-word-requires c = (
  let z =
      (constants_room _ _ _ _ c.requires _ _
      (counted_at _ _ _ c.read_number.ensures _ _ _ c.in-Some.is c.wide-count.ensures) _ _ _ _ _
      c.loop-i.invariant c.loop-i-test.true _ c.read_constant.ensures _
      c.in-Ok.is).1.0 in
      omega arith,
  entry_small _ _ _ _ c.requires _ _
      (counted_at _ _ _ c.read_number.ensures _ _ _ c.in-Some.is c.wide-count.ensures) _ _ _ _ _
      c.loop-i.invariant c.loop-i-test.true _ c.read_constant.ensures _
      c.in-Ok.is,
)

pub put_words-requires : goal.put_words-requires
put_words-requires c =
    let counted = counted_at _ _ _ c.read_number.ensures _ _ _ c.in-Some.is c.wide-count.ensures in
    let z = (constants_room _ _ _ _
    c.requires _ _ counted _ _ _ _ _ c.loop-i.invariant
    c.loop-i-test.true _
    c.read_constant.ensures _ c.in-Ok.is).1.1 in
    let y = (constants_same _ _ _ _
    c.requires _ _ counted _ _ _ _ _ c.loop-i.invariant).0 in
    omega arith

pub put_bytes-requires : goal.put_bytes-requires
put_bytes-requires c =
    let counted = counted_at _ _ _ c.read_number.ensures _ _ _ c.in-Some.is c.wide-count.ensures in
    let z = (constants_room _ _ _ _
    c.requires _ _ counted _ _ _ _ _
    c.loop-i.invariant
    c.loop-i-test.true _
    c.read_constant.ensures _
    c.in-Ok.is).0 in
    let y = (constants_same _ _ _ _
    c.requires _ _ counted _ _ _ _ _
    c.loop-i.invariant).1 in
    let w = slice_length _ _ _ _
    c.requires _ _ counted _ _ _ _ _
    c.loop-i.invariant
    c.loop-i-test.true _
    c.read_constant.ensures _
    c.in-Ok.is in
    omega arith

pub overflow_add-t : goal.overflow_add-t
overflow_add-t c =
    let counted = counted_at _ _ _ c.read_number.ensures _ _ _ c.in-Some.is c.wide-count.ensures in
    let z = (constants_room _ _ _ _
    c.requires _ _ counted _ _ _ _ _
    c.loop-i.invariant
    c.loop-i-test.true _
    c.read_constant.ensures _
    c.in-Ok.is).1.0 in
    omega arith

pub loop-i-preserved : goal.loop-i-preserved
loop-i-preserved c =
    constants_next _ _ _ _ c.requires _ _
    (counted_at _ _ _ c.read_number.ensures _ _ _ c.in-Some.is c.wide-count.ensures) _ _ _ _ _
    c.loop-i.invariant c.loop-i-test.true _ c.read_constant.ensures _ c.in-Ok.is _
    c.payload-word.ensures _ _ c.put_words.ensures c.put_bytes.ensures

pub returns : goal.returns
returns c = search (rules, constants_filled, counted_at)
