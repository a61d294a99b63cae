-- `image_load::loading::load_structs` meets its contract.
use borrow.Author.Rules.{rules}
use native.Mathlib.Omega.{arith}
use Rattle.image_judge.proofs.Passes.{counted_at}
use Rattle.image_load.proofs.Filling.{structs_no_count, structs_begin, structs_same, structs_filled, structs_never, name_small, name_length, structs_room, structs_next}
use Rattle.image_load.proofs.loading.load_structs.Goals as goal

pub returns-in_default : goal.returns-in_default
returns-in_default c = search (rules, structs_no_count)

pub loop-i-init : goal.loop-i-init
loop-i-init c = search (rules, structs_begin, counted_at)

pub returns-in_default-read_text : goal.returns-in_default-read_text
returns-in_default-read_text c = search (rules, structs_never, counted_at)

pub put_bytes-requires : goal.put_bytes-requires
put_bytes-requires c =
    let z =
    (structs_room _ _ _ _ _ c.requires _ _
    (counted_at _ _ _ c.read_number.ensures _ _ _ c.in-Some.is c.wide-count.ensures) _ _ _ _ _
    c.loop-i.invariant c.loop-i-test.true _ c.read_text.ensures _ _ c.in-Some-read_text.is).0 in
    let y =
    (structs_same _ _ _ _ _ c.requires _ _
    (counted_at _ _ _ c.read_number.ensures _ _ _ c.in-Some.is c.wide-count.ensures) _ _ _ _ _
    c.loop-i.invariant).1 in
    let w =
    name_length _ _ _ _ _ c.requires _ _
    (counted_at _ _ _ c.read_number.ensures _ _ _ c.in-Some.is c.wide-count.ensures) _ _ _ _ _
    c.loop-i.invariant c.loop-i-test.true _ c.read_text.ensures _ _ c.in-Some-read_text.is in
    omega arith

pub pack-word-requires : goal.pack-word-requires
pack-word-requires c = (
  let z =
      (structs_room _ _ _ _ _ c.requires _ _
      (counted_at _ _ _ c.read_number.ensures _ _ _ c.in-Some.is c.wide-count.ensures) _ _ _ _ _
      c.loop-i.invariant c.loop-i-test.true _ c.read_text.ensures _ _
      c.in-Some-read_text.is).1.0 in
      omega arith,
  name_small _ _ _ _ _ c.requires _ _
      (counted_at _ _ _ c.read_number.ensures _ _ _ c.in-Some.is c.wide-count.ensures) _ _ _ _ _
      c.loop-i.invariant c.loop-i-test.true _ c.read_text.ensures _ _ c.in-Some-read_text.is,
)

pub put_struct-requires : goal.put_struct-requires
put_struct-requires c = (
  c.spot-place.ensures.most,
  let z =
      (structs_room _ _ _ _ _ c.requires _ _
      (counted_at _ _ _ c.read_number.ensures _ _ _ c.in-Some.is c.wide-count.ensures) _ _ _ _ _
      c.loop-i.invariant c.loop-i-test.true _ c.read_text.ensures _ _
      c.in-Some-read_text.is).1.1 in
      let y =
      (structs_same _ _ _ _ _ c.requires _ _
      (counted_at _ _ _ c.read_number.ensures _ _ _ c.in-Some.is c.wide-count.ensures) _ _ _ _ _
      c.loop-i.invariant).0 in
      omega arith,
)

pub overflow_add-t : goal.overflow_add-t
overflow_add-t c =
    let z =
    (structs_room _ _ _ _ _ c.requires _ _
    (counted_at _ _ _ c.read_number.ensures _ _ _ c.in-Some.is c.wide-count.ensures) _ _ _ _ _
    c.loop-i.invariant c.loop-i-test.true _ c.read_text.ensures _ _
    c.in-Some-read_text.is).1.0 in
    omega arith

pub loop-i-preserved : goal.loop-i-preserved
loop-i-preserved c =
    structs_next _ _ _ _ _ c.requires _ _
    (counted_at _ _ _ c.read_number.ensures _ _ _ c.in-Some.is c.wide-count.ensures) _ _ _ _ _
    c.loop-i.invariant c.loop-i-test.true _ c.read_text.ensures _ _ c.in-Some-read_text.is _
    c.spot-place.ensures _ c.pack-word.ensures _ _ c.put_struct.ensures
    c.put_bytes.ensures

pub returns : goal.returns
returns c = search (rules, structs_filled, counted_at)
