-- `image_judge::read_head` meets its contract.
use borrow.Author.Rules.{rules}
use Rattle.image_judge.proofs.Functions.{head_none, head_other, head_no_size, head_code, head_short, head_read}
use native.Mathlib.Omega.{arith}
use Rattle.image_judge.proofs.Items.{text_end}
use Rattle.image_judge.proofs.read_head.Goals as goal

pub returns-in_default : goal.returns-in_default
returns-in_default c = search (rules, head_none)

pub overflow_add-behind : goal.overflow_add-behind
overflow_add-behind c =
    let z = text_end _ _ _ c.read_text.ensures _ _ c.in-Some.is in
    omega arith

pub returns-then-not-may_be : goal.returns-then-not-may_be
returns-then-not-may_be c = search (rules, head_other)

pub returns-in_default-read_number : goal.returns-in_default-read_number
returns-in_default-read_number c = search (rules, head_no_size)

pub overflow_sub-image : goal.overflow_sub-image
overflow_sub-image c =
    head_code _ _ _ _ c.read_text.ensures _ _ c.in-Some.is _ c.may_be.ensures
    c.if-not-may_be.false _ c.read_number.ensures _ _ _ c.in-Some-read_number.is c.wide-size.ensures

pub returns-then-image-code : goal.returns-then-image-code
returns-then-image-code c = search (rules, head_short)

pub returns : goal.returns
returns c = search (rules, head_read)
