-- `image_judge::read_constant` meets its contract.
use borrow.Author.Rules.{rules}
use Rattle.image_judge.proofs.Items.{constant_none, constant_next, constant_kind, constant_read, two_left}
use Rattle.image_judge.proofs.read_constant.Goals as goal

pub returns-in_default : goal.returns-in_default
returns-in_default c = search (rules, constant_none)

pub returns-then-kind-gt3 : goal.returns-then-kind-gt3
returns-then-kind-gt3 c = search (rules, constant_kind)

pub read_scalar-requires : goal.read_scalar-requires
read_scalar-requires c = search (rules, constant_next)

pub returns-then-kind-eq0 : goal.returns-then-kind-eq0
returns-then-kind-eq0 c = search (rules, constant_read)

pub read_flag-requires : goal.read_flag-requires
read_flag-requires c = search (rules, constant_next)

pub returns-then-kind-eq1 : goal.returns-then-kind-eq1
returns-then-kind-eq1 c = search (rules, constant_read)

pub read_letters-requires : goal.read_letters-requires
read_letters-requires c = (
  constant_next _ _ c.requires _ c.read_number.ensures _ _ c.in-Some.is,
  two_left _ c.if-kind-eq0.false c.if-kind-eq1.false c.if-kind-gt3.false,
)

pub returns : goal.returns
returns c = search (rules, constant_read)
