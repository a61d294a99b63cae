use Rattle.model.specs.Basics.{ascii}
use Rattle.console.specs.Asks.{group_of}
use Rattle.console.proofs.commands.group_of.Goals as goal

pub returns-then-is_said : goal.returns-then-is_said
unfolding ascii group_of
returns-then-is_said c = rw (← c.is_said.ensures, c.if-is_said.true)

pub returns-then-is_code : goal.returns-then-is_code
unfolding ascii group_of
returns-then-is_code c = rw (← c.is_said.ensures, c.if-is_said.false, ← c.is_code.ensures, c.if-is_code.true)

pub returns-then-is_constant : goal.returns-then-is_constant
unfolding ascii group_of
returns-then-is_constant c =
    rw (
      ← c.is_said.ensures,
      c.if-is_said.false,
      ← c.is_code.ensures,
      c.if-is_code.false,
      ← c.is_constant.ensures,
      c.if-is_constant.true,
    )

pub returns-then-is_name : goal.returns-then-is_name
unfolding ascii group_of
returns-then-is_name c =
    rw (
      ← c.is_said.ensures,
      c.if-is_said.false,
      ← c.is_code.ensures,
      c.if-is_code.false,
      ← c.is_constant.ensures,
      c.if-is_constant.false,
      ← c.is_name.ensures,
      c.if-is_name.true,
    )

pub returns-then-is_look : goal.returns-then-is_look
unfolding ascii group_of
returns-then-is_look c =
    rw (
      ← c.is_said.ensures,
      c.if-is_said.false,
      ← c.is_code.ensures,
      c.if-is_code.false,
      ← c.is_constant.ensures,
      c.if-is_constant.false,
      ← c.is_name.ensures,
      c.if-is_name.false,
      ← c.is_look.ensures,
      c.if-is_look.true,
    )

pub returns-then-is_read : goal.returns-then-is_read
unfolding ascii group_of
returns-then-is_read c =
    rw (
      ← c.is_said.ensures,
      c.if-is_said.false,
      ← c.is_code.ensures,
      c.if-is_code.false,
      ← c.is_constant.ensures,
      c.if-is_constant.false,
      ← c.is_name.ensures,
      c.if-is_name.false,
      ← c.is_look.ensures,
      c.if-is_look.false,
      ← c.is_read.ensures,
      c.if-is_read.true,
    )

pub returns-then-same_bytes : goal.returns-then-same_bytes
unfolding ascii group_of
returns-then-same_bytes c =
    rw (
      ← c.is_said.ensures,
      c.if-is_said.false,
      ← c.is_code.ensures,
      c.if-is_code.false,
      ← c.is_constant.ensures,
      c.if-is_constant.false,
      ← c.is_name.ensures,
      c.if-is_name.false,
      ← c.is_look.ensures,
      c.if-is_look.false,
      ← c.is_read.ensures,
      c.if-is_read.false,
      ← c.same_bytes.ensures,
      c.if-same_bytes.true,
    )

pub returns-then-same_bytes-2 : goal.returns-then-same_bytes-2
unfolding ascii group_of
returns-then-same_bytes-2 c =
    rw (
      ← c.is_said.ensures,
      c.if-is_said.false,
      ← c.is_code.ensures,
      c.if-is_code.false,
      ← c.is_constant.ensures,
      c.if-is_constant.false,
      ← c.is_name.ensures,
      c.if-is_name.false,
      ← c.is_look.ensures,
      c.if-is_look.false,
      ← c.is_read.ensures,
      c.if-is_read.false,
      ← c.same_bytes.ensures,
      c.if-same_bytes.false,
      ← c.same_bytes-2.ensures,
      c.if-same_bytes-2.true,
    )

pub returns-then-same_bytes-3 : goal.returns-then-same_bytes-3
unfolding ascii group_of
returns-then-same_bytes-3 c =
    rw (
      ← c.is_said.ensures,
      c.if-is_said.false,
      ← c.is_code.ensures,
      c.if-is_code.false,
      ← c.is_constant.ensures,
      c.if-is_constant.false,
      ← c.is_name.ensures,
      c.if-is_name.false,
      ← c.is_look.ensures,
      c.if-is_look.false,
      ← c.is_read.ensures,
      c.if-is_read.false,
      ← c.same_bytes.ensures,
      c.if-same_bytes.false,
      ← c.same_bytes-2.ensures,
      c.if-same_bytes-2.false,
      ← c.same_bytes-3.ensures,
      c.if-same_bytes-3.true,
    )

pub returns-then-same_bytes-4 : goal.returns-then-same_bytes-4
unfolding ascii group_of
returns-then-same_bytes-4 c =
    rw (
      ← c.is_said.ensures,
      c.if-is_said.false,
      ← c.is_code.ensures,
      c.if-is_code.false,
      ← c.is_constant.ensures,
      c.if-is_constant.false,
      ← c.is_name.ensures,
      c.if-is_name.false,
      ← c.is_look.ensures,
      c.if-is_look.false,
      ← c.is_read.ensures,
      c.if-is_read.false,
      ← c.same_bytes.ensures,
      c.if-same_bytes.false,
      ← c.same_bytes-2.ensures,
      c.if-same_bytes-2.false,
      ← c.same_bytes-3.ensures,
      c.if-same_bytes-3.false,
      ← c.same_bytes-4.ensures,
      c.if-same_bytes-4.true,
    )

pub returns-then-same_bytes-5 : goal.returns-then-same_bytes-5
unfolding ascii group_of
returns-then-same_bytes-5 c =
    rw (
      ← c.is_said.ensures,
      c.if-is_said.false,
      ← c.is_code.ensures,
      c.if-is_code.false,
      ← c.is_constant.ensures,
      c.if-is_constant.false,
      ← c.is_name.ensures,
      c.if-is_name.false,
      ← c.is_look.ensures,
      c.if-is_look.false,
      ← c.is_read.ensures,
      c.if-is_read.false,
      ← c.same_bytes.ensures,
      c.if-same_bytes.false,
      ← c.same_bytes-2.ensures,
      c.if-same_bytes-2.false,
      ← c.same_bytes-3.ensures,
      c.if-same_bytes-3.false,
      ← c.same_bytes-4.ensures,
      c.if-same_bytes-4.false,
      ← c.same_bytes-5.ensures,
      c.if-same_bytes-5.true,
    )

pub returns-then-same_bytes-6 : goal.returns-then-same_bytes-6
unfolding ascii group_of
returns-then-same_bytes-6 c =
    rw (
      ← c.is_said.ensures,
      c.if-is_said.false,
      ← c.is_code.ensures,
      c.if-is_code.false,
      ← c.is_constant.ensures,
      c.if-is_constant.false,
      ← c.is_name.ensures,
      c.if-is_name.false,
      ← c.is_look.ensures,
      c.if-is_look.false,
      ← c.is_read.ensures,
      c.if-is_read.false,
      ← c.same_bytes.ensures,
      c.if-same_bytes.false,
      ← c.same_bytes-2.ensures,
      c.if-same_bytes-2.false,
      ← c.same_bytes-3.ensures,
      c.if-same_bytes-3.false,
      ← c.same_bytes-4.ensures,
      c.if-same_bytes-4.false,
      ← c.same_bytes-5.ensures,
      c.if-same_bytes-5.false,
      ← c.same_bytes-6.ensures,
      c.if-same_bytes-6.true,
    )

pub returns : goal.returns
unfolding ascii group_of
returns c =
    rw (
      ← c.is_said.ensures,
      c.if-is_said.false,
      ← c.is_code.ensures,
      c.if-is_code.false,
      ← c.is_constant.ensures,
      c.if-is_constant.false,
      ← c.is_name.ensures,
      c.if-is_name.false,
      ← c.is_look.ensures,
      c.if-is_look.false,
      ← c.is_read.ensures,
      c.if-is_read.false,
      ← c.same_bytes.ensures,
      c.if-same_bytes.false,
      ← c.same_bytes-2.ensures,
      c.if-same_bytes-2.false,
      ← c.same_bytes-3.ensures,
      c.if-same_bytes-3.false,
      ← c.same_bytes-4.ensures,
      c.if-same_bytes-4.false,
      ← c.same_bytes-5.ensures,
      c.if-same_bytes-5.false,
      ← c.same_bytes-6.ensures,
      c.if-same_bytes-6.false,
    )
