use Rattle.std.proofs.Common.{ap}
use borrow.Author.Tests.{le-ltb}
use Rattle.model.specs.Basics.{ascii}
use Rattle.console_script.specs.Stored.{stored}
use Rattle.layout.specs.Links.{code_lent}
use Rattle.console_emission.specs.Emits.{known, with_op, with_op1, with_op2, with_op3, code_asked}
use Rattle.console_emission.proofs.emit_code.Goals as goal

pub returns-then-same_bytes : goal.returns-then-same_bytes
unfolding ascii with_op with_op1 with_op2 with_op3 code_asked code_lent
returns-then-same_bytes c =
    rw (
      ← c.word-what.ensures,
      ← c.same_bytes.ensures,
      c.if-same_bytes.true,
      ← c.in_ok-n.ensures,
      ← c.byte.ensures,
      ← c.place.ensures,
    ) (ap known (c.add_op.ensures (stored c.args.p.now)).means)

pub returns-then-same_bytes-2 : goal.returns-then-same_bytes-2
unfolding ascii with_op with_op1 with_op2 with_op3 code_asked code_lent
returns-then-same_bytes-2 c =
    rw (
      ← c.word-what.ensures,
      ← c.same_bytes.ensures,
      c.if-same_bytes.false,
      ← c.same_bytes-2.ensures,
      c.if-same_bytes-2.true,
      ← c.in_ok-n-2.ensures,
      le-ltb _ _ c.if-most-n.false,
      ← c.byte-then-same_bytes-2.ensures,
      ← c.operand.ensures,
      ← c.place-then-same_bytes-2.ensures,
    ) (ap known (c.add_op1.ensures (stored c.args.p.now)).means)

pub returns-then-same_bytes-3 : goal.returns-then-same_bytes-3
unfolding ascii with_op with_op1 with_op2 with_op3 code_asked code_lent
returns-then-same_bytes-3 c =
    rw (
      ← c.word-what.ensures,
      ← c.same_bytes.ensures,
      c.if-same_bytes.false,
      ← c.same_bytes-2.ensures,
      c.if-same_bytes-2.false,
      ← c.same_bytes-3.ensures,
      c.if-same_bytes-3.true,
      ← c.in_ok-n-3.ensures,
      le-ltb _ _ c.if-most-n-2.false,
      le-ltb _ _ c.if-most-n-3.false,
      ← c.byte-then-same_bytes-3.ensures,
      ← c.operand-then-same_bytes-3.ensures,
      ← c.operand-then-same_bytes-3-2.ensures,
      ← c.place-then-same_bytes-3.ensures,
    ) (ap known (c.add_op2.ensures (stored c.args.p.now)).means)

pub returns : goal.returns
unfolding ascii with_op with_op1 with_op2 with_op3 code_asked code_lent
returns c =
    rw (
      ← c.word-what.ensures,
      ← c.same_bytes.ensures,
      c.if-same_bytes.false,
      ← c.same_bytes-2.ensures,
      c.if-same_bytes-2.false,
      ← c.same_bytes-3.ensures,
      c.if-same_bytes-3.false,
      ← c.in_ok-n-4.ensures,
      le-ltb _ _ c.if-most-n-4.false,
      le-ltb _ _ c.if-most-n-5.false,
      le-ltb _ _ c.if-most-n-6.false,
      ← c.byte-2.ensures,
      ← c.operand-2.ensures,
      ← c.operand-3.ensures,
      ← c.operand-4.ensures,
      ← c.place-2.ensures,
    ) (ap known (c.add_op3.ensures (stored c.args.p.now)).means)
