use Rattle.std.proofs.Common.{ap}
use Rattle.model.specs.Basics.{ascii}
use Rattle.console_script.specs.Words.{blank}
use Rattle.console_script.specs.Stored.{stored}
use Rattle.layout.specs.Links.{constants_lent}
use Rattle.console_emission.specs.Emits.{known, boolean_args, said_bytes, constant_asked}
use Rattle.console_emission.proofs.emit_constant.Goals as goal
use Rattle.console_emission.proofs.emit_constant.Goals.{then-same_bytes-3, else-same_bytes-3}

pub returns-then-same_bytes : goal.returns-then-same_bytes
unfolding ascii blank boolean_args said_bytes constant_asked constants_lent
returns-then-same_bytes c =
    rw (
      ← c.word-what.ensures,
      ← c.same_bytes.ensures,
      c.if-same_bytes.true,
      ← c.words_from.ensures,
      ← c.in_ok-n.ensures,
    ) (ap known (c.add_constant.ensures (stored c.args.p.now)).means)

pub returns-then-same_bytes-2 : goal.returns-then-same_bytes-2
unfolding ascii blank boolean_args said_bytes constant_asked constants_lent
returns-then-same_bytes-2 c =
    rw (
      ← c.word-what.ensures,
      ← c.same_bytes.ensures,
      c.if-same_bytes.false,
      ← c.same_bytes-2.ensures,
      c.if-same_bytes-2.true,
      ← c.in_ok-n-2.ensures,
    ) (ap known (c.add_constant-then-same_bytes-2.ensures (stored c.args.p.now)).means)

pub returns-in_err-size : goal.returns-in_err-size
unfolding ascii blank boolean_args said_bytes constant_asked constants_lent
returns-in_err-size c =
    rw (
      c.from_residual-in_err-size.ensures,
      ← c.word-what.ensures,
      ← c.same_bytes.ensures,
      c.if-same_bytes.false,
      ← c.same_bytes-2.ensures,
      c.if-same_bytes-2.false,
      ← c.words_from-2.ensures,
      ← c.in_err-size.ensures,
    )

pub returns : goal.returns
unfolding ascii blank boolean_args said_bytes constant_asked constants_lent
returns c =
    rw (
      ← c.word-what.ensures,
      ← c.same_bytes.ensures,
      c.if-same_bytes.false,
      ← c.same_bytes-2.ensures,
      c.if-same_bytes-2.false,
      ← c.words_from-2.ensures,
      ← c.in_ok-size.ensures,
      ← c.front.ensures,
      ← c.same_bytes-3.ensures,
    ) (elim c.if-same_bytes-3.branch [
      | then-same_bytes-3 w ↦ rw (w.if-same_bytes-3.true, ← w.kind-is) (ap known (c.add_constant-2.ensures (stored c.args.p.now)).means)
      | else-same_bytes-3 w ↦ rw (w.if-same_bytes-3.false, ← w.kind-is) (ap known (c.add_constant-2.ensures (stored c.args.p.now)).means)
    ])
