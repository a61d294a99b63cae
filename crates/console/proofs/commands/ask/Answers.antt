use Rattle.model.specs.Basics.{ascii}
use Rattle.console.specs.Asks.{ask_of}
use Rattle.console.proofs.commands.ask.Goals as goal

pub returns-then-same_bytes : goal.returns-then-same_bytes
unfolding ascii ask_of
returns-then-same_bytes c =
    rw (
      ← c.word-what.ensures,
      ← c.same_bytes.ensures,
      c.if-same_bytes.true,
      c.ask_new.ensures,
    )

pub returns-then-same_bytes-2 : goal.returns-then-same_bytes-2
unfolding ascii ask_of
returns-then-same_bytes-2 c =
    rw (
      ← c.word-what.ensures,
      ← c.same_bytes.ensures,
      c.if-same_bytes.false,
      ← c.same_bytes-2.ensures,
      c.if-same_bytes-2.true,
      c.ask_traced.ensures,
    )

pub returns-then-same_bytes-3 : goal.returns-then-same_bytes-3
unfolding ascii ask_of
returns-then-same_bytes-3 c =
    rw (
      ← c.word-what.ensures,
      ← c.same_bytes.ensures,
      c.if-same_bytes.false,
      ← c.same_bytes-2.ensures,
      c.if-same_bytes-2.false,
      ← c.same_bytes-3.ensures,
      c.if-same_bytes-3.true,
      c.ask_start.ensures,
    )

pub returns-then-same_bytes-4 : goal.returns-then-same_bytes-4
unfolding ascii ask_of
returns-then-same_bytes-4 c =
    rw (
      ← c.word-what.ensures,
      ← c.same_bytes.ensures,
      c.if-same_bytes.false,
      ← c.same_bytes-2.ensures,
      c.if-same_bytes-2.false,
      ← c.same_bytes-3.ensures,
      c.if-same_bytes-3.false,
      ← c.same_bytes-4.ensures,
      c.if-same_bytes-4.true,
      c.ask_continue.ensures,
    )

pub returns-then-same_bytes-5 : goal.returns-then-same_bytes-5
unfolding ascii ask_of
returns-then-same_bytes-5 c =
    rw (
      ← c.word-what.ensures,
      ← c.same_bytes.ensures,
      c.if-same_bytes.false,
      ← c.same_bytes-2.ensures,
      c.if-same_bytes-2.false,
      ← c.same_bytes-3.ensures,
      c.if-same_bytes-3.false,
      ← c.same_bytes-4.ensures,
      c.if-same_bytes-4.false,
      ← c.same_bytes-5.ensures,
      c.if-same_bytes-5.true,
      c.ask_traced-then-same_bytes-5.ensures,
    )

pub returns-then-same_bytes-6 : goal.returns-then-same_bytes-6
unfolding ascii ask_of
returns-then-same_bytes-6 c =
    rw (
      ← c.word-what.ensures,
      ← c.same_bytes.ensures,
      c.if-same_bytes.false,
      ← c.same_bytes-2.ensures,
      c.if-same_bytes-2.false,
      ← c.same_bytes-3.ensures,
      c.if-same_bytes-3.false,
      ← c.same_bytes-4.ensures,
      c.if-same_bytes-4.false,
      ← c.same_bytes-5.ensures,
      c.if-same_bytes-5.false,
      ← c.same_bytes-6.ensures,
      c.if-same_bytes-6.true,
    ) c.ask_load.ensures

pub returns-then-same_bytes-7 : goal.returns-then-same_bytes-7
unfolding ascii ask_of
returns-then-same_bytes-7 c =
    rw (
      ← c.word-what.ensures,
      ← c.same_bytes.ensures,
      c.if-same_bytes.false,
      ← c.same_bytes-2.ensures,
      c.if-same_bytes-2.false,
      ← c.same_bytes-3.ensures,
      c.if-same_bytes-3.false,
      ← c.same_bytes-4.ensures,
      c.if-same_bytes-4.false,
      ← c.same_bytes-5.ensures,
      c.if-same_bytes-5.false,
      ← c.same_bytes-6.ensures,
      c.if-same_bytes-6.false,
      ← c.same_bytes-7.ensures,
      c.if-same_bytes-7.true,
      c.ask_strict.ensures,
    )

pub returns : goal.returns
unfolding ascii ask_of
returns c =
    rw (
      ← c.word-what.ensures,
      ← c.same_bytes.ensures,
      c.if-same_bytes.false,
      ← c.same_bytes-2.ensures,
      c.if-same_bytes-2.false,
      ← c.same_bytes-3.ensures,
      c.if-same_bytes-3.false,
      ← c.same_bytes-4.ensures,
      c.if-same_bytes-4.false,
      ← c.same_bytes-5.ensures,
      c.if-same_bytes-5.false,
      ← c.same_bytes-6.ensures,
      c.if-same_bytes-6.false,
      ← c.same_bytes-7.ensures,
      c.if-same_bytes-7.false,
    )
