use Rattle.console_script.specs.Words.{blank}
use Rattle.console_emission.specs.Emits.{said_bytes, name_read, name_asked}
use Rattle.console_emission.proofs.emit_name.Goals as goal

pub returns-in_err-size : goal.returns-in_err-size
unfolding blank said_bytes name_read name_asked
returns-in_err-size c =
    rw (
      c.from_residual.ensures,
      ← c.words_from.ensures,
      ← c.in_err-size.ensures,
    )

pub returns : goal.returns
unfolding blank said_bytes name_read name_asked
returns c =
    rw (
      ← c.words_from.ensures,
      ← c.in_ok-size.ensures,
      ← c.front.ensures,
      ← c.word.ensures,
    ) c.named.ensures
