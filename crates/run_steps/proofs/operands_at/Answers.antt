-- `run_steps::operands_at` meets its contract: two bytes are a word, there or past the code.
use mathlib.Core.Path.{refl}
use native.Mathlib.Omega.{arith}
use Rattle.run_steps.proofs.Dispatch.{word_is}
use Rattle.run_steps.proofs.operands_at.Goals as goal

pub returns-then-i-code : goal.returns-then-i-code
returns-then-i-code c = (
  (
    word_is _ _ (omega arith) refl refl c.word-a.ensures.0,
    word_is _ _ (omega arith) refl refl c.word-b.ensures.0,
  ),
  (c.word-a.ensures.1, c.word-b.ensures.1),
)

pub returns : goal.returns
returns c = (
  (
    word_is _ _ (omega arith) c.byte_at.ensures
        c.byte_at-2.ensures c.word-a-2.ensures.0,
    word_is _ _ (omega arith) c.byte_at-3.ensures c.byte_at-4.ensures c.word-b-2.ensures.0,
  ),
  (c.word-a-2.ensures.1, c.word-b-2.ensures.1),
)
