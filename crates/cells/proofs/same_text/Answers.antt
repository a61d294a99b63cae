-- `cells::same_text` meets its contract.
use Rattle.cells.proofs.Texts.{texts_same}
use Rattle.cells.proofs.same_text.Goals as goal

pub returns : goal.returns
returns c = texts_same _ _ _ _ _ c.same_bytes.ensures
