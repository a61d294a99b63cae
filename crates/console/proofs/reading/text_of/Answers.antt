use Rattle.console.proofs.Tellings.{text_told}
use Rattle.console.proofs.reading.text_of.Goals as goal

pub returns : goal.returns
returns c = text_told _ _ _ _ c.in_ok-v.was c.at_most-n.ensures.0 c.text_bytes.ensures
