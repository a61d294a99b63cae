-- `streams::show` meets its contract.
use Rattle.streams.proofs.show.Goals as goal

pub returns-clause-shown : goal.returns-clause-shown
returns-clause-shown g c = record { input = _; read = c.read_input-input.ensures; answered = c.answer.ensures }

pub returns-clause-answered : goal.returns-clause-answered
returns-clause-answered g c = c.answer.ensures
