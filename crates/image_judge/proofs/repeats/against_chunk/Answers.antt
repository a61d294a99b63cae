-- `image_judge::repeats::against_chunk` meets its contract.
use Rattle.image_judge.proofs.Repeating.{chunk_again, chunk_looked}
use Rattle.image_judge.proofs.repeats.against_chunk.Goals as goal

pub returns-then-t : goal.returns-then-t
returns-then-t c = chunk_again _ _ _ c.requires.0 _ _ _ c.take_in-t.ensures c.requires.1 c.if-t.true

pub returns : goal.returns
returns c = chunk_looked _ _ _ c.requires.0 _ _ _ c.take_in-t.ensures c.requires.1 _ c.look_in-repeat.ensures
