-- `records::came`: by how many bytes came.
use borrow.Author.Tests.{le-leb, lt-leb, le-ltb, lt-ltb}
use native.Mathlib.Omega.{arith}
use Rattle.records.specs.Reading.{came_of}
use Rattle.records.proofs.came.Goals as goal

pub returns-then-had-eq0 : goal.returns-then-had-eq0
unfolding came_of
returns-then-had-eq0 c = rw (le-leb c.args.had 0 (omega arith))

pub returns-then-had-n : goal.returns-then-had-n
unfolding came_of
returns-then-had-n c = rw (lt-leb c.args.had 0 (omega arith), lt-ltb c.args.had c.args.n (omega arith))

pub returns : goal.returns
unfolding came_of
returns c = rw (lt-leb c.args.had 0 (omega arith), le-ltb c.args.had c.args.n (omega arith))
