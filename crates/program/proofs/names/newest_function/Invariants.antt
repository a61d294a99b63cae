-- `program::names::newest_function` meets its contract.
use Rattle.laws_programs.proofs.Searching.{Newest}
use Rattle.program.proofs.names.newest_function.Given as goal

abbrev pub invariant-loop-i : goal.invariant-loop-i
invariant-loop-i l = Newest l.n l.name l.functions l.text l.i
