-- `frames::backtrace::trace`: with the entries of the callers below the place, what is written is the whole backtrace.
use Rattle.std.proofs.Common.{◌≡◌, ◌∷◌, ◌+◌, ◌-◌, ◌*◌}
use Rattle.frames.specs.Links.{callers_of, trace_words, written}
use Rattle.frames.proofs.backtrace.trace.Given as goal

abbrev pub invariant-loop-i : goal.invariant-loop-i
invariant-loop-i l =
    written l.out (3 * (l.callers - l.i) + 3) (trace_words l.functions l.main_places l.other_places (callers_of l.i l.frames)) ≡ written l.fn.out 0 (trace_words l.functions l.main_places l.other_places (l.fn.inner ∷ callers_of l.callers l.frames))
