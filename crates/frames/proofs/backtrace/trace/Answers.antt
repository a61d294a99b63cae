-- `frames::backtrace::trace` meets its contract.
use Rattle.std.proofs.Common.{arith, ◌∙◌, ◌≡◌, ◌+◌, ◌-◌, ◌*◌, refl}
use Rattle.frames.specs.Links.{callers_of, trace_words, written}
use Rattle.frames.proofs.Traces.{one_entry_more}
use Rattle.frames.proofs.backtrace.trace.Goals as goal

pub loop-i-init : goal.loop-i-init
unfolding trace_words written
loop-i-init c = let first : 3 * (c.args.callers - c.args.callers) + 3 ≡ 3 = omega arith in rw (first, c.put_entry.ensures) refl

pub loop-i-preserved : goal.loop-i-preserved
loop-i-preserved c =
    one_entry_more _ _ _ _ _ _ _ _ _ _ (omega arith) (omega arith) (omega arith) c.put_entry-in-loop-i.ensures ∙ c.loop-i.invariant

pub returns : goal.returns
unfolding callers_of trace_words written
returns c = let last : c.loop-i.i ≡ 0 = omega arith in rw last at c.loop-i.invariant
