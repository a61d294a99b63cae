-- `trace_program`: the six checks.
use mathlib.Core.Path.{refl}
use Rattle.machine.proofs.Tracings.{program_judged}
use Rattle.machine.proofs.tracing.trace_program.Goals as goal

pub returns : goal.returns
returns c =
    λ structs constants. program_judged c.args.m structs constants _ _ _ _ _ _ c.counts_ok.ensures
    c.text_ok.ensures c.functions_ok.ensures c.main_ok.ensures
    (c.inside_codes.ensures _ _ refl refl) (c.inside_codes-2.ensures _ _ refl refl)
