-- `streams::answer` meets its contract.
use borrow.Author.Rules.{rules}
use mathlib.Core.Path.{refl, sym}
use lib.Seq.{length-take-le}
use Rattle.streams.proofs.Told.{read_answered, failed_answered}
use Rattle.streams.proofs.answer.Goals as goal

pub returns-in_default : goal.returns-in_default
returns-in_default g c = search (rules, failed_answered)

pub slice_bounds-write_output-end : goal.slice_bounds-write_output-end
slice_bounds-write_output-end g c =
    c.requires.fits _ _ _ _ c.say-len.auto.arg3
    (record { shown = _; shows = refl; store = _; holds = refl; left = _; met = c.say-len.ensures; leaves = refl })

pub slice_bounds-write_output-end-2 : goal.slice_bounds-write_output-end-2
slice_bounds-write_output-end-2 g c =
    sym
    (length-take-le _ _
    (c.requires.fits _ _ _ _ c.say-len.auto.arg3
    (record { shown = _; shows = refl; store = _; holds = refl; left = _; met = c.say-len.ensures; leaves = refl })))

pub returns : goal.returns
returns g c =
    read_answered _ _ _ _ _ _ c.in-Some.is
    (_, record { shown = _; shows = refl; store = _; holds = refl; left = _; met = c.say-len.ensures; leaves = refl })
