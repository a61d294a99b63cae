use Rattle.console_damage.specs.Sums.{sum_of}
use Rattle.console.proofs.commands.sum.Goals as goal

pub returns : goal.returns
unfolding sum_of
returns c =
    rw (
      c.mixed_words.ensures,
      c.mixed_words-o.ensures,
      c.mixed_words-n.ensures,
      c.mixed_words-k.ensures,
      c.mixed_words-j.ensures,
      c.mixed_places-i.ensures,
      c.mixed_bytes-h.ensures,
      c.mixed_places-g.ensures,
      c.mixed_bytes-f.ensures,
      c.mixed_bytes-e.ensures,
      c.mixed_words-d.ensures,
      c.mixed_words-c.ensures,
      c.mixed_words-b.ensures,
      c.mixed_counts-a.ensures,
    )
