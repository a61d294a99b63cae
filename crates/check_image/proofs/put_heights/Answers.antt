-- `put_heights`: the words, and what stood behind them.
use mathlib.Core.List.{List, ◌++◌}
use mathlib.Core.Path.{sym, ap, ◌∙◌}
use Prim.Native.Nat.{ℕ}
use lib.ListN.{length, drop}
use Rattle.laws_images.proofs.Held.{written_front}
use Rattle.check_image.proofs.put_heights.Goals as goal

pub returns : goal.returns
returns c =
    ap (λ (l : List ℕ). l ++ drop (length c.args.greatest.now) c.args.heights.now) c.copy_from_slice.ensures.after
    ∙ sym (written_front c.args.heights.now c.args.greatest.now c.requires)
