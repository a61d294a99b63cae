-- Two entries are lent no store of the whole program, and write out what they judge: it is what the table of good order says of them.
use mathlib.Core.Path.{◌≡◌, refl}
use mathlib.Core.Bool.{◌&&◌}
use Rattle.model.specs.declared.Counts.{Counts}
use Rattle.model.specs.Stores.{Stores}
use Rattle.model.specs.Orders.{counts_ok, functions_ok, judged_by, tells_offset, ends_function}

pub offset_judges_its_row : (c : Counts) (s : Stores) → counts_ok c && functions_ok c s.functions ≡ judged_by tells_offset c s
offset_judges_its_row c s = refl

pub end_judges_its_row : (c : Counts) (s : Stores) → counts_ok c ≡ judged_by ends_function c s
end_judges_its_row c s = refl
