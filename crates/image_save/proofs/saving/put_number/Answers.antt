-- `image_save::saving::put_number` meets its contract.
use mathlib.Core.Path.{refl}
use native.Mathlib.Omega.{arith}
use Rattle.image_save.proofs.Putting.{digits_most, number_inside, number_length, number_near, number_put}
use Rattle.image_save.proofs.saving.put_number.Goals as goal

pub write_number-len-requires : goal.write_number-len-requires
write_number-len-requires c = omega (arith, digits_most c.args.n)

pub slice_bounds-bytes-end : goal.slice_bounds-bytes-end
slice_bounds-bytes-end c = number_inside _ refl c.write_number-len.ensures

pub slice_bounds-put_part-end : goal.slice_bounds-put_part-end
slice_bounds-put_part-end c = number_length _ refl c.write_number-len.ensures

pub put_part-requires : goal.put_part-requires
put_part-requires c = number_near _ refl c.write_number-len.ensures _ c.requires

pub returns : goal.returns
returns c =
    number_put _ refl c.write_number-len.ensures
    c.put_part.ensures
