-- `image_save::saving::put_constant` meets its contract.
use borrow.Author.Rules.{rules}
use native.Mathlib.Omega.{arith}
use Rattle.image_save.proofs.Putting.{kind_near, scalar_near, scalar_put, flag_near, flag_put, letters_near, letters_put}
use Rattle.image_save.proofs.saving.put_constant.Goals as goal

pub put_number-mid-requires : goal.put_number-mid-requires
put_number-mid-requires c = kind_near _ _ _ _ c.requires

pub put_word-requires : goal.put_word-requires
put_word-requires c = search (rules, scalar_near)

pub returns-then-kind-eq0 : goal.returns-then-kind-eq0
returns-then-kind-eq0 c = search (rules, scalar_put)

pub overflow_cast-flag : goal.overflow_cast-flag
overflow_cast-flag c =
    let z = c.requires.known.flag c.if-kind-eq1.true in
    omega arith

pub put_number-requires : goal.put_number-requires
put_number-requires c = search (rules, flag_near)

pub returns-then-kind-eq1 : goal.returns-then-kind-eq1
returns-then-kind-eq1 c = search (rules, flag_put)

pub put_text-requires : goal.put_text-requires
put_text-requires c = search (rules, letters_near)

pub returns : goal.returns
returns c = search (rules, letters_put)
