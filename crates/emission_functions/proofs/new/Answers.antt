-- `emission_functions::new` meets its contract.
use mathlib.Core.Path.{refl}
use native.Mathlib.Omega.{arith}
use Rattle.laws_programs.proofs.Entered.{new_fits, new_done, new_refused}
use Rattle.emission_functions.proofs.new.Goals as goal

pub put_bytes-requires : goal.put_bytes-requires
put_bytes-requires c =
    let h =
    new_fits c.args.functions.now c.args.text.now _ _ (c.room.ensures _ refl)
    (c.room-2.ensures _ refl) c.if-not-fits.false in
    omega arith

pub put_words-requires : goal.put_words-requires
put_words-requires c =
    let h =
    new_fits c.args.functions.now c.args.text.now _ _ (c.room.ensures _ refl)
    (c.room-2.ensures _ refl) c.if-not-fits.false in
    omega arith

pub returns : goal.returns
returns c =
    λ rest. new_done _ _ _ _ (c.room.ensures _ refl) (c.room-2.ensures _ refl) rest c.if-not-fits.false _ _ _
    c.put_bytes.ensures c.pack.ensures c.put_words.ensures

pub returns-then-not-fits : goal.returns-then-not-fits
returns-then-not-fits c = λ rest. new_refused _ _ _ _ (c.room.ensures _ refl) (c.room-2.ensures _ refl) rest c.if-not-fits.true
