-- `write_decimal`: a last digit, or a digit behind those of a tenth.
use Rattle.std.proofs.Common.{arith, rules}
use Rattle.printing.proofs.Digits.{one_digit, falling, last_fits, more_digits}
use Rattle.printing.proofs.+write_decimal.Goals as goal

pub returns-then-n-like : goal.returns-then-n-like
returns-then-n-like t c = one_digit c.args.like c.args.n c.if-n-like.true c.put_byte.ensures

pub write_decimal-next-requires : goal.write_decimal-next-requires
write_decimal-next-requires t c =
    (omega (arith, falling c.args.like c.args.n (search rules) (search rules) c.if-n-like.false), search rules)

pub put_byte-requires-2 : goal.put_byte-requires-2
put_byte-requires-2 t c =
    omega (arith, last_fits c.args.like c.args.n (search rules) (search rules) c.if-n-like.false c.write_decimal-next.ensures)

pub returns : goal.returns
returns t c =
    more_digits c.args.like c.args.n (search rules) (search rules) c.if-n-like.false c.write_decimal-next.ensures c.put_byte-2.ensures
