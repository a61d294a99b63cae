-- [arithmetic] One binary64 operation, rounded once.
use Rattle.std.specs.Prelude.{Bool, true, false, not, ◌&&◌, Float, pos}
use Rattle.std.specs.Float.Ieee as Ieee
use Rattle.std.specs.Float.{binary64, nan, inf, fin}
use Rattle.model.specs.declared.Arith.{Arith}
use Rattle.model.specs.declared.Arith.TheVariants as a
use Rattle.model.specs.declared.Order.{Order}
use Rattle.model.specs.declared.Order.TheVariants as c

unfoldable pub arith_of : Arith → Float → Float → Float
arith_of a.Add x y = Ieee.add binary64 x y
arith_of a.Subtract x y = Ieee.sub binary64 x y
arith_of a.Multiply x y = Ieee.mul binary64 x y
arith_of a.Divide x y = Ieee.div binary64 x y

-- neither infinite nor a NaN
unfoldable pub finite : Float → Bool
finite nan = false
finite (inf negative) = false
finite (fin negative m e) = true

-- [strict] "Arithmetic should also say whether finite operands gave a result that is not finite"
pub record Result : Type 0 where
  pub value : Float
  pub escaped : Bool

unfoldable pub result_of : Arith → Float → Float → Result
result_of a x y = record { value = arith_of a x y; escaped = finite x && finite y && not (finite (arith_of a x y)) }

-- [zero] dividing by either zero is a fault
unfoldable pub zero_divisor : Arith → Float → Bool
zero_divisor a.Add y = false
zero_divisor a.Subtract y = false
zero_divisor a.Multiply y = false
zero_divisor a.Divide y = Ieee.eq y (fin false 0 (pos 0))

-- [orderings] a NaN makes all four false
unfoldable pub order_of : Order → Float → Float → Bool
order_of c.LessThan x y = Ieee.lt x y
order_of c.GreaterThan x y = Ieee.lt y x
order_of c.LessOrEqual x y = Ieee.le x y
order_of c.GreatorOrEqual x y = Ieee.le y x

-- all that an example computes with here
unfoldable pub computes : Type 1
unfolding arith_of finite result_of zero_divisor order_of
computes = Type 0
