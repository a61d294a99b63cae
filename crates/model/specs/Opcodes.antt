-- The opcodes.
use Rattle.std.specs.Prelude.{List, [], ◌∷◌, ℕ, ◌+◌, length, get_or}
use Prim.Native.String.{String}
use Rattle.model.specs.declared.Arith.TheVariants as a
use Rattle.model.specs.declared.Order.TheVariants as c
use Rattle.model.specs.declared.Op.TheVariants as o
use Rattle.model.specs.declared.Names.{Names}
use Rattle.model.specs.declared.Names.TheVariants as n
use Rattle.model.specs.declared.Decoded.{Decoded}
use Rattle.model.specs.declared.Decoded.TheVariants.{Carried, NotCarried, Unknown}
use Rattle.model.specs.Basics.{ascii}

-- an opcode: its `to_string` name, what each of its operands names, how many values it pops beside those that an operand counts, how many it
-- pushes, and what it is. A call pushes the value that it comes back with.
pub record Opcode : Type 0 where
  pub name : List ℕ
  pub names : List Names
  pub pops : ℕ
  pub pushes : ℕ
  pub what : Decoded

abbrev pub op : String → List Names → (pops pushes : ℕ) → Decoded → Opcode
unfolding ascii
op t ns k l w = record { name = ascii t; names = ns; pops = k; pushes = l; what = w }

-- how many operands follow it
unfoldable pub operands : Opcode → ℕ
operands c = length c.names

-- what its first and its second operand name
abbrev pub first_names : Opcode → Names
first_names c = get_or c.names 0 n.Nothing

abbrev pub second_names : Opcode → Names
second_names c = get_or c.names 1 n.Nothing

-- an operand x as a count of values
unfoldable pub as_count : Names → (x : ℕ) → ℕ
as_count n.Constant x = 0
as_count n.Slot x = 0
as_count n.Function x = 0
as_count n.Struct x = 0
as_count n.Field x = 0
as_count n.Count x = x
as_count n.Offset x = 0
as_count n.Nothing x = 0

-- all that an instruction with the operands a and b pops
unfoldable pub popped : Opcode → (a b : ℕ) → ℕ
popped c a b = c.pops + as_count (first_names c) a + as_count (second_names c) b

-- [opcodes] in the order of `Op`, from number 0 on
unfoldable pub opcodes : List Opcode
opcodes =
    op "LoadConstant" (n.Constant ∷ []) 0 1 (Carried o.LoadConstant)
    ∷ op "ApplyPrefix" (n.Nothing ∷ []) 0 0 NotCarried
    ∷ op "SetUnitConstant" (n.Nothing ∷ n.Nothing ∷ []) 0 0 NotCarried
    ∷ op "GetLocal" (n.Slot ∷ []) 0 1 (Carried o.GetLocal)
    ∷ op "GetUpvalue" (n.Slot ∷ []) 0 1 (Carried o.GetUpvalue)
    ∷ op "GetLastResult" [] 0 1 (Carried o.GetLastResult)
    ∷ op "Negate" [] 1 1 (Carried o.Negate)
    ∷ op "Factorial" (n.Nothing ∷ []) 0 0 NotCarried
    ∷ op "Add" [] 2 1 (Carried (o.Arithmetic a.Add))
    ∷ op "Subtract" [] 2 1 (Carried (o.Arithmetic a.Subtract))
    ∷ op "Multiply" [] 2 1 (Carried (o.Arithmetic a.Multiply))
    ∷ op "Divide" [] 2 1 (Carried (o.Arithmetic a.Divide))
    ∷ op "Power" [] 0 0 NotCarried
    ∷ op "ConvertTo" [] 0 0 NotCarried
    ∷ op "LessThan" [] 2 1 (Carried (o.Ordering c.LessThan))
    ∷ op "GreaterThan" [] 2 1 (Carried (o.Ordering c.GreaterThan))
    ∷ op "LessOrEqual" [] 2 1 (Carried (o.Ordering c.LessOrEqual))
    ∷ op "GreatorOrEqual" [] 2 1 (Carried (o.Ordering c.GreatorOrEqual))
    ∷ op "Equal" [] 2 1 (Carried o.Equal)
    ∷ op "NotEqual" [] 2 1 (Carried o.NotEqual)
    ∷ op "LogicalAnd" [] 2 1 (Carried o.LogicalAnd)
    ∷ op "LogicalOr" [] 2 1 (Carried o.LogicalOr)
    ∷ op "LogicalNeg" [] 1 1 (Carried o.LogicalNeg)
    ∷ op "AddDateTime" [] 0 0 NotCarried
    ∷ op "SubDateTime" [] 0 0 NotCarried
    ∷ op "DiffDateTime" [] 0 0 NotCarried
    ∷ op "JumpIfFalse" (n.Offset ∷ []) 1 0 (Carried o.JumpIfFalse)
    ∷ op "Jump" (n.Offset ∷ []) 0 0 (Carried o.Jump)
    ∷ op "Call" (n.Function ∷ n.Count ∷ []) 0 1 (Carried o.Call)
    ∷ op "FFICallFunction" (n.Nothing ∷ n.Nothing ∷ n.Nothing ∷ []) 0 0 NotCarried
    ∷ op "FFICallProcedure" (n.Nothing ∷ n.Nothing ∷ n.Nothing ∷ []) 0 0 NotCarried
    ∷ op "CallCallable" (n.Count ∷ n.Nothing ∷ []) 1 1 (Carried o.CallCallable)
    ∷ op "PrintString" (n.Nothing ∷ []) 0 0 NotCarried
    ∷ op "JoinString" (n.Nothing ∷ []) 0 0 NotCarried
    ∷ op "BuildStructInstance" (n.Struct ∷ n.Count ∷ []) 0 1 (Carried o.BuildStructInstance)
    ∷ op "AccessStructField" (n.Field ∷ []) 1 1 (Carried o.AccessStructField)
    ∷ op "BuildList" (n.Count ∷ []) 0 1 (Carried o.BuildList)
    ∷ op "Return" [] 1 0 (Carried o.Return)
    ∷ []

-- the opcode of a byte; 38 and above are unknown
unfoldable pub opcode_at : ℕ → Opcode
opcode_at b = get_or opcodes b (op "" [] 0 0 Unknown)

-- all that an example computes with here
unfoldable pub computes : Type 1
unfolding operands as_count popped opcodes opcode_at
computes = Type 0
