-- THE STEP: from a state in good order the rules' step and a turn of the Rust's loop do the same.
use Rattle.std.specs.Prelude.{if◌then◌else◌}
use mathlib.Core.Path.{◌≡◌, refl}
use mathlib.Core.Bool.{Bool, true, false, not, ◌&&◌, ◌||◌}
use mathlib.Core.List.{List, [], ◌∷◌}
use Prim.Native.Nat.{ℕ, zero, suc, ◌+◌, ◌≤◌, ◌<◌}
use borrow.Author.Tests.{leb-false}
use lib.Dec.{eqb, ltb}
use lib.ListN.{length, get_or}
use Rattle.model.specs.declared.Arith.TheVariants as a
use Rattle.model.specs.declared.Order.TheVariants as c
use Rattle.model.specs.declared.Op.{Op}
use Rattle.model.specs.declared.Op.TheVariants as o
use Rattle.model.specs.declared.Names.{Names}
use Rattle.model.specs.declared.Names.TheVariants as n
use Rattle.model.specs.declared.Decoded.TheVariants as d
use Rattle.model.specs.Basics.{ascii}
use Rattle.model.specs.Opcodes.{Opcode, op, operands, opcodes, opcode_at}
use Rattle.model.specs.Programs.{opcode_in}
use Rattle.model.specs.Steps.{World, State, short, paid, at, position, code_of, exec_of, operands_then, decoded_then, fetched, step_of}
use Rattle.model.specs.Runs.{over}
use Rattle.laws_runs.specs.Sane.{SaneWorld, Sane}
use Rattle.laws_rust.specs.Vm as rust
use Rattle.laws_rust.specs.Same.{rust_of, rust_at, FaultsAs, Agrees}
use Rattle.laws_rust.proofs.Reading.{Orderly, sane_orderly, orderly_at, orderly_paid, byte_there, agrees_as, reads_none, reads_one, reads_two}
use Rattle.laws_rust.proofs.Arms as arms
use Rattle.laws_rust.proofs.Calls as calls
use Rattle.laws_rust.proofs.Builds as builds

-- ---- the opcodes

-- the Rust's name of each opcode, and what its operands name
abbrev arm_of : Op → rust.Op
arm_of o.LoadConstant = rust.LoadConstant
arm_of o.GetLocal = rust.GetLocal
arm_of o.GetUpvalue = rust.GetUpvalue
arm_of o.GetLastResult = rust.GetLastResult
arm_of o.Negate = rust.Negate
arm_of (o.Arithmetic a.Add) = rust.Add
arm_of (o.Arithmetic a.Subtract) = rust.Subtract
arm_of (o.Arithmetic a.Multiply) = rust.Multiply
arm_of (o.Arithmetic a.Divide) = rust.Divide
arm_of (o.Ordering c.LessThan) = rust.LessThan
arm_of (o.Ordering c.GreaterThan) = rust.GreaterThan
arm_of (o.Ordering c.LessOrEqual) = rust.LessOrEqual
arm_of (o.Ordering c.GreatorOrEqual) = rust.GreatorOrEqual
arm_of o.Equal = rust.Equal
arm_of o.NotEqual = rust.NotEqual
arm_of o.LogicalAnd = rust.LogicalAnd
arm_of o.LogicalOr = rust.LogicalOr
arm_of o.LogicalNeg = rust.LogicalNeg
arm_of o.JumpIfFalse = rust.JumpIfFalse
arm_of o.Jump = rust.Jump
arm_of o.Call = rust.Call
arm_of o.CallCallable = rust.CallCallable
arm_of o.BuildStructInstance = rust.BuildStructInstance
arm_of o.AccessStructField = rust.AccessStructField
arm_of o.BuildList = rust.BuildList
arm_of o.Return = rust.Return

abbrev names_of : Op → List Names
names_of o.LoadConstant = n.Constant ∷ []
names_of o.GetLocal = n.Slot ∷ []
names_of o.GetUpvalue = n.Slot ∷ []
names_of o.GetLastResult = []
names_of o.Negate = []
names_of (o.Arithmetic x) = []
names_of (o.Ordering x) = []
names_of o.Equal = []
names_of o.NotEqual = []
names_of o.LogicalAnd = []
names_of o.LogicalOr = []
names_of o.LogicalNeg = []
names_of o.JumpIfFalse = n.Offset ∷ []
names_of o.Jump = n.Offset ∷ []
names_of o.Call = n.Function ∷ n.Count ∷ []
names_of o.CallCallable = n.Count ∷ n.Nothing ∷ []
names_of o.BuildStructInstance = n.Struct ∷ n.Count ∷ []
names_of o.AccessStructField = n.Field ∷ []
names_of o.BuildList = n.Count ∷ []
names_of o.Return = []

-- a row of the rules' table beside a name of the Rust's
data Row : Opcode → rust.Op → Type 0 where
  carries : {name : List ℕ} {pops pushes : ℕ} (p : Op) → Row (record { name = name; names = names_of p; pops = pops; pushes = pushes; what = d.Carried p }) (arm_of p)
  leaves : {name : List ℕ} {names : List Names} {pops pushes : ℕ} → Row (record { name = name; names = names; pops = pops; pushes = pushes; what = d.NotCarried }) rust.Other

infixr 5 ◌then◌
data Rows : List Opcode → List rust.Op → Type 0 where
  end : Rows [] []
  ◌then◌ : {x : Opcode} {xs : List Opcode} {y : rust.Op} {ys : List rust.Op} → Row x y → Rows xs ys → Rows (x ∷ xs) (y ∷ ys)

-- in the order of `Op`, from number 0 on
rows : Rows opcodes rust.ops
unfolding ascii opcodes rust.ops
rows =
    carries o.LoadConstant then leaves then leaves then carries o.GetLocal then carries o.GetUpvalue then carries o.GetLastResult
    then carries o.Negate then leaves
    then carries (o.Arithmetic a.Add) then carries (o.Arithmetic a.Subtract) then carries (o.Arithmetic a.Multiply) then carries (o.Arithmetic a.Divide)
    then leaves then leaves
    then carries (o.Ordering c.LessThan) then carries (o.Ordering c.GreaterThan) then carries (o.Ordering c.LessOrEqual) then carries (o.Ordering c.GreatorOrEqual)
    then carries o.Equal then carries o.NotEqual then carries o.LogicalAnd then carries o.LogicalOr then carries o.LogicalNeg
    then leaves then leaves then leaves
    then carries o.JumpIfFalse then carries o.Jump then carries o.Call then leaves then leaves then carries o.CallCallable
    then leaves then leaves
    then carries o.BuildStructInstance then carries o.AccessStructField then carries o.BuildList then carries o.Return then end

module _ (w : World) (good : SaneWorld w) (few : length w.functions ≤ 65536) where
  -- ---- opcode by opcode: the reads, and the arm behind them

  module _ (s : State) (h : Orderly w s) (inside : position s ≤ length (code_of w s)) where
    does_the_same : (p : Op) → Agrees w (operands_then w p (length (names_of p)) s) (rust.arm (arm_of p) (rust_at w s))
    unfolding rust.arm rust.current_frame exec_of rust_of
    does_the_same o.LoadConstant = reads_one w s h inside o.LoadConstant _ (λ t k i j. arms.loads w t good i)
    does_the_same o.GetLocal = reads_one w s h inside o.GetLocal _ (λ t k i j. arms.gets w t (t.frame.base + i))
    does_the_same o.GetUpvalue = reads_one w s h inside o.GetUpvalue _ (λ t k i j. arms.gets w t i)
    does_the_same o.GetLastResult = reads_none w s h inside o.GetLastResult rust.GetLastResult (λ t k i j. arms.gets_last w t)
    does_the_same o.Negate = reads_none w s h inside o.Negate rust.Negate (λ t k i j. arms.negates w t)
    does_the_same (o.Arithmetic a.Add) = reads_none w s h inside (o.Arithmetic a.Add) rust.Add (λ t k i j. arms.adds w t)
    does_the_same (o.Arithmetic a.Subtract) = reads_none w s h inside (o.Arithmetic a.Subtract) rust.Subtract (λ t k i j. arms.subtracts w t)
    does_the_same (o.Arithmetic a.Multiply) = reads_none w s h inside (o.Arithmetic a.Multiply) rust.Multiply (λ t k i j. arms.multiplies w t)
    does_the_same (o.Arithmetic a.Divide) = reads_none w s h inside (o.Arithmetic a.Divide) rust.Divide (λ t k i j. arms.divides w t)
    does_the_same (o.Ordering c.LessThan) = reads_none w s h inside (o.Ordering c.LessThan) rust.LessThan (λ t k i j. arms.orders_less w t)
    does_the_same (o.Ordering c.GreaterThan) = reads_none w s h inside (o.Ordering c.GreaterThan) rust.GreaterThan (λ t k i j. arms.orders_greater w t)
    does_the_same (o.Ordering c.LessOrEqual) = reads_none w s h inside (o.Ordering c.LessOrEqual) rust.LessOrEqual (λ t k i j. arms.orders_less_equal w t)
    does_the_same (o.Ordering c.GreatorOrEqual) = reads_none w s h inside (o.Ordering c.GreatorOrEqual) rust.GreatorOrEqual (λ t k i j. arms.orders_greater_equal w t)
    does_the_same o.Equal = reads_none w s h inside o.Equal rust.Equal (λ t k i j. builds.compares w t k (λ x. x))
    does_the_same o.NotEqual = reads_none w s h inside o.NotEqual rust.NotEqual (λ t k i j. builds.compares w t k not)
    does_the_same o.LogicalAnd = reads_none w s h inside o.LogicalAnd rust.LogicalAnd (λ t k i j. arms.joins w t ◌&&◌)
    does_the_same o.LogicalOr = reads_none w s h inside o.LogicalOr rust.LogicalOr (λ t k i j. arms.joins w t ◌||◌)
    does_the_same o.LogicalNeg = reads_none w s h inside o.LogicalNeg rust.LogicalNeg (λ t k i j. arms.inverts w t)
    does_the_same o.JumpIfFalse = reads_one w s h inside o.JumpIfFalse _ (λ t k i j. arms.jumps_if w t i)
    does_the_same o.Jump = reads_one w s h inside o.Jump _ (λ t k i j. arms.jumps w t i)
    does_the_same o.Call = reads_two w s h inside o.Call (λ i. true) _ (λ i j vm. rust.push_frame i j vm) (λ i t. refl) (λ t k i j. calls.calls w t i j)
    does_the_same o.CallCallable = reads_two w s h inside o.CallCallable (λ i. true) _ _ (λ i t. refl) (λ t k i j. calls.calls_named w t i few)
    does_the_same o.BuildStructInstance =
        reads_two w s h inside o.BuildStructInstance (λ i. ltb i w.structs) _ _ (λ i t. refl) (λ t k i j. builds.builds_known_struct w t k i j)
    does_the_same o.AccessStructField = reads_one w s h inside o.AccessStructField _ (λ t k i j. builds.reads_field w t k i)
    does_the_same o.BuildList = reads_one w s h inside o.BuildList _ (λ t k i j. builds.builds_list w t k i)
    does_the_same o.Return = reads_none w s h inside o.Return rust.Return (λ t k i j. calls.returns w t)

    row_same : {x : Opcode} {y : rust.Op} → Row x y → Agrees w (decoded_then w x.what (operands x) s) (rust.arm y (rust_at w s))
    unfolding operands decoded_then Agrees FaultsAs rust.arm
    row_same (carries p) = does_the_same p
    row_same leaves = refl

    -- the byte as an opcode; one that is none is no `Op`
    decodes_the_same : {xs : List Opcode} {ys : List rust.Op} → Rows xs ys → (byte : ℕ)
        → (let x = get_or xs byte (op "" [] 0 0 d.Unknown) in Agrees w (decoded_then w x.what (operands x) s) (rust.transmute ys byte (λ y. rust.arm y (rust_at w s))))
    unfolding ascii operands decoded_then rust.transmute Agrees FaultsAs
    decodes_the_same end byte = refl
    decodes_the_same (r then rs) zero = row_same r
    decodes_the_same (r then rs) (suc byte) = decodes_the_same rs byte

-- THE THEOREM: a step of the rules does what a turn of the Rust's loop does; of limits and units the Rust knows nothing, and it has no strict machine
pub step_same : (w : World) → SaneWorld w → length w.functions ≤ 65536 → (s : State) → Sane w s → over w s ≡ false
    → Agrees w (step_of w s) (rust.turn (rust_at w s))
unfolding step_of over fetched opcode_at code_of rust.turn Agrees FaultsAs
step_same w good few s sane o = on (eqb s.units 0)
  where
    on : (b : Bool) → Agrees w (if b then short else fetched w (opcode_in (code_of w s) (position s)) s) (rust.turn (rust_at w s))
    on true = tt
    on false =
        let l : position s < length (code_of w s) = leb-false _ _ o in
        let t = at (suc (position s)) (paid 1 s) in
        let h : Orderly w t = orderly_at (suc (position s)) (orderly_paid 1 (sane_orderly sane)) in
        agrees_as w (fetched w (opcode_in (code_of w s) (position s)) s) (byte_there w s sane.frame.known _ l)
        (decodes_the_same w good few t h l rows (get_or (code_of w s) (position s) 0))
