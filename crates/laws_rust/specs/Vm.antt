-- [rust] numbat's vm.rs (source document 000), its carried part, arm by arm, in its order and names (a hyphen for an underscore). The numbers beside
-- are lines of vm.rs. It knows no limits, units, cells or numbers of document 01, and no strict machine. A `Quantity` is an f64; overflow checks are on.
-- Decided differences: the sign of a zero that Add or Subtract gives, and a list compared with itself (docs/DIFFERENCES.md, 1 and 2).
use Rattle.std.specs.Prelude.{Bool, true, false, not, ◌&&◌, ◌||◌, List, [], ◌∷◌, reverse, ℕ, zero, suc, ◌+◌, ◌-◌, ◌*◌, eqb, ltb, leb, length, Float, pos, if◌then◌else◌}
use Rattle.std.specs.Bool.{beq}
use Rattle.std.proofs.Math.Option.{Option, none, some, map}
use Rattle.std.specs.Float.Ieee as f64
use Rattle.std.specs.Float.{binary64, fin}
use Rattle.std.specs.Float.Ieee.{is_nan}
use Rattle.model.specs.Trees.{Tree, Trees, scalar, boolean, string, reference, list, struct, none as end, more}

-- value.rs 35: `Value`, the kinds that the carried arms make. A struct's info is its number, since no two have one name
abbrev pub Value : Type 0
Value = Tree

-- 251: `CallFrame`
pub record CallFrame : Type 0 where
  pub function_idx_lem : ℕ
  pub ip : ℕ
  pub fp : ℕ

-- 300: an element of `bytecode`, without its spans
pub record Chunk : Type 0 where
  pub name : List ℕ
  pub code : List ℕ

-- 297: `Vm`. Of `frames` and `stack`, which are `Vec`s, the last pushed stands first. `struct_infos` is how many there are
pub record Vm : Type 0 where
  pub bytecode : List Chunk
  pub constants : List Value
  pub struct_infos : ℕ
  pub last_result_lem : Option Value
  pub frames : List CallFrame
  pub stack : List Value

abbrev pub vm_with_lem : Vm → Option Value → List CallFrame → List Value → Vm
vm_with_lem vm r fs vs = record { bytecode = vm.bytecode; constants = vm.constants; struct_infos = vm.struct_infos; last_result_lem = r; frames = fs; stack = vs }

abbrev pub with_frames_lem : List CallFrame → Vm → Vm
with_frames_lem fs vm = vm_with_lem vm vm.last_result_lem fs vm.stack

abbrev pub with_stack_lem : List Value → Vm → Vm
with_stack_lem vs vm = vm_with_lem vm vm.last_result_lem vm.frames vs

abbrev pub with_last_lem : Value → Vm → Vm
with_last_lem v vm = vm_with_lem vm (some v) vm.frames vm.stack

pub data Did : Type 0 where  -- what an arm does
  went : Vm → Did  -- it has run
  returned : Value → Vm → Did  -- it has run, and `result_last_statement` is this value
  division_by_zero : Vm → Did  -- `return Err(..)`: DivisionByZero, the one error of the carried arms
  panic : Did  -- `unwrap`, `expect`, an index out of range, a subtraction below zero
  cast : Did  -- 697: the `transmute` of a byte that is no `Op`
  not_carried : Did  -- an arm that is not carried

-- ---- 610 to 666: the helpers for execution. `k` is what comes next
unfoldable pub index : {A : Type 0} → List A → ℕ → (A → Did) → Did  -- `s[i]`
index [] i k = panic
index (x ∷ xs) zero k = k x
index (x ∷ xs) (suc i) k = index xs i k

unfoldable pub stack_at : Vm → ℕ → (Value → Did) → Did  -- `self.stack[i]`: from the bottom
stack_at vm i k = index (reverse vm.stack) i k

unfoldable pub sub : ℕ → ℕ → (ℕ → Did) → Did  -- `a - b`
sub a b k = if ltb a b then panic else k (a - b)

unfoldable pub unwrap : {A : Type 0} → Option A → (A → Did) → Did
unwrap none k = panic
unwrap (some x) k = k x

unfoldable pub current_frame : List CallFrame → (CallFrame → List CallFrame → Did) → Did  -- 610
current_frame [] k = panic
current_frame (f ∷ fs) k = k f fs

unfoldable pub move_ip : ℕ → Vm → (Vm → Did) → Did  -- `self.current_frame_mut().ip += n`
move_ip n vm k =
    current_frame vm.frames (λ f fs. k (with_frames_lem (record { function_idx_lem = f.function_idx_lem; ip = f.ip + n; fp = f.fp } ∷ fs) vm))

unfoldable pub read_byte : Vm → (ℕ → Vm → Did) → Did  -- 618
read_byte vm k =
    current_frame vm.frames (λ f fs.
    index vm.bytecode f.function_idx_lem (λ chunk.
    index chunk.code f.ip (λ byte.
    move_ip 1 vm (λ vm'. k byte vm'))))

unfoldable pub read_u16 : Vm → (ℕ → Vm → Did) → Did  -- 625: low byte first
read_u16 vm k = read_byte vm (λ lo vm'. read_byte vm' (λ hi vm''. k (lo + 256 * hi) vm''))

unfoldable pub push : Vm → Value → Vm  -- 638
push vm v = with_stack_lem (v ∷ vm.stack) vm

unfoldable pub pop_from : List Value → Vm → (Value → Vm → Did) → Did  -- 664
pop_from [] vm k = panic
pop_from (v ∷ vs) vm k = k v (with_stack_lem vs vm)

unfoldable pub pop : Vm → (Value → Vm → Did) → Did
pop vm k = pop_from vm.stack vm k

-- `if let Value::KIND(x) = v { k(x) } else { e }`
abbrev pub by_kind : {A : Type 0} → Value → (Float → A) → (Bool → A) → (List ℕ → A) → (List ℕ → A) → (Trees → A) → (ℕ → Trees → A) → A
by_kind (scalar x) q b s r l i = q x
by_kind (boolean x) q b s r l i = b x
by_kind (string x) q b s r l i = s x
by_kind (reference x) q b s r l i = r x
by_kind (list vs) q b s r l i = l vs
by_kind (struct n vs) q b s r l i = i n vs

unfoldable pub if_quantity : {A : Type 0} → Value → (Float → A) → A → A
if_quantity v k e = by_kind v k (λ x. e) (λ x. e) (λ x. e) (λ vs. e) (λ n vs. e)

unfoldable pub if_boolean_lem : {A : Type 0} → Value → (Bool → A) → A → A
if_boolean_lem v k e = by_kind v (λ x. e) k (λ x. e) (λ x. e) (λ vs. e) (λ n vs. e)

unfoldable pub if_string_lem : {A : Type 0} → Value → (List ℕ → A) → A → A
if_string_lem v k e = by_kind v (λ x. e) (λ x. e) k (λ x. e) (λ vs. e) (λ n vs. e)

unfoldable pub if_function_reference : {A : Type 0} → Value → (List ℕ → A) → A → A
if_function_reference v k e = by_kind v (λ x. e) (λ x. e) (λ x. e) k (λ vs. e) (λ n vs. e)

unfoldable pub if_list_lem : {A : Type 0} → Value → (Trees → A) → A → A
if_list_lem v k e = by_kind v (λ x. e) (λ x. e) (λ x. e) (λ x. e) k (λ n vs. e)

unfoldable pub if_struct_instance : {A : Type 0} → Value → (ℕ → Trees → A) → A → A
if_struct_instance v k e = by_kind v (λ x. e) (λ x. e) (λ x. e) (λ x. e) (λ vs. e) k

unfoldable pub pop_quantity : Vm → (Float → Vm → Did) → Did  -- 643
pop_quantity vm k = pop vm (λ v vm'. if_quantity v (λ x. k x vm') panic)

unfoldable pub pop_bool : Vm → (Bool → Vm → Did) → Did  -- 651; value.rs 58
pop_bool vm k = pop vm (λ v vm'. if_boolean_lem v (λ x. k x vm') panic)

-- ---- value.rs 34: `==`, derived; list.rs 36
unfoldable pub eq_str : List ℕ → List ℕ → Bool
eq_str [] [] = true
eq_str [] (y ∷ ys) = false
eq_str (x ∷ xs) [] = false
eq_str (x ∷ xs) (y ∷ ys) = eqb x y && eq_str xs ys

unfoldable pub if_more : Trees → (Value → Trees → Bool) → Bool → Bool
if_more end k e = e
if_more (more v vs) k e = k v vs

unfoldable mutual
  pub eq : Value → Value → Bool
  eq (scalar x) u = if_quantity u (λ y. f64.eq x y) false
  eq (boolean x) u = if_boolean_lem u (λ y. beq x y) false
  eq (string x) u = if_string_lem u (λ y. eq_str x y) false
  eq (reference x) u = if_function_reference u (λ y. eq_str x y) false
  eq (list vs) u = if_list_lem u (λ us. eqs vs us) false
  eq (struct n vs) u = if_struct_instance u (λ m us. eqb n m && eqs vs us) false

  pub eqs : Trees → Trees → Bool
  eqs end us = if_more us (λ u rest. false) true
  eqs (more v vs) us = if_more us (λ u rest. eq v u && eqs vs rest) false

-- ---- 32: `Op`, in its order, from number 0 on; `Other` where the arm is not carried
pub data Op : Type 0 where
  LoadConstant GetLocal GetUpvalue GetLastResult Negate Add Subtract Multiply Divide LessThan GreaterThan LessOrEqual GreatorOrEqual : Op
  Equal NotEqual LogicalAnd LogicalOr LogicalNeg JumpIfFalse Jump Call CallCallable BuildStructInstance AccessStructField BuildList Return : Op
  Other : Op

unfoldable pub ops : List Op
ops =
    LoadConstant ∷ Other ∷ Other ∷ GetLocal ∷ GetUpvalue ∷ GetLastResult ∷ Negate ∷ Other ∷ Add ∷ Subtract ∷ Multiply ∷ Divide ∷ Other ∷ Other
    ∷ LessThan ∷ GreaterThan ∷ LessOrEqual ∷ GreatorOrEqual ∷ Equal ∷ NotEqual ∷ LogicalAnd ∷ LogicalOr ∷ LogicalNeg ∷ Other ∷ Other ∷ Other
    ∷ JumpIfFalse ∷ Jump ∷ Call ∷ Other ∷ Other ∷ CallCallable ∷ Other ∷ Other ∷ BuildStructInstance ∷ AccessStructField ∷ BuildList ∷ Return ∷ []

-- 697: the byte as an `Op`
unfoldable pub transmute : List Op → ℕ → (Op → Did) → Did
transmute [] byte k = cast
transmute (o ∷ os) zero k = k o
transmute (o ∷ os) (suc byte) k = transmute os byte k

-- ---- 499: `get_function_idx`, a search from the last on
unfoldable pub position : List ℕ → List Chunk → Option ℕ
position name [] = none
position name (c ∷ cs) = if eq_str c.name name then some 0 else map suc (position name cs)

unfoldable pub get_function_idx : Vm → List ℕ → (ℕ → Did) → Did
get_function_idx vm name k =
    unwrap (position name (reverse vm.bytecode)) (λ rev-position.
    sub (length vm.bytecode) 1 (λ last.
    sub last rev-position (λ position'.
    if leb position' 65535 then k position' else panic)))

-- ---- 699 to 1186: the arms, in the order of vm.rs
-- 755, 832: `let rhs = self.pop_quantity(); let lhs = self.pop_quantity();`
unfoldable pub two_quantities : Vm → (Float → Float → Vm → Did) → Did
two_quantities vm k = pop_quantity vm (λ rhs vm'. pop_quantity vm' (λ lhs vm''. k lhs rhs vm''))

unfoldable pub arithmetic : (Float → Float → Float) → Vm → Did
arithmetic op vm = two_quantities vm (λ lhs rhs vm'. went (push vm' (scalar (op lhs rhs))))

-- 761: `checked_div` answers `None` where `rhs` is zero
unfoldable pub checked_div : Vm → Did
checked_div vm =
    two_quantities vm (λ lhs rhs vm'.
    if f64.eq rhs (fin false 0 (pos 0)) then division_by_zero vm' else went (push vm' (scalar (f64.div binary64 lhs rhs))))

-- 835: `lhs.partial_cmp_preserve_nan(&rhs)`, and what each answer makes of the four: `less`, `equal`, `greater` say whether `matches!` has the opcode there
unfoldable pub ordering : (less equal greater : Bool) → Vm → Did
ordering less equal greater vm =
    two_quantities vm (λ lhs rhs vm'. went (push vm' (boolean (
    if is_nan lhs || is_nan rhs then false else
    (if f64.lt lhs rhs then less else
    (if f64.eq lhs rhs then equal else greater))))))

unfoldable pub comparison : (Bool → Bool) → Vm → Did  -- 858
comparison verdict vm = pop vm (λ rhs vm'. pop vm' (λ lhs vm''. went (push vm'' (boolean (verdict (eq lhs rhs))))))

unfoldable pub logic : (Bool → Bool → Bool) → Vm → Did  -- 869
logic op vm = pop_bool vm (λ rhs vm'. pop_bool vm' (λ lhs vm''. went (push vm'' (boolean (op lhs rhs)))))

-- 922, 992: `self.frames.push(CallFrame { function_idx, ip: 0, fp: self.stack.len() - num_args })`
unfoldable pub push_frame : ℕ → ℕ → Vm → Did
push_frame function_idx_lem num-args vm =
    sub (length vm.stack) num-args (λ fp. went (with_frames_lem (record { function_idx_lem = function_idx_lem; ip = 0; fp = fp } ∷ vm.frames) vm))

-- 1143: `while self.stack.len() > discarded_frame.fp { self.stack.pop(); }`
unfoldable pub truncate : ℕ → List Value → List Value
truncate fp [] = []
truncate fp (v ∷ vs) = if ltb fp (suc (length vs)) then truncate fp vs else v ∷ vs

unfoldable pub return : List CallFrame → Vm → Did  -- 1129
return [] vm = panic
return (f ∷ []) vm = pop vm (λ return-value vm'. returned return-value (with_last_lem return-value vm'))
return (discarded-frame ∷ f ∷ fs) vm =
    pop (with_frames_lem (f ∷ fs) vm) (λ return-value vm'. went (with_stack_lem (return-value ∷ truncate discarded-frame.fp vm'.stack) vm'))

-- 1162: `for _ in 0..num_args { content.push(self.pop()); }`
unfoldable pub push_each : ℕ → Vm → (Trees → Vm → Did) → Did
push_each zero vm k = k end vm
push_each (suc n) vm k = pop vm (λ v vm'. push_each n vm' (λ content vm''. k (more v content) vm''))

-- 1180: `for _ in 0..length { list.push_front(self.pop()); }`
unfoldable pub push_front_each : ℕ → Trees → Vm → (Trees → Vm → Did) → Did
push_front_each zero l vm k = k l vm
push_front_each (suc n) l vm k = pop vm (λ v vm'. push_front_each n (more v l) vm' k)

-- 1173: of `swap_remove` the element that it answers; the rest is dropped
unfoldable pub swap_remove : Trees → ℕ → (Value → Did) → Did
swap_remove end i k = panic
swap_remove (more v vs) zero k = k v
swap_remove (more v vs) (suc i) k = swap_remove vs i k

unfoldable pub arm : Op → Vm → Did
arm LoadConstant vm = read_u16 vm (λ constant-idx vm'. index vm'.constants constant-idx (λ c. went (push vm' c)))  -- 700
arm GetLocal vm = read_u16 vm (λ slot-idx vm'. current_frame vm'.frames (λ f fs. stack_at vm' (f.fp + slot-idx) (λ v. went (push vm' v))))  -- 737
arm GetUpvalue vm = read_u16 vm (λ stack-idx vm'. stack_at vm' stack-idx (λ v. went (push vm' v)))  -- 742
arm GetLastResult vm = unwrap vm.last_result_lem (λ v. went (push vm v))  -- 746
arm Add vm = arithmetic (f64.add binary64) vm  -- 758
arm Subtract vm = arithmetic (f64.sub binary64) vm  -- 759
arm Multiply vm = arithmetic (f64.mul binary64) vm  -- 760
arm Divide vm = checked_div vm  -- 761
arm LessThan vm = ordering true false false vm  -- 828
arm GreaterThan vm = ordering false false true vm  -- 828
arm LessOrEqual vm = ordering true true false vm  -- 828
arm GreatorOrEqual vm = ordering false true true vm  -- 828
arm Equal vm = comparison (λ same. same) vm  -- 863
arm NotEqual vm = comparison not vm  -- 864
arm LogicalAnd vm = logic ◌&&◌ vm  -- 874
arm LogicalOr vm = logic ◌||◌ vm  -- 875
arm LogicalNeg vm = pop_bool vm (λ rhs vm'. went (push vm' (boolean (not rhs))))  -- 880
arm Negate vm = pop_quantity vm (λ rhs vm'. went (push vm' (scalar (f64.neg rhs))))  -- 884
arm JumpIfFalse vm = read_u16 vm (λ offset vm'. pop_bool vm' (λ b vm''. if not b then move_ip offset vm'' went else went vm''))  -- 909
arm Jump vm = read_u16 vm (λ offset vm'. move_ip offset vm' went)  -- 915
arm Call vm = read_u16 vm (λ function_idx_lem vm'. read_u16 vm' (λ num-args vm''. push_frame function_idx_lem num-args vm''))  -- 919
arm CallCallable vm =  -- 982
    read_u16 vm (λ num-args vm'.
    read_u16 vm' (λ call-args-idx vm''.
    pop vm'' (λ callable vm'''.
    if_function_reference callable (λ name. get_function_idx vm''' name (λ function_idx_lem. push_frame function_idx_lem num-args vm''')) panic)))
arm Return vm = return vm.frames vm  -- 1129
arm BuildStructInstance vm =  -- 1151
    read_u16 vm (λ info-idx vm'.
    if ltb info-idx vm'.struct_infos
    then read_u16 vm' (λ num-args vm''. push_each num-args vm'' (λ content vm'''. went (push vm''' (struct info-idx content))))
    else panic)
arm AccessStructField vm =  -- 1168
    read_u16 vm (λ field-idx vm'. pop vm' (λ v vm''. if_struct_instance v (λ n fields. swap_remove fields field-idx (λ x. went (push vm'' x))) panic))
arm BuildList vm = read_u16 vm (λ length' vm'. push_front_each length' end vm' (λ l vm''. went (push vm'' (list l))))  -- 1176
arm Other vm = not_carried

-- 697 and what follows: one turn of the loop
unfoldable pub turn : Vm → Did
turn vm = read_byte vm (λ byte vm'. transmute ops byte (λ op. arm op vm'))

-- ---- 668 to 694, and 1187 to 1194: the loop, and `run`
-- 688: `ip` is at or past the code's length; `none` where the Rust panics, as there is no frame or no such function
unfoldable pub past : ℕ → ℕ → List Chunk → Option Bool
past i ip [] = none
past zero ip (c ∷ cs) = some (leb (length c.code) ip)
past (suc i) ip (c ∷ cs) = past i ip cs

unfoldable pub at_end_of : List CallFrame → List Chunk → Option Bool
at_end_of [] cs = none
at_end_of (f ∷ fs) cs = past f.function_idx_lem f.ip cs

unfoldable pub is_at_the_end : Vm → Option Bool
is_at_the_end vm = at_end_of vm.frames vm.bytecode

-- what `run_without_cleanup` and `run` come to: `Ok`, with the value of the last statement or `Continue`; `Err`; the three that are no end; and, of a loop
-- that is looked at for so many turns alone, that it goes on
pub data Result : Type 0 where
  ok : (result-last-statement : Option Value) → Vm → Result
  err : Vm → Result
  panics casts leaves goes_on_lem : Result

unfoldable pub behind : (loop : Option Value → Vm → Result) → Option Value → Did → Result  -- behind a turn
behind loop r (went vm) = loop r vm
behind loop r (returned v vm) = loop (some v) vm
behind loop r (division_by_zero vm) = err vm
behind loop r panic = panics
behind loop r cast = casts
behind loop r not_carried = leaves

-- 694: `while !self.is_at_the_end()`
unfoldable pub test : (loop : Option Value → Vm → Result) → Option Value → Vm → Option Bool → Result
test loop r vm none = panics
test loop r vm (some true) = ok r vm
test loop r vm (some false) = behind loop r (turn vm)

-- 692: `r` is `result_last_statement`
unfoldable pub run_without_cleanup : (turns : ℕ) → (r : Option Value) → Vm → Result
run_without_cleanup zero r vm = goes_on_lem
run_without_cleanup (suc turns) r vm = test (run_without_cleanup turns) r vm (is_at_the_end vm)

-- 677 to 683: after an error the stack is that of the start, and there is one frame, at the end of main, which is always there. The last result is not put back
unfoldable pub main_length : List Chunk → ℕ
main_length [] = 0
main_length (c ∷ cs) = length c.code

unfoldable pub cleaned : Vm → Vm → Vm
cleaned old vm = with_frames_lem (record { function_idx_lem = 0; ip = main_length vm.bytecode; fp = 0 } ∷ []) (with_stack_lem old.stack vm)

unfoldable pub clean_up : Vm → Result → Result
clean_up old (ok r vm) = ok r vm
clean_up old (err vm) = err (cleaned old vm)
clean_up old panics = panics
clean_up old casts = casts
clean_up old leaves = leaves
clean_up old goes_on_lem = goes_on_lem

unfoldable pub run : (turns : ℕ) → Vm → Result  -- 668
run turns vm = clean_up vm (run_without_cleanup turns none vm)
