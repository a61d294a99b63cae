-- What an entry itself answers, as its judges know it: 19 where the order is not good, 25 where a run is under way, and no such number else.
use Rattle.std.specs.Prelude.{if◌then◌else◌, Err, Ok}
use mathlib.Core.Path.{◌≡◌, refl}
use mathlib.Core.Bool.{Bool, true, false}
use mathlib.Core.List.{List}
use mathlib.Core.Option.{Option, none, some}
use Prim.Native.Nat.{ℕ, ◌+◌}
use lib.Dec.{leb, ltb}
use lib.ListN.{length}
use Rattle.model.specs.declared.Constant.{Constant}
use Rattle.model.specs.declared.Constant.TheVariants as k
use Rattle.model.specs.declared.Counts.{Counts}
use Rattle.model.specs.Answers.{answer_number}
use Rattle.model.specs.Values.{places}
use Rattle.model.specs.Stores.{Stores}
use Rattle.model.specs.Programs.{code_limit, constant_limit, name_limit, first_from}
use Rattle.model.specs.Orders.{counts_ok}
use Rattle.model.specs.Emission.{Res, refuse, size_here, end_here, code_room, text_room, appended, code_order, emit_in, emit_of, add_op_of, add_op1_of, add_op2_of, add_op3_of}
use Rattle.model.specs.Emission.{patch_order, patched, patch_of, constant_order, with_constant, with_text_constant, constant_added, add_constant_of}
use Rattle.model.specs.Emission.{struct_order, struct_names, struct_added, struct_found, add_struct_of, function_order, begun, begin_function_of, end_function_of}
use Rattle.embed_words.specs.Coding.{at_entry, among, crossed}
use Rattle.model.specs.declared.Refusal.TheVariants as why

-- what was judged of an entry crosses as the number n that the entry itself answers
pub record Says (own n : ℕ) : Type 0 where
  pub crosses : (why : ℕ) → crossed at_entry why own ≡ crossed at_entry why n

-- a number that gives way to a short answer is no better known than that it is none of those that come first
pub late_says : (n : ℕ) → among at_entry n ≡ false → Says 0 n
unfolding crossed among
late_says n e = record { crosses = λ why. rw e }

pub says_itself : (n : ℕ) → Says n n
says_itself n = record { crosses = λ why. refl }

-- ---- emission

-- 19 where the judge says no, 25 where a run is under way
abbrev pub emission_own : (good running : Bool) → ℕ
emission_own good running = if good then (if running then 25 else 0) else 19

-- neither 19 nor 25
abbrev Late : Res → Type 0
Late r = among at_entry (answer_number r.answer) ≡ false

if_late : (b : Bool) (x y : Res) → Late x → Late y → Late (if b then x else y)
if_late true x y p q = p
if_late false x y p q = q

-- an entry whose order is judged first
judged_first : (g running : Bool) (x : Res) (s : Stores) → Late x
    → Says (emission_own g running) (answer_number (if g then (if running then refuse why.RunUnderWay s else x) else refuse why.NotInOrder s).answer)
judged_first true true x s p = says_itself 25
judged_first true false x s p = late_says (answer_number x.answer) p
judged_first false running x s p = says_itself 19

module _ (c : Counts) (s : Stores) where
  emit_late : (op : ℕ) (bytes : List ℕ) (place : ℕ) → Late (emit_in c op bytes place s)
  unfolding emit_in appended among
  emit_late op bytes place =
      if_late (ltb code_limit (size_here c s + length bytes)) _ _ refl
      (if_late (ltb (code_room c s) (end_here c s + length bytes)) _ _ refl (if_late (leb 38 op) _ _ refl refl))

  text_late : (kind : ℕ) (lent : List ℕ) → Late (with_text_constant c kind lent s)
  unfolding with_text_constant among
  text_late kind lent = if_late (text_room c s (length lent)) _ _ refl refl

  constant_late : (x : Constant) (lent : List ℕ) → Late (constant_added c x lent s)
  unfolding constant_added with_constant among
  constant_late (k.Scalar w) lent = refl
  constant_late (k.Boolean b) lent = refl
  constant_late k.String lent = text_late 2 lent
  constant_late k.FunctionReference lent = text_late 3 lent

  struct_late : (name : List ℕ) (found : Option ℕ) → Late (struct_found c name s found)
  unfolding struct_found struct_added among
  struct_late name (some i) = refl
  struct_late name none =
      if_late (leb name_limit c.structs) _ _ refl
      (if_late (leb (places 2 s.structs) c.structs) _ _ refl (if_late (text_room c s (length name)) _ _ refl refl))

module _ (running : Bool) (c : Counts) (s : Stores) where
  module _ (g : Bool) (e : g ≡ code_order c s) where
    emit_says : (op : ℕ) (bytes : List ℕ) (place : ℕ) → Says (emission_own g running) (answer_number (emit_of running c op bytes place s).answer)
    unfolding emit_of
    emit_says op bytes place = rw (← e) (judged_first g running (emit_in c op bytes place s) s (emit_late c s op bytes place))

    pub add_op_says : (op place : ℕ) → Says (emission_own g running) (answer_number (add_op_of running c op place s).answer)
    unfolding add_op_of
    add_op_says op place = emit_says op _ place

    pub add_op1_says : (op a place : ℕ) → Says (emission_own g running) (answer_number (add_op1_of running c op a place s).answer)
    unfolding add_op1_of
    add_op1_says op a place = emit_says op _ place

    pub add_op2_says : (op a b place : ℕ) → Says (emission_own g running) (answer_number (add_op2_of running c op a b place s).answer)
    unfolding add_op2_of
    add_op2_says op a b place = emit_says op _ place

    pub add_op3_says : (op a b d place : ℕ) → Says (emission_own g running) (answer_number (add_op3_of running c op a b d place s).answer)
    unfolding add_op3_of
    add_op3_says op a b d place = emit_says op _ place

  pub patch_says : (g : Bool) → g ≡ patch_order c s → (at a : ℕ) → Says (emission_own g running) (answer_number (patch_of running c at a s).answer)
  unfolding patch_of patched among
  patch_says g e at a = rw (← e) (judged_first g running _ s (if_late (ltb (size_here c s) (at + 2)) _ _ refl refl))

  pub constant_says : (g : Bool) → g ≡ constant_order c s → (x : Constant) (lent : List ℕ) → Says (emission_own g running) (answer_number (add_constant_of running c x lent s).answer)
  unfolding add_constant_of among
  constant_says g e x lent =
      rw (← e)
      (judged_first g running _ s
      (if_late (leb constant_limit c.constants) _ _ refl
      (if_late (leb (places 2 s.constants) c.constants) _ _ refl (constant_late c s x lent))))

  pub struct_says : (g : Bool) → g ≡ struct_order c s → (name : List ℕ) → Says (emission_own g running) (answer_number (add_struct_of running c name s).answer)
  unfolding add_struct_of
  struct_says g e name = rw (← e) (judged_first g running _ s (struct_late c s name (first_from 0 name (struct_names c s))))

  pub begin_says : (g : Bool) → g ≡ function_order c s → (name : List ℕ) → Says (emission_own g running) (answer_number (begin_function_of running c name s).answer)
  unfolding begin_function_of begun among
  begin_says g e name =
      rw (← e)
      (judged_first g running _ s
      (if_late (leb name_limit c.functions) _ _ refl
      (if_late (leb (places 2 s.functions) c.functions) _ _ refl (if_late (text_room c s (length name)) _ _ refl refl))))

ended : (g running : Bool) (c : Counts) → Says (emission_own g running) (answer_number {A = Counts × ℕ} (if g then (if running then Err why.RunUnderWay else Ok (c, 0)) else Err why.NotInOrder))
ended true true c = says_itself 25
ended true false c = says_itself 0
ended false running c = says_itself 19

pub end_says : (running : Bool) (c : Counts) (g : Bool) → g ≡ counts_ok c → Says (emission_own g running) (answer_number (end_function_of running c))
unfolding end_function_of
end_says running c g e = rw (← e) (ended g running _)
