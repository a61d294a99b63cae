-- 0 comes back of a call that was not refused, and of no other.
use mathlib.Core.Path.{◌≡◌, refl, sym, ap, ◌∙◌}
use mathlib.Core.Bool.{Bool, true, false, ◌&&◌, ◌||◌}
use mathlib.Core.List.{List, [], ◌∷◌}
use mathlib.Core.Option.{Option, none, some}
use Prim.Native.Nat.{ℕ}
use native.Mathlib.Omega.{arith}
use borrow.Author.Tests.{leb-true, eqb-true}
use lib.Dec.{eqb, leb}
use Rattle.model.specs.declared.Value.{Value}
use Rattle.model.specs.declared.Value.TheVariants as v
use Rattle.model.specs.declared.Refusal.{Refusal}
use Rattle.model.specs.Answers.{refusal_number}
use Rattle.model.specs.Images.{Judged, fine, broken, judge}
use Rattle.model.specs.Listings.{Listed, text, unlisted, listing_of}
use Rattle.model.specs.Stores.{program_in}
use Rattle.model.specs.Machines.{begins, continues, abandons}
use Rattle.model.specs.Readers.{header_at}
use Rattle.value.proofs.Coding.{and_left, and_right}
use Rattle.laws_code.proofs.Numbers.{listing_numbers}
use Rattle.demands.specs.Host.{Held, new, load, add_op, add_op1, add_op2, add_op3, patch, add_constant, add_struct, begin_function, end_function, set_strict, current_offset, function_idx, save, disassemble, backtrace, last_result, stack_value, block_header, element, text_bytes, Call, run, ask, Answer, After}
use Rattle.demands.specs.Refusals.{Check, must, must_not, first_of, code_checks, load_checks, list_checks, element_checks, text_checks, ask_checks, run_checks, checks, refused_by}
use Rattle.demands.proofs.Refusing.{refuses}
use Rattle.laws_hosts.specs.Hosts.{CHeld, CDone}
use Rattle.laws_hosts.specs.Crossed.{number_of, Did}

-- no check has the number 0
unfoldable numbered : List Check → Bool
numbered [] = true
numbered (must b n ∷ cs) = leb 1 n && numbered cs
numbered (must_not b n ∷ cs) = leb 1 n && numbered cs

never_zero : (cs : List Check) → numbered cs ≡ true → first_of cs ≡ some 0 → ⊥
unfolding numbered first_of
never_zero [] l e = let z : ◌≡◌ {A = ℕ} 0 1 = cc in let y : ⊥ = omega arith in y
never_zero (must true n ∷ cs) l e = never_zero cs (and_right (leb 1 n) (numbered cs) l) e
never_zero (must false n ∷ cs) l e = let z : n ≡ 0 = cc in let y = leb-true 1 n (and_left (leb 1 n) (numbered cs) l) in omega arith
never_zero (must_not true n ∷ cs) l e = let z : n ≡ 0 = cc in let y = leb-true 1 n (and_left (leb 1 n) (numbered cs) l) in omega arith
never_zero (must_not false n ∷ cs) l e = never_zero cs (and_right (leb 1 n) (numbered cs) l) e

-- ---- the checks of each call

load_numbered : (h : Held) (x : Judged) → numbered (load_checks h x) ≡ true
unfolding numbered load_checks
load_numbered h (broken i) = refl
load_numbered h (fine p) = refl

one_or_three : (n : ℕ) (a b : Bool) → eqb n 1 ≡ a → eqb n 3 ≡ b → (a || b) ≡ true → leb 1 n ≡ true
one_or_three n true b e f z = let y : n ≡ 1 = eqb-true n 1 e in rw y
one_or_three n false true e f z = let y : n ≡ 3 = eqb-true n 3 f in rw y
one_or_three n false false e f z = absurd (let y : ◌≡◌ {A = ℕ} 0 1 = cc in let x : ⊥ = omega arith in x)

list_numbered : (out : List ℕ) (x : Listed) → ((l : List ℕ) (e : Refusal) → x ≡ unlisted l e → (eqb (refusal_number e) 1 || eqb (refusal_number e) 3) ≡ true) → numbered (list_checks out x) ≡ true
unfolding numbered list_checks
list_numbered out (text bytes) f = refl
list_numbered out (unlisted l e) f = let n = refusal_number e in rw (one_or_three n (eqb n 1) (eqb n 3) refl refl (f l e refl))

element_numbered : (h : Held) (i : ℕ) (x : Option ℕ) → numbered (element_checks h i x) ≡ true
unfolding numbered element_checks
element_numbered h i none = refl
element_numbered h i (some p) = refl

text_numbered : (out : List ℕ) (x : Value) → numbered (text_checks out x) ≡ true
unfolding numbered
text_numbered out (v.Scalar x) = refl
text_numbered out (v.Boolean x) = refl
text_numbered out (v.String o n) = refl
text_numbered out (v.FunctionReference o n) = refl
text_numbered out (v.List p) = refl
text_numbered out (v.StructInstance p) = refl

call_numbered : (c : Call) (h : Held) → numbered (checks c h) ≡ true
unfolding numbered checks run_checks ask_checks code_checks
call_numbered (run begins) h = refl
call_numbered (run (continues u)) h = refl
call_numbered (run abandons) h = refl
call_numbered (ask new) h = refl
call_numbered (ask (load image)) h = load_numbered h (judge image)
call_numbered (ask (add_op op place)) h = refl
call_numbered (ask (add_op1 op a place)) h = refl
call_numbered (ask (add_op2 op a b place)) h = refl
call_numbered (ask (add_op3 op a b c place)) h = refl
call_numbered (ask (patch offset word)) h = refl
call_numbered (ask (add_constant x bytes)) h = refl
call_numbered (ask (add_struct name)) h = refl
call_numbered (ask (begin_function name)) h = refl
call_numbered (ask end_function) h = refl
call_numbered (ask (set_strict b)) h = refl
call_numbered (ask current_offset) h = refl
call_numbered (ask (function_idx name)) h = refl
call_numbered (ask (save out)) h = refl
call_numbered (ask (disassemble out)) h = list_numbered out (listing_of (program_in h.vm.program h.stores)) (listing_numbers _)
call_numbered (ask (backtrace out)) h = refl
call_numbered (ask last_result) h = refl
call_numbered (ask (stack_value i)) h = refl
call_numbered (ask (block_header x)) h = refl
call_numbered (ask (element x i)) h = element_numbered h i (header_at x)
call_numbered (ask (text_bytes x out)) h = text_numbered out x

-- ---- so a refusal has a number above 0

pub refused_not : {A : Type 0} (c : Call) (h h' : Held) (x : Answer) → After c h x h' → (n : ℕ) → refused_by x ≡ some n → n ≡ 0 → A
refused_not c h h' x p n e z = absurd (never_zero (checks c h) (call_numbered c h) (sym (refuses c {h = h} {h' = h'} {a = x} p).number ∙ e ∙ ap some z))

-- 0 IS DONE: a call from C that comes back with 0 was not refused
pub zero_is_done : {c : Call} {a : List ℕ} {g : CHeld} {d : CDone} (x : Did c a g d) → d.coded.number ≡ 0 → refused_by x.answer ≡ none
zero_is_done {c} x e = by (refused_by x.answer) refl
  where
    by : (y : Option ℕ) → refused_by x.answer ≡ y → y ≡ none
    by none f = refl
    by (some n) f = refused_not c _ _ _ x.after n f (sym (ap number_of f) ∙ sym x.tells.number ∙ e)
