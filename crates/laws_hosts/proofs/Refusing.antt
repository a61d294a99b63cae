-- Demand 1 of a call from C: the number that comes back, exactly when; and with any but 0 nothing has changed.
use Rattle.std.specs.Prelude.{if◌then◌else◌}
use mathlib.Core.Path.{◌≡◌, refl, sym, ap, subst, ◌∙◌}
use mathlib.Core.Bool.{Bool, true, false, ◌&&◌, ◌||◌}
use mathlib.Core.List.{List, [], ◌∷◌}
use mathlib.Core.Option.{Option, none, some}
use Prim.Native.Nat.{ℕ}
use native.Mathlib.Omega.{arith}
use borrow.Author.Tests.{leb-true, leb-false}
use lib.Dec.{leb}
use lib.ListN.{length}
use Rattle.model.specs.Values.{value_of, kind, payload, exact_value}
use Rattle.model.specs.Emission.{Res}
use Rattle.model.specs.Loading.{OutRes}
use Rattle.model.specs.Machines.{RunCall, run_answer, refusal_of}
use Rattle.model.specs.declared.Vm.{Vm}
use Rattle.model.specs.declared.Value.{Value}
use Rattle.value.proofs.Coding.{exact_kind, exact_payload}
use Rattle.embed_words.specs.Coding.{vm_in, record_ok, slices_refusal, value_refusal, at_entry, among, crossed, Coded, refused, through, emit_through, out_through, run_told}
use Rattle.embed_refusals.proofs.Refusals.{no_record, value_exact, value_inexact}
use Rattle.demands.specs.Host.{Held, Ask, new, load, add_op, add_op1, add_op2, add_op3, patch, add_constant, add_struct, begin_function, end_function, set_strict, current_offset, function_idx, save, disassemble, backtrace, last_result, stack_value, block_header, element, text_bytes, Call, run, ask}
use Rattle.demands.specs.Jobs.{is_makes, job_of, anew}
use Rattle.demands.specs.Refusals.{refused_by}
use Rattle.demands.proofs.Refusing.{refuses}
use Rattle.laws_hosts.specs.Hosts.{CHeld, CDone, left_by, emitting, setting, looking, putting, ask_through, RanThrough, Through}
use Rattle.laws_hosts.specs.Crossed.{held_in, Taken, way_of, Exact, ExactIf, number_of, Crossed, own_number, number_from, CDemand1, NotTaken}
use Rattle.laws_hosts.proofs.Crossing.{crossing}
use Rattle.laws_hosts.proofs.Short.{short_answer}

-- ---- over a machine's record

some_number : {A : Type 0} (x : Option ℕ) {n : ℕ} → n ≡ number_of x → (n ≡ 0 → ⊥) → ((k : ℕ) → x ≡ some k → A) → A
some_number none e z f = absurd (z e)
some_number (some k) e z f = f k refl

module _ (c : Call) (a : List ℕ) (g : CHeld) (d : CDone) where
  -- the answer has room
  room_refuses : Crossed c a g d → d.coded.number ≡ own_number c (held_in g)
  unfolding own_number
  room_refuses x = x.did.tells.number ∙ ap number_of (refuses c x.did.after).number

  room_held : Crossed c a g d → (d.coded.number ≡ 0 → ⊥) → left_by d ≡ g
  room_held x z =
      some_number (refused_by x.did.answer) x.did.tells.number z (λ n e.
      let same = ((refuses c x.did.after).kept n e).0 in
      rw ((x.did.kept n e).0, ap (λ (h : Held). h.stores) same, ap (λ (h : Held). h.lent) same))

  room_out : Crossed c a g d → (d.coded.number ≡ 0 → ⊥) → d.out ≡ (way_of c).out
  room_out x z = some_number (refused_by x.did.answer) x.did.tells.number z (λ n e. (x.did.kept n e).1)

  -- DEMAND 1 of a call from C
  pub c_refuses : Taken g → ExactIf (way_of c).value → Through c a g d → CDemand1 c a g d
  c_refuses ok i t = by (leb (way_of c).room (length a)) refl
    where
      by : (b : Bool) → leb (way_of c).room (length a) ≡ b → CDemand1 c a g d
      by true e =
          let x = crossing a g ok c (record { room = leb-true _ _ e; value = i }) t in
          record { number = room_refuses x ∙ unfold number_from in rw e; held = room_held x; out = room_out x }
      by false e =
          let x = short_answer a g ok c i (leb-false _ _ e) t in
          record { number = x.number ∙ unfold number_from in rw e; held = λ z. x.unchanged.held; out = λ z. x.unchanged.out }

-- ---- over words that are no machine's record: 19, before all else

-- 19 gives way to nothing
stays_19 : (firsts : List ℕ) (n : ℕ) → crossed firsts 19 n ≡ 19
unfolding crossed
stays_19 firsts n = by (among firsts n)
  where
    by : (b : Bool) → (if b && false then n else 19) ≡ 19
    by true = refl
    by false = refl

or_first : (b : Bool) → (b || false) ≡ false → b ≡ false
or_first true e = e
or_first false e = refl

module _ (a : List ℕ) (g : CHeld) where
  not_taken : (c : Call) (out : List ℕ) → out ≡ (way_of c).out → NotTaken c a g (record { coded = refused 19 g.words a; out = out; stores = g.stores; lent = g.lent })
  not_taken c out eo = record { number = refl; unchanged = record { held = refl; answer = refl; out = eo } }

  emit_not : (q : Ask) → [] ≡ (way_of (ask q)).out → 19 ≡ slices_refusal g.words 1 a → (rule : Vm → Res) → NotTaken (ask q) a g (emitting a g rule)
  unfolding emitting emit_through through
  emit_not q eo z rule = rw (← z, stays_19 at_entry _) (not_taken (ask q) [] eo)

  set_not : (b : Bool) → 19 ≡ slices_refusal g.words 0 a → NotTaken (ask (set_strict b)) a g (ask_through (set_strict b) a g)
  unfolding ask_through setting through
  set_not b z = rw (← z, stays_19 at_entry _) (not_taken (ask (set_strict b)) [] refl)

  look_not : (q : Ask) → [] ≡ (way_of (ask q)).out → (firsts : List ℕ) (why : ℕ) → 19 ≡ why → (x : Coded) → NotTaken (ask q) a g (looking firsts why a g x)
  unfolding looking through
  look_not q eo firsts why z x = rw (← z, stays_19 firsts x.number) (not_taken (ask q) [] eo)

  put_not : (q : Ask) (firsts : List ℕ) (why : ℕ) → 19 ≡ why → (out : List ℕ) → out ≡ (way_of (ask q)).out → (rule : Vm → OutRes) → NotTaken (ask q) a g (putting firsts why a out g rule)
  unfolding putting out_through through
  put_not q firsts why z out eo rule = rw (← z, stays_19 firsts _) (not_taken (ask q) out eo)

  module _ (no : record_ok g.words ≡ false) where
    none_taken : (n : ℕ) → 19 ≡ slices_refusal g.words n a
    none_taken n = no_record g.words n a refl no

    none_valued : (x : Value) (n : ℕ) → 19 ≡ value_refusal g.words (kind x) (payload x) n a
    none_valued x n = by (exact_value (kind x) (payload x)) refl
      where
        by : (b : Bool) → exact_value (kind x) (payload x) ≡ b → 19 ≡ value_refusal g.words (kind x) (payload x) n a
        by true e = value_exact g.words n a (kind x) (payload x) refl e (none_taken n)
        by false e = value_inexact g.words n a (kind x) (payload x) refl e

    -- a line for each; making a machine takes whatever words there are
    ask_not : (q : Ask) → is_makes (job_of q) ≡ false → NotTaken (ask q) a g (ask_through q a g)
    unfolding ask_through job_of
    ask_not new e = absurd (let z : ◌≡◌ {A = ℕ} 0 1 = cc in let y : ⊥ = omega arith in y)
    ask_not (load image) e = absurd (let z : ◌≡◌ {A = ℕ} 0 1 = cc in let y : ⊥ = omega arith in y)
    ask_not (add_op op place) e = emit_not (add_op op place) refl (none_taken 1) _
    ask_not (add_op1 op j place) e = emit_not (add_op1 op j place) refl (none_taken 1) _
    ask_not (add_op2 op j k place) e = emit_not (add_op2 op j k place) refl (none_taken 1) _
    ask_not (add_op3 op j k l place) e = emit_not (add_op3 op j k l place) refl (none_taken 1) _
    ask_not (patch offset word) e = emit_not (patch offset word) refl (none_taken 1) _
    ask_not (add_constant x text) e = emit_not (add_constant x text) refl (none_taken 1) _
    ask_not (add_struct text) e = emit_not (add_struct text) refl (none_taken 1) _
    ask_not (begin_function text) e = emit_not (begin_function text) refl (none_taken 1) _
    ask_not end_function e = emit_not end_function refl (none_taken 1) _
    ask_not (set_strict b) e = set_not b (none_taken 0)
    ask_not current_offset e = look_not current_offset refl _ _ (none_taken 1) _
    ask_not (function_idx text) e = look_not (function_idx text) refl _ _ (none_taken 1) _
    ask_not (save out) e = put_not (save out) _ _ (none_taken 1) out refl _
    ask_not (disassemble out) e = put_not (disassemble out) _ _ (none_taken 1) out refl _
    ask_not (backtrace out) e = put_not (backtrace out) _ _ (none_taken 1) out refl _
    ask_not last_result e = look_not last_result refl _ _ (none_taken 2) _
    ask_not (stack_value j) e = look_not (stack_value j) refl _ _ (none_taken 2) _
    ask_not (block_header x) e = look_not (block_header x) refl _ _ (none_valued x 3) _
    ask_not (element x j) e = look_not (element x j) refl _ _ (none_valued x 2) _
    ask_not (text_bytes x out) e = put_not (text_bytes x out) _ _ (none_valued x 1) out refl _

    run_not : (c : RunCall) {d : CDone} → RanThrough c a g d → NotTaken (run c) a g d
    unfolding run_told
    run_not c {d} t =
        let z = none_taken 5 in
        let why : slices_refusal g.words 5 a ≡ 0 → ⊥ = λ e. omega (arith, z, e) in
        let said = t.run.refuses why in
        let left : d.coded ≡ refused 19 g.words a = rw (t.run.coded, said.1, said.2, ← z, stays_19 at_entry (refusal_of (run_answer c (vm_in g.words) g.stores g.lent))) in
        let is : d ≡ record { coded = refused 19 g.words a; out = []; stores = g.stores; lent = g.lent } = rw (← left, ← t.stores, ← t.out, ← said.3) in
        rw is (not_taken (run c) [] refl)

    -- NO RECORD: every call but those that make a machine is refused 19, and nothing has changed
    pub no_record_refused : (c : Call) → anew (c ∷ []) ≡ false → {d : CDone} → Through c a g d → NotTaken c a g d
    unfolding anew
    no_record_refused (run c) e t = run_not c t
    no_record_refused (ask q) e t = rw t (ask_not q (or_first (is_makes (job_of q)) e))

  -- WORDS THAT ARE NO VALUE'S, handed in as a kind and a payload, are refused 19; an unknown kind among them. x is what the export does else
  pub no_value_shown : (k p : ℕ) → exact_value k p ≡ false → (q : Ask) → [] ≡ (way_of (ask q)).out → (n : ℕ) (x : Coded) → NotTaken (ask q) a g (looking at_entry (value_refusal g.words k p n a) a g x)
  no_value_shown k p e q eo n x = look_not q eo at_entry _ (value_inexact g.words n a k p refl e) x

  pub no_value_put : (k p : ℕ) → exact_value k p ≡ false → (q : Ask) (out : List ℕ) → out ≡ (way_of (ask q)).out → (n : ℕ) (rule : Vm → OutRes)
      → NotTaken (ask q) a g (putting at_entry (value_refusal g.words k p n a) a out g rule)
  no_value_put k p e q out eo n rule = put_not q at_entry _ (value_inexact g.words n a k p refl e) out eo rule

-- words that are exactly a value's are handed in as that value
pub exact_words : (k p : ℕ) → exact_value k p ≡ true → Exact (value_of k p)
exact_words k p e =
    let f : k ≡ kind (value_of k p) = exact_kind k p e in
    let h : p ≡ payload (value_of k p) = exact_payload k p e in
    record {
      exact = subst (λ (i : ℕ). exact_value i (payload (value_of k p)) ≡ true) f (subst (λ (i : ℕ). exact_value k i ≡ true) h e);
      back = sym (ap (λ (i : ℕ). value_of i p) f ∙ ap (value_of (kind (value_of k p))) h);
    }
