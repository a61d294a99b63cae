-- A call from C does what the entry does.
use Rattle.std.specs.Prelude.{if◌then◌else◌, Err, Ok, Result}
use mathlib.Core.Path.{◌≡◌, refl, sym, subst, ◌∙◌}
use mathlib.Core.Bool.{Bool, true, false}
use mathlib.Core.List.{List, [], ◌∷◌}
use mathlib.Core.Option.{none, some}
use Prim.Native.Nat.{ℕ, ◌≤◌}
use native.Mathlib.Omega.{arith}
use borrow.Author.Tests.{le-leb}
use lib.ListN.{length, get_or}
use Rattle.model.specs.declared.Vm.{Vm}
use Rattle.model.specs.declared.Value.{Value}
use Rattle.model.specs.declared.Frame.{Frame}
use Rattle.model.specs.Values.{kind, payload}
use Rattle.model.specs.Stores.{Stores}
use Rattle.model.specs.Emission.{Res, new_of}
use Rattle.model.specs.Loading.{OutRes, load_of}
use Rattle.model.specs.Machines.{RunCall, answer_in, RunPost, set_strict as setStrictOf, run_order, Lent, StartRes, fresh, start_with, as_loaded, unless_running, load_machine_of, new_machine_of}
use Rattle.embed_words.specs.Coding.{vm_in, run_in, record_ok, FineLast, TypedLast, slices_refusal, value_refusal, under_way, out_refusal, Coded, refused, started_coded, started_told, changed_coded, emitted_coded, told_coded, through, emit_through, out_through, unmade, unmade_told, start_through}
use Rattle.embed_words.proofs.Back.{record_back}
use Rattle.embed_refusals.proofs.Refusals.{slices_fit, value_exact}
use Rattle.demands.specs.Host.{Held, with_frames, emits, starts, changes, looks, vm_after, done, Ask, new, load, add_op, add_op1, add_op2, add_op3, patch, add_constant, add_struct, begin_function, end_function, set_strict, current_offset, function_idx, save, disassemble, backtrace, last_result, stack_value, block_header, element, text_bytes, Call, run, ask, Answer, ran, emitted, started, changed, told, put, shown, headed, RanBy, After}
use Rattle.demands.specs.Refusals.{refused_in, refused_by}
use Rattle.demands.proofs.Refusing.{refuses}
use Rattle.demands.proofs.Setting.{set_by, set_is}
use Rattle.laws_hosts.specs.Hosts.{CHeld, CDone, left_by, emitting, making, setting, looking, putting, ask_through, RanThrough, Through}
use Rattle.laws_hosts.specs.Crossed.{held_in, Taken, way_of, Exact, Handed, out_of, Did, strictly, Crossed}
use Rattle.laws_hosts.proofs.Typed.{last_typed, run_typed}
use Rattle.laws_hosts.proofs.Records.{order_fine, record_long}
use Rattle.laws_hosts.proofs.Coded.{CodedAs, emitted_as_lem, started_as_lem, changed_as, told_as, put_as, shown_as_lem, headed_as, ran_as}
use Rattle.model.specs.declared.Counts.{Counts}
use Rattle.model.specs.declared.Refusal.{Refusal}
use Rattle.model.specs.declared.Refusal.TheVariants as why

-- ---- from the words to what is done

-- a call that did so, and left a record if there was one
pub record Crosses (c : Call) (a : List ℕ) (g : CHeld) (d : CDone) : Type 0 where
  pub did : Did c a g d
  pub kept : Taken g → Taken (left_by d)

module _ (c : Call) (a : List ℕ) (g : CHeld) where
  did_so : (d : CDone) (x : Answer) (h : Held) → After c (held_in g) x h → CodedAs g.words a x h.vm d.coded → h.stores ≡ d.stores → h.lent ≡ d.lent → d.out ≡ out_of x
      → ((n : ℕ) → refused_by x ≡ some n → d.out ≡ (way_of c).out) → Crosses c a g d
  did_so d x h p y es el eo eo' = record {
    did = record {
      answer = x;
      after = subst (After c (held_in g) x) (rw (y.machine, es, el)) p;
      tells = record { number = y.number; words = y.words; out = eo };
      kept = λ n i. (y.kept n i, eo' n i);
    };
    kept = y.taken;
  }

-- ---- emission, looking

module _ (a : List ℕ) (g : CHeld) where
  emit_crosses : Taken g → 1 ≤ length a → (q : Ask) → [] ≡ (way_of (ask q)).out → (rule : Vm → Res) → done q (held_in g) ≡ emits (held_in g) (rule (vm_in g.words))
      → Crosses (ask q) a g (emitting a g rule)
  unfolding emitting emit_through through emits
  emit_crosses ok l q eo rule e =
      let x = rule (vm_in g.words) in
      let d : CDone = record { coded = emitted_coded x.answer g.words a; out = []; stores = x.stores; lent = g.lent } in
      rw (← slices_fit g.words 1 a refl ok l) (did_so (ask q) a g d (emitted x.answer) _ e (emitted_as_lem g.words a (record_long g.words ok) x.answer) refl refl refl (λ n i. eo))

  look_crosses : (q : Ask) → [] ≡ (way_of (ask q)).out → (firsts : List ℕ) (why : ℕ) → 0 ≡ why → (x : Answer) (c : Coded) → done q (held_in g) ≡ looks (held_in g) x
      → CodedAs g.words a x (vm_in g.words) c → [] ≡ out_of x → Crosses (ask q) a g (looking firsts why a g c)
  unfolding looking through looks
  look_crosses q eo' firsts why z x c e y eo = rw (← z) (did_so (ask q) a g (record { coded = c; out = []; stores = g.stores; lent = g.lent }) x (held_in g) e y refl refl eo (λ n i. eo'))

  put_crosses : (q : Ask) (firsts : List ℕ) (why : ℕ) → 0 ≡ why → (out : List ℕ) → out ≡ (way_of (ask q)).out → (rule : Vm → OutRes)
      → done q (held_in g) ≡ looks (held_in g) (put out (rule (vm_in g.words))) → Crosses (ask q) a g (putting firsts why a out g rule)
  unfolding putting out_through through looks
  put_crosses q firsts why z out eo rule e =
      let x = rule (vm_in g.words) in
      let d : CDone = record { coded = told_coded x.answer g.words a; out = x.out; stores = g.stores; lent = g.lent } in
      rw (← z) (did_so (ask q) a g d (put out x) (held_in g) e (put_as g.words a out x) refl refl refl
      (λ n i. ((refuses (ask q) {h = held_in g} {h' = held_in g} {a = put out x} e).kept n i).1 ∙ eo))

-- ---- changing the setting

-- it is changed of a machine in good order alone, whose last result two words can hold
module _ (b : Bool) (m : Vm) (s : Stores) (l : Lent) (t : TypedLast m.last) (k : Vm) where
  fine_by : (order on : Bool) → run_order m s l ≡ order → set_by b order on m ≡ Ok k → FineLast k.last
  fine_by true true o e = absurd (let z : ◌≡◌ {A = ℕ} 0 1 = cc in let y : ⊥ = omega arith in y)
  fine_by true false o e = let z : strictly b m ≡ k = cc in subst (λ (x : Vm). FineLast x.last) z (order_fine m s l o t)
  fine_by false on o e = absurd (let z : ◌≡◌ {A = ℕ} 0 1 = cc in let y : ⊥ = omega arith in y)

  set_fine : setStrictOf b m s l ≡ Ok k → FineLast k.last
  set_fine e = fine_by (run_order m s l) m.run.on refl (sym (set_is b m s l) ∙ e)

module _ (a : List ℕ) (g : CHeld) where
  set_crosses : Taken g → (b : Bool) → Crosses (ask (set_strict b)) a g (ask_through (set_strict b) a g)
  unfolding ask_through done setting through changes vm_in
  set_crosses ok b =
      let m = vm_in g.words in
      let x = setStrictOf b m g.stores g.lent in
      let typed = last_typed (get_or g.words 8 0) (get_or g.words 9 0) in
      let y = changed_as g.words a (record_long g.words ok) x (set_fine b m g.stores g.lent typed) in
      let d : CDone = record { coded = changed_coded x g.words a; out = []; stores = g.stores; lent = g.lent } in
      rw (← slices_fit g.words 0 a refl ok (omega arith)) (did_so (ask (set_strict b)) a g d (changed x) _ refl y refl refl refl (λ n i. refl))

-- ---- making a machine, over whatever seventeen words

-- a machine that has not run has no last result
start_fine : (x : Result Counts Refusal) (s' s : Stores) (fs : List Frame) (m : Vm) → (start_with x s' s fs).answer ≡ Ok m → FineLast m.last
unfolding start_with fresh
start_fine (Ok c) s' s [] m e = absurd (let z : ◌≡◌ {A = ℕ} 0 1 = cc in let y : ⊥ = omega arith in y)
start_fine (Ok c) s' s (f ∷ fs) m e = let z : fresh c ≡ m = cc in subst (λ (k : Vm). FineLast k.last) z tt
start_fine (Err r) s' s fs m e = absurd (let z : ◌≡◌ {A = ℕ} 0 1 = cc in let y : ⊥ = omega arith in y)

none_made : {A : Type 0} {r : Refusal} {m : Vm} → ◌≡◌ {A = Result Vm Refusal} (Err r) (Ok m) → A
none_made e = absurd (let z : ◌≡◌ {A = ℕ} 0 1 = cc in let y : ⊥ = omega arith in y)

-- what the record refuses where a run is under way
pub unmade_25 : (x : Result Vm Refusal) (w a : List ℕ) → unmade 25 x w a ≡ refused 25 w a
unfolding unmade_told
unmade_25 (Ok m) w a = refl
unmade_25 (Err (why.BrokenImage i)) w a = refl
unmade_25 (Err e) w a = refl

module _ (a : List ℕ) (g : CHeld) (long : 17 ≤ length g.words) (room : 1 ≤ length a) where
  out_is : out_refusal g.words 1 a ≡ (if (vm_in g.words).run.on then 25 else 0)
  unfolding out_refusal under_way vm_in run_in
  out_is = rw (le-leb 17 (length g.words) long, le-leb 1 (length a) room)

  start_crosses : (q : Ask) → [] ≡ (way_of (ask q)).out → (x : StartRes) → ((m : Vm) → x.answer ≡ Ok m → FineLast m.last) → (on : Bool) → (vm_in g.words).run.on ≡ on
      → done q (held_in g) ≡ starts (held_in g) (unless_running on g.stores g.lent.frames x) → Crosses (ask q) a g (making a g x)
  unfolding making start_through starts unless_running started_told
  start_crosses q eo x f true o e =
      let d : CDone = record { coded = refused 25 g.words a; out = []; stores = g.stores; lent = g.lent } in
      let y = started_as_lem g.words a long (Err why.RunUnderWay) (λ m i. none_made i) in
      rw (out_is, o, unmade_25 x.answer g.words a) (did_so (ask q) a g d (started (Err why.RunUnderWay)) (held_in g) e y refl refl refl (λ n i. eo))
  start_crosses q eo x f false o e =
      let d : CDone = record { coded = started_coded x.answer g.words a; out = []; stores = x.stores; lent = with_frames x.frames g.lent } in
      rw (out_is, o) (did_so (ask q) a g d (started x.answer) _ e (started_as_lem g.words a long x.answer f) refl refl refl (λ n i. eo))

  -- and where it is made, the words are a record whatever they were
  started_taken : (x : Result Vm Refusal) → ((m : Vm) → x ≡ Ok m → FineLast m.last) → refused_in x ≡ none → record_ok (started_coded x g.words a).vm ≡ true
  unfolding started_told
  started_taken (Ok m) f e = (record_back g.words m long (f m refl)).taken
  started_taken (Err r) f e = absurd (let z : ◌≡◌ {A = ℕ} 0 1 = cc in let y : ⊥ = omega arith in y)

  making_taken : (x : StartRes) → ((m : Vm) → x.answer ≡ Ok m → FineLast m.last) → (on : Bool) → (vm_in g.words).run.on ≡ on
      → refused_in (unless_running on g.stores g.lent.frames x).answer ≡ none → Taken (left_by (making a g x))
  unfolding making start_through unless_running
  making_taken x f true o e = absurd (let z : ◌≡◌ {A = ℕ} 0 1 = cc in let y : ⊥ = omega arith in y)
  making_taken x f false o e = rw (out_is, o) (started_taken x.answer f e)

  abbrev anew : StartRes
  anew = let x = new_of g.stores in start_with (as_loaded x.answer) x.stores g.stores g.lent.frames

  abbrev loaded : List ℕ → StartRes
  loaded image = let x = load_of image g.stores in start_with x.answer x.stores g.stores g.lent.frames

  pub new_crosses : Crosses (ask new) a g (ask_through new a g)
  unfolding ask_through done new_machine_of unless_running
  new_crosses = start_crosses new refl anew (start_fine _ _ _ _) (vm_in g.words).run.on refl refl

  pub new_taken : refused_by (done new (held_in g)).answer ≡ none → Taken (left_by (ask_through new a g))
  unfolding ask_through done starts new_machine_of unless_running
  new_taken e = making_taken anew (start_fine _ _ _ _) (vm_in g.words).run.on refl e

  pub load_crosses : (image : List ℕ) → Crosses (ask (load image)) a g (ask_through (load image) a g)
  unfolding ask_through done load_machine_of unless_running
  load_crosses image = start_crosses (load image) refl (loaded image) (start_fine _ _ _ _) (vm_in g.words).run.on refl refl

  pub load_taken : (image : List ℕ) → refused_by (done (load image) (held_in g)).answer ≡ none → Taken (left_by (ask_through (load image) a g))
  unfolding ask_through done starts load_machine_of unless_running
  load_taken image e = making_taken (loaded image) (start_fine _ _ _ _) (vm_in g.words).run.on refl e

-- ---- all calls

module _ (a : List ℕ) (g : CHeld) (ok : Taken g) where
  fit : (n : ℕ) → n ≤ length a → 0 ≡ slices_refusal g.words n a
  fit n l = slices_fit g.words n a refl ok l

  fit_value : (x : Value) → Exact x → (n : ℕ) → n ≤ length a → 0 ≡ value_refusal g.words (kind x) (payload x) n a
  fit_value x y n l = value_exact g.words n a (kind x) (payload x) refl y.exact (fit n l)

  -- a line for each
  ask_crosses : (q : Ask) → Handed (ask q) a → Crosses (ask q) a g (ask_through q a g)
  unfolding ask_through done
  ask_crosses new i = new_crosses a g (record_long g.words ok) i.room
  ask_crosses (load image) i = load_crosses a g (record_long g.words ok) i.room image
  ask_crosses (add_op op place) i = emit_crosses a g ok i.room (add_op op place) refl _ refl
  ask_crosses (add_op1 op j place) i = emit_crosses a g ok i.room (add_op1 op j place) refl _ refl
  ask_crosses (add_op2 op j k place) i = emit_crosses a g ok i.room (add_op2 op j k place) refl _ refl
  ask_crosses (add_op3 op j k l place) i = emit_crosses a g ok i.room (add_op3 op j k l place) refl _ refl
  ask_crosses (patch offset word) i = emit_crosses a g ok i.room (patch offset word) refl _ refl
  ask_crosses (add_constant x text) i = emit_crosses a g ok i.room (add_constant x text) refl _ refl
  ask_crosses (add_struct text) i = emit_crosses a g ok i.room (add_struct text) refl _ refl
  ask_crosses (begin_function text) i = emit_crosses a g ok i.room (begin_function text) refl _ refl
  ask_crosses end_function i = emit_crosses a g ok i.room end_function refl _ refl
  ask_crosses (set_strict b) i = set_crosses a g ok b
  ask_crosses current_offset i = look_crosses a g current_offset refl _ _ (fit 1 i.room) (told _) _ refl (told_as g.words a _) refl
  ask_crosses (function_idx text) i = look_crosses a g (function_idx text) refl _ _ (fit 1 i.room) (told _) _ refl (told_as g.words a _) refl
  ask_crosses (save out) i = put_crosses a g (save out) _ _ (fit 1 i.room) out refl _ refl
  ask_crosses (disassemble out) i = put_crosses a g (disassemble out) _ _ (fit 1 i.room) out refl _ refl
  ask_crosses (backtrace out) i = put_crosses a g (backtrace out) _ _ (fit 1 i.room) out refl _ refl
  ask_crosses last_result i = look_crosses a g last_result refl _ _ (fit 2 i.room) (shown _) _ refl (shown_as_lem g.words a _) refl
  ask_crosses (stack_value j) i = look_crosses a g (stack_value j) refl _ _ (fit 2 i.room) (shown _) _ refl (shown_as_lem g.words a _) refl
  ask_crosses (block_header x) i =
      look_crosses a g (block_header x) refl _ _ (fit_value x i.value 3 i.room) (headed _) _ (rw i.value.back) (headed_as g.words a _) refl
  ask_crosses (element x j) i =
      look_crosses a g (element x j) refl _ _ (fit_value x i.value 2 i.room) (shown _) _ (rw i.value.back) (shown_as_lem g.words a _) refl
  ask_crosses (text_bytes x out) i =
      put_crosses a g (text_bytes x out) _ _ (fit_value x i.value 1 i.room) out refl _ (rw i.value.back)

  run_crosses : (c : RunCall) → 5 ≤ length a → {d : CDone} → RanThrough c a g d → Crosses (run c) a g d
  unfolding vm_in
  run_crosses c l {d} t =
      let x = t.run.result in
      let p : RunPost c (vm_in g.words) g.stores g.lent x d.lent = t.run.runs (sym (fit 5 l)) in
      let typed = run_typed c (vm_in g.words) g.stores g.lent x d.lent (last_typed (get_or g.words 8 0) (get_or g.words 9 0)) p in
      let h : Held = record { vm = vm_after (vm_in g.words) x; stores = g.stores; lent = d.lent } in
      let y : RanBy c (held_in g) (ran (answer_in d.lent x)) h = record { result = x; post = p; answer = refl; vm = refl; stores = refl } in
      did_so (run c) a g d (ran (answer_in d.lent x)) h y
      (rw t.run.coded (ran_as g.words a (record_long g.words ok) g.stores g.lent d.lent x p.left typed)) (sym t.stores) refl t.out (λ n i. t.out)

  -- CROSSING: a call from C, over words that are a machine's record, does what the entry does, and leaves words that are one
  pub crossing : (c : Call) → Handed c a → {d : CDone} → Through c a g d → Crossed c a g d
  crossing (run c) i t = let z = run_crosses c i.room t in record { did = z.did; taken = z.kept ok }
  crossing (ask q) i t = let z = ask_crosses q i in rw t (record { did = z.did; taken = z.kept ok })
