-- A call from C whose answer has no room: 17 comes back, unless a number that comes first is due; and nothing has changed.
use Rattle.std.specs.Prelude.{if◌then◌else◌, Err, Ok, Result}
use mathlib.Core.Path.{◌≡◌, refl, ap, ◌∙◌}
use mathlib.Core.Bool.{Bool, true, false, ◌&&◌}
use mathlib.Core.List.{List, [], ◌∷◌}
use Prim.Native.Nat.{ℕ, ◌≤◌, ◌<◌}
use native.Mathlib.Omega.{arith}
use borrow.Author.Tests.{le-leb}
use lib.Dec.{leb}
use lib.ListN.{length}
use Rattle.model.specs.declared.Vm.{Vm}
use Rattle.model.specs.declared.Value.{Value}
use Rattle.model.specs.declared.Frame.{Frame}
use Rattle.model.specs.Basics.{written}
use Rattle.model.specs.Values.{places, kind, payload}
use Rattle.model.specs.Stores.{Stores}
use Rattle.model.specs.Emission.{Res, new_of}
use Rattle.model.specs.Images.{Judged, fine, broken, judge}
use Rattle.model.specs.Programs.{within_limits}
use Rattle.model.specs.Loading.{OutRes, LoadRes, room_for, load_judged, load_of}
use Rattle.model.specs.Machines.{RunCall, RunAnswer, ran as answered, refused as not_run, run_answer, StartRes, start_with, unless_running, as_loaded, load_machine_of, new_machine_of, refusal_of}
use Rattle.embed_words.specs.Coding.{vm_in, run_in, slices_refusal, value_refusal, under_way, out_refusal, at_entry, among, crossed, Coded, refused, run_told, started_told, through, emit_through, out_through, unmade, unmade_told, start_through}
use Rattle.embed_refusals.proofs.Refusals.{answer_short, value_exact}
use Rattle.demands.specs.Host.{Held, Done, emits, starts, looks, done, Ask, new, load, add_op, add_op1, add_op2, add_op3, patch, add_constant, add_struct, begin_function, end_function, set_strict, current_offset, function_idx, save, disassemble, backtrace, last_result, stack_value, block_header, element, text_bytes, Call, run, ask, Answer, started, told, put, shown, headed}
use Rattle.demands.specs.Refusals.{refused_by, refused_run, checks}
use Rattle.demands.proofs.Refusing.{run_number_lem, refuses}
use Rattle.laws_hosts.specs.Hosts.{CHeld, CDone, emitting, making, looking, putting, ask_through, RanThrough, Through}
use Rattle.laws_hosts.specs.Crossed.{held_in, Taken, way_of, Exact, ExactIf, number_of, own_number, Short}
use Rattle.laws_hosts.proofs.Typed.{if_all}
use Rattle.laws_hosts.proofs.Records.{record_long}
use Rattle.laws_hosts.proofs.Coded.{CodedAs, emitted_as_lem, told_as, put_as, shown_as_lem, headed_as}
use Rattle.laws_hosts.proofs.Crossing.{unmade_25}
use Rattle.model.specs.declared.Counts.{Counts}
use Rattle.model.specs.declared.Refusal.{Refusal}
use Rattle.model.specs.Answers.{refusal_number}
use Rattle.model.specs.declared.Refusal.TheVariants as why

-- ---- what the entry itself says

-- of an answer that the entry gives, the number is that of its first check that fails
own_is : (q : Ask) (h : Held) (d : Done) → done q h ≡ d → number_of (refused_by d.answer) ≡ own_number (ask q) h
unfolding own_number
own_is q h d e = ap number_of (refuses (ask q) {h = h} {h' = d.held} {a = d.answer} e).number

ran_number : (x : RunAnswer) → refusal_of x ≡ number_of (refused_run x)
unfolding refusal_of
ran_number (answered c x) = refl
ran_number (not_run n) = refl

run_own : (c : RunCall) (h : Held) → refusal_of (run_answer c h.vm h.stores h.lent) ≡ own_number (run c) h
unfolding own_number checks
run_own c h = ran_number (run_answer c h.vm h.stores h.lent) ∙ ap number_of (run_number_lem c h)

-- ---- emission, looking

module _ (a : List ℕ) (g : CHeld) where
  short_so : (c : Call) (out : List ℕ) → out ≡ (way_of c).out → (n : ℕ) → n ≡ crossed (way_of c).firsts 17 (own_number c (held_in g))
      → Short c a g (record { coded = refused n g.words a; out = out; stores = g.stores; lent = g.lent })
  short_so c out eo n en = record { number = en; unchanged = record { held = refl; answer = refl; out = eo } }

  emit_short : 17 ≡ slices_refusal g.words 1 a → 17 ≤ length g.words → (q : Ask) → at_entry ≡ (way_of (ask q)).firsts → [] ≡ (way_of (ask q)).out → (rule : Vm → Res)
      → done q (held_in g) ≡ emits (held_in g) (rule (vm_in g.words)) → Short (ask q) a g (emitting a g rule)
  unfolding emitting emit_through through emits
  emit_short z l q ef eo rule e =
      let n = (emitted_as_lem g.words a l (rule (vm_in g.words)).answer).number ∙ own_is q (held_in g) _ e in
      rw (← z) (short_so (ask q) [] eo _ (rw (ef, n)))

  look_short : (q : Ask) (firsts : List ℕ) → firsts ≡ (way_of (ask q)).firsts → [] ≡ (way_of (ask q)).out → (why : ℕ) → 17 ≡ why → (x : Answer) (c : Coded) → done q (held_in g) ≡ looks (held_in g) x
      → CodedAs g.words a x (vm_in g.words) c → Short (ask q) a g (looking firsts why a g c)
  unfolding looking through looks
  look_short q firsts ef eo why z x c e y = rw (← z) (short_so (ask q) [] eo _ (rw (ef, y.number ∙ own_is q (held_in g) _ e)))

  put_short : (q : Ask) (firsts : List ℕ) → firsts ≡ (way_of (ask q)).firsts → (out : List ℕ) → out ≡ (way_of (ask q)).out → (why : ℕ) → 17 ≡ why → (rule : Vm → OutRes)
      → done q (held_in g) ≡ looks (held_in g) (put out (rule (vm_in g.words))) → Short (ask q) a g (putting firsts why a out g rule)
  unfolding putting out_through through looks
  put_short q firsts ef out eo why z rule e =
      let n = (put_as g.words a out (rule (vm_in g.words))).number ∙ own_is q (held_in g) _ e in
      rw (← z) (short_so (ask q) out eo _ (rw (ef, n)))

-- ---- making a machine: 25, a broken image, then 17 before all else

-- a refusal of the entry itself that comes behind 17
abbrev LateLoaded : Result Counts Refusal → Type 0
LateLoaded (Ok c) = Unit
LateLoaded (Err (why.BrokenImage i)) = Unit
LateLoaded (Err e) = among (25 ∷ 20 ∷ []) (refusal_number e) ≡ false

abbrev LateStarted : Result Vm Refusal → Type 0
LateStarted (Ok m) = Unit
LateStarted (Err (why.BrokenImage i)) = Unit
LateStarted (Err e) = among (25 ∷ 20 ∷ []) (refusal_number e) ≡ false

start_late : (x : Result Counts Refusal) → LateLoaded x → (s' s : Stores) (fs : List Frame) → LateStarted (start_with x s' s fs).answer
unfolding start_with among
start_late (Ok c) l s' s [] = refl
start_late (Ok c) l s' s (f ∷ fs) = tt
start_late (Err (why.BrokenImage i)) l s' s fs = tt
start_late (Err e) l s' s fs = l

judged_late : (x : Judged) (s : Stores) → LateLoaded (load_judged x s).answer
unfolding load_judged among
judged_late (broken i) s = tt
judged_late (fine p) s =
    let P : LoadRes → Type 0 = λ x. LateLoaded x.answer in if_all P (within_limits p) _ _ (if_all P (room_for p s) _ _ tt refl) refl

new_late : (s : Stores) → LateLoaded (as_loaded (new_of s).answer)
unfolding new_of as_loaded among
new_late s = if_all (λ (x : Res). LateLoaded (as_loaded x.answer)) (leb 6 (places 1 s.text) && leb 1 (places 2 s.functions)) _ _ tt refl

-- with no word for an offset
short_made : (x : Result Vm Refusal) → LateStarted x → (w : List ℕ) → unmade 17 x w [] ≡ refused (crossed (25 ∷ 20 ∷ []) 17 (number_of (refused_by (started x)))) w []
unfolding unmade_told started_told written crossed among
short_made (Ok m) l w = refl
short_made (Err (why.BrokenImage i)) l w = refl
short_made (Err why.RunUnderWay) l w = absurd (let z : ◌≡◌ {A = ℕ} 0 1 = cc in let y : ⊥ = omega arith in y)
short_made (Err e) l w = refl

first_25 : 25 ≡ crossed (25 ∷ 20 ∷ []) 17 25
unfolding crossed among
first_25 = refl

made_number : (q : Ask) → 25 ∷ 20 ∷ [] ≡ (way_of (ask q)).firsts → (h : Held) (n : ℕ) → n ≡ own_number (ask q) h → crossed (25 ∷ 20 ∷ []) 17 n ≡ crossed (way_of (ask q)).firsts 17 (own_number (ask q) h)
made_number q ef h n e = ap (crossed (25 ∷ 20 ∷ []) 17) e ∙ ap (λ (fs : List ℕ). crossed fs 17 (own_number (ask q) h)) ef

module _ (g : CHeld) (long : 17 ≤ length g.words) where
  out_is : out_refusal g.words 1 [] ≡ (if (vm_in g.words).run.on then 25 else 17)
  unfolding out_refusal under_way vm_in run_in
  out_is = rw (le-leb 17 (length g.words) long)

  start_short : (q : Ask) → 25 ∷ 20 ∷ [] ≡ (way_of (ask q)).firsts → [] ≡ (way_of (ask q)).out → (x : StartRes) → LateStarted x.answer → (on : Bool) → (vm_in g.words).run.on ≡ on
      → done q (held_in g) ≡ starts (held_in g) (unless_running on g.stores g.lent.frames x) → Short (ask q) [] g (making [] g x)
  unfolding making start_through starts unless_running
  start_short q ef eo x l true o e =
      rw (out_is, o, unmade_25 x.answer g.words []) (short_so [] g (ask q) [] eo 25 (first_25 ∙ made_number q ef (held_in g) 25 (own_is q (held_in g) _ e)))
  start_short q ef eo x l false o e =
      rw (out_is, o, short_made x.answer l g.words) (short_so [] g (ask q) [] eo _ (made_number q ef (held_in g) _ (own_is q (held_in g) _ e)))

  new_short : Short (ask new) [] g (ask_through new [] g)
  unfolding ask_through done new_machine_of unless_running
  new_short = start_short new refl refl (start_with (as_loaded (new_of g.stores).answer) (new_of g.stores).stores g.stores g.lent.frames)
      (start_late _ (new_late g.stores) _ _ _) (vm_in g.words).run.on refl refl

  load_short : (image : List ℕ) → Short (ask (load image)) [] g (ask_through (load image) [] g)
  unfolding ask_through done load_machine_of unless_running load_of
  load_short image =
      let x = load_of image g.stores in
      start_short (load image) refl refl (start_with x.answer x.stores g.stores g.lent.frames)
      (start_late _ (judged_late (judge image) g.stores) _ _ _) (vm_in g.words).run.on refl refl

-- ---- all calls

empty : (a : List ℕ) → length a < 1 → a ≡ []
empty [] l = refl
empty (x ∷ a) l = absurd (let z : ⊥ = omega arith in z)

module _ (a : List ℕ) (g : CHeld) (ok : Taken g) where
  long : 17 ≤ length g.words
  long = record_long g.words ok

  none_fits : (n : ℕ) → length a < n → 17 ≡ slices_refusal g.words n a
  none_fits n l = answer_short g.words n a refl ok l

  no_value_fits : (x : Value) → Exact x → (n : ℕ) → length a < n → 17 ≡ value_refusal g.words (kind x) (payload x) n a
  no_value_fits x y n l = value_exact g.words n a (kind x) (payload x) refl y.exact (none_fits n l)

  -- a line for each
  ask_short : (q : Ask) → ExactIf (way_of (ask q)).value → length a < (way_of (ask q)).room → Short (ask q) a g (ask_through q a g)
  unfolding ask_through done
  ask_short new i l = rw (empty a l) (new_short g long)
  ask_short (load image) i l = rw (empty a l) (load_short g long image)
  ask_short (add_op op place) i l = emit_short a g (none_fits 1 l) long (add_op op place) refl refl _ refl
  ask_short (add_op1 op j place) i l = emit_short a g (none_fits 1 l) long (add_op1 op j place) refl refl _ refl
  ask_short (add_op2 op j k place) i l = emit_short a g (none_fits 1 l) long (add_op2 op j k place) refl refl _ refl
  ask_short (add_op3 op j k m place) i l = emit_short a g (none_fits 1 l) long (add_op3 op j k m place) refl refl _ refl
  ask_short (patch offset word) i l = emit_short a g (none_fits 1 l) long (patch offset word) refl refl _ refl
  ask_short (add_constant x text) i l = emit_short a g (none_fits 1 l) long (add_constant x text) refl refl _ refl
  ask_short (add_struct text) i l = emit_short a g (none_fits 1 l) long (add_struct text) refl refl _ refl
  ask_short (begin_function text) i l = emit_short a g (none_fits 1 l) long (begin_function text) refl refl _ refl
  ask_short end_function i l = emit_short a g (none_fits 1 l) long end_function refl refl _ refl
  -- no words are too short for it
  ask_short (set_strict b) i l = absurd (let z : ⊥ = omega arith in z)
  ask_short current_offset i l = look_short a g current_offset _ refl refl _ (none_fits 1 l) (told _) _ refl (told_as g.words a _)
  ask_short (function_idx text) i l = look_short a g (function_idx text) _ refl refl _ (none_fits 1 l) (told _) _ refl (told_as g.words a _)
  ask_short (save out) i l = put_short a g (save out) _ refl out refl _ (none_fits 1 l) _ refl
  ask_short (disassemble out) i l = put_short a g (disassemble out) _ refl out refl _ (none_fits 1 l) _ refl
  ask_short (backtrace out) i l = put_short a g (backtrace out) _ refl out refl _ (none_fits 1 l) _ refl
  ask_short last_result i l = look_short a g last_result _ refl refl _ (none_fits 2 l) (shown _) _ refl (shown_as_lem g.words a _)
  ask_short (stack_value j) i l = look_short a g (stack_value j) _ refl refl _ (none_fits 2 l) (shown _) _ refl (shown_as_lem g.words a _)
  ask_short (block_header x) i l = look_short a g (block_header x) _ refl refl _ (no_value_fits x i 3 l) (headed _) _ (rw i.back) (headed_as g.words a _)
  ask_short (element x j) i l = look_short a g (element x j) _ refl refl _ (no_value_fits x i 2 l) (shown _) _ (rw i.back) (shown_as_lem g.words a _)
  ask_short (text_bytes x out) i l = put_short a g (text_bytes x out) _ refl out refl _ (no_value_fits x i 1 l) _ (rw i.back)

  run_short : (c : RunCall) → length a < 5 → {d : CDone} → RanThrough c a g d → Short (run c) a g d
  unfolding run_told
  run_short c l {d} t =
      let z = none_fits 5 l in
      let why : slices_refusal g.words 5 a ≡ 0 → ⊥ = λ e. omega (arith, z, e) in
      let said = t.run.refuses why in
      let n = crossed at_entry 17 (own_number (run c) (held_in g)) in
      let left : d.coded ≡ refused n g.words a = rw (t.run.coded, said.1, said.2, ← z, run_own c (held_in g)) in
      let is : d ≡ record { coded = refused n g.words a; out = []; stores = g.stores; lent = g.lent } = rw (← left, ← t.stores, ← t.out, ← said.3) in
      rw is (short_so a g (run c) [] refl n refl)

  -- A SHORT ANSWER: 17 comes back, unless a number that comes first is due; nothing has changed
  pub short_answer : (c : Call) → ExactIf (way_of c).value → length a < (way_of c).room → {d : CDone} → Through c a g d → Short c a g d
  short_answer (run c) i l t = run_short c l t
  short_answer (ask q) i l t = rw t (ask_short q i l)
