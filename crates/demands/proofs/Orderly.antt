-- Every call keeps good order.
use Rattle.std.specs.Prelude.{if◌then◌else◌, Err, Ok, Result}
use mathlib.Core.Path.{◌≡◌, refl, sym, ap, subst, ◌∙◌}
use mathlib.Core.Bool.{Bool, true, false}
use mathlib.Core.List.{List, [], ◌∷◌}
use mathlib.Core.Option.{Option, some, none as nothing}
use Prim.Native.Nat.{ℕ, ◌+◌, ◌≤◌}
use native.Mathlib.Omega.{arith}
use lib.Dec.{ltb}
use Rattle.model.specs.declared.Counts.{Counts}
use Rattle.model.specs.declared.Frame.{Frame}
use Rattle.model.specs.declared.Vm.{Vm}
use Rattle.model.specs.Numbers.{Bytes}
use Rattle.model.specs.Programs.{Program, within_limits}
use Rattle.model.specs.Images.{Judged, fine, broken, judge, Sound}
use Rattle.model.specs.Runs.{root}
use Rattle.model.specs.Stores.{Stores}
use Rattle.model.specs.Orders.{counts_ok, program_ok}
use Rattle.model.specs.Emission.{Res, counts, new_of, add_op_of, add_op1_of, add_op2_of, add_op3_of, end_function_of}
use Rattle.model.specs.Loading.{LoadRes, room_for, laid, counts_for, load_judged, load_of}
use Rattle.model.specs.Machines.{run_order, copy_short, trace_short, RunCall, begins, continues, abandons, start_with, RunAnswer, run_answer, StartRes, unless_running, as_loaded, fresh, new_machine_of, load_machine_of}
use Rattle.model.specs.Machines as m
use Rattle.layout.proofs.Bools.{either_way}
use Rattle.laws_runs.proofs.Ordered.{fresh_order}
use Rattle.laws_programs.proofs.Keeping.{Kept, emit_keeps}
use Rattle.laws_programs.proofs.Growing.{constant_keeps, patch_keeps, end_keeps}
use Rattle.laws_programs.proofs.Naming.{struct_keeps, new_keeps, begin_keeps}
use Rattle.demands.specs.Host.{Held, Ask, new, load, add_op, add_op1, add_op2, add_op3, patch, add_constant, add_struct, begin_function, end_function, set_strict, current_offset, function_idx, save, disassemble, backtrace, last_result, stack_value, block_header, element, text_bytes, Call, run, ask, Answer, started, Done, with_frames, emits, starts, changes, looks, done, RanBy, After, Chain, none, more}
use Rattle.image.proofs.Trip.{image_only, loaded_stands}
use Rattle.demands.specs.Refusals.{Check, first_of, run_checks, checks, refused_in, refused_by}
use Rattle.demands.specs.Kept.{InOrder}
use Rattle.demands.specs.Jobs.{job_of, Typed, AllTyped}
use Rattle.demands.proofs.Setting.{set_by, set_is, order_strictly}
use Rattle.demands.proofs.Went.{stays, went}
use Rattle.demands.proofs.Wider.{order_wider}
use Rattle.demands.proofs.Emitted.{Grows, grows_same, emit_grows, patch_grows, constant_grows, struct_grows, begin_grows}
use Rattle.demands.proofs.Refusing.{Says, ask_says, refuses}
use Rattle.demands.proofs.WhileRunning.{kept_while_running}
use Rattle.model.specs.declared.Refusal.{Refusal}
use Rattle.model.specs.declared.Refusal.TheVariants as why
use Rattle.model.specs.Answers.{refusal_number}

-- ---- what is loaded

pub loaded_done : {P : Type 0} (a : Result (Counts × ℕ) Refusal) (c : Counts) → as_loaded a ≡ Ok c → ((n : ℕ) → a ≡ Ok (c, n) → P) → P
unfolding as_loaded
loaded_done (Ok (d, n)) c e f = f n (let z : d ≡ c = cc in rw z)
loaded_done (Err r) c e f = absurd (let z : ◌≡◌ {A = ℕ} 0 1 = cc in let y : ⊥ = omega arith in y)

fine_good : (p : Program) (s : Stores) → Sound p → (a b : Bool) → within_limits p ≡ a → room_for p s ≡ b → (c : Counts)
    → (let x : LoadRes = if a then (if b then record { answer = Ok (counts_for p); stores = laid p s } else record { answer = Err why.StoreFull; stores = s })
    else record { answer = Err why.OverLimit; stores = s } in
    x.answer ≡ Ok c → program_ok c x.stores ≡ true)
fine_good p s k true true l r c e = let z : counts_for p ≡ c = cc in rw (← z) (loaded_stands p s k l r).0
fine_good p s k true false l r c e = absurd (let z : ◌≡◌ {A = ℕ} 0 1 = cc in let y : ⊥ = omega arith in y)
fine_good p s k false b l r c e = absurd (let z : ◌≡◌ {A = ℕ} 0 1 = cc in let y : ⊥ = omega arith in y)

load_good : (x : Judged) (s : Stores) → ((p : Program) → x ≡ fine p → Sound p) → (c : Counts) → (load_judged x s).answer ≡ Ok c → program_ok c (load_judged x s).stores ≡ true
unfolding load_judged
load_good (broken i) s k c e = absurd (let z : ◌≡◌ {A = ℕ} 0 1 = cc in let y : ⊥ = omega arith in y)
load_good (fine p) s k c e = fine_good p s (k p refl) (within_limits p) (room_for p s) refl refl c e

-- ---- a machine that is made, whatever the host held

module _ (h : Held) where
  fresh_in_order : (c : Counts) (s' : Stores) (f : Frame) (fs : List Frame) → program_ok c s' ≡ true → InOrder (starts h (start_with (Ok c) s' h.stores (f ∷ fs))).held
  unfolding starts start_with fresh
  fresh_in_order c s' f fs p = record {
    program = p;
    machine = fresh_order (fresh c) s' (with_frames (root 0 ∷ fs) h.lent) p (record { stack = refl; cells = refl; last = refl; frames = refl; run = refl; room = omega arith; frame = refl });
  }

  made : (a : Result Counts Refusal) (s' : Stores) (fs : List Frame) → ((c : Counts) → a ≡ Ok c → program_ok c s' ≡ true) → (m : Vm) → (starts h (start_with a s' h.stores fs)).answer ≡ started (Ok m)
      → InOrder (starts h (start_with a s' h.stores fs)).held
  unfolding starts start_with
  made (Ok c) s' [] p m e = absurd (let z : ◌≡◌ {A = ℕ} 0 1 = cc in let y : ⊥ = omega arith in y)
  made (Ok c) s' (f ∷ fs) p m e = fresh_in_order c s' f fs (p c refl)
  made (Err r) s' fs p m e = absurd (let z : ◌≡◌ {A = ℕ} 0 1 = cc in let y : ⊥ = omega arith in y)

  -- and a run under way is not made over
  made_by_lem : (running : Bool) (a : Result Counts Refusal) (s' : Stores) (fs : List Frame) → ((c : Counts) → a ≡ Ok c → program_ok c s' ≡ true) → (m : Vm)
      → (starts h (unless_running running h.stores fs (start_with a s' h.stores fs))).answer ≡ started (Ok m)
      → InOrder (starts h (unless_running running h.stores fs (start_with a s' h.stores fs))).held
  unfolding starts unless_running
  made_by_lem true a s' fs p m e = absurd (let z : ◌≡◌ {A = ℕ} 0 1 = cc in let y : ⊥ = omega arith in y)
  made_by_lem false a s' fs p m e = made a s' fs p m e

  new_stands : (c : Counts) → as_loaded (new_of h.stores).answer ≡ Ok c → program_ok c (new_of h.stores).stores ≡ true
  new_stands c e = loaded_done (new_of h.stores).answer c e (λ n q. (new_keeps h.stores).kept c n q)

  load_stands : (image : List ℕ) → Bytes image → (c : Counts) → (load_of image h.stores).answer ≡ Ok c → program_ok c (load_of image h.stores).stores ≡ true
  unfolding load_of
  load_stands image b = load_good (judge image) h.stores (λ p e. (image_only image p b e).1)

  -- a machine that was made is in good order
  pub new_in_order : {h' : Held} {m : Vm} → After (ask new) h (started (Ok m)) h' → InOrder h'
  unfolding done new_machine_of
  new_in_order {m = m} p = subst InOrder (ap (λ (d : Done). d.held) p) (made_by_lem h.vm.run.on _ _ h.lent.frames new_stands m (ap (λ (d : Done). d.answer) p))

  pub load_in_order : (image : List ℕ) → Bytes image → {h' : Held} {m : Vm} → After (ask (load image)) h (started (Ok m)) h' → InOrder h'
  unfolding done load_machine_of
  load_in_order image b {m = m} p = subst InOrder (ap (λ (d : Done). d.held) p) (made_by_lem h.vm.run.on _ _ h.lent.frames (load_stands image b) m (ap (λ (d : Done). d.answer) p))

-- ---- the end of a function

ends_by : (c d : Counts) (s : Stores) (inOrder running : Bool) → c.text ≤ d.text → c.functions ≤ d.functions
    → Grows c s (record { answer = if inOrder then (if running then Err why.RunUnderWay else Ok (d, 0)) else Err why.NotInOrder; stores = s })
ends_by c d s true false t f = grows_same c s d 0 s t f refl refl
ends_by c d s true true t f = record { grown = λ q i e. absurd (let z : ◌≡◌ {A = ℕ} 0 1 = cc in let y : ⊥ = omega arith in y) }
ends_by c d s false running t f = record { grown = λ q i e. absurd (let z : ◌≡◌ {A = ℕ} 0 1 = cc in let y : ⊥ = omega arith in y) }

pub end_grows : (running : Bool) (c : Counts) (s : Stores) → Grows c s (record { answer = end_function_of running c; stores = s })
unfolding end_function_of
end_grows running c s = ends_by c (counts c.constants c.structs c.functions c.text 0) s (counts_ok c) running (omega arith) (omega arith)

pub refused_is : (h : Held) (x : Res) (e : Refusal) → x.answer ≡ Err e → refused_by (emits h x).answer ≡ some (refusal_number e)
unfolding emits
refused_is h x e q = ap refused_in q

-- ---- no run is under way

module _ (h : Held) (o : InOrder h) (off : h.vm.run.on ≡ false) where
  -- ---- emission

  emits_by : (x : Res) (a : Result (Counts × ℕ) Refusal) → x.answer ≡ a → Kept x → Grows h.vm.program h.stores x → ((e : Refusal) → a ≡ Err e → (emits h x).held ≡ h) → InOrder (emits h x).held
  unfolding emits
  emits_by x (Ok (c, n)) q k g same = rw q (record {
    program = k.kept c n q;
    machine = order_wider h.vm h.stores h.lent c x.stores o.machine off (k.kept c n q) (g.grown c n q);
  })
  emits_by x (Err e) q k g same = subst InOrder (sym (same e refl)) o

  emits_kept : {cs : List Check} (x : Res) → Kept x → Grows h.vm.program h.stores x → Says h cs (emits h x) → InOrder (emits h x).held
  emits_kept x k g s = emits_by x x.answer refl k g (λ e q. (s.kept (refusal_number e) (refused_is h x e q)).0)

  -- ---- a machine that has not run

  start_by : (a : Result Counts Refusal) (s' : Stores) (fs : List Frame) → h.lent.frames ≡ fs → ((c : Counts) → a ≡ Ok c → program_ok c s' ≡ true) → InOrder (starts h (start_with a s' h.stores fs)).held
  unfolding starts start_with
  start_by (Ok c) s' [] q p = subst InOrder (ap (λ (x : List Frame). record { vm = h.vm; stores = h.stores; lent = with_frames x h.lent }) q) o
  start_by (Ok c) s' (f ∷ fs) q p = fresh_in_order h c s' f fs (p c refl)
  start_by (Err e) s' fs q p = subst InOrder (ap (λ (x : List Frame). record { vm = h.vm; stores = h.stores; lent = with_frames x h.lent }) q) o

  -- a run under way is not made over
  unless_kept : (running : Bool) (x : StartRes) → InOrder (starts h x).held → InOrder (starts h (unless_running running h.stores h.lent.frames x)).held
  unfolding starts unless_running
  unless_kept true x k = o
  unless_kept false x k = k

  -- ---- the setting

  set_by_lem : (b inOrder running : Bool) → InOrder (changes h (set_by b inOrder running h.vm)).held
  unfolding changes
  set_by_lem b true true = o
  set_by_lem b true false = record { program = o.program; machine = order_strictly b h.vm h.stores h.lent ∙ o.machine }
  set_by_lem b false running = o

  -- ---- a line for each entry

  looks_kept : (a : Answer) → InOrder (looks h a).held
  unfolding looks
  looks_kept a = o

  idle_kept : (q : Ask) → Typed (job_of q) → InOrder (done q h).held
  unfolding done job_of new_machine_of load_machine_of add_op_of add_op1_of add_op2_of add_op3_of
  idle_kept new b = unless_kept h.vm.run.on _ (start_by _ _ h.lent.frames refl (new_stands h))
  idle_kept (load image) b = unless_kept h.vm.run.on _ (start_by _ _ h.lent.frames refl (load_stands h image b))
  idle_kept (add_op op place) b = emits_kept _ (emit_keeps _ _ _ _ _ _ o.program) (emit_grows _ _ _ _ _ _ o.program) (ask_says h (add_op op place))
  idle_kept (add_op1 op x place) b = emits_kept _ (emit_keeps _ _ _ _ _ _ o.program) (emit_grows _ _ _ _ _ _ o.program) (ask_says h (add_op1 op x place))
  idle_kept (add_op2 op x y place) b = emits_kept _ (emit_keeps _ _ _ _ _ _ o.program) (emit_grows _ _ _ _ _ _ o.program) (ask_says h (add_op2 op x y place))
  idle_kept (add_op3 op x y z place) b = emits_kept _ (emit_keeps _ _ _ _ _ _ o.program) (emit_grows _ _ _ _ _ _ o.program) (ask_says h (add_op3 op x y z place))
  idle_kept (patch offset word) b = emits_kept _ (patch_keeps _ _ _ _ _ o.program) (patch_grows _ _ _ _ _) (ask_says h (patch offset word))
  idle_kept (add_constant x bytes) b = emits_kept _ (constant_keeps _ _ _ _ _ o.program) (constant_grows _ _ _ _ _) (ask_says h (add_constant x bytes))
  idle_kept (add_struct name) b = emits_kept _ (struct_keeps _ _ _ _ o.program) (struct_grows _ _ _ _) (ask_says h (add_struct name))
  idle_kept (begin_function name) b = emits_kept _ (begin_keeps _ _ _ _ o.program) (begin_grows _ _ _ _) (ask_says h (begin_function name))
  idle_kept end_function b = emits_kept _ (record { kept = λ d n q. end_keeps _ _ _ o.program d n q }) (end_grows _ h.vm.program h.stores) (ask_says h end_function)
  idle_kept (set_strict x) b = rw (set_is x h.vm h.stores h.lent) (set_by_lem x (run_order h.vm h.stores h.lent) h.vm.run.on)
  idle_kept current_offset b = looks_kept _
  idle_kept (function_idx name) b = looks_kept _
  idle_kept (save out) b = looks_kept _
  idle_kept (disassemble out) b = looks_kept _
  idle_kept (backtrace out) b = looks_kept _
  idle_kept last_result b = looks_kept _
  idle_kept (stack_value i) b = looks_kept _
  idle_kept (block_header x) b = looks_kept _
  idle_kept (element x i) b = looks_kept _
  idle_kept (text_bytes x out) b = looks_kept _

-- a run under way or not
ask_kept : (h : Held) → InOrder h → (q : Ask) → Typed (job_of q) → InOrder (done q h).held
ask_kept h o q t = either_way h.vm.run.on (λ on. subst InOrder (sym (kept_while_running h on q)) o) (λ off. idle_kept h o off q t)

-- ---- a call of a run

run_by : {c : RunCall} {h h' : Held} {a : Answer} → RanBy c h a h' → InOrder h → (x : RunAnswer) → run_answer c h.vm h.stores h.lent ≡ x → InOrder h'
run_by p o (m.ran n x) e = let z = went p e in record { program = rw (z.program, z.stores) o.program; machine = z.order }
run_by p o (m.refused n) e = subst InOrder (sym (stays p n e)) o

run_kept : {c : RunCall} {h h' : Held} {a : Answer} → RanBy c h a h' → InOrder h → InOrder h'
run_kept {c} {h} p o = run_by p o (run_answer c h.vm h.stores h.lent) refl

pub typed_first : (c : Call) (cs : List Call) → AllTyped (c ∷ cs) → AllTyped (c ∷ [])
unfolding AllTyped
typed_first (run c) cs t = tt
typed_first (ask q) cs t = (t.0, tt)

pub typed_rest : (c : Call) (cs : List Call) → AllTyped (c ∷ cs) → AllTyped cs
unfolding AllTyped
typed_rest (run c) cs t = t
typed_rest (ask q) cs t = t.1

-- every call keeps good order
pub order_kept : (c : Call) (a : Answer) → AllTyped (c ∷ []) → {h h' : Held} → After c h a h' → InOrder h → InOrder h'
unfolding AllTyped
order_kept (run c) a t p o = run_kept p o
order_kept (ask q) a t {h} {h'} p o = subst InOrder (ap (λ (d : Done). d.held) p) (ask_kept h o q t.0)

-- so do calls one after another
pub chain_kept : {calls : List Call} {h k : Held} {xs : List Answer} → AllTyped calls → Chain calls h xs k → InOrder h → InOrder k
chain_kept t none o = o
chain_kept t (more {c = c} {cs = cs} {a = a} p ps) o = chain_kept (typed_rest c cs t) ps (order_kept c a (typed_first c cs t) p o)

-- and then no call of a run is refused 19
pub run_in_order : {c : RunCall} {h h' : Held} {a : Answer} → InOrder h → RanBy c h a h' → refused_by a ≡ some 19 → ⊥
unfolding checks run_checks first_of
run_in_order {c} {h} o p e = by c (sym e ∙ (refuses (run c) p).number)
  where
    after_25 : (on short : Bool) → ◌≡◌ {A = Option ℕ} (some 19) (if on then some 25 else (if short then some 17 else nothing)) → ⊥
    after_25 true short q = let z : ◌≡◌ {A = ℕ} 19 25 = cc in omega arith
    after_25 false true q = let z : ◌≡◌ {A = ℕ} 19 17 = cc in omega arith
    after_25 false false q = let z : ◌≡◌ {A = ℕ} 0 1 = cc in omega arith

    after_18 : (on short much : Bool) → ◌≡◌ {A = Option ℕ} (some 19) (if on then (if short then some 17 else (if much then some 22 else nothing)) else some 18) → ⊥
    after_18 true true much q = let z : ◌≡◌ {A = ℕ} 19 17 = cc in omega arith
    after_18 true false true q = let z : ◌≡◌ {A = ℕ} 19 22 = cc in omega arith
    after_18 true false false q = let z : ◌≡◌ {A = ℕ} 0 1 = cc in omega arith
    after_18 false short much q = let z : ◌≡◌ {A = ℕ} 19 18 = cc in omega arith

    by : (c : RunCall) → some 19 ≡ first_of (checks (run c) h) → ⊥
    by begins q = after_25 h.vm.run.on (copy_short h.lent) (rw o.machine at q)
    by (continues u) q = after_18 h.vm.run.on (trace_short h.lent) (ltb 0xFFFF_FFFF_FFFF_FFFF (h.vm.run.given + u)) (rw o.machine at q)
    by abandons q = after_18 h.vm.run.on (trace_short h.lent) false (rw o.machine at q)
