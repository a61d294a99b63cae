-- The other entries, of two machines that mean the same: they say the same, and leave such machines.
use Rattle.std.specs.Prelude.{if◌then◌else◌, Err, Ok, Option, Result}
use mathlib.Core.Path.{◌≡◌, refl, sym, ap, subst, ◌∙◌}
use mathlib.Core.Bool.{Bool, true, false}
use mathlib.Core.List.{List, [], ◌∷◌, ◌++◌, reverse}
use Prim.Native.Nat.{ℕ, suc, ◌-◌, ◌<◌}
use native.Mathlib.Omega.{arith}
use borrow.Author.Tests.{le-leb, ltb-true}
use lib.Dec.{ltb}
use lib.ListN.{length, take, drop, take-append-drop}
use lib.Seq.{take-take}
use Rattle.model.specs.declared.Value.TheVariants as v
use Rattle.model.specs.declared.Counts.{Counts}
use Rattle.model.specs.declared.Frame.{Frame}
use Rattle.model.specs.Values.{places, value_at, vals}
use Rattle.model.specs.Heap.{Cell, cells_from, heap_of}
use Rattle.model.specs.Trees.{meaning}
use Rattle.model.specs.Stores.{Stores}
use Rattle.model.specs.Stores as st
use Rattle.model.specs.Emission.{Res, emit_of, add_op_of, add_op1_of, add_op2_of, add_op3_of}
use Rattle.model.specs.Machines.{innermost, callers_in, machine_in, world_of, backtrace_in, trace_order, StartRes, start_with, unless_running, fresh, set_strict as setStrictOf, new_machine_of, load_machine_of}
use Rattle.model.specs.Readers.{last_shown, last_result_of, value_shown, stack_value_of}
use Rattle.value.proofs.Stores.{length_vals, vals_slot}
use Rattle.laws_runs.proofs.Ordered.{order_exact}
use Rattle.laws_meaning.specs.Alike.{none, nothing, AlikeLast}
use Rattle.laws_meaning.specs.Alike as al
use Rattle.laws_meaning.specs.Answers.{Begins}
use Rattle.laws_meaning.proofs.Values.{Boths, boths_of, length_alike, at_alike}
use Rattle.laws_meaning.proofs.Texts.{later_alike}
use Rattle.demands.specs.Host.{Held, Ask, new, load, add_op, add_op1, add_op2, add_op3, patch, add_constant, add_struct, begin_function, end_function, set_strict, current_offset, function_idx, save, disassemble, backtrace, last_result, stack_value, block_header, element, text_bytes, ask, Answer, shown, Done, counted, with_frames, emits, starts, changes, looks as seen, done}
use Rattle.demands.specs.Agree.{Alike}
use Rattle.demands.specs.Kept.{InOrder, Grew}
use Rattle.demands.specs.Meant.{world_in, machine_of, Fine, AlikeHeld, value, said_in, says}
use Rattle.demands.specs.Refusals.{refused_in}
use Rattle.demands.specs.Jobs.{makes, writes, looks, handed, job_of, is_makes, Typed, AllTyped}
use Rattle.demands.proofs.Fronts.{places_alike}
use Rattle.demands.proofs.Fixed.{Standing, stack_fits, standing, split}
use Rattle.demands.proofs.Fixed as fx
use Rattle.layout.proofs.Parts.{places_same}
use Rattle.demands.proofs.Setting.{set_by, set_is}
use Rattle.demands.proofs.Asks.{trace_alike}
use Rattle.demands.proofs.Emitted.{Grows, emit_grows, patch_grows, constant_grows, struct_grows, begin_grows}
use Rattle.demands.proofs.Refusing.{ask_says}
use Rattle.demands.proofs.WhileRunning.{written_idle}
use Rattle.demands.proofs.Orderly.{end_grows, refused_is}
use Rattle.demands.proofs.Bytes.{fine_kept}
use Rattle.demands.proofs.Beside.{AlikeRes, OneProgram, emit_alike, patch_alike, constant_alike, struct_alike, begin_alike, end_alike, offset_same, index_same, save_same, list_same, trace_same}
use Rattle.demands.proofs.Made.{AlikeLoaded, new_alike, load_alike}
use Rattle.demands.proofs.MeantRuns.{AlikeCall, one_program, sane, beside_sane}
use Rattle.model.specs.declared.Refusal.{Refusal}
use Rattle.model.specs.declared.Value.{Value}
use Rattle.model.specs.declared.Refusal.TheVariants as why
use Rattle.model.specs.Answers.{refusal_number}

-- ---- a value of the stack

stack_told : (k : Held) → InOrder k → (i : ℕ) (b : Bool) → ltb i k.vm.stack ≡ b → stack_value_of k.vm i k.lent.stack ≡ (if b then Ok (value_at k.lent.stack i) else Err why.NoSuchPlace)
unfolding stack_value_of value_shown
stack_told k o i true e = rw (le-leb _ _ (stack_fits k.vm k.stores k.lent o.machine), e, (order_exact k.vm k.stores k.lent o.machine).stack i (ltb-true _ _ e))
stack_told k o i false e = rw (le-leb _ _ (stack_fits k.vm k.stores k.lent o.machine), e)

-- ---- emission: the text grows at its end

text_begins : (k : Held) (c : Counts) (s : Stores) → Grew k.vm.program k.stores c s → Begins (world_in k).text (world_of (counted k.vm (Ok (c, 0))) s k.lent).text
unfolding world_of st.world_in
text_begins k c s g =
    let t = k.vm.program.text in
    let u = take c.text s.text in
    record {
      more = drop t u;
      is = sym (take-append-drop t u) ∙ ap (λ (x : List ℕ). x ++ drop t u) (take-take t c.text s.text g.text ∙ g.front);
    }

-- ---- one entry

-- what an entry leaves is in good order, and its code is bytes
left : (q : Ask) (k : Held) → Fine k → Typed (job_of q) → Fine (done q k).held
left q k o t = fine_kept (ask q) (done q k).answer (unfold AllTyped in (t, tt)) refl o

-- a refusal changes nothing
stays : (q : Ask) (k : Held) (x : Res) → InOrder k → done q k ≡ emits k x → (r : Refusal) → x.answer ≡ Err r → (emits k x).held ≡ k
stays q k x o e r i = subst (λ (y : Done). y.held ≡ k) e ((ask_says k q).kept (refusal_number r) (rw e (refused_is k x r i))).0

abbrev with_frames_lem : Held → List Frame → Held
with_frames_lem k fs = record { vm = k.vm; stores = k.stores; lent = with_frames fs k.lent }

-- a run is not under way and not under way
not_running : {A : Type 0} {b : Bool} → b ≡ false → b ≡ true → A
not_running e f = absurd (let z : ◌≡◌ {A = Bool} false true = sym e ∙ f in let y : ◌≡◌ {A = ℕ} 0 1 = cc in let x : ⊥ = omega arith in x)

-- where none is, a machine is made
fine_made : (k : Held) (x : StartRes) → Fine (starts k (unless_running k.vm.run.on k.stores k.lent.frames x)).held → k.vm.run.on ≡ false → Fine (starts k x).held
unfolding unless_running
fine_made k x o off = subst (λ (b : Bool). Fine (starts k (unless_running b k.stores k.lent.frames x)).held) off o

-- ---- the last result

last_by : {t t' : List ℕ} {H H' : List Cell} {l l' : Option Value} → AlikeLast t t' H H' l l' → said_in t H (shown (last_shown l)) ≡ said_in t' H' (shown (last_shown l'))
unfolding said_in last_shown
last_by nothing = refl
last_by (al.is b) = ap value b

module _ {r : Bool} {h d : Held} (a : AlikeHeld r h d) where
  abbrev c : Counts
  c = h.vm.program

  emits_by : (x x' : Res) (e : Result (Counts × ℕ) Refusal) → x.answer ≡ e → AlikeRes x x' → Grows c h.stores x → Grows d.vm.program d.stores x'
      → ((n : Counts) (i : ℕ) → x.answer ≡ Ok (n, i) → h.vm.run.on ≡ false) → ((r : Refusal) → x.answer ≡ Err r → (emits h x).held ≡ h)
      → ((r : Refusal) → x'.answer ≡ Err r → (emits d x').held ≡ d) → Fine (emits h x).held → Fine (emits d x').held
      → AlikeHeld r (emits h x).held (emits d x').held
  unfolding emits machine_in
  emits_by x x' (Ok (n, i)) q l g g' idle same same' o o' =
      let q' : x'.answer ≡ Ok (n, i) = l.answer ∙ q in
      record {
        counts = rw (q, q');
        program = rw (q, q') (l.program n i q);
        stores = l.rooms;
        strict = rw (q, q') a.strict;
        machine = rw (q, q') (later_alike (sane a 0) (beside_sane a 0) (text_begins h n x.stores (g.grown n i q))
            (text_begins d n x'.stores (g'.grown n i q')) (unfold world_of st.world_in in refl) (unfold world_of st.world_in in refl) a.machine);
        on = rw (q, q') a.on;
        under = λ on. not_running (idle n i q) (rw q at on);
        stack = a.stack;
        frames = a.frames;
        copy = a.copy;
        backtrace = a.backtrace;
        cells = a.cells;
        fine = o;
        beside = o';
      }
  emits_by x x' (Err i) q l g g' idle same same' o o' = rw (same i q, same' i (l.answer ∙ q)) a

  abbrev Line : Ask → Type 0
  Line q = AlikeCall r (ask q) (done q h).answer (done q h).held (done q d).answer (done q d).held

  emits_line : (q : Ask) {ws : List ℕ} (x x' : Res) → Typed (job_of q) → job_of q ≡ writes ws → done q h ≡ emits h x → done q d ≡ emits d x' → AlikeRes x x'
      → Grows c h.stores x → Grows d.vm.program d.stores x' → Line q
  unfolding says
  emits_line q x x' b e one other l g g' = record {
    says = rw (e, one, other) (unfold emits said_in in rw l.answer);
    held = rw (one, other) (emits_by x x' x.answer refl l g g' (λ n i w. written_idle h q e (rw one (unfold emits in ap refused_in w)))
        (stays q h x a.fine.order one) (stays q d x' a.beside.order other)
        (subst (λ (y : Done). Fine y.held) one (left q h a.fine b)) (subst (λ (y : Done). Fine y.held) other (left q d a.beside b)));
  }

  -- ---- a machine that has not run

  frames_same : (fs fs' : List Frame) → h.lent.frames ≡ fs → d.lent.frames ≡ fs' → length fs' ≡ length fs
  frames_same fs fs' p q = rw (← p, ← q) a.frames

  unstarted : (fs fs' : List Frame) → h.lent.frames ≡ fs → d.lent.frames ≡ fs' → AlikeHeld r (with_frames_lem h fs) (with_frames_lem d fs')
  unstarted fs fs' p q = rw (← p, ← q) a

  starts_by : (q : Ask) {i : List ℕ} → job_of q ≡ makes i → length d.lent.cells ≡ length h.lent.cells → (x : Result Counts Refusal) (t t' : Stores)
      → AlikeLoaded x x t t' → (fs fs' : List Frame) → h.lent.frames ≡ fs → d.lent.frames ≡ fs'
      → Fine (starts h (start_with x t h.stores fs)).held → Fine (starts d (start_with x t' d.stores fs')).held
      → AlikeCall r (ask q) (starts h (start_with x t h.stores fs)).answer (starts h (start_with x t h.stores fs)).held
      (starts d (start_with x t' d.stores fs')).answer (starts d (start_with x t' d.stores fs')).held
  unfolding starts start_with fresh says said_in
  starts_by k e long (Ok n) t t' l [] [] p q o o' = record { says = rw e; held = unstarted [] [] p q }
  starts_by k e long (Ok n) t t' l [] (r ∷ rs) p q o o' = absurd (let z = frames_same _ _ p q in let y : ⊥ = omega arith in y)
  starts_by k e long (Ok n) t t' l (r ∷ rs) [] p q o o' = absurd (let z = frames_same _ _ p q in let y : ⊥ = omega arith in y)
  starts_by k e long (Ok n) t t' l (r ∷ rs) (r' ∷ rs') p q o o' = record {
    says = rw e;
    held = record {
      counts = refl;
      program = l.program n refl;
      stores = l.rooms;
      strict = refl;
      machine = unfold machine_in vals heap_of cells_from innermost callers_in world_of st.world_in in record {
        stack = none;
        last = nothing;
        frame = refl;
        callers = refl;
        free = rw (places_alike d.lent.cells h.lent.cells long 2);
      };
      on = refl;
      under = λ on. not_running refl on;
      stack = a.stack;
      frames = frames_same _ _ p q;
      copy = a.copy;
      backtrace = a.backtrace;
      cells = λ _. long;
      fine = o;
      beside = o';
    };
  }
  starts_by k e long (Err i) t t' l fs fs' p q o o' = record { says = rw e; held = unstarted fs fs' p q }

  -- where a run is under way, both are refused
  unless_by : (q : Ask) {i : List ℕ} → job_of q ≡ makes i → (running running' : Bool) → running' ≡ running → (x x' : StartRes)
      → (running ≡ false → AlikeCall r (ask q) (starts h x).answer (starts h x).held (starts d x').answer (starts d x').held)
      → AlikeCall r (ask q) (starts h (unless_running running h.stores h.lent.frames x)).answer (starts h (unless_running running h.stores h.lent.frames x)).held
      (starts d (unless_running running' d.stores d.lent.frames x')).answer (starts d (unless_running running' d.stores d.lent.frames x')).held
  unfolding starts unless_running says said_in
  unless_by q e true true s x x' k = record { says = rw e; held = a }
  unless_by q e true false s x x' k = not_running refl s
  unless_by q e false true s x x' k = not_running s refl
  unless_by q e false false s x x' k = k refl

  abbrev made : Result Counts Refusal → Stores → StartRes
  made x t = start_with x t h.stores h.lent.frames

  abbrev beside : Result Counts Refusal → Stores → StartRes
  beside x t = start_with x t d.stores d.lent.frames

  starts_line : (q : Ask) {i : List ℕ} → job_of q ≡ makes i → length d.lent.cells ≡ length h.lent.cells → {x x' : Result Counts Refusal} {t t' : Stores} → AlikeLoaded x x' t t'
      → done q h ≡ starts h (unless_running h.vm.run.on h.stores h.lent.frames (made x t))
      → done q d ≡ starts d (unless_running d.vm.run.on d.stores d.lent.frames (beside x' t'))
      → Typed (job_of q) → Line q
  starts_line q e long {x} {x'} {t} {t'} l one other b =
      let again : AlikeLoaded x x t t' = record { answer = refl; rooms = l.rooms; program = l.program } in
      let o = subst (λ (y : Done). Fine y.held) one (left q h a.fine b) in
      let o' = subst (λ (y : Done). Fine y.held) other (left q d a.beside b) in
      rw (one, other) (unless_by q e h.vm.run.on d.vm.run.on a.on (made x t) (beside x' t') (λ off.
      let p = fine_made h (made x t) o off in
      let p' = fine_made d (beside x' t') o' (a.on ∙ off) in
      rw l.answer (starts_by q e long x t t' again h.lent.frames d.lent.frames refl refl p (rw l.answer at p'))))

  -- ---- the setting

  set_by_lem : (b running running' : Bool) → running' ≡ running → h.vm.run.on ≡ running
      → Fine (changes h (set_by b true running h.vm)).held → Fine (changes d (set_by b true running' d.vm)).held
      → AlikeCall r (ask (set_strict b)) (changes h (set_by b true running h.vm)).answer (changes h (set_by b true running h.vm)).held
      (changes d (set_by b true running' d.vm)).answer (changes d (set_by b true running' d.vm)).held
  unfolding changes says said_in job_of
  set_by_lem b true true e off o o' = record { says = refl; held = a }
  set_by_lem b true false e off o o' = not_running refl e
  set_by_lem b false true e off o o' = not_running e refl
  set_by_lem b false false e off o o' = record {
    says = refl;
    held = record {
      counts = a.counts;
      program = a.program;
      stores = a.stores;
      strict = refl;
      machine = unfold machine_in world_of st.world_in in record {
        stack = a.machine.stack;
        last = a.machine.last;
        frame = a.machine.frame;
        callers = a.machine.callers;
        free = a.machine.free;
      };
      on = a.on;
      under = λ on. not_running off on;
      stack = a.stack;
      frames = a.frames;
      copy = a.copy;
      backtrace = a.backtrace;
      cells = a.cells;
      fine = o;
      beside = o';
    };
  }

  -- both are in good order
  set_line : (b : Bool) → Line (set_strict b)
  unfolding done
  set_line b =
      let here : setStrictOf b h.vm h.stores h.lent ≡ set_by b true h.vm.run.on h.vm = rw (set_is b h.vm h.stores h.lent, a.fine.order.machine) in
      let there : setStrictOf b d.vm d.stores d.lent ≡ set_by b true d.vm.run.on d.vm = rw (set_is b d.vm d.stores d.lent, a.beside.order.machine) in
      let o = left (set_strict b) h a.fine (unfold job_of in tt) in
      let o' = left (set_strict b) d a.beside (unfold job_of in tt) in
      rw (here, there) (set_by_lem b h.vm.run.on d.vm.run.on a.on refl (rw here at o) (rw there at o'))

  -- ---- entries that only look

  looks_line : (q : Ask) (x y : Answer) → job_of q ≡ looks → done q h ≡ seen h x → done q d ≡ seen d y
      → said_in (world_in h).text (machine_of h).heap x ≡ said_in (world_in d).text (machine_of d).heap y → Line q
  unfolding says
  looks_line q x y e one other g = record { says = rw (e, one, other) (unfold seen in g); held = rw (one, other) (unfold seen in a) }

  own_line : (q : Ask) (x y : Answer) → job_of q ≡ handed → done q h ≡ seen h x → done q d ≡ seen d y → Line q
  unfolding says
  own_line q x y e one other = record { says = rw e; held = rw (one, other) (unfold seen in a) }

  -- the frames are the same
  here : Standing h.vm h.lent
  here = standing h.vm h.stores h.lent a.fine.order.machine

  there : Standing d.vm d.lent
  there = standing d.vm d.stores d.lent a.beside.order.machine

  frame_count : d.vm.frames ≡ h.vm.frames
  unfolding machine_in
  frame_count =
      sym (fx.counted d.vm.frames d.lent.frames there.exact.frames there.frames) ∙ ap (λ (c : List Frame). suc (length c)) a.machine.callers
      ∙ fx.counted h.vm.frames h.lent.frames here.exact.frames here.frames

  frame_store_lem : Alike h.vm.frames h.lent.frames d.lent.frames
  unfolding machine_in
  frame_store_lem = record {
    front = split h.vm.frames h.lent.frames here.exact.frames here.frames
        ∙ ap (λ (c : List Frame). reverse c ++ innermost h.vm.frames h.lent.frames ∷ []) (sym a.machine.callers)
        ∙ ap (λ (f : Frame). reverse (callers_in d.vm.frames d.lent.frames) ++ f ∷ []) (sym a.machine.frame)
        ∙ sym (split d.vm.frames d.lent.frames there.exact.frames there.frames)
        ∙ ap (λ (k : ℕ). take k d.lent.frames) frame_count;
    room = sym a.frames;
  }

  same_slots : places 2 h.lent.stack ≡ places 2 d.lent.stack
  same_slots = places_same 2 h.lent.stack d.lent.stack (sym a.stack)

  trace_told : (out : List ℕ) → backtrace_in h.vm h.stores h.lent.stack h.lent.frames out ≡ backtrace_in d.vm d.stores d.lent.stack d.lent.frames out
  trace_told out =
      trace_alike h.vm h.stores h.lent.stack d.lent.stack same_slots frame_store_lem out ∙ sym (trace_same (one_program a) h.vm refl d.lent.stack d.lent.frames out)
      ∙ (unfold backtrace_in trace_order in rw (a.counts, frame_count))

  -- the last result
  last_said : said_in (world_in h).text (machine_of h).heap (shown (last_result_of h.vm)) ≡ said_in (world_in d).text (machine_of d).heap (shown (last_result_of d.vm))
  unfolding last_result_of machine_in
  last_said = last_by a.machine.last

  -- a value of the stack
  stacks : Boths (world_in h).text (world_in d).text (machine_of h).heap (machine_of d).heap (machine_of h).stack (machine_of d).stack
  stacks = boths_of a.machine.stack (sane a 0).placed (beside_sane a 0).placed

  stack_count : d.vm.stack ≡ h.vm.stack
  unfolding machine_in
  stack_count = sym (length_vals d.vm.stack d.lent.stack) ∙ sym (length_alike _ _ _ _ stacks) ∙ length_vals h.vm.stack h.lent.stack

  slot_means : (i : ℕ) → i < h.vm.stack → meaning (world_in h).text (machine_of h).heap (value_at h.lent.stack i) ≡ meaning (world_in d).text (machine_of d).heap (value_at d.lent.stack i)
  unfolding machine_in world_of
  slot_means i l =
      let z = length_vals h.vm.stack h.lent.stack in
      let b = at_alike _ _ _ _ stacks (h.vm.stack - suc i) (omega arith) in
      rw (vals_slot h.vm.stack h.lent.stack i (v.Boolean false) l, ← stack_count, vals_slot d.vm.stack d.lent.stack i (v.Boolean false) (rw stack_count l)) at b.alike

  slot_said : (i : ℕ) (b : Bool) → ltb i h.vm.stack ≡ b
      → said_in (world_in h).text (machine_of h).heap (shown (stack_value_of h.vm i h.lent.stack)) ≡ said_in (world_in d).text (machine_of d).heap (shown (stack_value_of d.vm i d.lent.stack))
  unfolding said_in
  slot_said i true e = rw (stack_told h a.fine.order i true e, stack_told d a.beside.order i true (rw stack_count e)) (ap value (slot_means i (ltb-true _ _ e)))
  slot_said i false e = rw (stack_told h a.fine.order i false e, stack_told d a.beside.order i false (rw stack_count e))

  -- ---- a line for each

  one : OneProgram c h.stores d.stores
  one = one_program a

  abbrev running : Bool
  running = h.vm.run.on

  -- code that is written
  code_line : (q : Ask) {ws : List ℕ} (op : ℕ) (bytes : List ℕ) (place : ℕ) → Typed (job_of q) → job_of q ≡ writes ws → done q h ≡ emits h (emit_of running c op bytes place h.stores)
      → done q d ≡ emits d (emit_of d.vm.run.on d.vm.program op bytes place d.stores) → Line q
  code_line q op bytes place b e here there =
      emits_line q _ _ b e here there (rw (a.counts, a.on) (emit_alike one running op bytes place)) (emit_grows _ _ _ _ _ _ one.ok) (emit_grows _ _ _ _ _ _ a.beside.order.program)

  pub ask_said : (q : Ask) → Typed (job_of q) → (is_makes (job_of q) ≡ true → r ≡ true) → Line q
  unfolding done job_of new_machine_of load_machine_of add_op_of add_op1_of add_op2_of add_op3_of said_in
  ask_said new b n = starts_line new refl (a.cells (n refl)) (new_alike h.stores d.stores a.stores) refl refl b
  ask_said (load image) b n = starts_line (load image) refl (a.cells (n refl)) (load_alike h.stores d.stores a.stores image b) refl refl b
  ask_said (add_op op place) b n = code_line _ _ _ _ b refl refl refl
  ask_said (add_op1 op x place) b n = code_line _ _ _ _ b refl refl refl
  ask_said (add_op2 op x y place) b n = code_line _ _ _ _ b refl refl refl
  ask_said (add_op3 op x y z place) b n = code_line _ _ _ _ b refl refl refl
  ask_said (patch offset word) b n = emits_line _ _ _ b refl refl refl (rw (a.counts, a.on) (patch_alike one running _ _)) (patch_grows _ _ _ _ _) (patch_grows _ _ _ _ _)
  ask_said (add_constant x text) b n = emits_line _ _ _ b refl refl refl (rw (a.counts, a.on) (constant_alike one running _ _)) (constant_grows _ _ _ _ _) (constant_grows _ _ _ _ _)
  ask_said (add_struct text) b n = emits_line _ _ _ b refl refl refl (rw (a.counts, a.on) (struct_alike one running _)) (struct_grows _ _ _ _) (struct_grows _ _ _ _)
  ask_said (begin_function text) b n = emits_line _ _ _ b refl refl refl (rw (a.counts, a.on) (begin_alike one running _)) (begin_grows _ _ _ _) (begin_grows _ _ _ _)
  ask_said end_function b n = emits_line _ _ _ b refl refl refl (rw (a.counts, a.on) (end_alike one running)) (end_grows _ _ _) (end_grows _ _ _)
  ask_said (set_strict x) b n = set_line x
  ask_said current_offset b n = looks_line _ _ _ refl refl refl (rw (a.counts, offset_same one))
  ask_said (function_idx text) b n = looks_line _ _ _ refl refl refl (rw (a.counts, index_same one text))
  ask_said (save out) b n = looks_line _ _ _ refl refl refl (rw (a.counts, save_same one out))
  ask_said (disassemble out) b n = looks_line _ _ _ refl refl refl (rw (a.counts, list_same one out))
  ask_said (backtrace out) b n = looks_line _ _ _ refl refl refl (rw (trace_told out))
  ask_said last_result b n = looks_line _ _ _ refl refl refl last_said
  ask_said (stack_value i) b n = looks_line _ _ _ refl refl refl (slot_said i _ refl)
  ask_said (block_header x) b n = own_line _ _ _ refl refl refl
  ask_said (element x i) b n = own_line _ _ _ refl refl refl
  ask_said (text_bytes x out) b n = own_line _ _ _ refl refl refl
