-- Demand 1: the checks of each entry are those of its rule.
use Rattle.std.specs.Prelude.{if◌then◌else◌, Err, None, Ok, Option, Result, Some}
use mathlib.Core.Path.{◌≡◌, refl, sym, ap, ◌∙◌}
use mathlib.Core.Bool.{Bool, true, false, not, ◌&&◌, ◌||◌}
use mathlib.Core.List.{List, [], ◌∷◌}
use mathlib.Core.Option.{Option as Maybe, none, some}
use Prim.Native.Nat.{ℕ, suc, ◌+◌, ◌/◌, ◌≤◌, min}
use native.Mathlib.Omega.{arith}
use lib.Dec.{leb}
use lib.ListN.{length, drop, length-drop}
use lib.Seq.{length-take-le}
use borrow.Author.Tests.{leb-true}
use Rattle.model.specs.declared.Constant.{Constant}
use Rattle.model.specs.declared.Constant.TheVariants as k
use Rattle.model.specs.declared.Value.{Value}
use Rattle.model.specs.declared.Value.TheVariants as v
use Rattle.model.specs.declared.Counts.{Counts}
use Rattle.model.specs.declared.Frame.{Frame}
use Rattle.model.specs.Answers.{refusal_number}
use Rattle.model.specs.Values.{if_string, if_reference, places, kind_at, payload_at, exact_value, text_at}
use Rattle.model.specs.Heap.{Cell}
use Rattle.model.specs.Programs.{Function, name_limit, within_limits}
use Rattle.model.specs.Images.{Judged, fine, broken, judge}
use Rattle.model.specs.Listings.{Listed, text, unlisted}
use Rattle.model.specs.Runs.{traceable, Traced, backtrace_of, Part}
use Rattle.model.specs.Stores.{Stores}
use Rattle.model.specs.Orders.{text_ok}
use Rattle.model.specs.Emission.{Res, refuse, text_room, new_of, u16, appended, emit_in, emit_of, add_op_of, add_op1_of, add_op2_of, add_op3_of, current_offset_of, patched, patch_of, with_constant, with_text_constant, constant_added, add_constant_of, struct_added, struct_found, add_struct_of, begun, begin_function_of, end_function_of, told_name, function_idx_of}
use Rattle.model.specs.Loading.{room_for, LoadRes, load_judged, load_of, OutRes, put_out, save_of, put_listing, list_of}
use Rattle.model.specs.Machines.{Unchanged, RunAnswer, ran, refused, RunCall, begins, continues, abandons, begin_answer, continue_answer, abandon_answer, run_answer, set_strict as setStrictOf, put_trace, backtrace_in, StartRes, start_with, unless_running, as_loaded, load_machine_of, new_machine_of}
use Rattle.model.specs.Readers.{last_shown, last_result_of, value_shown, stack_value_of, header_at, header_shown, block_header_of, element_shown, element_of, text_shown, reads_text, text_bytes_of}
use Rattle.value.proofs.Coding.{and_left, and_right}
use Rattle.demands.specs.Host.{Held, Ask, new, load, add_op, add_op1, add_op2, add_op3, patch, add_constant, add_struct, begin_function, end_function, set_strict, current_offset, function_idx, save, disassemble, backtrace, last_result, stack_value, block_header, element, text_bytes, Call, run, ask, Answer, told, put, shown, headed, Done, with_frames, emits, starts, changes, looks, done, RanBy, After}
use Rattle.demands.specs.Refusals.{Check, must, must_not, first_of, is_none, is_empty, code_checks, has_text, writing, load_checks, new_name, fits_out, list_checks, no_last, exact_at, element_checks, text_checks, ask_checks, run_checks, checks, refused_run, refused_by, OutKept, Demand1}
use Rattle.demands.proofs.Went.{answers, stays}
use Rattle.model.specs.declared.Header.{Header}
use Rattle.model.specs.declared.Refusal.{Refusal}
use Rattle.model.specs.declared.Refusal.TheVariants as why

-- what a refusal n leaves
record RefusedBy (h : Held) (n : ℕ) (d : Done) : Type 0 where
  number : refused_by d.answer ≡ some n
  held : d.held ≡ h
  out : OutKept d.answer

-- d is refused by the first check that fails, and a refusal changes nothing
pub record Says (h : Held) (cs : List Check) (d : Done) : Type 0 where
  pub number : refused_by d.answer ≡ first_of cs
  pub kept : (n : ℕ) → refused_by d.answer ≡ some n → (d.held ≡ h) × OutKept d.answer

module _ {A : Type 0} (f : A → Done) (h : Held) where
  -- a test that must hold
  pass_then : (b : Bool) {n : ℕ} {cs : List Check} {x y : A} → RefusedBy h n (f y) → (b ≡ true → Says h cs (f x)) → Says h (must b n ∷ cs) (f (if b then x else y))
  unfolding first_of
  pass_then true r s = record { number = (s refl).number; kept = (s refl).kept }
  pass_then false r s = record { number = r.number; kept = λ m e. (r.held, r.out) }

  pass_if : (b : Bool) {n : ℕ} {cs : List Check} {x y : A} → RefusedBy h n (f y) → Says h cs (f x) → Says h (must b n ∷ cs) (f (if b then x else y))
  pass_if b r s = pass_then b r (λ e. s)

  -- a test that must not hold
  stop_if : (b : Bool) {n : ℕ} {cs : List Check} {x y : A} → RefusedBy h n (f x) → Says h cs (f y) → Says h (must_not b n ∷ cs) (f (if b then x else y))
  unfolding first_of
  stop_if true r s = record { number = r.number; kept = λ m e. (r.held, r.out) }
  stop_if false r s = record { number = s.number; kept = s.kept }

-- done
says_none : {h : Held} {d : Done} → refused_by d.answer ≡ none → Says h [] d
unfolding first_of
says_none e = record { number = e; kept = λ n q. absurd (let z : ◌≡◌ {A = ℕ} 0 1 = cc in let y : ⊥ = omega arith in y) }

-- refused at once
says_first : {h : Held} {d : Done} {n : ℕ} {cs : List Check} → RefusedBy h n d → Says h (must_not true n ∷ cs) d
unfolding first_of
says_first r = record { number = r.number; kept = λ m e. (r.held, r.out) }

-- checks that cannot fail
says_more : {h : Held} {d : Done} {n : ℕ} {cs : List Check} → Says h cs d → Says h (must_not false n ∷ cs) d
unfolding first_of
says_more s = record { number = s.number; kept = s.kept }

says_held : {h : Held} {d : Done} {n : ℕ} {cs : List Check} → Says h cs d → Says h (must true n ∷ cs) d
unfolding first_of
says_held s = record { number = s.number; kept = s.kept }

module _ (h : Held) where
  -- ---- emission

  emit_refused : (e : Refusal) → RefusedBy h (refusal_number e) (emits h (refuse e h.stores))
  unfolding emits
  emit_refused e = record { number = refl; held = refl; out = tt }

  emit_done : (c : Counts) (n : ℕ) (s : Stores) → Says h [] (emits h (record { answer = Ok (c, n); stores = s }))
  unfolding emits
  emit_done c n s = says_none refl

  -- good order first, and then that no run is under way
  write_says : (inOrder : Bool) {cs : List Check} (x : Res) → Says h cs (emits h x)
      → Says h (writing h inOrder cs) (emits h (if inOrder then (if h.vm.run.on then refuse why.RunUnderWay h.stores else x) else refuse why.NotInOrder h.stores))
  write_says inOrder x s = pass_if (emits h) h inOrder (emit_refused why.NotInOrder) (stop_if (emits h) h h.vm.run.on (emit_refused why.RunUnderWay) s)

  code_says : (op : ℕ) (bytes : List ℕ) (place : ℕ) → Says h (code_checks h op (length bytes)) (emits h (emit_of h.vm.run.on h.vm.program op bytes place h.stores))
  unfolding code_checks emit_of emit_in appended
  code_says op bytes place =
      write_says _ _ (stop_if (emits h) h _ (emit_refused why.OverLimit) (stop_if (emits h) h _ (emit_refused why.StoreFull) (stop_if (emits h) h _ (emit_refused why.UnknownOpcode) (emit_done _ _ _))))

  constant_says : (x : Constant) (lent : List ℕ)
      → Says h (must (not (has_text x) || text_room h.vm.program h.stores (length lent)) 21 ∷ []) (emits h (constant_added h.vm.program x lent h.stores))
  unfolding constant_added with_constant with_text_constant
  constant_says (k.Scalar x) lent = says_held (emit_done _ _ _)
  constant_says (k.Boolean x) lent = says_held (emit_done _ _ _)
  constant_says k.String lent = pass_if (emits h) h (text_room h.vm.program h.stores (length lent)) (emit_refused why.StoreFull) (emit_done _ _ _)
  constant_says k.FunctionReference lent = pass_if (emits h) h (text_room h.vm.program h.stores (length lent)) (emit_refused why.StoreFull) (emit_done _ _ _)

  struct_says : (name : List ℕ) (x : Maybe ℕ)
      → Says h (must_not (is_none x && leb name_limit h.vm.program.structs) 22
      ∷ must_not (is_none x && leb (places 2 h.stores.structs) h.vm.program.structs) 21
      ∷ must (not (is_none x) || text_room h.vm.program h.stores (length name)) 21
      ∷ [])
      (emits h (struct_found h.vm.program name h.stores x))
  unfolding struct_found struct_added
  struct_says name none = stop_if (emits h) h _ (emit_refused why.OverLimit)
      (stop_if (emits h) h _ (emit_refused why.StoreFull) (pass_if (emits h) h (text_room h.vm.program h.stores (length name)) (emit_refused why.StoreFull) (emit_done _ _ _)))
  struct_says name (some i) = says_more (says_more (says_held (emit_done _ _ _)))

  -- ---- making a machine

  start_refused : (e : Refusal) → RefusedBy h (refusal_number e) (starts h (start_with (Err e) h.stores h.stores h.lent.frames))
  unfolding starts start_with
  start_refused e = record { number = refl; held = refl; out = tt }

  -- the frame comes last
  frame_by : (c : Counts) (s' : Stores) (fs : List Frame) → h.lent.frames ≡ fs → Says h (must_not (is_empty fs) 21 ∷ []) (starts h (start_with (Ok c) s' h.stores fs))
  unfolding starts start_with
  frame_by c s' [] q = says_first (record { number = refl; held = ap (λ (x : List Frame). record { vm = h.vm; stores = h.stores; lent = with_frames x h.lent }) (sym q); out = tt })
  frame_by c s' (f ∷ fs) q = says_more (says_none refl)

  frame_says : (c : Counts) (s' : Stores) → Says h (must_not (is_empty h.lent.frames) 21 ∷ []) (starts h (start_with (Ok c) s' h.stores h.lent.frames))
  frame_says c s' = frame_by c s' h.lent.frames refl

  -- no run is under way: before all else
  make_by : (running : Bool) {cs : List Check} (x : StartRes) → Says h cs (starts h x) → Says h (must_not running 25 ∷ cs) (starts h (unless_running running h.stores h.lent.frames x))
  unfolding unless_running start_with
  make_by true x s = says_first (start_refused why.RunUnderWay)
  make_by false x s = says_more s

  new_says : Says h (ask_checks new h) (starts h (new_machine_of h.vm.run.on h.stores h.lent.frames))
  unfolding ask_checks new_machine_of new_of as_loaded
  new_says =
      make_by h.vm.run.on _
      (pass_if (λ (x : Res). starts h (start_with (as_loaded x.answer) x.stores h.stores h.lent.frames)) h _ (start_refused why.StoreFull) (frame_says _ _))

  load_by : (x : Judged) → Says h (load_checks h x) (starts h (start_with (load_judged x h.stores).answer (load_judged x h.stores).stores h.stores h.lent.frames))
  unfolding load_checks load_judged
  load_by (broken i) = says_first (start_refused (why.BrokenImage i))
  load_by (fine p) =
      let f : LoadRes → Done = λ x. starts h (start_with x.answer x.stores h.stores h.lent.frames) in
      pass_if f h (within_limits p) (start_refused why.OverLimit) (pass_if f h (room_for p h.stores) (start_refused why.StoreFull) (frame_says _ _))

  -- ---- the setting

  change_refused : (e : Refusal) → RefusedBy h (refusal_number e) (changes h (Err e))
  unfolding changes
  change_refused e = record { number = refl; held = refl; out = tt }

  set_says : (b : Bool) → Says h (ask_checks (set_strict b) h) (changes h (setStrictOf b h.vm h.stores h.lent))
  unfolding ask_checks setStrictOf changes
  set_says b = pass_if (changes h) h _ (change_refused why.NotInOrder) (stop_if (changes h) h _ (change_refused why.RunUnderWay) (says_none refl))

  -- ---- entries that only look

  abbrev tells : Result ℕ Refusal → Done
  tells x = looks h (told x)

  abbrev shows : Result Value Refusal → Done
  shows x = looks h (shown x)

  abbrev heads : Result Header Refusal → Done
  heads x = looks h (headed x)

  abbrev puts : List ℕ → OutRes → Done
  puts out x = looks h (put out x)

  looked : (a : Answer) {n : ℕ} → refused_by a ≡ some n → OutKept a → RefusedBy h n (looks h a)
  unfolding looks
  looked a e o = record { number = e; held = refl; out = o }

  saw : (a : Answer) → refused_by a ≡ none → Says h [] (looks h a)
  unfolding looks
  saw a e = says_none e

  name_says : (x : Maybe ℕ) → Says h (must_not (is_none x) 14 ∷ []) (tells (told_name x))
  unfolding told_name
  name_says none = says_first (looked _ refl tt)
  name_says (some i) = says_more (saw _ refl)

  out_says : (out bytes : List ℕ) → Says h (must (fits_out out (length bytes)) 17 ∷ []) (puts out (put_out bytes out))
  unfolding fits_out put_out
  out_says out bytes = pass_if (puts out) h (leb (length bytes) (places 1 out)) (looked _ refl refl) (saw _ refl)

  listing_says : (out : List ℕ) (x : Listed) → Says h (list_checks out x) (puts out (put_listing x out))
  unfolding list_checks put_listing
  listing_says out (text bytes) = out_says out bytes
  listing_says out (unlisted before e) = says_first (looked _ refl refl)

  trace_says : (out : List ℕ) (fs : List Function) (rs : List Frame) → Says h (must (traceable fs rs) 16 ∷ []) (puts out (put_trace (backtrace_of fs rs) out))
  unfolding backtrace_of put_trace
  trace_says out fs rs = pass_if (λ (x : Traced). puts out (put_trace x out)) h (traceable fs rs) (looked _ refl refl) (saw _ refl)

  last_says : (x : Option Value) → Says h (must_not (no_last x) 7 ∷ []) (shows (last_shown x))
  unfolding last_shown
  last_says None = says_first (looked _ refl tt)
  last_says (Some x) = says_more (saw _ refl)

  header_says : (H : List Cell) (x : Maybe ℕ) → Says h (must_not (is_none x) 5 ∷ []) (heads (header_shown H x))
  unfolding header_shown
  header_says H none = says_first (looked _ refl tt)
  header_says H (some p) = says_more (saw _ refl)

  value_says : (s : List ℕ) (i : ℕ) → Says h (must (exact_at s i) 19 ∷ []) (shows (value_shown s i))
  unfolding exact_at value_shown
  value_says s i = pass_if shows h (exact_value (kind_at s i) (payload_at s i)) (looked _ refl tt) (saw _ refl)

  element_says : (i : ℕ) (x : Maybe ℕ) → Says h (element_checks h i x) (shows (element_shown h.vm i h.lent.cells x))
  unfolding element_checks element_shown
  element_says i none = says_first (looked _ refl tt)
  element_says i (some p) = pass_if shows h _ (looked _ refl tt) (pass_if shows h _ (looked _ refl tt) (value_says h.lent.cells (suc p + i)))

  text_length : (o n : ℕ) → leb (o + n) h.vm.program.text ≡ true → text_ok h.vm.program h.stores.text ≡ true → length (text_at h.stores.text o n) ≡ n
  unfolding text_ok places text_at
  text_length o n e q =
      let x : o + n ≤ h.vm.program.text = leb-true _ _ e in
      let y : h.vm.program.text ≤ min (length h.stores.text / 1) 0xFFFF_FFFF = leb-true _ _ q in
      length-take-le n (drop o h.stores.text) (omega (arith, length-drop o h.stores.text))

  bytes_says : (out : List ℕ) (o n : ℕ) → leb (o + n) h.vm.program.text ≡ true → text_ok h.vm.program h.stores.text ≡ true
      → Says h (must (fits_out out n) 17 ∷ []) (puts out (put_out (text_at h.stores.text o n) out))
  bytes_says out o n e q = rw (text_length o n e q) at (out_says out (text_at h.stores.text o n))

  text_says : (out : List ℕ) (x : Value) → text_ok h.vm.program h.stores.text ≡ true → reads_text h.vm x ≡ true → Says h (text_checks out x) (puts out (text_shown h.stores.text out x))
  unfolding text_shown reads_text if_string if_reference
  text_says out (v.Scalar x) q e = says_first (looked _ refl refl)
  text_says out (v.Boolean x) q e = says_first (looked _ refl refl)
  text_says out (v.String o n) q e = bytes_says out o n e q
  text_says out (v.FunctionReference o n) q e = bytes_says out o n e q
  text_says out (v.List p) q e = says_first (looked _ refl refl)
  text_says out (v.StructInstance p) q e = says_first (looked _ refl refl)

  -- ---- a line for each entry

  pub ask_says : (q : Ask) → Says h (ask_checks q h) (done q h)
  unfolding ask_checks done new_name load_machine_of load_of add_op_of add_op1_of add_op2_of add_op3_of u16 patch_of patched add_constant_of add_struct_of begin_function_of begun end_function_of current_offset_of function_idx_of save_of list_of backtrace_in last_result_of stack_value_of block_header_of element_of text_bytes_of
  ask_says new = new_says
  ask_says (load image) = make_by h.vm.run.on _ (load_by (judge image))
  ask_says (add_op op place) = code_says op (op ∷ []) place
  ask_says (add_op1 op a place) = code_says op _ place
  ask_says (add_op2 op a b place) = code_says op _ place
  ask_says (add_op3 op a b c place) = code_says op _ place
  ask_says (patch offset word) = write_says _ _ (stop_if (emits h) h _ (emit_refused why.PatchOutsideCode) (emit_done _ _ _))
  ask_says (add_constant x bytes) = write_says _ _ (stop_if (emits h) h _ (emit_refused why.OverLimit) (stop_if (emits h) h _ (emit_refused why.StoreFull) (constant_says x bytes)))
  ask_says (add_struct name) = write_says _ _ (struct_says name _)
  ask_says (begin_function name) =
      write_says _ _ (stop_if (emits h) h _ (emit_refused why.OverLimit) (stop_if (emits h) h _ (emit_refused why.StoreFull) (pass_if (emits h) h _ (emit_refused why.StoreFull) (emit_done _ _ _))))
  ask_says end_function =
      let f : Result (Counts × ℕ) Refusal → Done = λ x. emits h (record { answer = x; stores = h.stores }) in
      pass_if f h _ (emit_refused why.NotInOrder) (stop_if f h h.vm.run.on (emit_refused why.RunUnderWay) (emit_done _ _ _))
  ask_says (set_strict b) = set_says b
  ask_says current_offset = pass_if tells h _ (looked _ refl tt) (saw _ refl)
  ask_says (function_idx name) = pass_if tells h _ (looked _ refl tt) (name_says _)
  ask_says (save out) = pass_if (puts out) h _ (looked _ refl refl) (out_says out _)
  ask_says (disassemble out) = pass_if (puts out) h _ (looked _ refl refl) (listing_says out _)
  ask_says (backtrace out) = pass_if (puts out) h _ (looked _ refl refl) (stop_if (puts out) h _ (looked _ refl refl) (trace_says out _ _))
  ask_says last_result = last_says h.vm.last
  ask_says (stack_value i) = pass_if shows h _ (looked _ refl tt) (pass_if shows h _ (looked _ refl tt) (value_says h.lent.stack i))
  ask_says (block_header x) = pass_if heads h _ (looked _ refl tt) (header_says _ _)
  ask_says (element x i) = pass_if shows h _ (looked _ refl tt) (element_says i (header_at x))
  ask_says (text_bytes x out) =
      let a = text_ok h.vm.program h.stores.text in
      let b = reads_text h.vm x in
      pass_then (puts out) h (a && b) (looked _ refl refl) (λ e. text_says out x (and_left a b e) (and_right a b e))

-- ---- the calls of a run

begin_number : (order on short : Bool) (c : Unchanged) (x : Part)
    → refused_run (if order then (if on then refused 25 else (if short then refused 17 else ran c x)) else refused 19) ≡ first_of (must order 19 ∷ must_not on 25 ∷ must_not short 17 ∷ [])
unfolding first_of
begin_number true true short c x = refl
begin_number true false true c x = refl
begin_number true false false c x = refl
begin_number false on short c x = refl

continue_number : (order on short much : Bool) (c : Unchanged) (x : Part)
    → refused_run (if order then (if on then (if short then refused 17 else (if much then refused 22 else ran c x)) else refused 18) else refused 19)
    ≡ first_of (must order 19 ∷ must on 18 ∷ must_not short 17 ∷ must_not much 22 ∷ [])
unfolding first_of
continue_number true true true much c x = refl
continue_number true true false true c x = refl
continue_number true true false false c x = refl
continue_number true false short much c x = refl
continue_number false on short much c x = refl

abandon_number : (order on short : Bool) (c : Unchanged) (x : Part)
    → refused_run (if order then (if on then (if short then refused 17 else ran c x) else refused 18) else refused 19) ≡ first_of (must order 19 ∷ must on 18 ∷ must_not short 17 ∷ [])
unfolding first_of
abandon_number true true true c x = refl
abandon_number true true false c x = refl
abandon_number true false short c x = refl
abandon_number false on short c x = refl

pub run_number_lem : (c : RunCall) (h : Held) → refused_run (run_answer c h.vm h.stores h.lent) ≡ first_of (run_checks c h)
unfolding run_answer begin_answer continue_answer abandon_answer run_checks
run_number_lem begins h = begin_number _ _ _ _ _
run_number_lem (continues u) h = continue_number _ _ _ _ _ _
run_number_lem abandons h = abandon_number _ _ _ _ _

was_refused : (x : RunAnswer) (n : ℕ) → refused_run x ≡ some n → x ≡ refused n
was_refused (ran c x) n e = absurd (let z : ◌≡◌ {A = ℕ} 0 1 = cc in let y : ⊥ = omega arith in y)
was_refused (refused i) n e = let z : i ≡ n = cc in rw z

run_says : {c : RunCall} {h h' : Held} {a : Answer} → RanBy c h a h' → Demand1 (run c) h a h'
unfolding checks
run_says {c} {h} p =
    let x = run_answer c h.vm h.stores h.lent in
    record {
      number = ap refused_by (answers p) ∙ run_number_lem c h;
      kept = λ n e. (stays p n (was_refused x n (sym (ap refused_by (answers p)) ∙ e)), rw (answers p) tt);
    }

-- DEMAND 1: each call is refused by the first of its checks that fails, and by no other number; a refusal changes nothing
pub refuses : (c : Call) {h h' : Held} {a : Answer} → After c h a h' → Demand1 c h a h'
unfolding checks
refuses (run c) p = run_says p
refuses (ask q) {h} p = let s : Says h (ask_checks q h) (record { answer = _; held = _ }) = rw p at (ask_says h q) in record { number = s.number; kept = s.kept }
