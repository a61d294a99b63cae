-- Code stays bytes, whatever calls come; so does good order (`fine_kept`).
use Rattle.std.specs.Prelude.{if◌then◌else◌, Err, Ok, Result}
use mathlib.Core.Path.{◌≡◌, refl, sym, subst}
use mathlib.Core.Bool.{Bool, true, false, ◌&&◌}
use mathlib.Core.List.{List, [], ◌∷◌, ◌++◌}
use mathlib.Core.Option.{Option, none, some}
use Prim.Native.Nat.{ℕ, suc, ◌+◌, ◌<◌}
use native.Mathlib.Omega.{arith}
use borrow.Author.Tests.{leb-false, eqb-true, eqb-false}
use lib.Dec.{eqb, leb, ltb}
use lib.ListN.{length, get_or, set, length-set, drop, replicate}
use lib.Seq.{sets, get_or-set_same, get_or-set_other}
use Rattle.model.specs.declared.Counts.{Counts}
use Rattle.model.specs.declared.Constant.{Constant}
use Rattle.model.specs.declared.Constant.TheVariants as k
use Rattle.model.specs.declared.Frame.{Frame}
use Rattle.model.specs.Numbers.{Bytes, digits}
use Rattle.model.specs.Values.{places}
use Rattle.model.specs.Programs.{Program, Function, function_at, code_limit, constant_limit, name_limit, within_limits}
use Rattle.model.specs.Images.{joined, counted, text_image, constant_image, runs_of, run_image, function_image, image_of, Judged, fine, broken, judge}
use Rattle.model.specs.Stores.{Stores, code_here, places_here, with_code}
use Rattle.model.specs.Emission.{Res, refuse, counts, written, u16, text_room, size_here, end_here, code_room, appended, code_order, emit_in, emit_of, patch_order, patched, patch_of, with_constant, with_text_constant, constant_added, constant_order, add_constant_of, struct_added, struct_found, struct_order, add_struct_of, function_order, begun, begin_function_of, new_of, add_op_of, add_op1_of, add_op2_of, add_op3_of}
use Rattle.model.specs.Emission as e
use Rattle.model.specs.Machines.{StartRes, start_with, unless_running, new_machine_of, load_machine_of}
use Rattle.model.specs.Loading.{LoadRes, main_of, others_of, laid, counts_for, room_for, load_judged, load_of}
use Rattle.layout.proofs.Bools.{either_way}
use Rattle.laws_images.proofs.Codecs.{bytes_front, bytes_rest}
use Rattle.image.proofs.Trip.{image_only}
use Rattle.laws_runs.specs.Ordered.{CodeBytes}
use Rattle.demands.specs.Host.{Held, Ask, new, load, add_op, add_op1, add_op2, add_op3, patch, add_constant, add_struct, begin_function, end_function, set_strict, current_offset, function_idx, save, disassemble, backtrace, last_result, stack_value, block_header, element, text_bytes, Call, run, ask, Answer, Done, emits, starts, changes, looks, done, After}
use Rattle.demands.specs.Jobs.{job_of, Below, Typed, AllTyped}
use Rattle.demands.specs.Meant.{Fine}
use Rattle.demands.proofs.Orderly.{order_kept}
use Rattle.model.specs.declared.Refusal.{Refusal}
use Rattle.model.specs.declared.Refusal.TheVariants as why

-- ---- a store of bytes

abbrev InBytes : List ℕ → Type 0
InBytes l = (j : ℕ) → j < length l → get_or l j 0 < 256

set_bytes : (l : List ℕ) (i x : ℕ) → x < 256 → InBytes l → InBytes (set l i x)
set_bytes l i x h b j m =
    let n : j < length l = subst (λ (k : ℕ). j < k) (length-set l i x) m in
    either_way (eqb j i)
    (λ e. let z : j ≡ i = eqb-true j i e in subst (λ (k : ℕ). get_or (set l i x) k 0 < 256) (sym z) (rw (get_or-set_same l i x 0 (subst (λ (k : ℕ). k < length l) z n)) h))
    (λ e. rw (get_or-set_other l i j x 0 (eqb-false j i e)) (b j n))

sets_bytes : (vs l : List ℕ) (i : ℕ) → Bytes vs → InBytes l → InBytes (sets l i vs)
unfolding Bytes
sets_bytes [] l i h b = b
sets_bytes (v ∷ vs) l i h b = sets_bytes vs (set l i v) (suc i) h.1 (set_bytes l i v h.0 b)

written_bytes : (l : List ℕ) (i : ℕ) (vs : List ℕ) → Bytes vs → InBytes l → InBytes (written l i vs)
unfolding written
written_bytes l i vs h b = sets_bytes vs l i h b

bytes_append : (a b : List ℕ) → Bytes a → Bytes b → Bytes (a ++ b)
unfolding Bytes
bytes_append [] b h k = k
bytes_append (x ∷ a) b h k = (h.0, bytes_append a b h.1 k)

pub u16_bytes : (a : ℕ) → a < 65536 → Bytes (u16 a)
unfolding u16 Bytes
u16_bytes a h = (omega arith, (omega arith, tt))

-- ---- emission

pub record Coded (x : Res) : Type 0 where
  pub code : CodeBytes x.stores

code_if : (b : Bool) {x y : Res} → Coded x → (b ≡ false → Coded y) → Coded (if b then x else y)
code_if true p q = p
code_if false p q = q refl

module _ (c : Counts) (s : Stores) (b : CodeBytes s) where
  code_here_lem : InBytes (code_here c s)
  unfolding code_here
  code_here_lem = either_way (eqb c.current 0) (λ t. rw t b.main) (λ f. rw f b.other)

  with_code_lem : (m p : List ℕ) → InBytes m → CodeBytes (with_code c m p s)
  unfolding with_code
  with_code_lem m p h = either_way (eqb c.current 0) (λ t. rw t (record { main = h; other = b.other })) (λ f. rw f (record { main = b.main; other = h }))

  stays : (e : Refusal) → Coded (refuse e s)
  stays e = record { code = b }

  -- other stores than those of the code
  same_code : (d : Counts) (n : ℕ) (t : Stores) → t.main ≡ s.main → t.other ≡ s.other → Coded (e.done d n t)
  same_code d n t e f = record { code = record { main = rw e b.main; other = rw f b.other } }

  appended_bytes : (bytes : List ℕ) (place : ℕ) → Bytes bytes → Coded (appended c bytes place s)
  unfolding appended
  appended_bytes bytes place h =
      let z = with_code_lem (written (code_here c s) (end_here c s) bytes) (written (places_here c s) (end_here c s) (replicate (length bytes) place))
      (written_bytes (code_here c s) (end_here c s) bytes h code_here_lem) in
      record { code = record { main = z.main; other = z.other } }

  pub emit_bytes : (running : Bool) (op : ℕ) (rest : List ℕ) (place : ℕ) → Bytes rest → Coded (emit_of running c op (op ∷ rest) place s)
  unfolding emit_of emit_in
  emit_bytes running op rest place h =
      code_if (code_order c s) (code_if running (stays why.RunUnderWay) (λ _. code_if (ltb code_limit (size_here c s + length (op ∷ rest))) (stays why.OverLimit) (λ _.
      code_if (ltb (code_room c s) (end_here c s + length (op ∷ rest))) (stays why.StoreFull) (λ _.
      code_if (leb 38 op) (stays why.UnknownOpcode) (λ f. appended_bytes (op ∷ rest) place (unfold Bytes in (omega (arith, leb-false 38 op f), h))))))) (λ _. stays why.NotInOrder)

  patched_bytes : (at a : ℕ) → a < 65536 → Coded (patched c at a s)
  unfolding patched
  patched_bytes at a h = record { code = with_code_lem _ _ (written_bytes (code_here c s) _ (u16 a) (u16_bytes a h) code_here_lem) }

  pub patch_bytes : (running : Bool) (at a : ℕ) → a < 65536 → Coded (patch_of running c at a s)
  unfolding patch_of
  patch_bytes running at a h = code_if (patch_order c s) (code_if running (stays why.RunUnderWay) (λ _. code_if (ltb (size_here c s) (at + 2)) (stays why.PatchOutsideCode) (λ _. patched_bytes at a h))) (λ _. stays why.NotInOrder)

  constant_by : (x : Constant) (lent : List ℕ) → Coded (constant_added c x lent s)
  unfolding constant_added with_constant with_text_constant
  constant_by (k.Scalar w) lent = same_code _ _ _ refl refl
  constant_by (k.Boolean x) lent = same_code _ _ _ refl refl
  constant_by k.String lent = code_if (text_room c s (length lent)) (same_code _ _ _ refl refl) (λ _. stays why.StoreFull)
  constant_by k.FunctionReference lent = code_if (text_room c s (length lent)) (same_code _ _ _ refl refl) (λ _. stays why.StoreFull)

  pub constant_bytes : (running : Bool) (x : Constant) (lent : List ℕ) → Coded (add_constant_of running c x lent s)
  unfolding add_constant_of
  constant_bytes running x lent =
      code_if (constant_order c s) (code_if running (stays why.RunUnderWay) (λ _. code_if (leb constant_limit c.constants) (stays why.OverLimit)
      (λ _. code_if (leb (places 2 s.constants) c.constants) (stays why.StoreFull) (λ _. constant_by x lent)))) (λ _. stays why.NotInOrder)

  struct_by : (name : List ℕ) (x : Option ℕ) → Coded (struct_found c name s x)
  unfolding struct_found struct_added
  struct_by name (some i) = same_code _ _ _ refl refl
  struct_by name none =
      code_if (leb name_limit c.structs) (stays why.OverLimit) (λ _. code_if (leb (places 2 s.structs) c.structs) (stays why.StoreFull)
      (λ _. code_if (text_room c s (length name)) (same_code _ _ _ refl refl) (λ _. stays why.StoreFull)))

  pub struct_bytes : (running : Bool) (name : List ℕ) → Coded (add_struct_of running c name s)
  unfolding add_struct_of
  struct_bytes running name = code_if (struct_order c s) (code_if running (stays why.RunUnderWay) (λ _. struct_by name _)) (λ _. stays why.NotInOrder)

  begun_bytes : (name : List ℕ) → Coded (begun c name s)
  unfolding begun
  begun_bytes name = same_code _ _ _ refl refl

  pub begin_bytes : (running : Bool) (name : List ℕ) → Coded (begin_function_of running c name s)
  unfolding begin_function_of
  begin_bytes running name =
      code_if (function_order c s) (code_if running (stays why.RunUnderWay) (λ _. code_if (leb name_limit c.functions) (stays why.OverLimit) (λ _. code_if (leb (places 2 s.functions) c.functions) (stays why.StoreFull) (λ _.
      code_if (text_room c s (length name)) (begun_bytes name) (λ _. stays why.StoreFull))))) (λ _. stays why.NotInOrder)

-- ---- a program made anew, or loaded

pub new_bytes : (s : Stores) → CodeBytes s → CodeBytes (new_of s).stores
unfolding new_of
new_bytes s b = (code_if (leb 6 (places 1 s.text) && leb 1 (places 2 s.functions)) (same_code (counts 0 0 1 6 0) s b _ _ _ refl refl) (λ _. stays (counts 0 0 1 6 0) s b why.StoreFull)).code

codes_bytes : (fs : List Function) → Bytes (joined function_image fs) → Bytes (function_at fs 0).code × Bytes (joined (λ f. f.code) (drop 1 fs)) × Bytes (joined (λ f. f.code) fs)
unfolding joined function_image function_at
codes_bytes [] h = (h, h, h)
codes_bytes (f ∷ fs) h =
    let one : Bytes f.code = bytes_rest (text_image f.name ++ digits (length f.code)) f.code
    (bytes_front _ (joined run_image (runs_of f.places)) (bytes_front (function_image f) (joined function_image fs) h)) in
    let rest = (codes_bytes fs (bytes_rest (function_image f) (joined function_image fs) h)).2 in
    (one, rest, bytes_append f.code (joined (λ f. f.code) fs) one rest)

laid_bytes : (p : Program) (s : Stores) → Bytes (image_of p) → CodeBytes s → CodeBytes (laid p s)
unfolding laid image_of counted main_of others_of
laid_bytes p s h b =
    let z = codes_bytes p.functions (bytes_rest (digits (length p.functions)) (joined function_image p.functions)
    (bytes_rest (counted constant_image p.constants ++ counted text_image p.structs) (counted function_image p.functions) h)) in
    record { main = written_bytes s.main 0 (main_of p).code z.0 b.main; other = written_bytes s.other 0 (joined (λ f. f.code) (others_of p)) z.1 b.other }

judged_bytes : (x : Judged) (s : Stores) → ((p : Program) → x ≡ fine p → Bytes (image_of p)) → CodeBytes s → CodeBytes (load_judged x s).stores
unfolding load_judged
judged_bytes (broken i) s h b = b
judged_bytes (fine p) s h b = by (within_limits p) (room_for p s)
  where
    by : (x y : Bool)
        → (let z : LoadRes = if x then (if y then record { answer = Ok (counts_for p); stores = laid p s } else record {
          answer = Err why.StoreFull;
          stores = s;
        }) else record { answer = Err why.OverLimit; stores = s } in
        CodeBytes z.stores)
    by true true = laid_bytes p s (h p refl) b
    by true false = b
    by false y = b

pub load_bytes : (image : List ℕ) (s : Stores) → Bytes image → CodeBytes s → CodeBytes (load_of image s).stores
unfolding load_of
load_bytes image s h b = judged_bytes (judge image) s (λ p e. subst Bytes (image_only image p h e).0 h) b

-- ---- the calls

started_bytes : (a : Result Counts Refusal) (t s : Stores) (fs : List Frame) → CodeBytes t → CodeBytes s → CodeBytes (start_with a t s fs).stores
unfolding start_with
started_bytes (Ok c) t s [] b k = k
started_bytes (Ok c) t s (f ∷ fs) b k = b
started_bytes (Err e) t s fs b k = k

unless_bytes : (running : Bool) (s : Stores) (fs : List Frame) (x : StartRes) → CodeBytes s → CodeBytes x.stores → CodeBytes (unless_running running s fs x).stores
unfolding unless_running
unless_bytes true s fs x b k = b
unless_bytes false s fs x b k = k

ask_bytes : (q : Ask) (h : Held) → Typed (job_of q) → CodeBytes h.stores → CodeBytes (done q h).held.stores
unfolding job_of done emits starts changes looks new_machine_of load_machine_of add_op_of add_op1_of add_op2_of add_op3_of Below
ask_bytes new h t b = unless_bytes h.vm.run.on h.stores h.lent.frames _ b (started_bytes _ _ h.stores h.lent.frames (new_bytes h.stores b) b)
ask_bytes (load image) h t b = unless_bytes h.vm.run.on h.stores h.lent.frames _ b (started_bytes _ _ h.stores h.lent.frames (load_bytes image h.stores t b) b)
ask_bytes (add_op op place) h t b = (emit_bytes h.vm.program h.stores b h.vm.run.on op [] place (unfold Bytes in tt)).code
ask_bytes (add_op1 op x place) h t b = (emit_bytes h.vm.program h.stores b h.vm.run.on op (u16 x) place (u16_bytes x t.0)).code
ask_bytes (add_op2 op x y place) h t b =
    (emit_bytes h.vm.program h.stores b h.vm.run.on op (u16 x ++ u16 y) place
    (bytes_append (u16 x) (u16 y) (u16_bytes x t.0) (u16_bytes y t.1.0))).code
ask_bytes (add_op3 op x y z place) h t b =
    (emit_bytes h.vm.program h.stores b h.vm.run.on op (u16 x ++ u16 y ++ u16 z) place
    (bytes_append (u16 x ++ u16 y) (u16 z) (bytes_append (u16 x) (u16 y) (u16_bytes x t.0) (u16_bytes y t.1.0)) (u16_bytes z t.1.1.0))).code
ask_bytes (patch offset word) h t b = (patch_bytes h.vm.program h.stores b h.vm.run.on offset word t.0).code
ask_bytes (add_constant x text) h t b = (constant_bytes h.vm.program h.stores b h.vm.run.on x text).code
ask_bytes (add_struct text) h t b = (struct_bytes h.vm.program h.stores b h.vm.run.on text).code
ask_bytes (begin_function text) h t b = (begin_bytes h.vm.program h.stores b h.vm.run.on text).code
ask_bytes end_function h t b = b
ask_bytes (set_strict x) h t b = b
ask_bytes current_offset h t b = b
ask_bytes (function_idx text) h t b = b
ask_bytes (save out) h t b = b
ask_bytes (disassemble out) h t b = b
ask_bytes (backtrace out) h t b = b
ask_bytes last_result h t b = b
ask_bytes (stack_value i) h t b = b
ask_bytes (block_header x) h t b = b
ask_bytes (element x i) h t b = b
ask_bytes (text_bytes x out) h t b = b

-- every call keeps good order, and code bytes
pub fine_kept : (c : Call) (a : Answer) → AllTyped (c ∷ []) → {h h' : Held} → After c h a h' → Fine h → Fine h'
unfolding AllTyped
fine_kept (run c) a t p o = record { order = order_kept (run c) a t p o.order; code = rw p.stores o.code }
fine_kept (ask q) a t {h} p o = record { order = order_kept (ask q) a t p o.order; code = subst (λ (d : Done). CodeBytes d.held.stores) p (ask_bytes q h t.0 o.code) }
