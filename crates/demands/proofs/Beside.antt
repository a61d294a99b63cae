-- Two stores with one program, wherever its texts lie: emission answers the same and leaves such stores again.
use Rattle.std.specs.Prelude.{if◌then◌else◌, Ok}
use mathlib.Core.Path.{◌≡◌, refl, sym, ap, ◌∙◌}
use mathlib.Core.Bool.{Bool, true, false}
use mathlib.Core.List.{List, map}
use mathlib.Core.Option.{Option, none, some}
use Prim.Native.Nat.{ℕ, zero, suc, ◌+◌, ◌*◌, ◌<◌}
use native.Mathlib.Omega.{arith}
use lib.Dec.{eqb, leb, ltb}
use lib.ListN.{length, set, length-set}
use Rattle.model.specs.declared.Counts.{Counts}
use Rattle.model.specs.declared.Vm.{Vm}
use Rattle.model.specs.declared.Frame.{Frame}
use Rattle.model.specs.declared.Constant.{Constant}
use Rattle.model.specs.declared.Constant.TheVariants as k
use Rattle.model.specs.Values.{places, put_words}
use Rattle.model.specs.Programs.{Program, Function, function_at, code_limit, constant_limit, name_limit}
use Rattle.model.specs.Stores.{Stores, with_constants, with_structs, with_functions, with_text, size, code_word, code_end, code_here, places_here, with_code, structs_from, function_in, functions_from, program_in}
use Rattle.model.specs.Orders.{code_start, program_ok, traces, judged_by}
use Rattle.model.specs.Emission.{struct_names, with_struct_name, Res, done, refuse, one_constant, one_struct, one_function, written, text_room, size_here, end_here, code_room, longer, appended, code_order, emit_in, emit_of, patch_order, patched, patch_of, with_constant, with_text_constant, constant_added, constant_order, add_constant_of, struct_added, struct_found, struct_order, add_struct_of, function_order, begun, begin_function_of, end_function_of, current_offset_of, names_from, function_idx_of}
use Rattle.model.specs.Loading.{save_of, list_order, list_of}
use Rattle.model.specs.Machines.{trace_order, backtrace_in}
use Rattle.layout.proofs.Bools.{either_way}
use Rattle.laws_programs.proofs.Known.{limited, function_known}
use Rattle.laws_programs.proofs.Keeping.{Good, good_of}
use Rattle.layout.proofs.Writing.{length_written, length_words}
use Rattle.laws_programs.proofs.Reading.{Reads, emit_reads, patch_reads, add_constant_reads}
use Rattle.laws_programs.proofs.Naming.{struct_reads, begin_reads, end_reads}
use Rattle.laws_runs.proofs.Programs.{parts_of_lem, code_size}
use Rattle.laws_names.proofs.Putting.{length_put}
use Rattle.demands.specs.Meant.{AsLong}
use Rattle.demands.proofs.Fronts.{places_alike}
use Rattle.model.specs.declared.Refusal.{Refusal}
use Rattle.model.specs.declared.Refusal.TheVariants as why

-- ---- two results

-- one answer, and stores as long
pub record SameRes (x x' : Res) : Type 0 where
  pub answer : x'.answer ≡ x.answer
  pub rooms : AsLong x'.stores x.stores

-- and one program in them
pub record AlikeRes (x x' : Res) : Type 0 where
  pub answer : x'.answer ≡ x.answer
  pub rooms : AsLong x'.stores x.stores
  pub program : (d : Counts) (i : ℕ) → x.answer ≡ Ok (d, i) → program_in d x'.stores ≡ program_in d x.stores

pub same_if : (b : Bool) {x x' y y' : Res} → SameRes x x' → SameRes y y' → SameRes (if b then x else y) (if b then x' else y')
same_if true p q = p
same_if false p q = q

pub alike_res : {x x' : Res} {want want' : Program} → SameRes x x' → Reads want x → Reads want' x' → want' ≡ want → AlikeRes x x'
alike_res s r r' e = record { answer = s.answer; rooms = s.rooms; program = λ d i q. r'.reads d i (s.answer ∙ q) ∙ e ∙ sym (r.reads d i q) }

-- one store anew in each
module _ {s s' : Stores} (long : AsLong s' s) (l l' : List ℕ) (e : length l' ≡ length l) where
  constants_long : AsLong (with_constants l' s') (with_constants l s)
  constants_long = record {
    constants = e;
    structs = long.structs;
    functions = long.functions;
    text = long.text;
    main = long.main;
    main_places = long.main_places;
    other = long.other;
    other_places = long.other_places;
  }

  structs_long : AsLong (with_structs l' s') (with_structs l s)
  structs_long = record {
    constants = long.constants;
    structs = e;
    functions = long.functions;
    text = long.text;
    main = long.main;
    main_places = long.main_places;
    other = long.other;
    other_places = long.other_places;
  }

  pub functions_long : AsLong (with_functions l' s') (with_functions l s)
  functions_long = record {
    constants = long.constants;
    structs = long.structs;
    functions = e;
    text = long.text;
    main = long.main;
    main_places = long.main_places;
    other = long.other;
    other_places = long.other_places;
  }

  pub text_long : AsLong (with_text l' s') (with_text l s)
  text_long = record {
    constants = long.constants;
    structs = long.structs;
    functions = long.functions;
    text = e;
    main = long.main;
    main_places = long.main_places;
    other = long.other;
    other_places = long.other_places;
  }

-- a store written to, a word set, two words set
pub written_long : (l l' : List ℕ) (i i' : ℕ) (m m' : List ℕ) → length l' ≡ length l → length (written l' i' m') ≡ length (written l i m)
written_long l l' i i' m m' e = length_written l' i' m' ∙ e ∙ sym (length_written l i m)

set_long : (l l' : List ℕ) (i i' x x' : ℕ) → length l' ≡ length l → length (set l' i' x') ≡ length (set l i x)
set_long l l' i i' x x' e = length-set l' i' x' ∙ e ∙ sym (length-set l i x)

words_long : (l l' : List ℕ) (i i' a a' b b' : ℕ) → length l' ≡ length l → length (put_words l' i' a' b') ≡ length (put_words l i a b)
words_long l l' i i' a a' b b' e = length_words l' i' a' b' ∙ e ∙ sym (length_words l i a b)

-- the same answer, with stores as long
pub both_done : (d : Counts) (n : ℕ) {t t' : Stores} → AsLong t' t → SameRes (done d n t) (done d n t')
both_done d n long = record { answer = refl; rooms = long }

-- one program in both stores, in good order
pub record OneProgram (c : Counts) (s s' : Stores) : Type 0 where
  pub ok : program_ok c s ≡ true
  pub ok' : program_ok c s' ≡ true
  pub same : program_in c s' ≡ program_in c s
  pub long : AsLong s' s

module _ {c : Counts} {s s' : Stores} (one : OneProgram c s s') where
  g : Good c s
  g = good_of c s one.ok

  g' : Good c s'
  g' = good_of c s' one.ok'

  refused : (e : Refusal) → SameRes (refuse e s) (refuse e s')
  refused e = record { answer = refl; rooms = one.long }

  pub functions_same : functions_from c.functions 0 s' ≡ functions_from c.functions 0 s
  unfolding program_in
  functions_same = ap (λ (p : Program). p.functions) one.same

  pub structs_same : structs_from c.structs 0 s'.structs s'.text ≡ structs_from c.structs 0 s.structs s.text
  unfolding program_in
  structs_same = ap (λ (p : Program). p.structs) one.same

  -- ---- the words of the codes are the same

  pub size_same : (i : ℕ) → i < c.functions → size (code_word s'.functions i) ≡ size (code_word s.functions i)
  size_same i h =
      sym (code_size c s' (parts_of_lem c s' one.ok') i h) ∙ ap (λ (fs : List Function). length (function_at fs i).code) functions_same ∙ code_size c s (parts_of_lem c s one.ok) i h

  ends_by : (i : ℕ) → i < c.functions → code_start s'.functions i ≡ code_start s.functions i → code_end s'.functions i ≡ code_end s.functions i
  unfolding code_end
  ends_by i h e = rw ((function_known c s'.functions g'.functions i h).starts, (function_known c s.functions g.functions i h).starts, e, size_same i h)

  start_same : (i : ℕ) → i < c.functions → code_start s'.functions i ≡ code_start s.functions i
  unfolding code_start
  start_same zero h = refl
  start_same (suc zero) h = refl
  start_same (suc (suc i)) h = ends_by (suc i) (omega arith) (start_same (suc i) (omega arith))

  end_same : (i : ℕ) → i < c.functions → code_end s'.functions i ≡ code_end s.functions i
  end_same i h = ends_by i h (start_same i h)

  here : c.current < c.functions
  here = (limited c g.counts).current

  size_here_lem : size_here c s' ≡ size_here c s
  unfolding size_here
  size_here_lem = size_same c.current here

  end_here_lem : end_here c s' ≡ end_here c s
  unfolding end_here
  end_here_lem = end_same c.current here

  code_long : length (code_here c s') ≡ length (code_here c s)
  unfolding code_here
  code_long = either_way (eqb c.current 0) (λ t. rw t one.long.main) (λ f. rw f one.long.other)

  places_long : length (places_here c s') ≡ length (places_here c s)
  unfolding places_here
  places_long = either_way (eqb c.current 0) (λ t. rw t one.long.main_places) (λ f. rw f one.long.other_places)

  code_room_lem : code_room c s' ≡ code_room c s
  unfolding code_room
  code_room_lem = rw (places_alike (code_here c s') (code_here c s) code_long 1, places_alike (places_here c s') (places_here c s) places_long 1)

  text_room_lem : (n : ℕ) → text_room c s' n ≡ text_room c s n
  unfolding text_room
  text_room_lem n = rw (places_alike s'.text s.text one.long.text 1)

  -- the current function's stores anew
  with_code_lem : (m p m' p' : List ℕ) → length m' ≡ length m → length p' ≡ length p → AsLong (with_code c m' p' s') (with_code c m p s)
  unfolding with_code
  with_code_lem m p m' p' a b =
      either_way (eqb c.current 0)
      (λ t. rw t (record {
        constants = one.long.constants;
        structs = one.long.structs;
        functions = one.long.functions;
        text = one.long.text;
        main = a;
        main_places = b;
        other = one.long.other;
        other_places = one.long.other_places;
      }))
      (λ f. rw f (record {
        constants = one.long.constants;
        structs = one.long.structs;
        functions = one.long.functions;
        text = one.long.text;
        main = one.long.main;
        main_places = one.long.main_places;
        other = a;
        other_places = b;
      }))

  -- ---- the entries

  longer_long : (n : ℕ) → length (longer c n s') ≡ length (longer c n s)
  unfolding longer
  longer_long n = set_long s.functions s'.functions (2 * c.current + 1) (2 * c.current + 1) _ _ one.long.functions

  appended_same : (bytes : List ℕ) (place : ℕ) → SameRes (appended c bytes place s) (appended c bytes place s')
  unfolding appended
  appended_same bytes place = both_done c 0 (functions_long (with_code_lem _ _ _ _ (written_long _ _ _ _ _ _ code_long) (written_long _ _ _ _ _ _ places_long)) _ _ (longer_long (length bytes)))

  emit_res : (running : Bool) (op : ℕ) (bytes : List ℕ) (place : ℕ) → SameRes (emit_of running c op bytes place s) (emit_of running c op bytes place s')
  unfolding emit_of emit_in code_order
  emit_res running op bytes place =
      rw (g.counts, g.functions, g.codes, g.places, g'.functions, g'.codes, g'.places, size_here_lem, code_room_lem, end_here_lem)
      (same_if running (refused why.RunUnderWay)
      (same_if (ltb code_limit (size_here c s + length bytes)) (refused why.OverLimit)
      (same_if (ltb (code_room c s) (end_here c s + length bytes)) (refused why.StoreFull) (same_if (leb 38 op) (refused why.UnknownOpcode) (appended_same bytes place)))))

  pub emit_alike : (running : Bool) (op : ℕ) (bytes : List ℕ) (place : ℕ) → AlikeRes (emit_of running c op bytes place s) (emit_of running c op bytes place s')
  emit_alike running op bytes place =
      alike_res (emit_res running op bytes place) (emit_reads running c op bytes place s one.ok) (emit_reads running c op bytes place s' one.ok') (rw one.same)

  patched_same : (at a : ℕ) → SameRes (patched c at a s) (patched c at a s')
  unfolding patched
  patched_same at a = both_done c 0 (with_code_lem _ _ _ _ (written_long _ _ _ _ _ _ code_long) places_long)

  patch_res : (running : Bool) (at a : ℕ) → SameRes (patch_of running c at a s) (patch_of running c at a s')
  unfolding patch_of patch_order
  patch_res running at a =
      rw (g.counts, g.functions, g.codes, g'.functions, g'.codes, size_here_lem)
      (same_if running (refused why.RunUnderWay) (same_if (ltb (size_here c s) (at + 2)) (refused why.PatchOutsideCode) (patched_same at a)))

  pub patch_alike : (running : Bool) (at a : ℕ) → AlikeRes (patch_of running c at a s) (patch_of running c at a s')
  patch_alike running at a = alike_res (patch_res running at a) (patch_reads running c at a s one.ok) (patch_reads running c at a s' one.ok') (rw one.same)

  -- a text behind the others
  more_text : (lent : List ℕ) → AsLong (with_text (written s'.text c.text lent) s') (with_text (written s.text c.text lent) s)
  more_text lent = text_long one.long _ _ (written_long _ _ _ _ _ _ one.long.text)

  text_constant : (kind : ℕ) (lent : List ℕ) → SameRes (with_text_constant c kind lent s) (with_text_constant c kind lent s')
  unfolding with_text_constant
  text_constant kind lent = rw (text_room_lem (length lent)) (same_if (text_room c s (length lent))
      (both_done (one_constant (length lent) c) c.constants (constants_long (more_text lent) _ _ (words_long _ _ _ _ _ _ _ _ one.long.constants)))
      (refused why.StoreFull))

  plain_constant : (kind payload : ℕ) → SameRes (with_constant c kind payload s) (with_constant c kind payload s')
  unfolding with_constant
  plain_constant kind payload = both_done (one_constant 0 c) c.constants (constants_long one.long _ _ (words_long _ _ _ _ _ _ _ _ one.long.constants))

  constant_by : (x : Constant) (lent : List ℕ) → SameRes (constant_added c x lent s) (constant_added c x lent s')
  unfolding constant_added
  constant_by (k.Scalar w) lent = plain_constant 0 w
  constant_by (k.Boolean b) lent = plain_constant 1 _
  constant_by k.String lent = text_constant 2 lent
  constant_by k.FunctionReference lent = text_constant 3 lent

  constant_res : (running : Bool) (x : Constant) (lent : List ℕ) → SameRes (add_constant_of running c x lent s) (add_constant_of running c x lent s')
  unfolding add_constant_of constant_order
  constant_res running x lent =
      rw (g.counts, g.text, g.constants, g'.text, g'.constants, places_alike s'.constants s.constants one.long.constants 2)
      (same_if running (refused why.RunUnderWay)
      (same_if (leb constant_limit c.constants) (refused why.OverLimit) (same_if (leb (places 2 s.constants) c.constants) (refused why.StoreFull) (constant_by x lent))))

  pub constant_alike : (running : Bool) (x : Constant) (lent : List ℕ) → AlikeRes (add_constant_of running c x lent s) (add_constant_of running c x lent s')
  constant_alike running x lent =
      alike_res (constant_res running x lent) (add_constant_reads running c x lent s one.ok) (add_constant_reads running c x lent s' one.ok') (rw one.same)

  name_long : (name : List ℕ) → length (with_struct_name c name s') ≡ length (with_struct_name c name s)
  unfolding with_struct_name
  name_long name =
      length_put 0 _ _ ∙ set_long s.structs s'.structs (2 * c.structs) (2 * c.structs) _ _ one.long.structs ∙ sym (length_put 0 _ _)

  struct_by : (name : List ℕ) (x : Option ℕ) → SameRes (struct_found c name s x) (struct_found c name s' x)
  unfolding struct_found struct_added
  struct_by name (some i) = both_done c i one.long
  struct_by name none =
      rw (text_room_lem (length name), places_alike s'.structs s.structs one.long.structs 2)
      (same_if (leb name_limit c.structs) (refused why.OverLimit) (same_if (leb (places 2 s.structs) c.structs) (refused why.StoreFull) (same_if (text_room c s (length name))
      (both_done (one_struct (length name) c) c.structs (structs_long (more_text name) _ _ (name_long name))) (refused why.StoreFull))))

  struct_res : (running : Bool) (name : List ℕ) → SameRes (add_struct_of running c name s) (add_struct_of running c name s')
  unfolding add_struct_of struct_order struct_names
  struct_res running name = rw (g.counts, g.text, g.structs, g'.text, g'.structs, structs_same) (same_if running (refused why.RunUnderWay) (struct_by name _))

  pub struct_alike : (running : Bool) (name : List ℕ) → AlikeRes (add_struct_of running c name s) (add_struct_of running c name s')
  struct_alike running name = alike_res (struct_res running name) (struct_reads running c name s one.ok) (struct_reads running c name s' one.ok') (rw one.same)

  begun_same : (name : List ℕ) → SameRes (begun c name s) (begun c name s')
  unfolding begun
  begun_same name = both_done (one_function (length name) c) c.functions (functions_long (more_text name) _ _ (words_long _ _ _ _ _ _ _ _ one.long.functions))

  begin_res : (running : Bool) (name : List ℕ) → SameRes (begin_function_of running c name s) (begin_function_of running c name s')
  unfolding begin_function_of function_order
  begin_res running name =
      rw (g.counts, g.text, g.functions, g.main, g'.text, g'.functions, g'.main, text_room_lem (length name), places_alike s'.functions s.functions one.long.functions 2)
      (same_if running (refused why.RunUnderWay)
      (same_if (leb name_limit c.functions) (refused why.OverLimit) (same_if (leb (places 2 s.functions) c.functions) (refused why.StoreFull) (same_if (text_room c s (length name)) (begun_same name) (refused why.StoreFull)))))

  pub begin_alike : (running : Bool) (name : List ℕ) → AlikeRes (begin_function_of running c name s) (begin_function_of running c name s')
  begin_alike running name = alike_res (begin_res running name) (begin_reads running c name s one.ok) (begin_reads running c name s' one.ok') (rw one.same)

  pub end_alike : (running : Bool) → AlikeRes (record { answer = end_function_of running c; stores = s }) (record { answer = end_function_of running c; stores = s' })
  end_alike running = record {
    answer = refl;
    rooms = one.long;
    program = λ d i q. end_reads running c s' one.ok' d i q ∙ one.same ∙ sym (end_reads running c s one.ok d i q);
  }

  -- ---- entries that only look

  pub offset_same : current_offset_of c s'.functions ≡ current_offset_of c s.functions
  unfolding current_offset_of
  offset_same = rw (g.counts, g.functions, g'.functions, size_same c.current here)

  names_are : (x : Stores) (n i : ℕ) → names_from n i x ≡ map (λ (f : Function). f.name) (functions_from n i x)
  unfolding names_from functions_from function_in
  names_are x zero i = refl
  names_are x (suc n) i = rw (names_are x n (suc i))

  pub index_same : (name : List ℕ) → function_idx_of c name s' ≡ function_idx_of c name s
  unfolding function_idx_of function_order
  index_same name = rw (g.counts, g.text, g.functions, g.main, g'.text, g'.functions, g'.main, names_are s c.functions 0, names_are s' c.functions 0, functions_same)

  pub save_same : (out : List ℕ) → save_of c s' out ≡ save_of c s out
  unfolding save_of
  save_same out = rw (one.ok, one.ok', one.same)

  list_order_lem : list_order c s' ≡ list_order c s
  unfolding list_order
  list_order_lem = rw (g.counts, g.text, g.functions, g.main, g.codes, g'.text, g'.functions, g'.main, g'.codes)

  trace_order_lem : judged_by traces c s' ≡ judged_by traces c s
  trace_order_lem = rw (g.counts, g.text, g.functions, g.main, g.codes, g.places, g'.text, g'.functions, g'.main, g'.codes, g'.places)

  pub list_same : (out : List ℕ) → list_of c s' out ≡ list_of c s out
  unfolding list_of
  list_same out = rw (list_order_lem, one.same)

  pub trace_same : (m : Vm) → m.program ≡ c → (stack : List ℕ) (frames : List Frame) (out : List ℕ) → backtrace_in m s' stack frames out ≡ backtrace_in m s stack frames out
  unfolding backtrace_in trace_order
  trace_same m e stack frames out = rw (e, trace_order_lem, functions_same)
