-- The backtrace as an entry, over the slices that it is lent.
--     program-judged, frames-judged     good order, by the tests
--     functions-counted                 the frames can be judged
--     is-short, has_room, is-bad        19, 17, or neither
--     trace-ready, trace-is             a backtrace that is not refused so can be written, and is the rules'
--     trace-refused                     these refusals
-- Assumes nothing.
use Rattle.std.specs.Prelude.{if◌then◌else◌, Err, Ok, Result}
use mathlib.Core.Path.{◌≡◌, refl, sym, ap, subst, ◌∙◌}
use mathlib.Core.Bool.{Bool, true, false, ◌&&◌, ◌||◌, true≢false}
use mathlib.Core.List.{List, [], ◌∷◌}
use Prim.Native.Nat.{ℕ, zero, suc, ◌-◌, ◌*◌, ◌≤◌, ◌<◌, min}
use native.Mathlib.Omega.{arith}
use borrow.Author.Tests.{leb-true, ltb-false, lt-ltb, le-ltb}
use lib.Dec.{leb, ltb, eqb}
use lib.ListN.{length, get_or, take}
use Rattle.model.specs.declared.Counts.{Counts}
use Rattle.model.specs.declared.Vm.{Vm}
use Rattle.model.specs.declared.Frame.{Frame}
use Rattle.model.specs.Basics.{every_from, written}
use Rattle.model.specs.Values.{places, most_places}
use Rattle.model.specs.Programs.{Function, function_at, constant_limit, name_limit}
use Rattle.model.specs.Runs.{traceable, trace_of, backtrace_of}
use Rattle.model.specs.Stores.{Stores, size, code_word, function_in, functions_from}
use Rattle.model.specs.Orders.{counts_ok, text_ok, inside_text, constants_ok, function_ok, functions_ok, main_ok, other_taken, inside_codes, frames_ok, frame_store_ok}
use Rattle.model.specs.Loading.{OutRes, list_order}
use Rattle.model.specs.Machines.{entry_words, trace_order, put_trace, backtrace_in}
use Rattle.value.proofs.Coding.{and_left, and_right}
use Rattle.laws_runs.proofs.Tests.{every_of}
use Rattle.laws_runs.proofs.Programs.{Parts, length_functions, code_size}
use Rattle.laws_runs.proofs.Frames.{some_frame}
use Rattle.frames.specs.Links.{no_frame, frame_good, entered_good, caller_good, place_good, caller_entered, frames_good, callers_of, trace_words, trace_good, TraceFits}
use Rattle.frames.proofs.Orders.{function_known}
use Rattle.frames.proofs.Meaning.{AllKnown, frames_are_good, known_callers, trace_is_good}
use Rattle.run_ends.specs.Links.{program_lent}
use Rattle.machine.specs.Links.{trace_program, frames_in, trace_refusal, Traceable, trace_into}
use Rattle.machine.proofs.Granted.{functions_there}
use Rattle.frames.proofs.Callers.{innermost_is, callers_are, length_callers}
use Rattle.machine.proofs.Traced.{traced_first, traced_at, readable, trace_told, length_trace}
use Rattle.model.specs.declared.Refusal.{Refusal}
use Rattle.model.specs.declared.Refusal.TheVariants as why

-- ---- 19, 17, or neither

module _ (good : Bool) (n : ℕ) (out : List ℕ) where
  pub is_short : good ≡ true → {room : ℕ} → room ≡ places 3 out → room < n → Err why.ResultTooShort ≡ trace_refusal good n out
  unfolding trace_refusal
  is_short g e h = rw (g, lt-ltb (places 3 out) n (omega (arith, e, h)))

  pub has_room_lem : good ≡ true → {room : ℕ} → room ≡ places 3 out → n ≤ room → Ok tt ≡ trace_refusal good n out
  unfolding trace_refusal
  has_room_lem g e h = rw (g, le-ltb (places 3 out) n (omega (arith, e, h)))

  pub is_bad : good ≡ false → Err why.NotInOrder ≡ trace_refusal good n out
  unfolding trace_refusal
  is_bad g = rw g

-- ---- the frames' places, by the tests: k is the innermost frame's place, and f that frame

module _ (words main other : List ℕ) (n : ℕ) (frames : List Frame) {k : ℕ} {f : Frame} {b : Bool} where
  judged : k ≡ n - 1 → f ≡ get_or frames k no_frame → b ≡ trace_good words (f ∷ callers_of k frames) → trace_good words (frames_in n frames) ≡ b
  unfolding frames_in
  judged ek ef eb = sym (eb ∙ rw (ef, ek))

  pub trace_can : k ≡ n - 1 → f ≡ get_or frames k no_frame → b ≡ trace_good words (f ∷ callers_of k frames) → b ≡ true → {room : ℕ}
      → Traceable words main other n frames room → TraceFits words main other f k frames room
  trace_can ek ef eb on can = rw (ef, ek) (can.fits (judged ek ef eb ∙ on))

  module _ (out : List ℕ) where
    pub trace_wrote : k ≡ n - 1 → f ≡ get_or frames k no_frame → b ≡ trace_good words (f ∷ callers_of k frames) → b ≡ true → {out' : List ℕ}
        → out' ≡ written out 0 (trace_words words main other (f ∷ callers_of k frames))
        → record { answer = Ok n; out = out' } ≡ trace_into words main other n frames out
    unfolding trace_into frames_in
    trace_wrote ek ef eb on ew = rw (judged ek ef eb, on, ew, ef, ek)

    pub trace_none : k ≡ n - 1 → f ≡ get_or frames k no_frame → b ≡ trace_good words (f ∷ callers_of k frames) → b ≡ false
        → record { answer = Err why.PlaceOutsideCode; out = out } ≡ trace_into words main other n frames out
    unfolding trace_into
    trace_none ek ef eb off = rw (judged ek ef eb, off)

-- the refusal, by the two tests
abbrev told_by : Bool → Bool → Result Unit Refusal
told_by a b = if a then (if b then Err why.ResultTooShort else Ok tt) else Err why.NotInOrder

none_good : (a b : Bool) → told_by a b ≡ Ok tt → (a ≡ true) × (b ≡ false)
none_good true true e = absurd (let z : ◌≡◌ {A = ℕ} 0 1 = cc in let y : ⊥ = omega arith in y)
none_good true false e = (refl, refl)
none_good false b e = absurd (let z : ◌≡◌ {A = ℕ} 0 1 = cc in let y : ⊥ = omega arith in y)

abbrev refused_with : Refusal → List ℕ → OutRes
refused_with e out = record { answer = Err e; out = out }

refused_by_lem : (a b : Bool) (x : OutRes) (out : List ℕ) {e : Refusal} → Err e ≡ told_by a b
    → refused_with e out ≡ (if a then (if b then refused_with why.ResultTooShort out else x) else refused_with why.NotInOrder out)
refused_by_lem true true x out {e} h = let z : e ≡ why.ResultTooShort = cc in ap (λ (w : Refusal). refused_with w out) z
refused_by_lem true false x out h = absurd (let z : ◌≡◌ {A = ℕ} 0 1 = cc in let y : ⊥ = omega arith in y)
refused_by_lem false b x out {e} h = let z : e ≡ why.NotInOrder = cc in ap (λ (w : Refusal). refused_with w out) z

-- ---- what is lent

-- a program's counts without its constants, which a backtrace is not lent
abbrev bare : Counts → Counts
bare c = record { constants = 0; structs = c.structs; functions = c.functions; text = c.text; current = c.current }

without : (x a b c d e : Bool) → (x && a && b && c && d && e) ≡ true → (true && a && b && c && d && e) ≡ true
without true a b c d e h = h
without false a b c d e h = absurd (true≢false (sym h))

bare_counts : (c : Counts) → counts_ok c ≡ true → counts_ok (bare c) ≡ true
unfolding counts_ok
bare_counts c h = without (leb c.constants constant_limit) (leb c.structs name_limit) (leb 1 c.functions) (leb c.functions name_limit)
    (leb c.text most_places) (eqb c.current 0 || eqb (suc c.current) c.functions) h

module _ (m : Vm) (structs constants functions text main main_places other other_places : List ℕ) where
  abbrev c : Counts
  c = m.program

  abbrev n : ℕ
  n = m.frames

  abbrev stores : Stores
  stores = program_lent structs constants functions text main main_places other other_places

  abbrev without_constants : Stores
  without_constants = program_lent structs [] functions text main main_places other other_places

  abbrev fs : List Function
  fs = functions_from c.functions 0 stores

  pub program_judged : {b₁ b₂ b₃ b₄ b₅ b₆ : Bool} → b₁ ≡ counts_ok c → b₂ ≡ text_ok c text → b₃ ≡ functions_ok c functions → b₄ ≡ main_ok functions text
      → b₅ ≡ inside_codes c functions main other → b₆ ≡ inside_codes c functions main_places other_places
      → (b₁ && b₂ && b₃ && b₄ && b₅ && b₆) ≡ trace_program c stores
  unfolding trace_program list_order program_lent
  program_judged e₁ e₂ e₃ e₄ e₅ e₆ = rw (e₁, e₂, e₃, e₄, e₅, e₆)

  same_functions : (k i : ℕ) → functions_from k i without_constants ≡ functions_from k i stores
  unfolding functions_from function_in program_lent
  same_functions zero i = refl
  same_functions (suc k) i = ap (λ (gs : List Function). function_in stores i ∷ gs) (same_functions k (suc i))

  module _ (ok : trace_program c stores ≡ true) where
    parts : Parts (bare c) without_constants
    unfolding trace_program list_order program_lent text_ok constants_ok functions_ok function_ok inside_text inside_codes other_taken places every_from
    parts =
        let counts = counts_ok c in
        let texts = text_ok c text in
        let named = functions_ok c functions in
        let first = main_ok functions text in
        let codes = inside_codes c functions main other in
        let placed = inside_codes c functions main_places other_places in
        let e5 = and_left (counts && texts && named && first && codes) placed ok in
        let e4 = and_left (counts && texts && named && first) codes e5 in
        let e3 = and_left (counts && texts && named) first e4 in
        let e2 = and_left (counts && texts) named e3 in
        record {
          counts = bare_counts c (and_left counts texts e2);
          text = and_right counts texts e2;
          constants = refl;
          functions = and_right (counts && texts) named e3;
          codes = and_right (counts && texts && named && first) codes e5;
          places = and_right (counts && texts && named && first && codes) placed ok;
        }

    sizes : (i : ℕ) → i < c.functions → length (function_at fs i).code ≡ size (code_word functions i)
    unfolding program_lent
    sizes = subst (λ (gs : List Function). (i : ℕ) → i < c.functions → length (function_at gs i).code ≡ size (code_word functions i))
        (same_functions c.functions 0) (code_size (bare c) without_constants parts)

    enough : 2 * c.functions ≤ length functions
    unfolding program_lent places
    enough = let z = functions_there (bare c) without_constants parts in omega arith

    module _ (slots : ℕ) (frames : List Frame) where
      by_words : frames_good functions c.functions slots n frames ≡ frame_store_ok fs slots n frames
      by_words = frames_are_good functions c.functions slots fs (length_functions stores c.functions 0) sizes n frames

      module _ (good : frame_store_ok fs slots n frames ≡ true) where
        some : 1 ≤ n
        some = some_frame fs slots n frames good

        there : n ≤ length frames
        unfolding frame_store_ok
        there = omega (arith, leb-true n (min (length frames) most_places) (and_left (leb n (min (length frames) most_places)) (frames_ok fs slots (take n frames)) good))

        known_at : (i : ℕ) → i < n → (get_or frames i no_frame).function < c.functions
        unfolding frames_good place_good
        known_at i h =
            let room = leb 1 n && leb n (min (length frames) most_places) in
            let at : ℕ → Bool = (λ j. place_good functions c.functions slots n j (caller_entered frames j) (get_or frames j no_frame)) in
            let r = get_or frames i no_frame in
            let entry = entered_good i (caller_entered frames i) r in
            let e = every_of at n 0 (and_right room (every_from n 0 at) (by_words ∙ good)) i (omega arith) (omega arith) in
            function_known c.functions slots r (and_left (frame_good c.functions slots r) entry
            (and_left (frame_good c.functions slots r && entry) (caller_good functions n i r) e))

        all_known : AllKnown c.functions (frames_in n frames)
        unfolding frames_in
        all_known = (known_at (n - 1) (omega (arith, some)), known_callers c.functions (n - 1) frames (λ i h. known_at i (omega (arith, h))))

        good_is : trace_good functions (frames_in n frames) ≡ traceable (functions_from c.functions 0 without_constants) (frames_in n frames)
        unfolding program_lent
        good_is = trace_is_good functions c.functions (functions_from c.functions 0 without_constants) (code_size (bare c) without_constants parts) (frames_in n frames) all_known

        fits : {room : ℕ} → 3 * n ≤ room → trace_good functions (frames_in n frames) ≡ true → TraceFits functions main_places other_places (get_or frames (n - 1) no_frame) (n - 1) frames room
        unfolding frames_in program_lent
        fits h e =
            let gs = functions_from c.functions 0 without_constants in
            let (here, rest) = traced_first gs (get_or frames (n - 1) no_frame) (callers_of (n - 1) frames) (sym good_is ∙ e) in
            record {
              fits = omega (arith, some, h);
              there = omega (arith, there);
              first = readable (bare c) without_constants parts (get_or frames (n - 1) no_frame) here;
              each = λ i l. readable (bare c) without_constants parts (get_or frames i no_frame) (traced_at gs (n - 1) frames rest i l);
            }

        ready : {room : ℕ} → 3 * n ≤ room → Traceable functions main_places other_places n frames room
        ready h = record { some = some; there = there; fits = fits h }

        counted : length (frames_in n frames) ≡ n
        unfolding frames_in
        counted = omega (arith, length_callers (n - 1) frames, some)

        -- the rules' backtrace and the code's
        written_is : (b : Bool) → trace_good functions (frames_in n frames) ≡ b → (out : List ℕ)
            → trace_into functions main_places other_places n frames out ≡ put_trace (backtrace_of fs (frames_in n frames)) out
        unfolding trace_into put_trace backtrace_of
        written_is true e out =
            let told : trace_words functions main_places other_places (frames_in n frames) ≡ entry_words
            (trace_of (functions_from c.functions 0 without_constants) (frames_in n frames)) = unfold program_lent in trace_told
            (bare c) without_constants parts (frames_in n frames) (sym good_is ∙ e) in
            let same = same_functions c.functions 0 in
            rw (e, ← same, ← good_is, e, told, length_trace (functions_from c.functions 0 without_constants) (frames_in n frames), counted)
        written_is false e out = rw (e, ← same_functions c.functions 0, ← good_is, e)

  -- ---- by the tests

  by_parts : (stack : List ℕ) (frames : List Frame) → trace_order m stores stack frames ≡ (trace_program c stores && frame_store_ok fs (places 2 stack) n frames)
  unfolding trace_order trace_program
  by_parts stack frames = refl

  pub functions_counted : (b : Bool) → b ≡ trace_program c stores → 2 * (if b then c.functions else 0) ≤ length functions
  functions_counted true e = enough (sym e)
  functions_counted false e = omega arith

  pub frames_judged : (stack : List ℕ) (frames : List Frame) (b f : Bool) → b ≡ trace_program c stores
      → f ≡ frames_good functions (if b then c.functions else 0) (places 2 stack) n frames → (b && f) ≡ trace_order m stores stack frames
  frames_judged stack frames true f e g = g ∙ by_words (sym e) (places 2 stack) frames ∙ sym (by_parts stack frames ∙ ap (λ (b : Bool). b && frame_store_ok fs (places 2 stack) n frames) (sym e))
  frames_judged stack frames false f e g = sym (by_parts stack frames ∙ ap (λ (b : Bool). b && frame_store_ok fs (places 2 stack) n frames) (sym e))

  module _ (stack : List ℕ) (frames : List Frame) (out : List ℕ) {w : Result Unit Refusal} (told : w ≡ trace_refusal (trace_order m stores stack frames) n out) where
    module _ (none : w ≡ Ok tt) where
      order : trace_order m stores stack frames ≡ true
      unfolding trace_refusal
      order = (none_good (trace_order m stores stack frames) (ltb (places 3 out) n) (sym told ∙ none)).0

      room : ltb (places 3 out) n ≡ false
      unfolding trace_refusal
      room = (none_good (trace_order m stores stack frames) (ltb (places 3 out) n) (sym told ∙ none)).1

      program : trace_program c stores ≡ true
      program = and_left (trace_program c stores) (frame_store_ok fs (places 2 stack) n frames) (sym (by_parts stack frames) ∙ order)

      framed : frame_store_ok fs (places 2 stack) n frames ≡ true
      framed = and_right (trace_program c stores) (frame_store_ok fs (places 2 stack) n frames) (sym (by_parts stack frames) ∙ order)

      pub trace_ready : Traceable functions main_places other_places n frames (length out)
      unfolding places
      trace_ready = ready program (places 2 stack) frames framed (omega (arith, ltb-false (places 3 out) n room))

      pub trace_is : trace_into functions main_places other_places n frames out ≡ backtrace_in m stores stack frames out
      unfolding backtrace_in frames_in
      trace_is =
          let k : n - 1 ≤ length frames = omega (arith, there program (places 2 stack) frames framed) in
          written_is program (places 2 stack) frames framed (trace_good functions (frames_in n frames)) refl out ∙ rw (order, room, innermost_is n frames refl, callers_are n frames refl k)

    pub trace_refused : {e : Refusal} → w ≡ Err e → refused_with e out ≡ backtrace_in m stores stack frames out
    unfolding backtrace_in trace_refusal
    trace_refused is = refused_by_lem (trace_order m stores stack frames) (ltb (places 3 out) n) _ out (sym is ∙ told)
