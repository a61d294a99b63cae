-- A new program, a struct name more, a new function, and the end of one: good order is kept, and what the program then is.
use Rattle.std.specs.Prelude.{if◌then◌else◌, Ok}
use mathlib.Core.Path.{◌≡◌, refl, ap, ◌∙◌}
use mathlib.Core.Bool.{Bool, true, false, ◌&&◌}
use mathlib.Core.List.{List, [], ◌∷◌, ◌++◌}
use mathlib.Core.Option.{Option, none, some}
use Prim.Native.Nat.{ℕ, zero, suc, ◌+◌, ◌*◌, ◌≤◌, ◌<◌, ◌^◌}
use native.Mathlib.Omega.{arith}
use native.Mathlib.Numerals.{lt_of_le_of_ne}
use lib.Dec.{eqb, leb}
use lib.ListN.{length}
use borrow.Author.Tests.{le-leb, leb-true, leb-false, eqb-true, eqb-false}
use Rattle.model.specs.declared.Counts.{Counts}
use Rattle.model.specs.declared.Refusal.{Refusal}
use Rattle.model.specs.declared.Refusal.TheVariants as why
use Rattle.model.specs.Basics.{ascii, every_from}
use Rattle.model.specs.Values.{places, text_at, kind_at, payload_at, put_words}
use Rattle.model.specs.Equality.{same_bytes}
use Rattle.model.specs.Programs.{Function, Program, main_name, first_from, among, name_limit}
use Rattle.model.specs.Stores.{Stores, start, size, pack, part, struct_word, order_word, name_word, code_word, code_end, constants_from, structs_from, function_in, functions_from, program_in, with_structs, with_functions, with_text}
use Rattle.model.specs.Orders.{counts_ok, text_ok, inside_text, constants_ok, name_in_order, structs_ok, code_start, functions_ok, main_ok, main_taken, other_taken, inside_codes, program_ok}
use Rattle.model.specs.Emission.{Res, refuse, counts, one_struct, one_function, written, text_room, new_of, struct_names, with_struct_name, struct_added, struct_found, struct_order, add_struct_of, function_order, begun, begin_function_of, end_function_of}
use Rattle.laws_names.specs.Sorted.{Spot, struct_put}
use Rattle.laws_names.proofs.Halves.{edge_spot}
use Rattle.laws_names.proofs.Putting.{length_struct_put, new_word, old_word}
use Rattle.laws_names.proofs.Standing.{Somewhere, somewhere, none_among, put_named, stays_in_order}
use Rattle.layout.proofs.Bools.{either_way, and_left, and_right}
use Rattle.layout.proofs.Parts.{room_1, room_2, places_same, start_pack, size_pack}
use Rattle.laws_programs.proofs.Known.{Limited, limited, Structs, structs_known, structs_good, text_inside, constants_known, function_known}
use Rattle.layout.proofs.Writing.{length_written}
use Rattle.laws_programs.proofs.Searching.{among_none, among_some}
use Rattle.laws_programs.proofs.Entered.{same_counts, ended_in_main}
use Rattle.laws_programs.proofs.Adding.{start_below}
use Rattle.laws_programs.proofs.Keeping.{Good, good_of, of_good, inside_back, function_good, Kept}
use Rattle.laws_programs.proofs.Growing.{part_kept, part_new, inside_more, constants_more, functions_more, names_same, main_kept, words_here, words_other, counts_good, function_begun}
use Rattle.laws_programs.proofs.Reading.{all_same, constants_alike, constant_alike, Reads}

-- ---- what an entry leaves when it is done: a program in good order, and this one

pub record Made (want : Program) (r : Res) : Type 0 where
  pub made : (d : Counts) (i : ℕ) → r.answer ≡ Ok (d, i) → (program_ok d r.stores ≡ true) × (program_in d r.stores ≡ want)

made_if : (want : Program) (b : Bool) (x y : Res) → (b ≡ true → Made want x) → (b ≡ false → Made want y) → Made want (if b then x else y)
made_if want true x y h k = h refl
made_if want false x y h k = k refl

made_refused : (want : Program) (e : Refusal) (s : Stores) → Made want (refuse e s)
made_refused want e s = record { made = λ d i q. absurd (let z : ◌≡◌ {A = ℕ} 0 1 = cc in let y : ⊥ = omega arith in y) }

made_done : {want : Program} (d : Counts) (n : ℕ) (s : Stores) → Good d s → program_in d s ≡ want → Made want (record { answer = Ok (d, n); stores = s })
made_done d n s g e = record { made = λ d' i q. rw (← (same_counts q)) (of_good d s g, e) }

kept_of : {want : Program} {r : Res} → Made want r → Kept r
kept_of m = record { kept = λ d i e. (m.made d i e).0 }

reads_of : {want : Program} {r : Res} → Made want r → Reads want r
reads_of m = record { reads = λ d i e. (m.made d i e).1 }

-- ---- a text appended: what was there is as it was

module _ (c : Counts) (s : Stores) (g : Good c s) (lent : List ℕ) (room : c.text + length lent ≤ places 1 s.text) where
  abbrev u : List ℕ
  u = written s.text c.text lent

  inside : (c.text + length lent ≤ length s.text) × (c.text < 2 ^ 32)
  inside = let x = room_1 s.text in (omega arith, omega arith)

  same : (v : ℕ) → start v + size v ≤ c.text → part u v ≡ part s.text v
  same = part_kept s.text c.text lent inside.0

  new_part : part u (pack c.text (length lent)) ≡ lent
  new_part = part_new s.text c.text lent inside.0 inside.1

  text_room_lem : c.text + length lent ≤ places 1 u
  text_room_lem = rw (places_same 1 u s.text (length_written s.text c.text lent)) room

  constants_kept : constants_from c.constants 0 s.constants u ≡ constants_from c.constants 0 s.constants s.text
  constants_kept =
      let cs = s.constants in
      constants_alike c.constants 0 cs cs s.text u (λ j l. constant_alike c s.text u same (kind_at cs j) (payload_at cs j) ((constants_known c cs g.constants).each j (omega arith)))

  old_name : (j : ℕ) → j < c.functions → part u (name_word s.functions j) ≡ part s.text (name_word s.functions j)
  old_name j h = same (name_word s.functions j) (function_known c s.functions g.functions j h).name

-- ---- a struct name more

structs_snoc : (n i : ℕ) (ss t : List ℕ) → structs_from (suc n) i ss t ≡ structs_from n i ss t ++ (part t (struct_word ss (i + n)) ∷ [])
unfolding structs_from
structs_snoc zero i ss t = let z : i + 0 ≡ i = omega arith in rw z
structs_snoc (suc n) i ss t = let z : i + suc n ≡ suc i + n = omega arith in ap (λ (q : List (List ℕ)). part t (struct_word ss i) ∷ q) (rw z (structs_snoc n (suc i) ss t))

structs_alike : (n i : ℕ) (ss ds t u : List ℕ) → ((j : ℕ) → j < i + n → part u (struct_word ds j) ≡ part t (struct_word ss j)) → structs_from n i ds u ≡ structs_from n i ss t
unfolding structs_from
structs_alike zero i ss ds t u h = refl
structs_alike (suc n) i ss ds t u h = rw (h i (omega arith), structs_alike n (suc i) ss ds t u (λ j l. h j (omega arith)))

-- a program with that struct name: it has it already, or it is then the last
unfoldable pub with_name : Program → List ℕ → Program
with_name q x = record { constants = q.constants; structs = if among x q.structs then q.structs else q.structs ++ (x ∷ []); functions = q.functions }

module _ (c : Counts) (s : Stores) (g : Good c s) (lent : List ℕ) (room : c.text + length lent ≤ places 1 s.text) (few : c.structs < 65536) (fits : c.structs < places 2 s.structs)
    (fresh : among lent (structs_from c.structs 0 s.structs s.text) ≡ false) where
  abbrev t : List ℕ
  t = written s.text c.text lent

  abbrev w : ℕ
  w = pack c.text (length lent)

  abbrev ss : List ℕ
  ss = with_struct_name c lent s

  abbrev d : Counts
  d = one_struct (length lent) c

  lim : Limited c
  lim = limited c g.counts

  known : Structs c s.structs s.text
  known = structs_known c s.structs s.text g.structs

  -- the place of the name in the order
  place : Somewhere c.structs (name_in_order s.structs s.text) lent
  place = somewhere c.structs (name_in_order s.structs s.text) lent

  spot : Spot c.structs (name_in_order s.structs s.text) lent place.at
  spot = edge_spot c.structs (name_in_order s.structs s.text) known.order.ascending lent place.at place.edge

  put : struct_put c.structs place.at w s.structs ≡ ss
  unfolding with_struct_name struct_names
  put = put_named c.structs s.structs s.text known.order lent place.at spot w

  two : 2 * c.structs + 2 ≤ length s.structs
  two = let x = room_2 s.structs in omega arith

  word_new : struct_word ss c.structs ≡ w
  word_new = rw (← put) (new_word c.structs place.at w s.structs spot.most two)

  word_old : (j : ℕ) → (j ≡ c.structs → ⊥) → struct_word ss j ≡ struct_word s.structs j
  word_old j e = rw (← put) (old_word c.structs place.at w s.structs spot.most two j e)

  same_size : length ss ≡ length s.structs
  same_size = rw (← put) (length_struct_put c.structs place.at w s.structs spot.most two)

  old_inside : (j : ℕ) → j < c.structs → inside_text c (struct_word s.structs j) ≡ true
  old_inside = known.inside

  old_same : (j : ℕ) → j < c.structs → part t (struct_word s.structs j) ≡ part s.text (struct_word s.structs j)
  old_same j h = same c s g lent room (struct_word s.structs j) (text_inside c (struct_word s.structs j) (old_inside j h))

  names_now : structs_from (suc c.structs) 0 ss t ≡ structs_from c.structs 0 s.structs s.text ++ (lent ∷ [])
  names_now =
      let z : 0 + c.structs ≡ c.structs = omega arith in
      let old : structs_from c.structs 0 ss t ≡ structs_from c.structs 0 s.structs s.text =
      structs_alike c.structs 0 s.structs ss s.text t (λ j h. rw (word_old j (λ (q : j ≡ c.structs). omega arith)) (old_same j (omega arith))) in
      structs_snoc c.structs 0 ss t ∙ rw (z, word_new, new_part c s g lent room, old)

  new_inside : inside_text d w ≡ true
  new_inside = let x = inside c s g lent room in inside_back d w (rw (start_pack c.text (length lent) x.1, size_pack c.text (length lent) x.1) (omega arith))

  each_inside : (j : ℕ) → j < suc c.structs → inside_text d (struct_word ss j) ≡ true
  each_inside j h =
      either_way (eqb j c.structs)
      (λ e. let q : j ≡ c.structs = eqb-true j c.structs e in rw (q, word_new) new_inside)
      (λ e.
      let q : j ≡ c.structs → ⊥ = eqb-false j c.structs e in
      rw (word_old j q) (inside_more c d (omega arith) (struct_word s.structs j) (old_inside j (lt_of_le_of_ne (omega arith) q))))

  -- the name is none of those that stand in order
  new : (i : ℕ) → i < c.structs → same_bytes lent (name_in_order s.structs s.text i) ≡ false
  unfolding name_in_order
  new i h =
      let k = order_word s.structs i in let z : 0 + k ≡ k = omega arith in
      rw z at (none_among c.structs 0 lent s.structs s.text fresh k (known.order.below i h))

  structs_now : structs_ok d ss t ≡ true
  structs_now = structs_good d ss t (record {
    within = rw (places_same 2 ss s.structs same_size) fits;
    inside = each_inside;
    order = rw put at (stays_in_order c.structs s.structs s.text known.order lent place.at spot new w t two old_same (new_part c s g lent room));
  })

  named_good : Good d (with_structs ss (with_text t s))
  unfolding text_ok inside_codes other_taken
  named_good =
      let x = room_1 s.text in
      record {
        counts = counts_good d lim.constants (omega arith) lim.some lim.functions (omega arith) lim.main_or_newest;
        text = le-leb (c.text + length lent) (places 1 t) (text_room_lem c s g lent room);
        constants = constants_more c d (omega arith) s.constants refl g.constants;
        structs = structs_now;
        functions = functions_more c d (omega arith) s.functions refl g.functions;
        main = main_kept c s.functions s.text t g.functions lim.some (same c s g lent room) g.main;
        codes = g.codes;
        places = g.places;
      }

  named_reads : program_in d (with_structs ss (with_text t s)) ≡ with_name (program_in c s) lent
  unfolding program_in with_name function_in
  named_reads =
      let e : functions_from c.functions 0 (with_structs ss (with_text t s)) ≡ functions_from c.functions 0 s =
      all_same s (with_structs ss (with_text t s)) c.functions 0 (λ j a b. rw (old_name c s g lent room j (omega arith))) in
      rw (constants_kept c s g lent room, names_now, e, fresh)

module _ (c : Counts) (lent : List ℕ) (s : Stores) (e : program_ok c s ≡ true) where
  good : Good c s
  good = good_of c s e

  added_made : among lent (structs_from c.structs 0 s.structs s.text) ≡ false → Made (with_name (program_in c s) lent) (struct_added c lent s)
  unfolding struct_added text_room
  added_made fresh =
      let want = with_name (program_in c s) lent in
      made_if want (leb name_limit c.structs) _ _ (λ _. made_refused want why.OverLimit s) (λ few.
      made_if want (leb (places 2 s.structs) c.structs) _ _ (λ _. made_refused want why.StoreFull s) (λ fits.
      made_if want (leb (c.text + length lent) (places 1 s.text)) _ _ (λ r.
      made_done _ c.structs _ (named_good c s good lent (leb-true _ _ r) (leb-false _ _ few) (leb-false _ _ fits) fresh)
      (named_reads c s good lent (leb-true _ _ r) (leb-false _ _ few) (leb-false _ _ fits) fresh))
      (λ _. made_refused want why.StoreFull s)))

  found_made : (o : Option ℕ) → first_from 0 lent (structs_from c.structs 0 s.structs s.text) ≡ o → Made (with_name (program_in c s) lent) (struct_found c lent s o)
  unfolding struct_found with_name program_in
  found_made (some i) q = made_done c i s good (rw (among_some 0 lent _ i q))
  found_made none q = added_made (among_none 0 lent _ q)

  struct_made : (running : Bool) → Made (with_name (program_in c s) lent) (add_struct_of running c lent s)
  unfolding add_struct_of struct_names
  struct_made running =
      let want = with_name (program_in c s) lent in
      made_if want (struct_order c s) _ _ (λ _.
      made_if want running _ _ (λ _. made_refused want why.RunUnderWay s) (λ _. found_made _ refl))
      (λ _. made_refused want why.NotInOrder s)

-- add_struct_info
pub struct_keeps : (running : Bool) (c : Counts) (lent : List ℕ) (s : Stores) → program_ok c s ≡ true → Kept (add_struct_of running c lent s)
struct_keeps running c lent s e = kept_of (struct_made c lent s e running)

pub struct_reads : (running : Bool) (c : Counts) (lent : List ℕ) (s : Stores) → program_ok c s ≡ true → Reads (with_name (program_in c s) lent) (add_struct_of running c lent s)
struct_reads running c lent s e = reads_of (struct_made c lent s e running)

-- ---- a new program

abbrev empty : List ℕ → Function
empty name = record { name = name; code = []; places = [] }

unfoldable pub only_main : Program
only_main = record { constants = []; structs = []; functions = empty main_name ∷ [] }

module _ (s : Stores) (text : 6 ≤ places 1 s.text) (room : 1 ≤ places 2 s.functions) where
  abbrev fs : List ℕ
  fs = written s.functions 0 (pack 0 6 ∷ 0 ∷ [])

  abbrev named : List ℕ
  named = written s.text 0 main_name

  abbrev one : Counts
  one = counts 0 0 1 6 0

  two_words : (name_word fs 0 ≡ pack 0 6) × (code_word fs 0 ≡ 0)
  unfolding written put_words name_word code_word
  two_words = words_here s.functions 0 (pack 0 6) 0 (let x = room_2 s.functions in omega arith)

  main_named : part named (name_word fs 0) ≡ main_name
  unfolding main_name ascii
  main_named = rw two_words.0 (part_new s.text 0 main_name (let x = room_1 s.text in omega arith) (omega arith))

  no_code : code_end fs 0 ≡ 0
  unfolding code_end start size
  no_code = rw two_words.1

  new_good : Good one (with_functions fs (with_text named s))
  unfolding counts_ok text_ok constants_ok structs_ok every_from functions_ok main_ok same_bytes main_name ascii inside_codes main_taken other_taken code_start start size pack
  new_good = record {
    counts = refl;
    text = le-leb 6 (places 1 named) (rw (places_same 1 named s.text (length_written s.text 0 main_name)) text);
    constants = rw (le-leb 0 (places 2 s.constants) (omega arith));
    structs = rw (le-leb 0 (places 2 s.structs) (omega arith));
    functions = rw (
      le-leb 1 (places 2 fs) (rw (places_same 2 fs s.functions (length_written s.functions 0 (pack 0 6 ∷ 0 ∷ []))) room),
      function_good one fs 0
          (inside_back one (name_word fs 0) (rw two_words.0 (omega arith))) (rw two_words.1) (rw two_words.1 (omega arith)) (rw no_code (omega arith)),
    );
    main = rw main_named;
    codes = rw (no_code, le-leb 0 (places 1 s.main) (omega arith), le-leb 0 (places 1 s.other) (omega arith));
    places = rw (no_code, le-leb 0 (places 1 s.main_places) (omega arith), le-leb 0 (places 1 s.other_places) (omega arith));
  }

  new_program : program_in one (with_functions fs (with_text named s)) ≡ only_main
  unfolding program_in constants_from structs_from functions_from function_in only_main part text_at start size
  new_program = rw (main_named, two_words.1)

new_made : (s : Stores) → Made only_main (new_of s)
unfolding new_of
new_made s =
    let a = leb 6 (places 1 s.text) in let b = leb 1 (places 2 s.functions) in
    made_if only_main (a && b) _ _
    (λ t. made_done _ 0 _ (new_good s (leb-true _ _ (and_left a b t)) (leb-true _ _ (and_right a b t))) (new_program s (leb-true _ _ (and_left a b t)) (leb-true _ _ (and_right a b t))))
    (λ _. made_refused only_main why.StoreFull s)

pub new_keeps : (s : Stores) → Kept (new_of s)
new_keeps s = kept_of (new_made s)

pub new_reads : (s : Stores) → Reads only_main (new_of s)
new_reads s = reads_of (new_made s)

-- ---- a new function, and the end of one

functions_snoc : (n i : ℕ) (s : Stores) → functions_from (suc n) i s ≡ functions_from n i s ++ (function_in s (i + n) ∷ [])
unfolding functions_from
functions_snoc zero i s = let z : i + 0 ≡ i = omega arith in rw z
functions_snoc (suc n) i s = let z : i + suc n ≡ suc i + n = omega arith in ap (λ (q : List Function). function_in s i ∷ q) (rw z (functions_snoc n (suc i) s))

-- a program with a function of that name, and no code, behind the others
unfoldable pub with_function : Program → List ℕ → Program
with_function q x = record { constants = q.constants; structs = q.structs; functions = q.functions ++ (empty x ∷ []) }

nothing : (m : List ℕ) (o : ℕ) → o < 2 ^ 32 → part m (pack o 0) ≡ []
unfolding part text_at
nothing m o h = rw (size_pack o 0 h)

module _ (c : Counts) (s : Stores) (g : Good c s) (lent : List ℕ) (room : c.text + length lent ≤ places 1 s.text) (fits : c.functions < places 2 s.functions) where
  abbrev behind : ℕ
  behind = other_taken c s.functions

  abbrev fs' : List ℕ
  fs' = put_words s.functions c.functions (pack c.text (length lent)) (pack behind 0)

  abbrev s' : Stores
  s' = with_functions fs' (with_text (written s.text c.text lent) s)

  pair : 2 * c.functions + 2 ≤ length s.functions
  pair = let x = room_2 s.functions in omega arith

  old_functions : functions_from c.functions 0 s' ≡ functions_from c.functions 0 s
  unfolding function_in name_word code_word
  old_functions = all_same s s' c.functions 0 (λ j a b.
      let x = words_other s.functions c.functions (pack c.text (length lent)) (pack behind 0) pair j (λ (q : j ≡ c.functions). omega arith) in
      rw (x.0, x.1, old_name c s g lent room j (omega arith)))

  new_function : function_in s' c.functions ≡ empty lent
  unfolding function_in name_word code_word other_taken
  new_function =
      let x = words_here s.functions c.functions (pack c.text (length lent)) (pack behind 0) pair in
      let b : behind < 2 ^ 32 = (let y = start_below c s.functions g.functions c.functions (omega arith) in omega arith) in
      rw (
        x.0,
        x.1,
        new_part c s g lent room,
        nothing (if eqb c.functions 0 then s.main else s.other) behind b,
        nothing (if eqb c.functions 0 then s.main_places else s.other_places) behind b,
      )

  begun_reads : program_in (one_function (length lent) c) s' ≡ with_function (program_in c s) lent
  unfolding program_in with_function
  begun_reads =
      let z : 0 + c.functions ≡ c.functions = omega arith in
      let e : functions_from (suc c.functions) 0 s' ≡ functions_from c.functions 0 s ++ (empty lent ∷ []) = functions_snoc c.functions 0 s' ∙ rw (z, old_functions, new_function) in
      let n : structs_from c.structs 0 s.structs (written s.text c.text lent) ≡ structs_from c.structs 0 s.structs s.text =
      names_same c c (omega arith) s.structs s.text _ (same c s g lent room) c.structs 0 (λ j l. (structs_known c s.structs s.text g.structs).inside j (omega arith)) in
      rw (constants_kept c s g lent room, n, e)

begin_made : (running : Bool) (c : Counts) (name : List ℕ) (s : Stores) → program_ok c s ≡ true → Made (with_function (program_in c s) name) (begin_function_of running c name s)
unfolding begin_function_of begun text_room
begin_made running c name s e =
    let want = with_function (program_in c s) name in let g = good_of c s e in
    made_if want (function_order c s) _ _ (λ _.
    made_if want running _ _ (λ _. made_refused want why.RunUnderWay s) (λ _.
    made_if want (leb name_limit c.functions) _ _ (λ _. made_refused want why.OverLimit s) (λ few.
    made_if want (leb (places 2 s.functions) c.functions) _ _ (λ _. made_refused want why.StoreFull s) (λ fits.
    made_if want (leb (c.text + length name) (places 1 s.text)) _ _ (λ t.
    let room = leb-true _ _ t in
    made_done _ c.functions _ (function_begun c s g (leb-false _ _ few) (leb-false _ _ fits) (length name) _ (text_room_lem c s g name room)
    (same c s g name room)) (begun_reads c s g name room (leb-false _ _ fits)))
    (λ _. made_refused want why.StoreFull s)))))
    (λ _. made_refused want why.NotInOrder s)

-- begin_function
pub begin_keeps : (running : Bool) (c : Counts) (name : List ℕ) (s : Stores) → program_ok c s ≡ true → Kept (begin_function_of running c name s)
begin_keeps running c name s e = kept_of (begin_made running c name s e)

pub begin_reads : (running : Bool) (c : Counts) (name : List ℕ) (s : Stores) → program_ok c s ≡ true → Reads (with_function (program_in c s) name) (begin_function_of running c name s)
begin_reads running c name s e = reads_of (begin_made running c name s e)

-- end_function changes no program
pub end_reads : (running : Bool) (c : Counts) (s : Stores) → program_ok c s ≡ true → (d : Counts) (n : ℕ) → end_function_of running c ≡ Ok (d, n) → program_in d s ≡ program_in c s
unfolding program_in
end_reads running c s e d n q = rw (← (ended_in_main running c d n q))
