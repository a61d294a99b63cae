-- What the program then is: the old one with the bytes appended to the current function's code or patched inside it, or with the constant appended.
use Rattle.std.specs.Prelude.{if◌then◌else◌, Ok}
use mathlib.Core.Path.{◌≡◌, refl, sym, ap, ◌∙◌}
use mathlib.Core.Bool.{Bool, true, false, not}
use mathlib.Core.List.{List, [], ◌∷◌, ◌++◌, append_assoc}
use Prim.Native.Nat.{ℕ, zero, suc, ◌+◌, ◌-◌, ◌*◌, ◌≤◌, ◌<◌, ◌^◌}
use native.Mathlib.Omega.{arith}
use native.Mathlib.Numerals.{lt_of_le_of_ne}
use lib.Dec.{eqb, leb, ltb}
use lib.ListN.{length, set, take, drop, replicate, length-replicate, length-drop}
use lib.Seq.{take-append-add, take-add, drop_at, take_at, length-take-le, take-set-lt, drop-set-add}
use borrow.Author.Tests.{eq-eqb, ne_eqb, eqb-true, eqb-false, ltb-false, leb-true, leb-false}
use Rattle.model.specs.declared.Constant.{Constant}
use Rattle.model.specs.declared.Constant.TheVariants as k
use Rattle.model.specs.declared.Counts.{Counts}
use Rattle.model.specs.declared.Refusal.{Refusal}
use Rattle.model.specs.declared.Refusal.TheVariants as why
use Rattle.model.specs.Values.{places, text_at, kind_at, payload_at, put_words}
use Rattle.model.specs.Programs.{scalar, boolean, string, reference, Function, function_at, Program, code_limit, constant_limit}
use Rattle.model.specs.Programs as p
use Rattle.model.specs.Stores.{Stores, start, size, pack, part, name_word, code_word, code_end, code_here, places_here, with_code, with_functions, with_main, with_other, with_constants, with_text, constant_in, constants_from, structs_from, function_in, functions_from, program_in}
use Rattle.model.specs.Orders.{inside_text, constant_ok, code_start, program_ok}
use Rattle.model.specs.Emission.{Res, refuse, one_constant, text_room, with_constant, with_text_constant, constant_added, constant_order, add_constant_of, code_order, emit_in, emit_of, written, size_here, end_here, code_room, longer, appended, u16, patch_order, patched, patch_of}
use Rattle.layout.proofs.Bools.{apart, either_way}
use Rattle.layout.proofs.Parts.{room_1, room_2, start_pack, size_pack}
use Rattle.laws_programs.proofs.Known.{Limited, limited, function_known, ascending, constants_known, structs_known, text_inside, code_in_other}
use Rattle.laws_programs.proofs.Entered.{same_counts}
use Rattle.laws_programs.proofs.Keeping.{Good, good_of, Longer, in_code, in_places, now_longer}
use Rattle.laws_programs.proofs.Growing.{split, part_kept, part_new, words_here, words_other, names_same}

-- ---- code

-- a part made longer by what is written behind it
pub part_longer : (m l : List ℕ) (a z : ℕ) → a + z + length l ≤ length m → take (z + length l) (drop a (written m (a + z) l)) ≡ take z (drop a m) ++ l
part_longer m l a z h =
    let x : take (a + z) m ≡ take a m ++ take z (drop a m) = take-add a z m in
    let la : length (take a m) ≡ a = length-take-le a m (omega arith) in
    let ld : length (drop a m) ≡ length m - a = length-drop a m in
    let lz : length (take z (drop a m)) ≡ z = length-take-le z (drop a m) (omega arith) in
    let rest = l ++ drop (a + z + length l) m in
    let e1 : written m (a + z) l ≡ take a m ++ (take z (drop a m) ++ rest) = split m (a + z) l h ∙ rw x (append_assoc (take a m) (take z (drop a m)) rest) in
    let e2 : drop a (take a m ++ (take z (drop a m) ++ rest)) ≡ take z (drop a m) ++ rest = drop_at (take a m) (take z (drop a m) ++ rest) a la in
    let e3 : take (length (take z (drop a m)) + length l) (take z (drop a m) ++ rest) ≡ take z (drop a m) ++ take (length l) rest = take-append-add (take z (drop a m)) rest (length l) in
    let e4 : take (length l) rest ≡ l = take_at l (drop (a + z + length l) m) (length l) refl in
    rw (e1, e2) (ap (λ (q : ℕ). take (q + length l) (take z (drop a m) ++ rest)) (sym lz) ∙ e3 ∙ rw e4)

positive : (j : ℕ) → (j ≡ 0 → ⊥) → 1 ≤ j
positive zero h = absurd (h refl)
positive (suc j) h = omega arith

start_small : (w : ℕ) → start w < 2 ^ 32
unfolding start
start_small w = omega arith

part_more : (m l : List ℕ) (w n : ℕ) → length l ≡ n → start w + size w + n ≤ length m → part (written m (start w + size w) l) (pack (start w) (size w + n)) ≡ part m w ++ l
unfolding part text_at
part_more m l w n e h =
    let x = start_small w in
    rw (start_pack (start w) (size w + n) x, size_pack (start w) (size w + n) x, ← e) (part_longer m l (start w) (size w) (rw e h))

-- ---- functions, number by number

module _ (s s' : Stores) where
  pub all_same : (n i : ℕ) → ((j : ℕ) → i ≤ j → j < i + n → function_in s' j ≡ function_in s j) → functions_from n i s' ≡ functions_from n i s
  unfolding functions_from
  all_same zero i h = refl
  all_same (suc n) i h = rw (h i (omega arith) (omega arith), all_same n (suc i) (λ j a b. h j (omega arith) (omega arith)))

  -- only function k is another one
  one_other : (n i k : ℕ) → i ≤ k → k < i + n → ((j : ℕ) → j < i + n → (j ≡ k → ⊥) → function_in s' j ≡ function_in s j) → functions_from n i s' ≡ set (functions_from n i s) (k - i) (function_in s' k)
  unfolding functions_from
  one_other zero i k a b h = absurd (let y : ⊥ = omega arith in y)
  one_other (suc n) i k a b h = either_way (eqb i k)
      (λ t.
      let e : i ≡ k = eqb-true i k t in
      let z : k - i ≡ 0 = omega arith in
      rw (z, e) (ap (λ (q : List Function). function_in s' k ∷ q) (rw e at (all_same n (suc i) (λ j u v. h j (omega arith) (λ (w : j ≡ k). omega arith))))))
      (λ f.
      let d : i ≡ k → ⊥ = eqb-false i k f in
      let l : i < k = lt_of_le_of_ne a d in
      let z : k - i ≡ suc (k - suc i) = omega arith in
      rw (z, h i (omega arith) d) (ap (λ (q : List Function). function_in s i ∷ q) (one_other n (suc i) k (omega arith) (omega arith) (λ j u v. h j (omega arith) v))))

function_at_lem : (s : Stores) (n i j : ℕ) → j < n → function_at (functions_from n i s) j ≡ function_in s (i + j)
unfolding functions_from function_at
function_at_lem s zero i j h = absurd (let y : ⊥ = omega arith in y)
function_at_lem s (suc n) i zero h = let z : i + 0 ≡ i = omega arith in rw z
function_at_lem s (suc n) i (suc j) h = let z : i + suc j ≡ suc i + j = omega arith in rw z (function_at_lem s n (suc i) j (omega arith))

-- the program with another function at i
unfoldable pub changed : Program → ℕ → (Function → Function) → Program
changed q i f = record { constants = q.constants; structs = q.structs; functions = set q.functions i (f (function_at q.functions i)) }

-- with code appended
abbrev pub longer_by : List ℕ → List ℕ → Function → Function
longer_by bytes ps f = record { name = f.name; code = f.code ++ bytes; places = f.places ++ ps }

-- with code written anew from at on
abbrev pub patched_by : ℕ → List ℕ → Function → Function
patched_by at bytes f = record { name = f.name; code = written f.code at bytes; places = f.places }

reads_by : (c : Counts) (s s' : Stores) (f : Function → Function) → c.current < c.functions → s'.constants ≡ s.constants → s'.structs ≡ s.structs → s'.text ≡ s.text
    → function_in s' c.current ≡ f (function_in s c.current) → ((j : ℕ) → j < c.functions → (j ≡ c.current → ⊥) → function_in s' j ≡ function_in s j)
    → program_in c s' ≡ changed (program_in c s) c.current f
unfolding program_in changed
reads_by c s s' f h ec es et here others =
    let z : c.current - 0 ≡ c.current = omega arith in
    let y : 0 + c.current ≡ c.current = omega arith in
    let a : functions_from c.functions 0 s' ≡ set (functions_from c.functions 0 s) c.current (f (function_in s c.current)) =
    rw (z, here) at (one_other s s' c.functions 0 c.current (omega arith) (omega arith) (λ j u v. others j (omega arith) v)) in
    let b : function_at (functions_from c.functions 0 s) c.current ≡ function_in s c.current = rw y at (function_at_lem s c.functions 0 c.current h) in
    rw (a, b, ec, es, et)

module _ (c : Counts) (bytes : List ℕ) (place : ℕ) (s : Stores) (g : Good c s) (short : size_here c s + length bytes ≤ 65535) (fits : end_here c s + length bytes ≤ code_room c s) where
  ps : List ℕ
  ps = replicate (length bytes) place

  lim : Limited c
  lim = limited c g.counts

  word : ℕ
  word = code_word s.functions c.current

  words : Longer s.functions (longer c (length bytes) s) c.current (pack (start word) (size word + length bytes))
  unfolding word size_here
  words = now_longer c s g (length bytes) short fits

  end_here_lem : end_here c s ≡ start word + size word
  unfolding word end_here code_end
  end_here_lem = refl

  in_store : (m : List ℕ) → end_here c s + length bytes ≤ places 1 m → start word + size word + length bytes ≤ length m
  in_store m h = let x = room_1 m in let e = end_here_lem in omega arith

  more_code : (m l : List ℕ) → length l ≡ length bytes → end_here c s + length bytes ≤ places 1 m
      → part (written m (end_here c s) l) (code_word (longer c (length bytes) s) c.current) ≡ part m (code_word s.functions c.current) ++ l
  unfolding word
  more_code m l e h = rw (words.here, end_here_lem) (part_more m l word (length bytes) e (in_store m h))

  same_code : (m l : List ℕ) (j : ℕ) → j < c.functions → (j ≡ c.current → ⊥) → 1 ≤ j → (c.current ≡ 0 → ⊥) → length l ≡ length bytes → end_here c s + length bytes ≤ places 1 m
      → part (written m (end_here c s) l) (code_word s.functions j) ≡ part m (code_word s.functions j)
  unfolding code_end word
  same_code m l j h d one z e f =
      let n = lim.newest z in
      let b : j < c.current = lt_of_le_of_ne (omega arith) d in
      let q : code_end s.functions j ≤ code_start s.functions c.current = ascending c s.functions g.functions j c.current one b (let x = lim.current in omega arith) in
      let w = (function_known c s.functions g.functions c.current lim.current).starts in
      let x = room_1 m in let y = end_here_lem in
      part_kept m (end_here c s) l (omega arith) (code_word s.functions j) (omega arith)

  length_ps : length ps ≡ length bytes
  unfolding ps
  length_ps = length-replicate (length bytes) place

  reads_main : c.current ≡ 0 → program_in c (with_functions (longer c (length bytes) s)
      (with_main (written s.main (end_here c s) bytes) (written s.main_places (end_here c s) ps) s)) ≡ changed (program_in c s) c.current
      (longer_by bytes ps)
  unfolding function_in code_here places_here
  reads_main z =
      let a : end_here c s + length bytes ≤ places 1 s.main = rw (eq-eqb c.current 0 z) at (in_code c s g (length bytes) short fits) in
      let b : end_here c s + length bytes ≤ places 1 s.main_places = rw (eq-eqb c.current 0 z) at (in_places c s g (length bytes) short fits) in
      reads_by c s _ (longer_by bytes ps) lim.current refl refl refl
      (rw (eq-eqb c.current 0 z, words.names c.current, more_code s.main bytes refl a, more_code s.main_places ps length_ps b))
      (λ j h d. rw (ne_eqb j 0 (λ (q : j ≡ 0). d (q ∙ sym z)), words.names j, words.others j d))

  reads_other : (c.current ≡ 0 → ⊥) → program_in c (with_functions (longer c (length bytes) s)
      (with_other (written s.other (end_here c s) bytes) (written s.other_places (end_here c s) ps) s)) ≡ changed (program_in c s) c.current
      (longer_by bytes ps)
  unfolding function_in code_here places_here
  reads_other z =
      let a : end_here c s + length bytes ≤ places 1 s.other = rw (ne_eqb c.current 0 z) at (in_code c s g (length bytes) short fits) in
      let b : end_here c s + length bytes ≤ places 1 s.other_places = rw (ne_eqb c.current 0 z) at (in_places c s g (length bytes) short fits) in
      reads_by c s _ (longer_by bytes ps) lim.current refl refl refl
      (rw (ne_eqb c.current 0 z, words.names c.current, more_code s.other bytes refl a, more_code s.other_places ps length_ps b))
      (λ j h d. either_way (eqb j 0)
      (λ t. rw (t, words.names j, words.others j d))
      (λ f.
      let one : 1 ≤ j = positive j (eqb-false j 0 f) in
      rw (f, words.names j, words.others j d, same_code s.other bytes j h d one z refl a, same_code s.other_places ps j h d one z length_ps b)))

  -- the program then has the bytes, each with the place, at the end of the current function's code
  pub appended_reads : program_in c (appended c bytes place s).stores ≡ changed (program_in c s) c.current (longer_by bytes (replicate (length bytes) place))
  unfolding appended with_code code_here places_here ps
  appended_reads = either_way (eqb c.current 0) (λ t. rw t (reads_main (eqb-true c.current 0 t))) (λ f. rw f (reads_other (eqb-false c.current 0 f)))

-- ---- code patched

-- what is written inside a part is written in it
written_part : (l m : List ℕ) (a z i : ℕ) → i + length l ≤ z → take z (drop a (written m (a + i) l)) ≡ written (take z (drop a m)) i l
unfolding written
written_part [] m a z i h = refl
written_part (x ∷ l) m a z i h =
    let e : suc (a + i) ≡ a + suc i = omega arith in
    let one : take z (drop a (set m (a + i) x)) ≡ set (take z (drop a m)) i x = ap (take z) (drop-set-add a m i x) ∙ take-set-lt z (drop a m) i x (omega arith) in
    rw (e, ← one) (written_part l (set m (a + i) x) a z (suc i) (omega arith))

module _ (c : Counts) (at a : ℕ) (s : Stores) (g : Good c s) (within : at + 2 ≤ size_here c s) where
  bounded : Limited c
  bounded = limited c g.counts

  abbrev here : ℕ
  here = code_word s.functions c.current

  in_size : at + 2 ≤ size here
  unfolding size_here
  in_size = within

  patched_part : (m : List ℕ) → part (written m (start here + at) (u16 a)) here ≡ written (part m here) at (u16 a)
  unfolding part text_at u16
  patched_part m = written_part (u16 a) m (start here) (size here) at in_size

  in_other : (c.current ≡ 0 → ⊥) → start here + size here ≤ length s.other
  unfolding code_end
  in_other z = code_in_other c s.functions s.main s.other bounded g.codes z

  other_part : (j : ℕ) → j < c.functions → (j ≡ c.current → ⊥) → 1 ≤ j → (c.current ≡ 0 → ⊥)
      → part (written s.other (start here + at) (u16 a)) (code_word s.functions j) ≡ part s.other (code_word s.functions j)
  unfolding code_end u16
  other_part j h d one z =
      let n = bounded.newest z in
      let b : j < c.current = lt_of_le_of_ne (omega arith) d in
      let q : code_end s.functions j ≤ code_start s.functions c.current = ascending c s.functions g.functions j c.current one b (let x = bounded.current in omega arith) in
      let w = (function_known c s.functions g.functions c.current bounded.current).starts in
      let x = in_size in let y = in_other z in
      part_kept s.other (start here + at) (u16 a) (omega arith) (code_word s.functions j) (omega arith)

  patched_main : c.current ≡ 0 → program_in c (with_main (written s.main (start here + at) (u16 a)) s.main_places s) ≡ changed (program_in c s) c.current (patched_by at (u16 a))
  unfolding function_in
  patched_main z =
      reads_by c s _ (patched_by at (u16 a)) bounded.current refl refl refl
      (rw (eq-eqb c.current 0 z, patched_part s.main))
      (λ j h d. rw (ne_eqb j 0 (λ (q : j ≡ 0). d (q ∙ sym z))))

  patched_other : (c.current ≡ 0 → ⊥) → program_in c (with_other (written s.other (start here + at) (u16 a)) s.other_places s) ≡ changed (program_in c s) c.current (patched_by at (u16 a))
  unfolding function_in
  patched_other z =
      reads_by c s _ (patched_by at (u16 a)) bounded.current refl refl refl
      (rw (ne_eqb c.current 0 z, patched_part s.other))
      (λ j h d. either_way (eqb j 0) (λ t. rw t) (λ f. rw (f, other_part j h d (positive j (eqb-false j 0 f)) z)))

  patched_reads : program_in c (patched c at a s).stores ≡ changed (program_in c s) c.current (patched_by at (u16 a))
  unfolding patched with_code code_here places_here
  patched_reads = either_way (eqb c.current 0) (λ t. rw t (patched_main (eqb-true c.current 0 t))) (λ f. rw f (patched_other (eqb-false c.current 0 f)))

-- ---- constants

constants_snoc : (n i : ℕ) (cs t : List ℕ) → constants_from (suc n) i cs t ≡ constants_from n i cs t ++ (constant_in t (kind_at cs (i + n)) (payload_at cs (i + n)) ∷ [])
unfolding constants_from
constants_snoc zero i cs t = let z : i + 0 ≡ i = omega arith in rw z
constants_snoc (suc n) i cs t = let z : i + suc n ≡ suc i + n = omega arith in ap (λ (q : List p.Constant). constant_in t (kind_at cs i) (payload_at cs i) ∷ q) (rw z (constants_snoc n (suc i) cs t))

pub constants_alike : (n i : ℕ) (cs ds t u : List ℕ) → ((j : ℕ) → j < i + n
    → constant_in u (kind_at ds j) (payload_at ds j) ≡ constant_in t (kind_at cs j) (payload_at cs j)) → constants_from n i ds u ≡ constants_from n i cs t
unfolding constants_from
constants_alike zero i cs ds t u h = refl
constants_alike (suc n) i cs ds t u h = rw (h i (omega arith), constants_alike n (suc i) cs ds t u (λ j l. h j (omega arith)))

kinds_alike : (b0 b1 b2 b3 x y : Bool) (A B : p.Constant) (v w : List ℕ) → (if b0 then true else (if b1 then x else (if b3 then y else false))) ≡ true → (y ≡ true → v ≡ w)
    → (if b0 then A else (if b1 then B else (if b2 then string v else reference v))) ≡ (if b0 then A else (if b1 then B else (if b2 then string w else reference w)))
kinds_alike true b1 b2 b3 x y A B v w e h = refl
kinds_alike false true b2 b3 x y A B v w e h = refl
kinds_alike false false b2 true x y A B v w e h = rw (h e)
kinds_alike false false b2 false x y A B v w e h = apart false e refl

pub constant_alike : (c : Counts) (t u : List ℕ) → ((v : ℕ) → start v + size v ≤ c.text → part u v ≡ part t v) → (k a : ℕ) → constant_ok c k a ≡ true → constant_in u k a ≡ constant_in t k a
unfolding constant_ok constant_in
constant_alike c t u same k a e = kinds_alike (eqb k 0) (eqb k 1) (eqb k 2) (leb k 3) (ltb a 2) (inside_text c a) (scalar a) (boolean (not (eqb a 0))) (part u a)
    (part t a) e (λ y. same a (text_inside c a y))

-- a program with one constant more
unfoldable pub with_one : Program → p.Constant → Program
with_one q x = record { constants = q.constants ++ (x ∷ []); structs = q.structs; functions = q.functions }

module _ (c : Counts) (s : Stores) (g : Good c s) (fits : c.constants < places 2 s.constants) where
  -- n bytes more of text that change no part below, and the words of the new constant
  constant_reads : (n kind w : ℕ) (u : List ℕ) → ((v : ℕ) → start v + size v ≤ c.text → part u v ≡ part s.text v)
      → program_in (one_constant n c) (with_constants (put_words s.constants c.constants kind w) (with_text u s)) ≡ with_one (program_in c s) (constant_in u kind w)
  unfolding program_in with_one function_in
  constant_reads n kind w u same =
      let k = c.constants in let cs = s.constants in
      let two : 2 * k + 2 ≤ length cs = (let x = room_2 cs in omega arith) in
      let z : 0 + k ≡ k = omega arith in
      let h = words_here cs k kind w two in
      let old : constants_from k 0 (put_words cs k kind w) u ≡ constants_from k 0 cs s.text =
      constants_alike k 0 cs (put_words cs k kind w) s.text u (λ j l.
      let x = words_other cs k kind w two j (λ (q : j ≡ k). omega arith) in
      rw (x.0, x.1) (constant_alike c s.text u same (kind_at cs j) (payload_at cs j) ((constants_known c cs g.constants).each j (omega arith)))) in
      let e1 : constants_from (suc k) 0 (put_words cs k kind w) u ≡ constants_from k 0 cs s.text ++ (constant_in u kind w ∷ []) = constants_snoc k 0
      (put_words cs k kind w) u ∙ rw (z, h.0, h.1, old) in
      let e2 : structs_from c.structs 0 s.structs u ≡ structs_from c.structs 0 s.structs s.text = names_same c c (omega arith) s.structs
      s.text u same c.structs 0 (λ j l. (structs_known c s.structs s.text g.structs).inside j (omega arith)) in
      let e3 : functions_from c.functions 0 (with_constants (put_words cs k kind w) (with_text u s)) ≡ functions_from c.functions 0 s =
      all_same s (with_constants (put_words cs k kind w) (with_text u s)) c.functions 0
      (λ j a b. rw (same (name_word s.functions j) (function_known c s.functions g.functions j (omega arith)).name)) in
      rw (e1, e2, e3)

-- the constant that is meant
unfoldable pub meant : Constant → List ℕ → p.Constant
meant (k.Scalar w) lent = scalar w
meant (k.Boolean b) lent = boolean b
meant k.String lent = string lent
meant k.FunctionReference lent = reference lent

-- what an entry leaves when it is done stands for that program
pub record Reads (want : Program) (r : Res) : Type 0 where
  pub reads : (d : Counts) (i : ℕ) → r.answer ≡ Ok (d, i) → program_in d r.stores ≡ want

reads_if : (want : Program) (b : Bool) (x y : Res) → (b ≡ true → Reads want x) → (b ≡ false → Reads want y) → Reads want (if b then x else y)
reads_if want true x y h q = h refl
reads_if want false x y h q = q refl

reads_refused : (want : Program) (e : Refusal) (s : Stores) → Reads want (refuse e s)
reads_refused want e s = record { reads = λ d i q. absurd (let z : ◌≡◌ {A = ℕ} 0 1 = cc in let y : ⊥ = omega arith in y) }

module _ (c : Counts) (s : Stores) (g : Good c s) (fits : c.constants < places 2 s.constants) where
  plain_reads : (kind w : ℕ) → Reads (with_one (program_in c s) (constant_in s.text kind w)) (with_constant c kind w s)
  unfolding with_constant
  plain_reads kind w = record { reads = λ d i e. rw (← (same_counts e)) (constant_reads c s g fits 0 kind w s.text (λ v q. refl)) }

  text_reads : (kind : ℕ) (lent : List ℕ) (x : p.Constant) → ((t : List ℕ) → part t (pack c.text (length lent)) ≡ lent
      → constant_in t kind (pack c.text (length lent)) ≡ x) → Reads (with_one (program_in c s) x) (with_text_constant c kind lent s)
  unfolding with_text_constant text_room
  text_reads kind lent x is =
      reads_if (with_one (program_in c s) x) (leb (c.text + length lent) (places 1 s.text)) _ _
      (λ t. record {
        reads = λ d i e.
            let z : one_constant (length lent) c ≡ d = same_counts e in
            let l : c.text + length lent ≤ places 1 s.text = leb-true _ _ t in
            let y = room_1 s.text in
            let b : c.text < 2 ^ 32 = omega arith in
            let f : c.text + length lent ≤ length s.text = omega arith in
            let o = is (written s.text c.text lent) (part_new s.text c.text lent f b) in
            rw (← z) (constant_reads c s g fits (length lent) kind (pack c.text (length lent)) (written s.text c.text lent)
            (part_kept s.text c.text lent f) ∙ ap (λ (q : p.Constant). with_one (program_in c s) q) o);
      })
      (λ _. reads_refused (with_one (program_in c s) x) why.StoreFull s)

  -- the program then has the constant behind the others
  pub added_reads : (x : Constant) (lent : List ℕ) → Reads (with_one (program_in c s) (meant x lent)) (constant_added c x lent s)
  unfolding constant_added meant constant_in
  added_reads (k.Scalar w) lent = plain_reads 0 w
  added_reads (k.Boolean true) lent = plain_reads 1 1
  added_reads (k.Boolean false) lent = plain_reads 1 0
  added_reads k.String lent = text_reads 2 lent (string lent) (λ t e. ap string e)
  added_reads k.FunctionReference lent = text_reads 3 lent (reference lent) (λ t e. ap reference e)

-- ---- the entries

appended_done : (c : Counts) (bytes : List ℕ) (place : ℕ) (s : Stores) {want : Program} → program_in c (appended c bytes place s).stores ≡ want → Reads want (appended c bytes place s)
unfolding appended
appended_done c bytes place s {want} e = record { reads = λ d i q. rw (← (same_counts q)) e }

pub emit_reads : (running : Bool) (c : Counts) (op : ℕ) (bytes : List ℕ) (place : ℕ) (s : Stores) → program_ok c s ≡ true
    → Reads (changed (program_in c s) c.current (longer_by bytes (replicate (length bytes) place))) (emit_of running c op bytes place s)
unfolding emit_of emit_in
emit_reads running c op bytes place s e =
    let want = changed (program_in c s) c.current (longer_by bytes (replicate (length bytes) place)) in
    reads_if want (code_order c s) _ _ (λ _.
    reads_if want running _ _ (λ _. reads_refused want why.RunUnderWay s) (λ _.
    reads_if want (ltb code_limit (size_here c s + length bytes)) _ _ (λ _. reads_refused want why.OverLimit s) (λ short.
    reads_if want (ltb (code_room c s) (end_here c s + length bytes)) _ _ (λ _. reads_refused want why.StoreFull s) (λ fits.
    reads_if want (leb 38 op) _ _ (λ _. reads_refused want why.UnknownOpcode s) (λ _. appended_done c bytes place s (appended_reads c bytes place s (good_of c s e) (ltb-false _ _ short) (ltb-false _ _ fits)))))))
    (λ _. reads_refused want why.NotInOrder s)

patched_done : (c : Counts) (at a : ℕ) (s : Stores) {want : Program} → program_in c (patched c at a s).stores ≡ want → Reads want (patched c at a s)
unfolding patched
patched_done c at a s e = record { reads = λ d i q. rw (← (same_counts q)) e }

pub patch_reads : (running : Bool) (c : Counts) (at a : ℕ) (s : Stores) → program_ok c s ≡ true → Reads (changed (program_in c s) c.current (patched_by at (u16 a))) (patch_of running c at a s)
unfolding patch_of
patch_reads running c at a s e =
    let want = changed (program_in c s) c.current (patched_by at (u16 a)) in
    reads_if want (patch_order c s) _ _ (λ _.
    reads_if want running _ _ (λ _. reads_refused want why.RunUnderWay s) (λ _.
    reads_if want (ltb (size_here c s) (at + 2)) _ _ (λ _. reads_refused want why.PatchOutsideCode s) (λ f. patched_done c at a s (patched_reads c at a s (good_of c s e) (ltb-false _ _ f)))))
    (λ _. reads_refused want why.NotInOrder s)

pub add_constant_reads : (running : Bool) (c : Counts) (x : Constant) (lent : List ℕ) (s : Stores) → program_ok c s ≡ true → Reads (with_one (program_in c s) (meant x lent)) (add_constant_of running c x lent s)
unfolding add_constant_of
add_constant_reads running c x lent s e =
    let want = with_one (program_in c s) (meant x lent) in
    reads_if want (constant_order c s) _ _ (λ _.
    reads_if want running _ _ (λ _. reads_refused want why.RunUnderWay s) (λ _.
    reads_if want (leb constant_limit c.constants) _ _ (λ _. reads_refused want why.OverLimit s) (λ _.
    reads_if want (leb (places 2 s.constants) c.constants) _ _ (λ _. reads_refused want why.StoreFull s) (λ fits. added_reads c s (good_of c s e) (leb-false _ _ fits) x lent))))
    (λ _. reads_refused want why.NotInOrder s)
