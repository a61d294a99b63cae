-- Text that is appended changes no name below it. A constant more, a patch, a new function and the end of one keep good order.
use Rattle.std.specs.Prelude.{if◌then◌else◌, Ok}
use mathlib.Core.Path.{◌≡◌, refl, sym, ap, ◌∙◌}
use mathlib.Core.Bool.{Bool, true, false, ◌||◌}
use mathlib.Core.List.{List, ◌++◌, append_assoc}
use mathlib.Mathlib.Data.Bool.Basic.{or_inr}
use Prim.Native.Nat.{ℕ, zero, suc, ◌+◌, ◌-◌, ◌*◌, ◌≤◌, ◌<◌, ◌^◌}
use native.Mathlib.Omega.{arith}
use native.Mathlib.Numerals.{lt_of_le_of_ne}
use lib.Dec.{eqb, leb, ltb}
use lib.ListN.{length, set, take, drop, length-set, length-drop, take-append-drop}
use lib.Seq.{sets-eq, length-take-le, take-append-le, drop-append-le, drop_at, take_at, get_or-set_same, get_or-set_other}
use borrow.Author.Tests.{le-leb, leb-true, leb-false, eq-eqb, eqb-true, eqb-false}
use Rattle.model.specs.declared.Constant.{Constant}
use Rattle.model.specs.declared.Constant.TheVariants as k
use Rattle.model.specs.declared.Counts.{Counts}
use Rattle.model.specs.declared.Refusal.TheVariants as why
use Rattle.model.specs.Basics.{every_from}
use Rattle.model.specs.Values.{places, text_at, kind_at, payload_at, put_words}
use Rattle.model.specs.Programs.{constant_limit}
use Rattle.model.specs.Stores.{Stores, start, size, pack, part, struct_word, order_word, name_word, code_word, code_end, structs_from, code_here, places_here, with_code, with_constants, with_functions, with_text}
use Rattle.model.specs.Orders.{counts_ok, text_ok, inside_text, constant_ok, constants_ok, name_in_order, structs_ok, code_start, function_ok, functions_ok, main_ok, main_taken, other_taken, inside_codes, program_ok}
use Rattle.model.specs.Emission.{counts, one_constant, written, text_room, with_constant, with_text_constant, constant_added, constant_order, add_constant_of, u16, size_here, patch_order, patched, patch_of, end_function_of, one_function}
use Rattle.layout.proofs.Bools.{either_way, and_left, and_right, and_both}
use Rattle.layout.proofs.Parts.{room_1, room_2, places_same, start_pack, size_pack}
use Rattle.laws_programs.proofs.Every.{pass_all}
use Rattle.laws_programs.proofs.Known.{Limited, limited, Structs, structs_known, structs_good, text_inside, constants_known, function_known, codes_behind}
use Rattle.layout.proofs.Writing.{length_written, length_words}
use Rattle.laws_programs.proofs.Entered.{same_counts, ended_in_main}
use Rattle.laws_programs.proofs.Adding.{start_below}
use Rattle.laws_programs.proofs.Keeping.{Good, good_of, of_good, inside_back, function_good, Kept, kept_if, kept_refused}

-- ---- a text appended at a

front : (p x : List ℕ) (o n : ℕ) → o + n ≤ length p → take n (drop o (p ++ x)) ≡ take n (drop o p)
front p x o n h =
    let l : length (drop o p) ≡ length p - o = length-drop o p in
    ap (λ (q : List ℕ). take n q) (drop-append-le o p x (omega arith)) ∙ take-append-le n (drop o p) x (omega arith)

module _ (t : List ℕ) (a : ℕ) (l : List ℕ) (h : a + length l ≤ length t) where
  pub split : written t a l ≡ take a t ++ (l ++ drop (a + length l) t)
  unfolding written
  split = sets-eq l t a h ∙ append_assoc (take a t) l (drop (a + length l) t)

  pub below : length (take a t) ≡ a
  below = length-take-le a t (omega arith)

  -- a part below is as it was
  pub part_kept : (w : ℕ) → start w + size w ≤ a → part (written t a l) w ≡ part t w
  unfolding part text_at
  part_kept w k =
      let b = below in
      let e : take (size w) (drop (start w) t) ≡ take (size w) (drop (start w) (take a t)) = ap (λ (q : List ℕ). take (size w) (drop (start w) q))
      (sym (take-append-drop a t)) ∙ front (take a t) (drop a t) (start w) (size w) (omega arith) in
      rw split (front (take a t) (l ++ drop (a + length l) t) (start w) (size w) (omega arith) ∙ sym e)

  -- and the new one is the text
  pub part_new : a < 2 ^ 32 → part (written t a l) (pack a (length l)) ≡ l
  unfolding part text_at
  part_new k =
      let e : drop a (take a t ++ (l ++ drop (a + length l) t)) ≡ l ++ drop (a + length l) t = drop_at (take a t) (l ++ drop (a + length l) t) a below in
      rw (start_pack a (length l) k, size_pack a (length l) k, split, e) (take_at l (drop (a + length l) t) (length l) refl)

-- ---- counts that grow

module _ (c d : Counts) (more : c.text ≤ d.text) where
  pub inside_more : (w : ℕ) → inside_text c w ≡ true → inside_text d w ≡ true
  inside_more w e = let h = text_inside c w e in inside_back d w (omega arith)

  kind_more : (b0 b1 b3 x y z : Bool) → (if b0 then true else (if b1 then x else (if b3 then y else false))) ≡ true → (y ≡ true → z ≡ true)
      → (if b0 then true else (if b1 then x else (if b3 then z else false))) ≡ true
  kind_more true b1 b3 x y z e h = refl
  kind_more false true b3 x y z e h = e
  kind_more false false true x y z e h = h e
  kind_more false false false x y z e h = e

  pub constant_more : (k a : ℕ) → constant_ok c k a ≡ true → constant_ok d k a ≡ true
  unfolding constant_ok
  constant_more k a e = kind_more (eqb k 0) (eqb k 1) (leb k 3) (ltb a 2) (inside_text c a) (inside_text d a) e (inside_more a)

  pub constants_more : (cs : List ℕ) → d.constants ≡ c.constants → constants_ok c cs ≡ true → constants_ok d cs ≡ true
  unfolding constants_ok constant_ok inside_text every_from
  constants_more cs e g =
      rw e (and_both (leb c.constants (places 2 cs)) (every_from c.constants 0 (λ i. constant_ok d (kind_at cs i) (payload_at cs i)))
      (le-leb _ _ (constants_known c cs g).within)
      (pass_all c.constants 0 (λ i. constant_ok d (kind_at cs i) (payload_at cs i)) (λ i h.
      let z : 0 + i ≡ i = omega arith in rw z (constant_more (kind_at cs i) (payload_at cs i) ((constants_known c cs g).each i h)))))

  pub functions_more : (fs : List ℕ) → d.functions ≡ c.functions → functions_ok c fs ≡ true → functions_ok d fs ≡ true
  unfolding functions_ok function_ok inside_text
  functions_more fs e g =
      rw e (and_both (leb c.functions (places 2 fs)) (every_from c.functions 0 (function_ok d fs))
      (and_left (leb c.functions (places 2 fs)) (every_from c.functions 0 (function_ok c fs)) g)
      (pass_all c.functions 0 (function_ok d fs) (λ i h.
      let z : 0 + i ≡ i = omega arith in let f = function_known c fs g i h in let n = f.name in
      rw z (function_good d fs i (inside_back d (name_word fs i) (omega arith)) f.starts f.short f.ends))))

  -- struct names, where the text changes no part below
  module _ (ss t u : List ℕ) (same : (w : ℕ) → start w + size w ≤ c.text → part u w ≡ part t w) where
    pub names_same : (n i : ℕ) → ((j : ℕ) → j < i + n → inside_text c (struct_word ss j) ≡ true) → structs_from n i ss u ≡ structs_from n i ss t
    unfolding structs_from
    names_same zero i h = refl
    names_same (suc n) i h = rw (same (struct_word ss i) (text_inside c (struct_word ss i) (h i (omega arith))), names_same n (suc i) (λ j l. h j (omega arith)))

    order_same : Structs c ss t → (i : ℕ) → i < c.structs → name_in_order ss u i ≡ name_in_order ss t i
    unfolding name_in_order
    order_same k i h = same (struct_word ss (order_word ss i)) (text_inside c (struct_word ss (order_word ss i)) (k.inside (order_word ss i) (k.order.below i h)))

    pub structs_more : d.structs ≡ c.structs → structs_ok c ss t ≡ true → structs_ok d ss u ≡ true
    structs_more e g =
        let k = structs_known c ss t g in
        structs_good d ss u (record {
          within = rw e k.within;
          inside = λ i h. inside_more (struct_word ss i) (k.inside i (rw e at h));
          order = rw e (record {
            below = k.order.below;
            ascending = record { next = λ i h. rw (order_same k i (omega arith), order_same k (suc i) h) (k.order.ascending.next i h) };
          });
        })

pub main_kept : (c : Counts) (fs t u : List ℕ) → functions_ok c fs ≡ true → 1 ≤ c.functions → ((w : ℕ) → start w + size w ≤ c.text → part u w ≡ part t w) → main_ok fs t ≡ true → main_ok fs u ≡ true
unfolding main_ok
main_kept c fs t u g one same e = rw (same (name_word fs 0) (function_known c fs g 0 (omega arith)).name) e

-- ---- two words at a place

module _ (cs : List ℕ) (i a b : ℕ) (h : 2 * i + 2 ≤ length cs) where
  pub words_here : (kind_at (put_words cs i a b) i ≡ a) × (payload_at (put_words cs i a b) i ≡ b)
  unfolding put_words kind_at payload_at
  words_here =
      let l : length (set cs (2 * i) a) ≡ length cs = length-set cs (2 * i) a in (
        get_or-set_other (set cs (2 * i) a) (2 * i + 1) (2 * i) b 0 (λ (e : 2 * i ≡ 2 * i + 1). omega arith) ∙ get_or-set_same cs (2 * i) a 0 (omega arith),
        get_or-set_same (set cs (2 * i) a) (2 * i + 1) b 0 (omega arith),
      )

  pub words_other : (j : ℕ) → (j ≡ i → ⊥) → (kind_at (put_words cs i a b) j ≡ kind_at cs j) × (payload_at (put_words cs i a b) j ≡ payload_at cs j)
  unfolding put_words kind_at payload_at
  words_other j d = (
    get_or-set_other (set cs (2 * i) a) (2 * i + 1) (2 * j) b 0 (λ (e : 2 * j ≡ 2 * i + 1). omega arith) ∙ get_or-set_other cs (2 * i) (2 * j) a 0 (λ (e : 2 * j ≡ 2 * i). d (omega arith)),
    get_or-set_other (set cs (2 * i) a) (2 * i + 1) (2 * j + 1) b 0 (λ (e : 2 * j + 1 ≡ 2 * i + 1). d (omega arith)) ∙ get_or-set_other cs (2 * i) (2 * j + 1) a 0 (λ (e : 2 * j + 1 ≡ 2 * i). omega arith),
  )

pub counts_good : (c : Counts) → c.constants ≤ 65535 → c.structs ≤ 65536 → 1 ≤ c.functions → c.functions ≤ 65536 → c.text ≤ 0xFFFF_FFFF
    → (eqb c.current 0 || eqb (suc c.current) c.functions) ≡ true → counts_ok c ≡ true
unfolding counts_ok
counts_good c a b d e f g = rw (le-leb _ _ a, le-leb _ _ b, le-leb _ _ d, le-leb _ _ e, le-leb _ _ f) g

-- ---- one constant more

module _ (c : Counts) (n : ℕ) (cs : List ℕ) (g : constants_ok c cs ≡ true) (fits : c.constants < places 2 cs) (kind w : ℕ) (ok : constant_ok (one_constant n c) kind w ≡ true) where
  pair : 2 * c.constants + 2 ≤ length cs
  pair = let x = room_2 cs in omega arith

  each : (j : ℕ) → j < suc c.constants → constant_ok (one_constant n c) (kind_at (put_words cs c.constants kind w) (0 + j)) (payload_at (put_words cs c.constants kind w) (0 + j)) ≡ true
  each j h =
      let z : 0 + j ≡ j = omega arith in
      rw z (either_way (eqb j c.constants)
      (λ t.
      let e : j ≡ c.constants = eqb-true j c.constants t in let x = words_here cs c.constants kind w pair in
      rw (e, x.0, x.1) ok)
      (λ f.
      let d : j ≡ c.constants → ⊥ = eqb-false j c.constants f in
      let l : j < c.constants = lt_of_le_of_ne (omega arith) d in
      let x = words_other cs c.constants kind w pair j d in
      rw (x.0, x.1) (constant_more c (one_constant n c) (omega arith) (kind_at cs j) (payload_at cs j) ((constants_known c cs g).each j l))))

  pub constants_added : constants_ok (one_constant n c) (put_words cs c.constants kind w) ≡ true
  unfolding constants_ok
  constants_added =
      let a : suc c.constants ≤ places 2 (put_words cs c.constants kind w) = rw (places_same 2 (put_words cs c.constants kind w) cs (length_words cs c.constants kind w)) (omega arith) in
      and_both _ _ (le-leb _ _ a) (pass_all (suc c.constants) 0 (λ i. constant_ok (one_constant n c) (kind_at (put_words cs c.constants kind w) i)
      (payload_at (put_words cs c.constants kind w) i)) each)

module _ (c : Counts) (s : Stores) (g : Good c s) (few : c.constants < 65535) (fits : c.constants < places 2 s.constants) where
  lim : Limited c
  lim = limited c g.counts

  -- one constant more, and n bytes more of text that change no part below
  pub constant_good : (n kind w : ℕ) (u : List ℕ) → c.text + n ≤ places 1 u → ((v : ℕ) → start v + size v ≤ c.text → part u v ≡ part s.text v) → constant_ok (one_constant n c) kind w ≡ true
      → Good (one_constant n c) (with_constants (put_words s.constants c.constants kind w) (with_text u s))
  unfolding text_ok inside_codes other_taken
  constant_good n kind w u h same ok =
      let x = room_1 u in
      record {
        counts = counts_good (one_constant n c) (omega arith) lim.structs lim.some lim.functions (omega arith) lim.main_or_newest;
        text = le-leb (c.text + n) (places 1 u) h;
        constants = constants_added c n s.constants g.constants fits kind w ok;
        structs = structs_more c (one_constant n c) (omega arith) s.structs s.text u same refl g.structs;
        functions = functions_more c (one_constant n c) (omega arith) s.functions refl g.functions;
        main = main_kept c s.functions s.text u g.functions lim.some same g.main;
        codes = g.codes;
        places = g.places;
      }

  plain_kept : (kind w : ℕ) → constant_ok (one_constant 0 c) kind w ≡ true → Kept (with_constant c kind w s)
  unfolding with_constant text_ok
  plain_kept kind w ok = record {
    kept = λ d i e.
        let z : one_constant 0 c ≡ d = same_counts e in
        let l : c.text ≤ places 1 s.text = leb-true c.text (places 1 s.text) g.text in
        rw (← z) (of_good _ _ (constant_good 0 kind w s.text (omega arith) (λ v q. refl) ok));
  }

  text_kept : (kind : ℕ) (lent : List ℕ) → ((w : ℕ) → inside_text (one_constant (length lent) c) w ≡ constant_ok (one_constant (length lent) c) kind w) → Kept (with_text_constant c kind lent s)
  unfolding with_text_constant text_room
  text_kept kind lent is =
      kept_if (leb (c.text + length lent) (places 1 s.text)) _ _
      (λ t. record {
        kept = λ d i e.
            let z : one_constant (length lent) c ≡ d = same_counts e in
            let l : c.text + length lent ≤ places 1 s.text = leb-true _ _ t in
            let x = room_1 s.text in
            let b : c.text < 2 ^ 32 = omega arith in
            let f : c.text + length lent ≤ length s.text = omega arith in
            let o : inside_text (one_constant (length lent) c) (pack c.text (length lent)) ≡ true =
            inside_back (one_constant (length lent) c) (pack c.text (length lent)) (rw (start_pack c.text (length lent) b, size_pack c.text (length lent) b) (omega arith)) in
            let u : c.text + length lent ≤ places 1 (written s.text c.text lent) = rw (places_same 1 (written s.text c.text lent) s.text (length_written s.text c.text lent)) l in
            rw (← z) (of_good _ _ (constant_good (length lent) kind (pack c.text (length lent)) (written s.text c.text lent) u (part_kept s.text c.text lent f) (sym (is _) ∙ o)));
      })
      (λ _. kept_refused why.StoreFull s)

  added_kept : (x : Constant) (lent : List ℕ) → Kept (constant_added c x lent s)
  unfolding constant_added constant_ok
  added_kept (k.Scalar w) lent = plain_kept 0 w refl
  added_kept (k.Boolean true) lent = plain_kept 1 1 refl
  added_kept (k.Boolean false) lent = plain_kept 1 0 refl
  added_kept k.String lent = text_kept 2 lent (λ w. refl)
  added_kept k.FunctionReference lent = text_kept 3 lent (λ w. refl)

-- add_constant keeps good order
pub constant_keeps : (running : Bool) (c : Counts) (x : Constant) (lent : List ℕ) (s : Stores) → program_ok c s ≡ true → Kept (add_constant_of running c x lent s)
unfolding add_constant_of
constant_keeps running c x lent s e =
    kept_if (constant_order c s) _ _ (λ _.
    kept_if running _ _ (λ _. kept_refused why.RunUnderWay s) (λ _.
    kept_if (leb constant_limit c.constants) _ _ (λ _. kept_refused why.OverLimit s) (λ few.
    kept_if (leb (places 2 s.constants) c.constants) _ _ (λ _. kept_refused why.StoreFull s) (λ fits. added_kept c s (good_of c s e) (leb-false _ _ few) (leb-false _ _ fits) x lent))))
    (λ _. kept_refused why.NotInOrder s)

-- ---- a patch, and the end of a function

codes_same : (c : Counts) (fs m o m' o' : List ℕ) → length m' ≡ length m → length o' ≡ length o → inside_codes c fs m o ≡ true → inside_codes c fs m' o' ≡ true
unfolding inside_codes
codes_same c fs m o m' o' em eo e = rw (places_same 1 m' m em, places_same 1 o' o eo) e

pub patch_keeps : (running : Bool) (c : Counts) (at a : ℕ) (s : Stores) → program_ok c s ≡ true → Kept (patch_of running c at a s)
unfolding patch_of patched with_code code_here places_here
patch_keeps running c at a s e =
    let g = good_of c s e in
    let w = start (code_word s.functions c.current) + at in
    kept_if (patch_order c s) _ _ (λ _.
    kept_if running _ _ (λ _. kept_refused why.RunUnderWay s) (λ _.
    kept_if (ltb (size_here c s) (at + 2)) _ _ (λ _. kept_refused why.PatchOutsideCode s) (λ _. record {
      kept = λ d i q.
          let z : c ≡ d = same_counts q in
          rw (← z) (either_way (eqb c.current 0)
          (λ t. rw t (of_good _ _ (record {
            counts = g.counts;
            text = g.text;
            constants = g.constants;
            structs = g.structs;
            functions = g.functions;
            main = g.main;
            places = g.places;
            codes = codes_same c s.functions s.main s.other (written s.main w (u16 a)) s.other (length_written s.main w (u16 a)) refl g.codes;
          })))
          (λ f. rw f (of_good _ _ (record {
            counts = g.counts;
            text = g.text;
            constants = g.constants;
            structs = g.structs;
            functions = g.functions;
            main = g.main;
            places = g.places;
            codes = codes_same c s.functions s.main s.other s.main (written s.other w (u16 a)) refl (length_written s.other w (u16 a)) g.codes;
          }))));
    })))
    (λ _. kept_refused why.NotInOrder s)

pub end_keeps : (running : Bool) (c : Counts) (s : Stores) → program_ok c s ≡ true → (d : Counts) (n : ℕ) → end_function_of running c ≡ Ok (d, n) → program_ok d s ≡ true
unfolding text_ok constants_ok constant_ok inside_text structs_ok functions_ok function_ok inside_codes other_taken
end_keeps running c s e d n q =
    let g = good_of c s e in let l = limited c g.counts in
    rw (← (ended_in_main running c d n q)) (of_good _ _ (record {
      counts = counts_good (counts c.constants c.structs c.functions c.text 0) l.constants l.structs l.some l.functions l.text refl;
      text = g.text;
      constants = g.constants;
      structs = g.structs;
      functions = g.functions;
      main = g.main;
      codes = g.codes;
      places = g.places;
    }))

-- ---- a new function

module _ (c : Counts) (s : Stores) (g : Good c s) (few : c.functions < 65536) (fits : c.functions < places 2 s.functions) (n : ℕ) (u : List ℕ) (room : c.text + n ≤ places 1 u)
    (same : (v : ℕ) → start v + size v ≤ c.text → part u v ≡ part s.text v) where
  d : Counts
  d = one_function n c

  fs : List ℕ
  fs = put_words s.functions c.functions (pack c.text n) (pack (other_taken c s.functions) 0)

  limits : Limited c
  limits = limited c g.counts

  two : 2 * c.functions + 2 ≤ length s.functions
  two = let x = room_2 s.functions in omega arith

  behind : other_taken c s.functions ≤ 0xFFFF_FFFF
  unfolding other_taken
  behind = start_below c s.functions g.functions c.functions (omega arith)

  name_old : (i : ℕ) → (i ≡ c.functions → ⊥) → name_word fs i ≡ name_word s.functions i
  unfolding name_word fs
  name_old i e = (words_other s.functions c.functions (pack c.text n) (pack (other_taken c s.functions) 0) two i e).0

  code_old : (i : ℕ) → (i ≡ c.functions → ⊥) → code_word fs i ≡ code_word s.functions i
  unfolding code_word fs
  code_old i e = (words_other s.functions c.functions (pack c.text n) (pack (other_taken c s.functions) 0) two i e).1

  name_now : name_word fs c.functions ≡ pack c.text n
  unfolding name_word fs
  name_now = (words_here s.functions c.functions (pack c.text n) (pack (other_taken c s.functions) 0) two).0

  code_now : code_word fs c.functions ≡ pack (other_taken c s.functions) 0
  unfolding code_word fs
  code_now = (words_here s.functions c.functions (pack c.text n) (pack (other_taken c s.functions) 0) two).1

  end_old : (i : ℕ) → (i ≡ c.functions → ⊥) → code_end fs i ≡ code_end s.functions i
  unfolding code_end
  end_old i e = rw (code_old i e)

  start_old : (i : ℕ) → i ≤ c.functions → code_start fs i ≡ code_start s.functions i
  unfolding code_start
  start_old zero h = refl
  start_old (suc zero) h = refl
  start_old (suc (suc i)) h = end_old (suc i) (λ (e : suc i ≡ c.functions). omega arith)

  end_now : code_end fs c.functions ≡ other_taken c s.functions
  unfolding code_end
  end_now =
      let b = behind in let z : other_taken c s.functions + 0 ≡ other_taken c s.functions = omega arith in
      rw (code_now, start_pack (other_taken c s.functions) 0 (omega arith), size_pack (other_taken c s.functions) 0 (omega arith), z)

  old_good : (i : ℕ) → i < c.functions → function_ok d fs i ≡ true
  unfolding d
  old_good i h =
      let e : i ≡ c.functions → ⊥ = λ q. omega arith in
      let f = function_known c s.functions g.functions i h in let l = f.name in
      function_good (one_function n c) fs i
      (rw (name_old i e) (inside_back (one_function n c) (name_word s.functions i) (omega arith)))
      (rw (code_old i e, start_old i (omega arith)) f.starts) (rw (code_old i e) f.short) (rw (end_old i e) f.ends)

  new_good : function_ok d fs c.functions ≡ true
  unfolding d other_taken
  new_good =
      let x = room_1 u in let b = behind in
      let t : c.text < 2 ^ 32 = (let y = limits.text in omega arith) in
      let o : other_taken c s.functions < 2 ^ 32 = omega arith in
      function_good (one_function n c) fs c.functions
      (rw name_now (inside_back (one_function n c) (pack c.text n) (rw (start_pack c.text n t, size_pack c.text n t) (omega arith))))
      (rw (code_now, start_pack (other_taken c s.functions) 0 o, start_old c.functions (omega arith)))
      (rw (code_now, size_pack (other_taken c s.functions) 0 o) (omega arith))
      (rw end_now b)

  same_length : length fs ≡ length s.functions
  unfolding fs
  same_length = length_words s.functions c.functions (pack c.text n) (pack (other_taken c s.functions) 0)

  all_good : functions_ok d fs ≡ true
  unfolding functions_ok d
  all_good =
      let a : suc c.functions ≤ places 2 fs = rw (places_same 2 fs s.functions same_length) (omega arith) in
      and_both (leb (suc c.functions) (places 2 fs)) (every_from (suc c.functions) 0 (function_ok (one_function n c) fs)) (le-leb _ _ a)
      (pass_all (suc c.functions) 0 (function_ok (one_function n c) fs) (λ i h.
      let z : 0 + i ≡ i = omega arith in
      rw z (either_way (eqb i c.functions)
      (λ t. let e : i ≡ c.functions = eqb-true i c.functions t in rw e new_good)
      (λ f. old_good i (lt_of_le_of_ne (omega arith) (eqb-false i c.functions f))))))

  main_now : main_ok fs u ≡ true
  unfolding main_ok
  main_now =
      let l = limits.some in
      rw (name_old 0 (λ (e : 0 ≡ c.functions). omega arith)) (main_kept c s.functions s.text u g.functions l same g.main)

  taken : other_taken (one_function n c) fs ≡ other_taken c s.functions
  unfolding other_taken
  taken = codes_behind fs c.functions (suc c.functions) (λ (q : c.functions ≡ 0). let l = limits.some in omega arith) refl ∙ end_now

  codes_now : (m o : List ℕ) → inside_codes c s.functions m o ≡ true → inside_codes d fs m o ≡ true
  unfolding inside_codes main_taken d
  codes_now m o e =
      let l = limits.some in
      let a = leb (code_end s.functions 0) (places 1 m) in let b = leb (other_taken c s.functions) (places 1 o) in
      and_both (leb (code_end fs 0) (places 1 m)) (leb (other_taken (one_function n c) fs) (places 1 o))
      (rw (end_old 0 (λ (q : 0 ≡ c.functions). omega arith)) (and_left a b e))
      (rw taken (and_right a b e))

  pub function_begun : Good (one_function n c) (with_functions (put_words s.functions c.functions (pack c.text n) (pack (other_taken c s.functions) 0)) (with_text u s))
  unfolding text_ok d fs
  function_begun =
      let x = room_1 u in
      record {
        counts = counts_good (one_function n c) limits.constants limits.structs (omega arith) (omega arith) (omega arith)
            (or_inr (eqb c.functions 0) (eqb (suc c.functions) (suc c.functions)) (eq-eqb (suc c.functions) (suc c.functions) refl));
        text = le-leb (c.text + n) (places 1 u) room;
        constants = constants_more c (one_function n c) (omega arith) s.constants refl g.constants;
        structs = structs_more c (one_function n c) (omega arith) s.structs s.text u same refl g.structs;
        functions = all_good;
        main = main_now;
        codes = codes_now s.main s.other g.codes;
        places = codes_now s.main_places s.other_places g.places;
      }
