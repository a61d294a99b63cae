-- Emission of code keeps good order.
use Rattle.std.specs.Prelude.{if◌then◌else◌, Ok}
use mathlib.Core.Path.{◌≡◌, refl, sym, ap, ◌∙◌}
use mathlib.Core.Bool.{Bool, true, false, ◌&&◌}
use mathlib.Core.List.{List}
use Prim.Native.Nat.{ℕ, zero, suc, ◌+◌, ◌*◌, ◌≤◌, ◌<◌, ◌^◌, min}
use native.Mathlib.Omega.{arith}
use native.Mathlib.Nat.{min-le_left, min-le_right}
use lib.Dec.{eqb, leb, ltb}
use lib.ListN.{length, set, length-set}
use lib.Seq.{get_or-set_same, get_or-set_other}
use borrow.Author.Tests.{le-leb, eq-eqb, ne_eqb, eqb-true, eqb-false, ltb-false}
use Rattle.model.specs.declared.Counts.{Counts}
use Rattle.model.specs.declared.Refusal.{Refusal}
use Rattle.model.specs.declared.Refusal.TheVariants as why
use Rattle.model.specs.Basics.{every_from}
use Rattle.model.specs.Values.{places, kind_at, payload_at}
use Rattle.model.specs.Programs.{code_limit}
use Rattle.model.specs.Stores.{Stores, start, size, pack, name_word, code_word, code_end, code_here, places_here, with_code, with_functions, with_main, with_other}
use Rattle.model.specs.Orders.{counts_ok, text_ok, inside_text, constants_ok, structs_ok, code_start, function_ok, functions_ok, main_ok, main_taken, other_taken, inside_codes, program_ok}
use Rattle.model.specs.Emission.{Res, refuse, size_here, end_here, code_room, longer, appended, code_order, emit_in, emit_of}
use Rattle.layout.proofs.Bools.{either_way, and_left, and_right, and_both}
use Rattle.layout.proofs.Parts.{room_1, places_same, start_pack, size_pack}
use Rattle.laws_programs.proofs.Every.{pass_all}
use Rattle.laws_programs.proofs.Known.{Limited, limited, Known, function_known, codes_behind}
use Rattle.laws_programs.proofs.Entered.{same_counts}
use Rattle.layout.proofs.Writing.{length_written}

-- ---- good order, clause by clause

pub record Good (c : Counts) (s : Stores) : Type 0 where
  pub counts : counts_ok c ≡ true
  pub text : text_ok c s.text ≡ true
  pub constants : constants_ok c s.constants ≡ true
  pub structs : structs_ok c s.structs s.text ≡ true
  pub functions : functions_ok c s.functions ≡ true
  pub main : main_ok s.functions s.text ≡ true
  pub codes : inside_codes c s.functions s.main s.other ≡ true
  pub places : inside_codes c s.functions s.main_places s.other_places ≡ true

module _ (c : Counts) (s : Stores) where
  pub good_of : program_ok c s ≡ true → Good c s
  unfolding program_ok
  good_of e =
      let b1 = counts_ok c in let b2 = text_ok c s.text in let b3 = constants_ok c s.constants in let b4 = structs_ok c s.structs s.text in
      let b5 = functions_ok c s.functions in let b6 = main_ok s.functions s.text in let b7 = inside_codes c s.functions s.main s.other in
      let b8 = inside_codes c s.functions s.main_places s.other_places in
      let e7 = and_left (b1 && b2 && b3 && b4 && b5 && b6 && b7) b8 e in
      let e6 = and_left (b1 && b2 && b3 && b4 && b5 && b6) b7 e7 in
      let e5 = and_left (b1 && b2 && b3 && b4 && b5) b6 e6 in
      let e4 = and_left (b1 && b2 && b3 && b4) b5 e5 in
      let e3 = and_left (b1 && b2 && b3) b4 e4 in
      let e2 = and_left (b1 && b2) b3 e3 in
      record {
        counts = and_left b1 b2 e2;
        text = and_right b1 b2 e2;
        constants = and_right (b1 && b2) b3 e3;
        structs = and_right (b1 && b2 && b3) b4 e4;
        functions = and_right (b1 && b2 && b3 && b4) b5 e5;
        main = and_right (b1 && b2 && b3 && b4 && b5) b6 e6;
        codes = and_right (b1 && b2 && b3 && b4 && b5 && b6) b7 e7;
        places = and_right (b1 && b2 && b3 && b4 && b5 && b6 && b7) b8 e;
      }

  pub of_good : Good c s → program_ok c s ≡ true
  unfolding program_ok
  of_good g = rw (g.counts, g.text, g.constants, g.structs, g.functions, g.main, g.codes, g.places)

pub inside_back : (c : Counts) (w : ℕ) → start w + size w ≤ c.text → inside_text c w ≡ true
unfolding inside_text
inside_back c w h = le-leb (start w + size w) c.text h

functions_room : (c : Counts) (fs : List ℕ) → functions_ok c fs ≡ true → leb c.functions (places 2 fs) ≡ true
unfolding functions_ok
functions_room c fs e = and_left (leb c.functions (places 2 fs)) (every_from c.functions 0 (function_ok c fs)) e

pub function_good : (c : Counts) (fs : List ℕ) (i : ℕ) → inside_text c (name_word fs i) ≡ true → start (code_word fs i) ≡ code_start fs i
    → size (code_word fs i) ≤ 65535 → code_end fs i ≤ 0xFFFF_FFFF → function_ok c fs i ≡ true
unfolding function_ok
function_good c fs i a b d e = rw (a, eq-eqb _ _ b, le-leb _ _ d, le-leb _ _ e)

-- what an entry leaves when it is done is in good order
pub record Kept (r : Res) : Type 0 where
  pub kept : (c : Counts) (n : ℕ) → r.answer ≡ Ok (c, n) → program_ok c r.stores ≡ true

pub kept_if : (b : Bool) (x y : Res) → (b ≡ true → Kept x) → (b ≡ false → Kept y) → Kept (if b then x else y)
kept_if true x y h k = h refl
kept_if false x y h k = k refl

pub kept_refused : (e : Refusal) (s : Stores) → Kept (refuse e s)
kept_refused e s = record { kept = λ c i q. absurd (let z : ◌≡◌ {A = ℕ} 0 1 = cc in let y : ⊥ = omega arith in y) }

-- ---- the current function's code made longer

-- only the code word of function k is another one
pub record Longer (fs fs' : List ℕ) (k w : ℕ) : Type 0 where
  pub same : length fs' ≡ length fs
  pub names : (i : ℕ) → name_word fs' i ≡ name_word fs i
  pub others : (i : ℕ) → (i ≡ k → ⊥) → code_word fs' i ≡ code_word fs i
  pub here : code_word fs' k ≡ w

pub set_longer : (fs : List ℕ) (k w : ℕ) → 2 * k + 2 ≤ length fs → Longer fs (set fs (2 * k + 1) w) k w
unfolding name_word code_word kind_at payload_at
set_longer fs k w h = record {
  same = length-set fs (2 * k + 1) w;
  names = λ i. get_or-set_other fs (2 * k + 1) (2 * i) w 0 (λ (e : 2 * i ≡ 2 * k + 1). omega arith);
  others = λ i d. get_or-set_other fs (2 * k + 1) (2 * i + 1) w 0 (λ (e : 2 * i + 1 ≡ 2 * k + 1). d (omega arith));
  here = get_or-set_same fs (2 * k + 1) w 0 (omega arith);
}

module _ (fs fs' : List ℕ) (k w : ℕ) (l : Longer fs fs' k w) where
  pub same_end : (i : ℕ) → (i ≡ k → ⊥) → code_end fs' i ≡ code_end fs i
  unfolding code_end
  same_end i d = rw (l.others i d)

  pub same_start : (i : ℕ) → (i ≡ suc k → k ≡ 0) → code_start fs' i ≡ code_start fs i
  unfolding code_start
  same_start zero d = refl
  same_start (suc zero) d = refl
  same_start (suc (suc i)) d = same_end (suc i) (λ e. let z : k ≡ 0 = d (ap suc e) in omega arith)

  module _ (c : Counts) (g : functions_ok c fs ≡ true) (lim : Limited c) (here : c.current ≡ k) (n : ℕ) (ew : w ≡ pack (start (code_word fs k)) (size (code_word fs k) + n))
      (short : size (code_word fs k) + n ≤ 65535) (ends : code_end fs k + n ≤ 0xFFFF_FFFF) where
    known : Known c fs k
    known = function_known c fs g k (let a = lim.current in omega arith)

    starts_below : start (code_word fs k) < 2 ^ 32
    unfolding start
    starts_below = omega arith

    pub longer_end : code_end fs' k ≡ code_end fs k + n
    unfolding code_end
    longer_end = rw (l.here, ew, start_pack (start (code_word fs k)) (size (code_word fs k) + n) starts_below, size_pack (start (code_word fs k)) (size (code_word fs k) + n) starts_below) (omega arith)

    -- no function stands behind the current one, unless that is main
    none_behind : (i : ℕ) → i < c.functions → i ≡ suc k → k ≡ 0
    none_behind i h e = either_way (eqb k 0) (λ t. eqb-true k 0 t)
        (λ f. let z : suc c.current ≡ c.functions = lim.newest (λ (q : c.current ≡ 0). eqb-false k 0 f (sym here ∙ q)) in absurd (let y : ⊥ = omega arith in y))

    here_good : function_ok c fs' k ≡ true
    here_good =
        function_good c fs' k
        (rw (l.names k) (inside_back c (name_word fs k) known.name))
        (rw (l.here, ew, start_pack (start (code_word fs k)) (size (code_word fs k) + n) starts_below, same_start k (λ e. absurd (let y : ⊥ = omega arith in y))) known.starts)
        (rw (l.here, ew, size_pack (start (code_word fs k)) (size (code_word fs k) + n) starts_below) short)
        (rw longer_end ends)

    other_good : (i : ℕ) → i < c.functions → (i ≡ k → ⊥) → function_ok c fs' i ≡ true
    other_good i h d =
        let f = function_known c fs g i h in
        function_good c fs' i
        (rw (l.names i) (inside_back c (name_word fs i) f.name))
        (rw (l.others i d, same_start i (none_behind i h)) f.starts)
        (rw (l.others i d) f.short)
        (rw (same_end i d) f.ends)

    each_good : (i : ℕ) → i < c.functions → function_ok c fs' (0 + i) ≡ true
    each_good i h =
        let z : 0 + i ≡ i = omega arith in
        rw z (either_way (eqb i k) (λ t. let e : i ≡ k = eqb-true i k t in rw e here_good) (λ f. other_good i h (eqb-false i k f)))

    pub functions_longer : functions_ok c fs' ≡ true
    unfolding functions_ok
    functions_longer =
        let a : leb c.functions (places 2 fs') ≡ true = rw (places_same 2 fs' fs l.same) (functions_room c fs g) in
        and_both (leb c.functions (places 2 fs')) (every_from c.functions 0 (function_ok c fs')) a (pass_all c.functions 0 (function_ok c fs') each_good)

    -- the codes still lie in their stores
    pub codes_longer : (m o m' o' : List ℕ) → inside_codes c fs m o ≡ true → length m' ≡ length m → length o' ≡ length o
        → (k ≡ 0 → code_end fs k + n ≤ places 1 m) → ((k ≡ 0 → ⊥) → code_end fs k + n ≤ places 1 o) → inside_codes c fs' m' o' ≡ true
    unfolding inside_codes main_taken other_taken
    codes_longer m o m' o' e em eo hm ho =
        let a = leb (code_end fs 0) (places 1 m) in let b = leb (code_start fs c.functions) (places 1 o) in
        rw (places_same 1 m' m em, places_same 1 o' o eo) (either_way (eqb k 0)
        (λ t.
        let z : k ≡ 0 = eqb-true k 0 t in
        let x : code_end fs' 0 ≤ places 1 m = rw z at (rw (← longer_end) at (hm z)) in
        and_both (leb (code_end fs' 0) (places 1 m)) (leb (code_start fs' c.functions) (places 1 o))
        (le-leb _ _ x)
        (rw (same_start c.functions (λ q. z)) (and_right a b e)))
        (λ f.
        let d : k ≡ 0 → ⊥ = eqb-false k 0 f in
        let q : suc k ≡ c.functions = ap suc (sym here) ∙ lim.newest (λ (u : c.current ≡ 0). d (sym here ∙ u)) in
        let x : code_start fs' c.functions ≤ places 1 o = rw (codes_behind fs' k c.functions d q, longer_end) (ho d) in
        and_both (leb (code_end fs' 0) (places 1 m)) (leb (code_start fs' c.functions) (places 1 o))
        (rw (same_end 0 (λ (u : 0 ≡ k). d (sym u))) (and_left a b e))
        (le-leb _ _ x)))

-- ---- what is appended

module _ (c : Counts) (s : Stores) (g : Good c s) (n : ℕ) (short : size_here c s + n ≤ 65535) (fits : end_here c s + n ≤ code_room c s) where
  lim : Limited c
  lim = limited c g.counts

  pub now_longer : Longer s.functions (longer c n s) c.current (pack (start (code_word s.functions c.current)) (size_here c s + n))
  unfolding longer
  now_longer = set_longer s.functions c.current _ (function_known c s.functions g.functions c.current lim.current).within

  pub in_code : end_here c s + n ≤ places 1 (code_here c s)
  unfolding code_room
  in_code = let h : min (places 1 (code_here c s)) (places 1 (places_here c s)) ≤ places 1 (code_here c s) = min-le_left _ _ in omega arith

  pub in_places : end_here c s + n ≤ places 1 (places_here c s)
  unfolding code_room
  in_places = let h : min (places 1 (code_here c s)) (places 1 (places_here c s)) ≤ places 1 (places_here c s) = min-le_right _ _ in omega arith

  ends_below : code_end s.functions c.current + n ≤ 0xFFFF_FFFF
  unfolding end_here
  ends_below = let h = in_code in let x = room_1 (code_here c s) in omega arith

  short_here : size (code_word s.functions c.current) + n ≤ 65535
  unfolding size_here
  short_here = short

  word_here : pack (start (code_word s.functions c.current)) (size_here c s + n) ≡ pack (start (code_word s.functions c.current)) (size (code_word s.functions c.current) + n)
  unfolding size_here
  word_here = refl

  longer_good : functions_ok c (longer c n s) ≡ true
  longer_good = functions_longer _ _ _ _ now_longer c g.functions lim refl n word_here short_here ends_below

  main_here : main_ok (longer c n s) s.text ≡ true
  unfolding main_ok
  main_here = rw (now_longer.names 0) g.main

  module _ (code places' : List ℕ) where
    main_longer : length code ≡ length s.main → length places' ≡ length s.main_places → c.current ≡ 0 → Good c (with_functions (longer c n s) (with_main code places' s))
    unfolding end_here code_here places_here
    main_longer ec el z =
        let a : code_end s.functions c.current + n ≤ places 1 s.main = rw (eq-eqb c.current 0 z) at in_code in
        let b : code_end s.functions c.current + n ≤ places 1 s.main_places = rw (eq-eqb c.current 0 z) at in_places in
        record {
          counts = g.counts;
          text = g.text;
          constants = g.constants;
          structs = g.structs;
          functions = longer_good;
          main = main_here;
          codes = codes_longer _ _ _ _ now_longer c g.functions lim refl n word_here short_here ends_below s.main s.other code s.other g.codes ec refl (λ q. a) (λ q. absurd (q z));
          places = codes_longer _ _ _ _ now_longer c g.functions lim refl n word_here short_here ends_below s.main_places s.other_places places'
              s.other_places g.places el refl (λ q. b) (λ q. absurd (q z));
        }

    other_longer : length code ≡ length s.other → length places' ≡ length s.other_places → (c.current ≡ 0 → ⊥) → Good c (with_functions (longer c n s) (with_other code places' s))
    unfolding end_here code_here places_here
    other_longer ec el z =
        let a : code_end s.functions c.current + n ≤ places 1 s.other = rw (ne_eqb c.current 0 z) at in_code in
        let b : code_end s.functions c.current + n ≤ places 1 s.other_places = rw (ne_eqb c.current 0 z) at in_places in
        record {
          counts = g.counts;
          text = g.text;
          constants = g.constants;
          structs = g.structs;
          functions = longer_good;
          main = main_here;
          codes = codes_longer _ _ _ _ now_longer c g.functions lim refl n word_here short_here ends_below s.main s.other s.main code g.codes refl ec (λ q. absurd (z q)) (λ q. a);
          places = codes_longer _ _ _ _ now_longer c g.functions lim refl n word_here short_here ends_below s.main_places s.other_places
              s.main_places places' g.places refl el (λ q. absurd (z q)) (λ q. b);
        }

module _ (c : Counts) (bytes : List ℕ) (place : ℕ) (s : Stores) (g : Good c s) (short : size_here c s + length bytes ≤ 65535) (fits : end_here c s + length bytes ≤ code_room c s) where
  append_good : program_ok c (appended c bytes place s).stores ≡ true
  unfolding appended with_code code_here places_here
  append_good = either_way (eqb c.current 0)
      (λ t. rw t (of_good _ _ (main_longer c s g (length bytes) short fits _ _ (length_written _ _ _) (length_written _ _ _) (eqb-true c.current 0 t))))
      (λ f. rw f (of_good _ _ (other_longer c s g (length bytes) short fits _ _ (length_written _ _ _) (length_written _ _ _) (eqb-false c.current 0 f))))

  append_kept : Kept (appended c bytes place s)
  unfolding appended
  append_kept = record { kept = λ c' i e. rw (← (same_counts e)) append_good }

-- add_op to add_op3 keep good order
pub emit_keeps : (running : Bool) (c : Counts) (op : ℕ) (bytes : List ℕ) (place : ℕ) (s : Stores) → program_ok c s ≡ true → Kept (emit_of running c op bytes place s)
unfolding emit_of emit_in
emit_keeps running c op bytes place s e =
    kept_if (code_order c s) _ _ (λ _.
    kept_if running _ _ (λ _. kept_refused why.RunUnderWay s) (λ _.
    kept_if (ltb code_limit (size_here c s + length bytes)) _ _ (λ _. kept_refused why.OverLimit s) (λ short.
    kept_if (ltb (code_room c s) (end_here c s + length bytes)) _ _ (λ _. kept_refused why.StoreFull s) (λ fits.
    kept_if (leb 38 op) _ _ (λ _. kept_refused why.UnknownOpcode s) (λ _. append_kept c bytes place s (good_of c s e) (ltb-false _ _ short) (ltb-false _ _ fits))))))
    (λ _. kept_refused why.NotInOrder s)
