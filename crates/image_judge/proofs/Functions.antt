-- Functions: a head, then runs; main, then the others.
use mathlib.Core.Path.{◌≡◌, refl, sym, ap, subst, ◌∙◌}
use mathlib.Core.Bool.{Bool, true, false, ◌&&◌, and-true, and_assoc}
use mathlib.Core.List.{List, [], ◌∷◌, ◌++◌}
use Prim.Native.Nat.{ℕ, zero, suc, ◌+◌, ◌-◌, ◌<◌, ◌≤◌}
use native.Mathlib.Omega.{arith}
use native.Mathlib.Nat.{pos_of_ne-zero}
use lib.Dec.{ltb, leb}
use lib.ListN.{length, take, drop, length-append}
use borrow.Author.Tests.{lt-ltb}
use Rattle.model.specs.Basics.{ascii}
use Rattle.model.specs.Numbers.{Step, got, and_then, item, checked, number}
use Rattle.model.specs.Equality.{same_bytes}
use Rattle.model.specs.Programs.{Function, function_at, main_name, codes_within}
use Rattle.model.specs.Images.{joined, series, read_text, main_first, read_function, read_functions}
use Rattle.number.specs.Links.{NumPost}
use Rattle.image_judge.specs.Links.{Good, Bad, part_of, TextPost, runs_for, RunsAt, BehindIs, RunsPost, function_of, HeadAt, BegunIs, HeadPost, SpanAt, SpannedIs, SpanPost, others_for, OthersAt, RestIs, OthersPost, functions_for, FunctionsPost}
use Rattle.image_judge.specs.declared.Head.{Head}
use Rattle.image_judge.specs.declared.Span.{Span}
use Rattle.image_judge.specs.declared.Others.{Others}
use Rattle.laws_images.proofs.Codecs.{got_value, then_only, made_only}
use Rattle.laws_images.proofs.Formats.{read_places, read_code}
use Rattle.image_judge.proofs.Reading.{Along, along_start, along_end, along_bad, along_step, joined_length, bad_first, bad_second, good_both, bad_test, bad_tested, good_test, no_number_lem}
use Rattle.image_judge.proofs.Items.{part_length, part_slice, part_read, part_short, text_is, text_not}
use Rattle.image_judge.proofs.Passes.{counted_at}
use Rattle.std.specs.Prelude.{Err, None, Ok, Option, Result, Some}
use Rattle.image_judge.specs.declared.Broken.{Broken}
use Rattle.image_judge.specs.declared.Broken.TheVariants.{At}

-- ---- a name

pub may_main : (first r : Bool) (nm : List ℕ) → first ≡ true → r ≡ same_bytes nm (60 ∷ 109 ∷ 97 ∷ 105 ∷ 110 ∷ 62 ∷ []) → r ≡ main_first first nm
unfolding main_first main_name ascii
may_main first r nm f e = rw f e

pub may_other : (first : Bool) (nm : List ℕ) → first ≡ false → true ≡ main_first first nm
unfolding main_first
may_other first nm f = rw f

-- ---- a head

-- what follows a name
abbrev after_name : List ℕ → List ℕ → Step Function
after_name nm r = and_then (number r) (read_code nm)

module _ (first : Bool) (s : List ℕ) (at : ℕ) (x : Option (ℕ × ℕ)) (q : TextPost s at x) where
  pub head_none : x ≡ None → HeadPost first s at (Err (At at))
  unfolding read_function
  head_none e = record { is = bad_first after_name (bad_tested (main_first first) (text_not s at x q e)) }

  module _ (nm len : ℕ) (e : x ≡ Some (nm, len)) (m : Bool) (em : m ≡ main_first first (take (nm + len - nm) (drop nm s))) where
    pub head_behind : nm + len ≤ length s
    head_behind = (text_is s at x q nm len e).good.within

    tells : m ≡ main_first first (part_of s nm len)
    tells = em ∙ ap (main_first first) (part_slice s nm len)

    pub head_other : m ≡ false → HeadPost first s at (Err (At at))
    unfolding read_function
    head_other f = record { is = bad_first after_name (bad_test (main_first first) (text_is s at x q nm len e).good (sym tells ∙ f)) }

    module _ (f : m ≡ true) (y : Option (ℕ × ℕ)) (w : NumPost s (nm + len) y) where
      named : Good (λ b. item b (checked (main_first first) (read_text b))) s at (nm + len) (part_of s nm len)
      named = good_test (main_first first) (text_is s at x q nm len e).good (sym tells ∙ f)

      pub head_no_size : y ≡ None → HeadPost first s at (Err (At (nm + len)))
      unfolding read_function
      head_no_size g = record { is = bad_second after_name named (bad_first (read_code (part_of s nm len)) (no_number_lem s (nm + len) y w head_behind g)) }

      module _ (v code size : ℕ) (g : y ≡ Some (v, code)) (k : (size ≡ v) × (size < 4294967296)) where
        sized : Good number s (nm + len) code size
        sized = counted_at s (nm + len) y w v code size g k

        pub head_code : code ≤ length s
        head_code = sized.within

        pub head_short : length s - code < size → HeadPost first s at (Err (At code))
        unfolding read_function
        head_short l = record { is = bad_second after_name named (bad_second (read_code (part_of s nm len)) sized (bad_first (read_places (part_of s nm len)) (part_short s code size head_code l))) }

        pub head_read : size ≤ length s - code → HeadPost first s at (Ok (record { name = nm; len = len; code = code; size = size }))
        unfolding read_function and_then function_of runs_for
        head_read l =
            let c = part_read s code size head_code l in
            let a = (text_is s at x q nm len e).ahead in let z = sized.ahead in let cw = c.within in
            record {
              is = record {
                leads = rw (named.means, sized.means, c.means, part_length s code size c.within);
                name = head_behind;
                code = c.within;
                small = ((text_is s at x q nm len e).small, k.1);
                room = omega arith;
              };
            }

pub head_is : (first : Bool) (s : List ℕ) (at : ℕ) (r : Result Head Broken) → HeadPost first s at r → (x : Head) → r ≡ Ok x → HeadAt first s at x
head_is first s at r w x e = subst (BegunIs first s at) e w.is

pub head_not : (first : Bool) (s : List ℕ) (at : ℕ) (r : Result Head Broken) → HeadPost first s at r → (k : ℕ) → r ≡ Err (At k) → Bad (read_function first) s at k
head_not first s at r w k e = subst (BegunIs first s at) e w.is

pub runs_is : (s : List ℕ) (at size : ℕ) (r : Result ℕ Broken) → RunsPost s at size r → (next : ℕ) → r ≡ Ok next → RunsAt s at size next
runs_is s at size r w next e = subst (BehindIs s at size) e w.is

pub runs_not : (s : List ℕ) (at size : ℕ) (r : Result ℕ Broken) → RunsPost s at size r → (k : ℕ) → r ≡ Err (At k) → Bad (runs_for size) s at k
runs_not s at size r w k e = subst (BehindIs s at size) e w.is

-- ---- a whole function

module _ (first : Bool) (s : List ℕ) (at : ℕ) (r : Result Head Broken) (w : HeadPost first s at r) where
  pub span_none : (b : Broken) → r ≡ Err b → SpanPost first s at (Err b)
  span_none (At k) e = record { is = head_not first s at r w k e }

  module _ (x : Head) (e : r ≡ Ok x) where
    pub span_runs : x.code + x.size ≤ length s
    span_runs = (head_is first s at r w x e).code

    module _ (y : Result ℕ Broken) (v : RunsPost s (x.code + x.size) x.size y) where
      pub span_bad : (b : Broken) → y ≡ Err b → SpanPost first s at (Err b)
      unfolding and_then
      span_bad (At k) f =
          let g = runs_not s (x.code + x.size) x.size y v k f in let z = head_is first s at r w x e in
          let a = z.room in let c = g.ahead in
          record { is = record { means = z.leads ∙ rw g.means; ahead = omega arith; within = g.within } }

      pub span_read : (next : ℕ) → y ≡ Ok next → SpanPost first s at (Ok (record { next = next; name = x.len; code = x.size }))
      unfolding and_then function_of
      span_read next f =
          let g = runs_is s (x.code + x.size) x.size y v next f in let z = head_is first s at r w x e in
          let a = z.room in let c = g.good.ahead in
          record {
            is = record {
              held = function_of s x g.held;
              good = record { means = z.leads ∙ rw g.good.means; ahead = omega arith; within = g.good.within };
              name = sym (part_length s x.name x.len z.name);
              code = sym (part_length s x.code x.size z.code);
              room = omega arith;
            };
          }

pub span_is : (first : Bool) (s : List ℕ) (at : ℕ) (r : Result Span Broken) → SpanPost first s at r → (z : Span) → r ≡ Ok z → SpanAt first s at z
span_is first s at r w z e = subst (SpannedIs first s at) e w.is

pub span_not : (first : Bool) (s : List ℕ) (at : ℕ) (r : Result Span Broken) → SpanPost first s at r → (k : ℕ) → r ≡ Err (At k) → Bad (read_function first) s at k
span_not first s at r w k e = subst (SpannedIs first s at) e w.is

-- ---- the others

codes_more : (l : List Function) (f : Function) → codes_within (l ++ (f ∷ [])) ≡ (codes_within l && leb (length f.code) 65535)
unfolding codes_within
codes_more [] f = and-true (leb (length f.code) 65535)
codes_more (x ∷ l) f = ap (λ (y : Bool). leb (length x.code) 65535 && y) (codes_more l f) ∙ sym (and_assoc (leb (length x.code) 65535) (codes_within l) (leb (length f.code) 65535))

abbrev pub behind_main : Bool → Function → Bool
behind_main x f = false

pub record Passing (n : ℕ) (s : List ℕ) (at cur text code : ℕ) (within : Bool) (i : ℕ) : Type 0 where
  pub done : List Function
  pub along : Along read_function behind_main n false s at i false cur done
  pub names : text ≡ length (joined (λ f. f.name) done)
  pub bytes : code ≡ length (joined (λ f. f.code) done)
  pub codes : within ≡ codes_within done
  pub room : at + text + code ≤ cur

pub others_start : (n : ℕ) (s : List ℕ) (at : ℕ) → at ≤ length s → Passing n s at at 0 0 true 0
unfolding joined codes_within
others_start n s at l = record { done = []; along = along_start read_function behind_main n false s at l; names = refl; bytes = refl; codes = refl; room = omega arith }

module _ (n : ℕ) (s : List ℕ) (at cur text code : ℕ) (within : Bool) (i : ℕ) (w : Passing n s at cur text code within i) where
  pub others_end : n ≤ i → OthersPost n s at (Ok (record { next = cur; text = text; code = code; within = within }))
  unfolding others_for
  others_end l = record {
    is = record {
      held = w.done;
      good = along_end read_function behind_main n false s at i false cur w.done w.along l;
      text = w.names;
      code = w.bytes;
      within = w.codes;
      room = w.room;
    };
  }

  module _ (l : i < n) (r : Result Span Broken) (q : SpanPost false s cur r) where
    pub others_bad : (b : Broken) → r ≡ Err b → OthersPost n s at (Err b)
    unfolding others_for
    others_bad (At k) e = record { is = along_bad read_function behind_main n false s at i false cur w.done w.along l k (span_not false s cur r q k e) }

    module _ (z : Span) (e : r ≡ Ok z) where
      pub others_step : Passing n s at z.next (text + z.name) (code + z.code) (within && leb z.code 65535) (i + 1)
      others_step =
          let g = span_is false s cur r q z e in let f = g.held in let a = g.room in let y = w.room in
          let n1 = g.name in let c1 = g.code in let n2 = joined_length (λ f. f.name) w.done g.held in let c2 = joined_length (λ f. f.code) w.done g.held in
          let n3 = w.names in let c3 = w.bytes in
          record {
            done = w.done ++ (g.held ∷ []);
            along = along_step read_function behind_main n false s at i false cur w.done w.along l g.held z.next g.good;
            names = omega arith;
            bytes = omega arith;
            room = omega arith;
            codes = ap (λ (x : Bool). x && leb z.code 65535) w.codes ∙ ap (λ (x : ℕ). codes_within w.done && leb x 65535) g.code ∙ sym (codes_more w.done g.held);
          }

pub rest_is : (n : ℕ) (s : List ℕ) (at : ℕ) (r : Result Others Broken) → OthersPost n s at r → (z : Others) → r ≡ Ok z → OthersAt n s at z
rest_is n s at r w z e = subst (RestIs n s at) e w.is

pub rest_not : (n : ℕ) (s : List ℕ) (at : ℕ) (r : Result Others Broken) → OthersPost n s at r → (k : ℕ) → r ≡ Err (At k) → Bad (others_for n) s at k
rest_not n s at r w k e = subst (RestIs n s at) e w.is

-- n readings give n values
pub series_count : {S A : Type 0} (dec : S → List ℕ → Step A) (next : S → A → S) (n : ℕ) (x : S) (b : List ℕ) (l : List A) (r : List ℕ)
    → series dec next n x b ≡ got l r → length l ≡ n
unfolding series
series_count dec next zero x b l r e = sym (ap length (got_value e))
series_count dec next (suc n) x b l r e =
    let g = then_only (dec x b) _ l r e in
    let m = made_only (λ y. g.0 ∷ y) (series dec next n (next x g.0) g.1) l r g.3 in
    ap length (sym m.1) ∙ ap suc (series_count dec next n (next x g.0) g.1 m.0 r m.2)

-- ---- all

abbrev pub some_test : ℕ → Bool
some_test n = ltb 0 n

abbrev pub all_for : ℕ → List ℕ → Step (List Function)
all_for n r = series read_function behind_main n true r

module _ (s : List ℕ) (at : ℕ) (pre : at ≤ length s) (x : Option (ℕ × ℕ)) (q : NumPost s at x) where
  pub all_none : x ≡ None → FunctionsPost s at (Err (At at))
  unfolding read_functions
  all_none e = record { is = bad_first all_for (bad_tested some_test (no_number_lem s at x q pre e)) }

  module _ (v first count : ℕ) (e : x ≡ Some (v, first)) (w : (count ≡ v) × (count < 4294967296)) where
    number_at : Good number s at first count
    number_at = counted_at s at x q v first count e w

    pub all_first : first ≤ length s
    all_first = number_at.within

    pub all_zero : count ≡ 0 → FunctionsPost s at (Err (At at))
    unfolding read_functions
    all_zero z = record { is = bad_first all_for (bad_test some_test number_at (rw z)) }

    module _ (z : count ≡ 0 → ⊥) (r : Result Span Broken) (u : SpanPost true s first r) where
      one : count ≡ suc (count - 1)
      one = let y : 0 < count = pos_of_ne-zero z in omega arith

      some : Good (λ b. item b (checked some_test (number b))) s at first count
      some = good_test some_test number_at (lt-ltb 0 count (pos_of_ne-zero z))

      -- main, and the others behind it
      split : (b : List ℕ) → all_for count b ≡ and_then (read_function true b) (λ f t. and_then (others_for (count - 1) t) (λ l y. got (f ∷ l) y))
      unfolding series others_for
      split b = ap (λ (k : ℕ). series read_function behind_main k true b) one

      bad_all : (k : ℕ) → Bad (λ b. and_then (read_function true b) (λ f t. and_then (others_for (count - 1) t) (λ l y. got (f ∷ l) y))) s first k → FunctionsPost s at (Err (At k))
      unfolding read_functions
      bad_all k g = record { is = bad_second all_for some (record { means = split (drop first s) ∙ g.means; ahead = g.ahead; within = g.within }) }

      pub all_bad : (b : Broken) → r ≡ Err b → FunctionsPost s at (Err b)
      all_bad (At k) g = bad_all k (bad_first (λ f t. and_then (others_for (count - 1) t) (λ l y. got (f ∷ l) y)) (span_not true s first r u k g))

      module _ (m : Span) (g : r ≡ Ok m) where
        pub all_next : m.next ≤ length s
        all_next = (span_is true s first r u m g).good.within

        module _ (y : Result Others Broken) (k : OthersPost (count - 1) s m.next y) where
          pub all_bad_2 : (b : Broken) → y ≡ Err b → FunctionsPost s at (Err b)
          all_bad_2 (At j) f =
              let mg = span_is true s first r u m g in
              bad_all j (bad_second (λ f t. and_then (others_for (count - 1) t) (λ l y. got (f ∷ l) y)) mg.good
              (bad_first (λ l y. got (mg.held ∷ l) y) (rest_not (count - 1) s m.next y k j f)))

          module _ (c : Others) (f : y ≡ Ok c) where
            pub all_fit : m.name + c.text ≤ length s
            all_fit =
                let mg = span_is true s first r u m g in let cg = rest_is (count - 1) s m.next y k c f in
                let a = mg.room in let b = cg.room in let d = cg.good.within in omega arith

            pub all_read : FunctionsPost s at (Ok (record { first = first; next = c.next; count = count; text = m.name + c.text; main = m.code; other = c.code; within = leb m.code 65535 && c.within }))
            unfolding read_functions functions_for and_then joined function_at codes_within others_for
            all_read =
                let mg = span_is true s first r u m g in let cg = rest_is (count - 1) s m.next y k c f in
                let a = mg.room in let b = cg.room in let na = number_at.ahead in let ma = mg.good.ahead in let ca = cg.good.ahead in
                let n1 = mg.name in let n2 = cg.text in
                let la = length-append mg.held.name (joined (λ f. f.name) cg.held) in
                let both : Good (all_for count) s first c.next (mg.held ∷ cg.held) =
                record { means = split (drop first s) ∙ rw (mg.good.means, cg.good.means); ahead = omega arith; within = cg.good.within } in
                record {
                  is = record {
                    held = mg.held ∷ cg.held;
                    good = good_both all_for some both;
                    begins = both;
                    count = one ∙ ap suc (sym (series_count read_function behind_main (count - 1) false (drop m.next s) cg.held (drop c.next s) cg.good.means));
                    text = omega arith;
                    main = mg.code;
                    other = cg.code;
                    within = ap (λ (j : ℕ). leb j 65535 && c.within) mg.code ∙ ap (λ (j : Bool). leb (length mg.held.code) 65535 && j) cg.within;
                    room = omega arith;
                  };
                }
