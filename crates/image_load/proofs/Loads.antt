-- Loading: judged, then the limits, then the room, then written.
use mathlib.Core.Path.{◌≡◌, sym, ap, subst, ◌∙◌}
use mathlib.Core.Bool.{Bool, true, false, not, ◌&&◌}
use mathlib.Core.List.{List, [], ◌∷◌, ◌++◌}
use Prim.Native.Nat.{ℕ, ◌+◌, ◌≤◌}
use native.Mathlib.Omega.{arith}
use lib.Dec.{leb}
use lib.ListN.{length, drop, length-append}
use borrow.Author.Tests.{leb-true, not-true, not-false}
use Rattle.model.specs.Numbers.{Step, got}
use Rattle.model.specs.Values.{places}
use Rattle.model.specs.Programs.{Constant, Function, Program, function_at, order_of, within_limits}
use Rattle.model.specs.Images.{joined, read_constants, read_structs, read_functions, read_end, parse, Judged, fine, broken, judge}
use Rattle.model.specs.Stores.{Stores}
use Rattle.model.specs.Emission.{written, counts}
use Rattle.model.specs.Loading.{constant_text, constants_laid, structs_laid, functions_laid, constant_texts, struct_texts, texts_of, main_of, others_of, laid, counts_for, room_for, load_judged, load_of}
use Rattle.image_judge.specs.Links.{refused, SizesOf, Says, JudgementIs, JudgePost}
use Rattle.model.specs.Stores.{stores_of as lent}
use Rattle.image_load.specs.Fills.{bytes_in, ConstantsFit, ConstantsFilled, StructsFit, StructsFilled, FunctionsFit, FunctionsFilled, Fits, LaidPost}
use Rattle.image_judge.specs.declared.Sizes.{Sizes}
use Rattle.image_load.specs.declared.loading.Filled.{Filled}
use Rattle.layout.proofs.Bools.{both_true}
use Rattle.number.proofs.Codes.{never}
use Rattle.laws_images.proofs.Codecs.{then_only, got_value, got_rest}
pub use Rattle.layout.proofs.Parts.{one_word, two_words}
use Rattle.laws_images.proofs.Formats.{judged_fine}
use Rattle.laws_images.proofs.Written.{kept_length, more_written}
use Rattle.std.specs.Prelude.{Err, Ok, Result}
use Rattle.image_judge.specs.declared.Broken.{Broken}
use Rattle.model.specs.declared.Refusal.TheVariants as why
use Rattle.image_judge.specs.declared.Broken.TheVariants.{At}

-- ---- the parts of a program that was judged

pub record Parts (s : List ℕ) (p : Program) : Type 0 where
  pub rest₁ : List ℕ
  pub rest₂ : List ℕ
  pub rest₃ : List ℕ
  pub constants : read_constants s ≡ got p.constants rest₁
  pub structs : read_structs rest₁ ≡ got p.structs rest₂
  pub functions : read_functions rest₂ ≡ got p.functions rest₃

end_only : (q : Program) (u : List ℕ) (p : Program) (r : List ℕ) → read_end q u ≡ got p r → q ≡ p
unfolding read_end
end_only q [] p r e = got_value e
end_only q (x ∷ u) p r e = absurd (never e)

parts : (s : List ℕ) (p : Program) → judge s ≡ fine p → Parts s p
unfolding judge parse
parts s p e =
    let g = judged_fine (length s) (parse s) p e in
    let g1 = then_only (read_constants s) _ p g.0 g.1 in
    let g2 = then_only (read_structs g1.1) _ p g.0 g1.3 in
    let g3 = then_only (read_functions g2.1) _ p g.0 g2.3 in
    subst (λ (q : Program). Parts s q) (end_only _ g3.1 p g.0 g3.3)
    (record { rest₁ = g1.1; rest₂ = g2.1; rest₃ = g3.1; constants = g1.2; structs = g2.2; functions = g3.2 })

got_one : {A : Type 0} {a b : A} {u v : List ℕ} {c : Step A} → c ≡ got a u → c ≡ got b v → a ≡ b
got_one e f = got_value (sym e ∙ f)

got_end : {A : Type 0} {a b : A} {u v : List ℕ} {c : Step A} → c ≡ got a u → c ≡ got b v → u ≡ v
got_end e f = got_rest (sym e ∙ f)

pub fine_one : {p q : Program} {c : Judged} → c ≡ fine p → c ≡ fine q → p ≡ q
fine_one e f = cc

stores_same : {cs cs' ss ss' fs fs' tx tx' mn mn' mp mp' ot ot' op op' : List ℕ} → cs ≡ cs' → ss ≡ ss' → fs ≡ fs' → tx ≡ tx' → mn ≡ mn' → mp ≡ mp' → ot ≡ ot' → op ≡ op'
    → lent cs ss fs tx mn mp ot op ≡ lent cs' ss' fs' tx' mn' mp' ot' op'
stores_same a b c d e f g h = rw (a, b, c, d, e, f, g, h)

-- ---- room

-- every store has room for its part
pub record Room (p : Program) (x : Stores) : Type 0 where
  pub constants : length p.constants ≤ places 2 x.constants
  pub structs : length p.structs ≤ places 2 x.structs
  pub functions : length p.functions ≤ places 2 x.functions
  pub text : length (texts_of p) ≤ places 1 x.text
  pub main : length (main_of p).code ≤ places 1 x.main
  pub main_places : length (main_of p).code ≤ places 1 x.main_places
  pub other : length (joined (λ f. f.code) (others_of p)) ≤ places 1 x.other
  pub other_places : length (joined (λ f. f.code) (others_of p)) ≤ places 1 x.other_places

pub room_of_lem : (p : Program) (x : Stores) → room_for p x ≡ true → Room p x
unfolding room_for
room_of_lem p x h =
    let h7 = both_true _ _ h in let h6 = both_true _ _ h7.0 in let h5 = both_true _ _ h6.0 in let h4 = both_true _ _ h5.0 in
    let h3 = both_true _ _ h4.0 in let h2 = both_true _ _ h3.0 in let h1 = both_true _ _ h2.0 in
    record {
      constants = leb-true _ _ h1.0;
      structs = leb-true _ _ h1.1;
      functions = leb-true _ _ h2.1;
      text = leb-true _ _ h3.1;
      main = leb-true _ _ h4.1;
      main_places = leb-true _ _ h5.1;
      other = leb-true _ _ h6.1;
      other_places = leb-true _ _ h7.1;
    }

-- ---- the writing pass

module _ (s : List ℕ) (cs ss fs tx mn mp ot op : List ℕ) (fit : Fits s (lent cs ss fs tx mn mp ot op)) where
  p : Program
  p = fit.program

  q : Parts s p
  unfolding p
  q = parts s fit.program fit.judged

  room : Room p (lent cs ss fs tx mn mp ot op)
  unfolding p
  room = room_of_lem fit.program (lent cs ss fs tx mn mp ot op) fit.room

  text_parts : length (texts_of p) ≡ length (joined constant_text p.constants) + length (joined (λ n. n) p.structs) + bytes_in (λ f. f.name) p.functions
  unfolding texts_of constant_texts struct_texts
  text_parts =
      let a = length-append (joined constant_text p.constants ++ joined (λ n. n) p.structs) (joined (λ f. f.name) p.functions) in
      let b = length-append (joined constant_text p.constants) (joined (λ n. n) p.structs) in omega arith

  pub fit_constants : ConstantsFit s 0 cs tx
  fit_constants =
      let t = one_word _ tx room.text in let t0 = t.0 in let t1 = t.1 in let e = text_parts in
      record {
        held = p.constants;
        has = record { within = omega arith; rest = q.rest₁; means = q.constants };
        words = two_words _ cs room.constants;
        text = omega arith;
        small = omega arith;
      }

  module _ (z : Filled) (cs₁ tx₁ : List ℕ) (c : ConstantsFilled s 0 cs tx z cs₁ tx₁) where
    same_constants : c.held ≡ p.constants
    same_constants = got_one c.good.means q.constants

    c_text : z.text ≡ length (joined constant_text p.constants)
    c_text = c.text ∙ ap (λ (y : List Constant). length (joined constant_text y)) same_constants

    pub fit_structs : StructsFit s z.next z.text ss tx₁
    fit_structs =
        let t = one_word _ tx room.text in let t0 = t.0 in let t1 = t.1 in let e = text_parts in let k = kept_length tx₁ tx 0 _ c.texts in let ct = c_text in
        record {
          held = p.structs;
          has = record { within = c.good.within; rest = q.rest₂; means = ap read_structs (got_end c.good.means q.constants) ∙ q.structs };
          words = two_words _ ss room.structs;
          text = omega arith;
          small = omega arith;
        }

    module _ (y : Filled) (ss₁ tx₂ : List ℕ) (d : StructsFilled s z.next z.text ss tx₁ y ss₁ tx₂) where
      structs_here : read_structs (drop z.next s) ≡ got p.structs q.rest₂
      structs_here = ap read_structs (got_end c.good.means q.constants) ∙ q.structs

      same_structs : d.held ≡ p.structs
      same_structs = got_one d.good.means structs_here

      s_text : y.text ≡ length (joined constant_text p.constants) + length (joined (λ n. n) p.structs)
      s_text = d.text ∙ ap (λ (j : ℕ). j + length (joined (λ n. n) d.held)) c_text
          ∙ ap (λ (v : List (List ℕ)). length (joined constant_text p.constants) + length (joined (λ n. n) v)) same_structs

      functions_here_lem : read_functions (drop y.next s) ≡ got p.functions q.rest₃
      functions_here_lem = ap read_functions (got_end d.good.means structs_here) ∙ q.functions

      pub fit_functions : FunctionsFit s y.next y.text fs tx₂ mn mp ot op
      unfolding main_of others_of
      fit_functions =
          let t = one_word _ tx room.text in let t0 = t.0 in let t1 = t.1 in let e = text_parts in
          let k1 = kept_length tx₁ tx 0 _ c.texts in let k2 = kept_length tx₂ tx₁ z.text _ d.texts in let st = s_text in
          record {
            held = p.functions;
            has = record { within = d.good.within; rest = q.rest₃; means = functions_here_lem };
            words = two_words _ fs room.functions;
            text = omega arith;
            small = (omega arith, ((one_word _ mn room.main).1, (one_word _ ot room.other).1));
            main = ((one_word _ mn room.main).0, (one_word _ mp room.main_places).0);
            other = ((one_word _ ot room.other).0, (one_word _ op room.other_places).0);
          }

      module _ (fs₁ tx₃ mn₁ mp₁ ot₁ op₁ : List ℕ) (f : FunctionsFilled s y.next y.text fs tx₂ mn mp ot op fs₁ tx₃ mn₁ mp₁ ot₁ op₁) where
        same_functions : f.held ≡ p.functions
        same_functions = got_one f.has.means functions_here_lem

        texts_laid : tx₃ ≡ written tx 0 (texts_of p)
        unfolding texts_of constant_texts struct_texts
        texts_laid =
            let a = c.text in let b = d.text in
            let l = length-append (joined constant_text c.held) (joined (λ n. n) d.held) in
            let e1 = more_written tx tx₁ tx₂ 0 z.text (joined constant_text c.held) (joined (λ n. n) d.held) c.texts (omega arith) d.texts in
            let e2 = more_written tx tx₂ tx₃ 0 y.text (joined constant_text c.held ++ joined (λ n. n) d.held) (joined (λ f. f.name) f.held) e1 (omega arith) f.names in
            e2 ∙ ap (λ (v : List Constant). written tx 0 (joined constant_text v ++ joined (λ n. n) d.held ++ joined (λ f. f.name) f.held)) same_constants
            ∙ ap (λ (v : List (List ℕ)). written tx 0 (joined constant_text p.constants ++ joined (λ n. n) v ++ joined (λ f. f.name) f.held)) same_structs
            ∙ ap (λ (v : List Function). written tx 0 (joined constant_text p.constants ++ joined (λ n. n) p.structs ++ joined (λ f. f.name) v)) same_functions

        here : lent cs₁ ss₁ fs₁ tx₃ mn₁ mp₁ ot₁ op₁ ≡ laid p (lent cs ss fs tx mn mp ot op)
        unfolding laid constant_texts struct_texts main_of others_of
        here = stores_same
            (c.words ∙ ap (λ (v : List Constant). written cs 0 (constants_laid 0 v)) same_constants)
            (d.words ∙ ap (λ (v : List (List ℕ)). written ss 0 (structs_laid z.text v (order_of (length v) v))) same_structs
            ∙ ap (λ (v : ℕ). written ss 0 (structs_laid v p.structs (order_of (length p.structs) p.structs))) c_text)
            (f.words ∙ ap (λ (v : List Function). written fs 0 (functions_laid y.text v)) same_functions ∙ ap (λ (v : ℕ). written fs 0 (functions_laid v p.functions)) s_text)
            texts_laid
            (f.main ∙ ap (λ (v : List Function). written mn 0 (function_at v 0).code) same_functions)
            (f.main_places ∙ ap (λ (v : List Function). written mp 0 (function_at v 0).places) same_functions)
            (f.other ∙ ap (λ (v : List Function). written ot 0 (joined (λ g. g.code) (drop 1 v))) same_functions)
            (f.other_places ∙ ap (λ (v : List Function). written op 0 (joined (λ g. g.places) (drop 1 v))) same_functions)

        pub all_laid_lem : LaidPost s (lent cs ss fs tx mn mp ot op) (lent cs₁ ss₁ fs₁ tx₃ mn₁ mp₁ ot₁ op₁)
        unfolding p
        all_laid_lem = record {
          laid = λ r e.
              subst (λ (k : Program). lent cs₁ ss₁ fs₁ tx₃ mn₁ mp₁ ot₁ op₁ ≡ laid k (lent cs ss fs tx mn mp ot op)) (fine_one fit.judged e) here;
        }

-- ---- loading

pub limits_by : (p : Program) (z : Sizes) → SizesOf p z → (leb z.constants 65535 && leb z.structs 65536 && leb z.functions 65536 && z.within) ≡ within_limits p
unfolding within_limits
limits_by p z h = rw (h.constants, h.structs, h.functions, h.within)

pub room_by : (p : Program) (z : Sizes) (x : Stores) (r1 r2 r3 r4 r5 r6 r7 r8 : ℕ) → SizesOf p z → r1 ≡ places 2 x.constants → r2 ≡ places 2 x.structs → r3 ≡ places 2 x.functions
    → r4 ≡ places 1 x.text → r5 ≡ places 1 x.main → r6 ≡ places 1 x.main_places → r7 ≡ places 1 x.other → r8 ≡ places 1 x.other_places
    → (leb z.constants r1 && leb z.structs r2 && leb z.functions r3 && leb z.text r4 && leb z.main r5 && leb z.main r6 && leb z.other r7 && leb z.other r8) ≡ room_for p x
unfolding room_for
room_by p z x r1 r2 r3 r4 r5 r6 r7 r8 h e1 e2 e3 e4 e5 e6 e7 e8 =
    rw (e1, e2, e3, e4, e5, e6, e7, e8, h.constants, h.structs, h.functions, h.text, h.main, h.other)

pub judged_not : (s : List ℕ) (r : Result Sizes Broken) → JudgePost s r → (o : ℕ) → r ≡ Err (At o) → judge s ≡ broken o
judged_not s r h o e = subst (JudgementIs s) e h.is

pub judged_is : (s : List ℕ) (r : Result Sizes Broken) → JudgePost s r → (z : Sizes) → r ≡ Ok z → Says s z
judged_is s r h z e = subst (JudgementIs s) e h.is

module _ (s : List ℕ) (x : Stores) (r : Result Sizes Broken) (h : JudgePost s r) where
  pub load_broken : (b : Broken) → r ≡ Err b → record { answer = Err (refused b); stores = x } ≡ load_of s x
  unfolding load_of load_judged
  load_broken (At o) e = rw (judged_not s r h o e)

  module _ (z : Sizes) (e : r ≡ Ok z) where
    g : Says s z
    g = judged_is s r h z e

    module _ (w : Bool) (tells : (p : Program) → SizesOf p z → w ≡ within_limits p) where
      pub load_over : not w ≡ true → record { answer = Err why.OverLimit; stores = x } ≡ load_of s x
      unfolding load_of load_judged
      load_over a = rw (g.judged, sym (tells g.program g.sizes) ∙ not-true _ a)

      module _ (a : not w ≡ false) (f : Bool) (holds : (p : Program) → SizesOf p z → f ≡ room_for p x) where
        within : within_limits g.program ≡ true
        within = sym (tells g.program g.sizes) ∙ not-false _ a

        pub load_full : not f ≡ true → record { answer = Err why.StoreFull; stores = x } ≡ load_of s x
        unfolding load_of load_judged
        load_full b = rw (g.judged, within, sym (holds g.program g.sizes) ∙ not-true _ b)

        module _ (b : not f ≡ false) where
          roomy : room_for g.program x ≡ true
          roomy = sym (holds g.program g.sizes) ∙ not-false _ b

          pub load_fits : Fits s x
          load_fits = record { program = g.program; judged = g.judged; room = roomy }

          pub load_done : (x' : Stores) → LaidPost s x x' → record { answer = Ok (counts z.constants z.structs z.functions z.text 0); stores = x' } ≡ load_of s x
          unfolding load_of load_judged counts_for
          load_done x' k =
              rw (g.judged, within, roomy, ← g.sizes.constants, ← g.sizes.structs, ← g.sizes.functions, ← g.sizes.text)
              (ap (λ (y : Stores). record { answer = Ok (counts z.constants z.structs z.functions z.text 0); stores = y }) (k.laid g.program g.judged))
