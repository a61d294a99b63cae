-- The writing pass: functions, and the whole image.
use mathlib.Core.Path.{◌≡◌, refl, sym, ap, subst, ◌∙◌}
use mathlib.Core.Bool.{Bool, true, false}
use mathlib.Core.List.{List, [], ◌∷◌, ◌++◌}
use Prim.Native.Nat.{ℕ, suc, ◌+◌, ◌-◌, ◌*◌, ◌<◌, ◌≤◌, ◌^◌}
use native.Mathlib.Omega.{arith}
use native.Mathlib.Nat.{pos_of_ne-zero}
use lib.ListN.{length, take, drop, length-append}
use borrow.Author.Tests.{lt-ltb}
use Rattle.model.specs.Numbers.{Step, got, and_then, number}
use Rattle.model.specs.Values.{put_words}
use Rattle.model.specs.Programs.{Function, function_at}
use Rattle.model.specs.Images.{joined, series, read_function, read_functions}
use Rattle.model.specs.Stores.{pack}
use Rattle.model.specs.Emission.{written}
use Rattle.model.specs.Loading.{others_laid, functions_laid}
use Rattle.number.specs.Links.{NumPost}
use Rattle.image_judge.specs.Links.{Good, part_of, runs_for, function_of, HeadAt, HeadPost, others_for}
use Rattle.image_load.specs.Fills.{Has, bytes_in, RunsFit, RunsFilled, FunctionFits, FunctionFilled, OthersFit, OthersFilled, FunctionsFit, FunctionsFilled}
use Rattle.image_judge.specs.declared.Head.{Head}
use Rattle.image_judge.specs.declared.Span.{Span}
use Rattle.laws_images.proofs.Codecs.{then_only, made_only}
use Rattle.image_judge.proofs.Reading.{Along, along_start, along_step, joined_length, joined_append, bad_first, bad_test, bad_tested, good_test, no_number_lem}
use Rattle.image_judge.proofs.Items.{part_length, part_slice}
use Rattle.image_judge.proofs.Functions.{head_is, head_not, behind_main, some_test, all_for, series_count}
use Rattle.image_load.proofs.Filling.{has_never, has_same, has_second, series_whole, series_head}
use Rattle.laws_images.proofs.Written.{written_none, written_two, kept_length, more_written, more_joined}
use Rattle.std.specs.Prelude.{Err, None, Ok, Option, Result}
use Rattle.image_judge.specs.declared.Broken.{Broken}
use Rattle.image_judge.specs.declared.Broken.TheVariants.{At}

-- ---- a function

module _ (first : Bool) (s : List ℕ) (at i t c : ℕ) (fs tx cd pl : List ℕ) (fit : FunctionFits first s at i t c fs tx cd pl) (x : Result Head Broken) (w : HeadPost first s at x) where
  pub function_never : (b : Broken) → x ≡ Err b → ⊥
  function_never (At o) e = has_never s at fit.held o fit.has (head_not first s at x w o e)

  module _ (y : Head) (e : x ≡ Ok y) where
    g : HeadAt first s at y
    g = head_is first s at x w y e

    -- its places are what the runs give
    runs : (ps : List ℕ) × (function_of s y ps ≡ fit.held) × (runs_for y.size (drop (y.code + y.size) s) ≡ got ps fit.has.rest)
    runs = made_only (function_of s y) _ fit.held fit.has.rest (sym g.leads ∙ fit.has.means)

    name_is : fit.held.name ≡ part_of s y.name y.len
    unfolding function_of
    name_is = sym (ap (λ (z : Function). z.name) runs.1)

    code_is : fit.held.code ≡ part_of s y.code y.size
    unfolding function_of
    code_is = sym (ap (λ (z : Function). z.code) runs.1)

    name_size : length fit.held.name ≡ y.len
    name_size = ap length name_is ∙ part_length s y.name y.len g.name

    code_size : length fit.held.code ≡ y.size
    code_size = ap length code_is ∙ part_length s y.code y.size g.code

    pub function_packs : ((t < 2 ^ 32) × (y.len < 2 ^ 32)) × ((c < 2 ^ 32) × (y.size < 2 ^ 32))
    function_packs = let a = fit.small.0 in let b = fit.small.1 in ((omega arith, g.small.0), (omega arith, g.small.1))

    pub function_inside : (y.name + y.len ≤ length s) × (y.code + y.size ≤ length s)
    function_inside = (g.name, g.code)

    pub function_room : (t + length (take (y.name + y.len - y.name) (drop y.name s)) ≤ length tx) × (c + length (take (y.code + y.size - y.code) (drop y.code s)) ≤ length cd)
    function_room =
        let a = ap length (part_slice s y.name y.len) ∙ part_length s y.name y.len g.name in
        let b = ap length (part_slice s y.code y.size) ∙ part_length s y.code y.size g.code in
        let d = fit.name in let f = fit.code in let p = name_size in let q = code_size in
        (omega arith, omega arith)

    pub function_runs : RunsFit s (y.code + y.size) y.size c pl
    function_runs = record {
      held = runs.0;
      has = record { within = g.code; rest = fit.has.rest; means = runs.2 };
      room = let a = fit.places in let b = code_size in omega arith;
    }

    pub function_filled : (a b : ℕ) → a ≡ pack t y.len → b ≡ pack c y.size → (fs' tx' cd' pl' : List ℕ) → fs' ≡ put_words fs i a b
        → tx' ≡ written tx t (take (y.name + y.len - y.name) (drop y.name s)) → cd' ≡ written cd c (take (y.code + y.size - y.code) (drop y.code s))
        → (next : ℕ) → RunsFilled s (y.code + y.size) y.size c pl next pl'
        → FunctionFilled first s at i t c fs tx cd pl (record { next = next; name = y.len; code = y.size }) fs' tx' cd' pl'
    unfolding function_of and_then
    function_filled a b ea eb fs' tx' cd' pl' ef et ec next z =
        let nm = part_length s y.name y.len g.name in let cm = part_length s y.code y.size g.code in
        let ga = g.room in let za = z.good.ahead in
        record {
          held = function_of s y z.held;
          good = record { means = g.leads ∙ rw z.good.means; ahead = omega arith; within = z.good.within };
          name = sym nm;
          code = sym cm;
          places = z.count ∙ sym cm;
          words = ef ∙ written_two fs i a b ∙ ap (λ (k : ℕ). written fs (2 * i) (k ∷ b ∷ [])) (ea ∙ ap (pack t) (sym nm))
              ∙ ap (λ (k : ℕ). written fs (2 * i) (pack t (length (part_of s y.name y.len)) ∷ k ∷ [])) (eb ∙ ap (pack c) (sym cm));
          names = et ∙ ap (written tx t) (part_slice s y.name y.len);
          codes = ec ∙ ap (written cd c) (part_slice s y.code y.size);
          placed = z.stored;
        }

-- ---- the others

others_more : (o j : ℕ) (l : List Function) (f : Function) → others_laid o j (l ++ (f ∷ []))
    ≡ others_laid o j l ++ (pack (o + length (joined (λ f. f.name) l)) (length f.name) ∷ pack (j + length (joined (λ f. f.code) l)) (length f.code) ∷ [])
unfolding others_laid joined
others_more o j [] f = ap (λ (k : ℕ). pack k (length f.name) ∷ pack j (length f.code) ∷ []) (let z : o ≡ o + 0 = omega arith in z)
    ∙ ap (λ (k : ℕ). pack (o + 0) (length f.name) ∷ pack k (length f.code) ∷ []) (let z : j ≡ j + 0 = omega arith in z)
others_more o j (x ∷ l) f =
    let z1 : o + length x.name + length (joined (λ f. f.name) l) ≡ o + length (x.name ++ joined (λ f. f.name) l) =
    (let a = length-append x.name (joined (λ f. f.name) l) in omega arith) in
    let z2 : j + length x.code + length (joined (λ f. f.code) l) ≡ j + length (x.code ++ joined (λ f. f.code) l) =
    (let a = length-append x.code (joined (λ f. f.code) l) in omega arith) in
    ap (λ (w : List ℕ). pack o (length x.name) ∷ pack j (length x.code) ∷ w) (others_more (o + length x.name) (j + length x.code) l f
    ∙ ap (λ (k : ℕ). others_laid (o + length x.name) (j + length x.code) l ++
    (pack k (length f.name) ∷ pack (j + length x.code + length (joined (λ f. f.code) l)) (length f.code) ∷ [])) z1
    ∙ ap (λ (k : ℕ). others_laid (o + length x.name) (j + length x.code) l ++ (pack (o + length (x.name ++ joined (λ f. f.name) l)) (length f.name) ∷ pack k (length f.code) ∷ [])) z2)

pub others_length : (o j : ℕ) (l : List Function) → length (others_laid o j l) ≡ 2 * length l
unfolding others_laid
others_length o j [] = refl
others_length o j (f ∷ l) = let z = others_length (o + length f.name) (j + length f.code) l in omega arith

pub record FillingOthers (k : ℕ) (s : List ℕ) (at t₀ : ℕ) (fs₀ tx₀ cd₀ pl₀ fs tx cd pl : List ℕ) (next t c i : ℕ) : Type 0 where
  pub done : List Function
  pub along : Along read_function behind_main k false s at i false next done
  pub text : t ≡ t₀ + length (joined (λ f. f.name) done)
  pub code : c ≡ length (joined (λ f. f.code) done)
  pub same : length (joined (λ f. f.places) done) ≡ length (joined (λ f. f.code) done)
  pub words : fs ≡ written fs₀ 2 (others_laid t₀ 0 done)
  pub names : tx ≡ written tx₀ t₀ (joined (λ f. f.name) done)
  pub codes : cd ≡ written cd₀ 0 (joined (λ f. f.code) done)
  pub placed : pl ≡ written pl₀ 0 (joined (λ f. f.places) done)

module _ (k : ℕ) (s : List ℕ) (at t₀ : ℕ) (fs₀ tx₀ cd₀ pl₀ : List ℕ) (fit : OthersFit k s at t₀ fs₀ tx₀ cd₀ pl₀) where
  judged : Has (series read_function behind_main k false) s at fit.held
  unfolding others_for
  judged = fit.has

  pub others_begin : FillingOthers k s at t₀ fs₀ tx₀ cd₀ pl₀ fs₀ tx₀ cd₀ pl₀ at t₀ 0 0
  unfolding joined others_laid
  others_begin = record {
    done = [];
    along = along_start read_function behind_main k false s at fit.has.within;
    text = omega arith;
    code = refl;
    same = refl;
    words = written_none fs₀ 2;
    names = written_none tx₀ t₀;
    codes = written_none cd₀ 0;
    placed = written_none pl₀ 0;
  }

  module _ (fs tx cd pl : List ℕ) (next t c i : ℕ) (w : FillingOthers k s at t₀ fs₀ tx₀ cd₀ pl₀ fs tx cd pl next t c i) where
    pub others_same : (length fs ≡ length fs₀) × ((length tx ≡ length tx₀) × ((length cd ≡ length cd₀) × (length pl ≡ length pl₀)))
    others_same = (kept_length fs fs₀ 2 _ w.words, (kept_length tx tx₀ t₀ _ w.names, (kept_length cd cd₀ 0 _ w.codes, kept_length pl pl₀ 0 _ w.placed)))

    pub others_filled : k ≤ i → OthersFilled k s at t₀ fs₀ tx₀ cd₀ pl₀ fs tx cd pl
    others_filled l =
        let e = series_whole read_function behind_main k false s at fit.held judged i false next w.done w.along l in
        record { held = w.done; has = subst (Has (others_for k) s at) (sym e) fit.has; words = w.words; names = w.names; codes = w.codes; placed = w.placed }

    module _ (l : i < k) where
      o : (f : Function) × (y : Has (read_function false) s next f) × (m : List Function) × (fit.held ≡ (w.done ++ (f ∷ [])) ++ m)
      o = series_head read_function behind_main k false s at fit.held judged i false next w.done w.along l

      within : (q : Function → List ℕ) → bytes_in q w.done + length (q o.0) ≤ bytes_in q fit.held
      within q =
          let e1 : bytes_in q fit.held ≡ bytes_in q ((w.done ++ (o.0 ∷ [])) ++ o.2) = ap (λ (y : List Function). length (joined q y)) o.3 in
          let e2 = joined_append q (w.done ++ (o.0 ∷ [])) o.2 in let e3 = joined_length q w.done o.0 in omega arith

      pub others_fit : FunctionFits false s next (i + 1) t c fs tx cd pl
      others_fit =
          let a = within (λ f. f.name) in let b = within (λ f. f.code) in let z = others_same in
          let z0 = z.0 in let z1 = z.1.0 in let z2 = z.1.1.0 in let z3 = z.1.1.1 in
          let f1 = fit.words in let f2 = fit.text in let f3 = fit.code in let f4 = fit.places in let f5 = fit.small.0 in let f6 = fit.small.1 in
          let t1 = w.text in let c1 = w.code in
          record {
            held = o.0;
            has = o.1;
            words = omega arith;
            name = omega arith;
            code = omega arith;
            places = omega arith;
            small = (omega arith, omega arith);
          }

      module _ (z : Span) (fs' tx' cd' pl' : List ℕ) (q : FunctionFilled false s next (i + 1) t c fs tx cd pl z fs' tx' cd' pl') where
        is : q.held ≡ o.0
        is = has_same s next z.next o.0 q.held o.1 q.good

        pub others_small : (t + z.name < 2 ^ 32) × (c + z.code < 2 ^ 32)
        others_small =
            let n1 = q.name ∙ ap (λ (f : Function). length f.name) is in let c1 = q.code ∙ ap (λ (f : Function). length f.code) is in
            let a = within (λ f. f.name) in let b = within (λ f. f.code) in let t1 = w.text in let c2 = w.code in
            let f5 = fit.small.0 in let f6 = fit.small.1 in
            (omega arith, omega arith)

        pub others_next : FillingOthers k s at t₀ fs₀ tx₀ cd₀ pl₀ fs' tx' cd' pl' z.next (t + z.name) (c + z.code) (i + 1)
        others_next =
            let f = q.held in let n1 = q.name in let c1 = q.code in
            let jn = joined_length (λ f. f.name) w.done q.held in let jc = joined_length (λ f. f.code) w.done q.held in let jp = joined_length (λ f. f.places) w.done q.held in
            let t1 = w.text in let c2 = w.code in let p1 = q.places in let p2 = w.same in
            let ol = others_length t₀ 0 w.done in let ac = w.along.count in
            record {
              done = w.done ++ (q.held ∷ []);
              along = along_step read_function behind_main k false s at i false next w.done w.along l q.held z.next q.good;
              text = omega arith;
              code = omega arith;
              same = omega arith;
              words = more_written fs₀ fs fs' 2 (2 * (i + 1)) (others_laid t₀ 0 w.done) (pack t (length q.held.name) ∷ pack c (length q.held.code) ∷ []) w.words (omega arith) q.words
                  ∙ ap (λ (x : ℕ). written fs₀ 2 (others_laid t₀ 0 w.done ++ (pack x (length q.held.name) ∷ pack c (length q.held.code) ∷ []))) t1
                  ∙ ap (λ (x : ℕ). written fs₀ 2 (others_laid t₀ 0 w.done ++ (pack (t₀ + length (joined (λ f. f.name) w.done)) (length q.held.name) ∷ pack x (length q.held.code) ∷ [])))
                  (let y : c ≡ 0 + length (joined (λ f. f.code) w.done) = omega arith in y)
                  ∙ ap (written fs₀ 2) (sym (others_more t₀ 0 w.done q.held));
              names = more_joined (λ f. f.name) w.done q.held tx₀ tx tx' t₀ t w.names t1 q.names;
              codes = more_joined (λ f. f.code) w.done q.held cd₀ cd cd' 0 c w.codes (omega arith) q.codes;
              placed = more_joined (λ f. f.places) w.done q.held pl₀ pl pl' 0 c w.placed (omega arith) q.placed;
            }

-- ---- all functions

module _ (s : List ℕ) (at t : ℕ) (fs tx mn mp ot op : List ℕ) (fit : FunctionsFit s at t fs tx mn mp ot op) (x : Option (ℕ × ℕ)) (p : NumPost s at x) where
  pub functions_no_count : x ≡ None → ⊥
  unfolding read_functions
  functions_no_count e = has_never s at fit.held at fit.has (bad_first all_for (bad_tested some_test (no_number_lem s at x p fit.has.within e)))

  module _ (first k : ℕ) (count : Good number s at first k) where
    pub functions_none : k ≡ 0 → ⊥
    unfolding read_functions
    functions_none z = has_never s at fit.held at fit.has (bad_first all_for (bad_test some_test count (rw z)))

    module _ (z : k ≡ 0 → ⊥) where
      one : k ≡ suc (k - 1)
      one = let y : 0 < k = pos_of_ne-zero z in omega arith

      whole : Has (all_for (suc (k - 1))) s first fit.held
      unfolding read_functions
      whole = subst (λ (j : ℕ). Has (all_for j) s first fit.held) one
          (has_second all_for s at first k fit.held fit.has (good_test some_test count (lt-ltb 0 k (pos_of_ne-zero z))))

      -- main, and the others behind it
      parts : (f : Function) × (m : Has (read_function true) s first f) × (l : List Function) × (fit.held ≡ f ∷ l)
          × ((next : ℕ) → Good (read_function true) s first next f → Has (others_for (k - 1)) s next l)
      unfolding series others_for
      parts =
          let g = then_only (read_function true (drop first s)) _ fit.held whole.rest whole.means in
          let m = made_only (λ (y : List Function). g.0 ∷ y) (series read_function behind_main (k - 1) false g.1) fit.held whole.rest g.3 in (
            g.0,
            record { within = whole.within; rest = g.1; means = g.2 },
            m.0,
            sym m.1,
            λ next y. record {
              within = y.within;
              rest = whole.rest;
              means = ap (series read_function behind_main (k - 1) false) (let q : drop next s ≡ g.1 = got_end y.means g.2 in q) ∙ m.2;
            },
          )
        where
          got_end : {a b : Function} {u v : List ℕ} {c : Step Function} → c ≡ got a u → c ≡ got b v → u ≡ v
          got_end e f = cc

      main : Function
      main = parts.0

      others : List Function
      others = parts.2

      names_split : bytes_in (λ f. f.name) fit.held ≡ length main.name + bytes_in (λ f. f.name) others
      unfolding joined main others
      names_split = ap (λ (y : List Function). length (joined (λ f. f.name) y)) parts.3 ∙ length-append parts.0.name (joined (λ f. f.name) parts.2)

      main_is : function_at fit.held 0 ≡ main
      unfolding function_at main
      main_is = ap (λ (y : List Function). function_at y 0) parts.3

      others_are : drop 1 fit.held ≡ others
      unfolding others
      others_are = ap (λ (y : List Function). drop 1 y) parts.3

      counts : length fit.held ≡ suc (k - 1)
      counts = series_count read_function behind_main (suc (k - 1)) true (drop first s) fit.held whole.rest whole.means

      pub main_fits : FunctionFits true s first 0 t 0 fs tx mn mp
      unfolding main
      main_fits =
          let a = names_split in let b = fit.words in let c = counts in let d = fit.text in
          let m = ap (λ (f : Function). length f.code) main_is in
          let m0 = fit.main.0 in let m1 = fit.main.1 in let s0 = fit.small.0 in let s1 = fit.small.1.0 in
          record {
            held = parts.0;
            has = parts.1;
            words = omega arith;
            name = omega arith;
            code = omega arith;
            places = omega arith;
            small = (omega arith, omega arith);
          }

      module _ (y : Span) (fs₁ tx₁ mn₁ mp₁ : List ℕ) (q : FunctionFilled true s first 0 t 0 fs tx mn mp y fs₁ tx₁ mn₁ mp₁) where
        same_main : q.held ≡ main
        unfolding main
        same_main = has_same s first y.next parts.0 q.held parts.1 q.good

        main_name_lem : y.name ≡ length main.name
        main_name_lem = q.name ∙ ap (λ (f : Function). length f.name) same_main

        pub others_at : t + y.name < 2 ^ 32
        others_at = let a = names_split in let b = fit.small.0 in let c = main_name_lem in omega arith

        pub others_fits : OthersFit (k - 1) s y.next (t + y.name) fs₁ tx₁ ot op
        unfolding main others
        others_fits =
            let a = names_split in let b = fit.words in let c = counts in let d = fit.text in let e = main_name_lem in
            let k1 = kept_length fs₁ fs 0 _ q.words in let k2 = kept_length tx₁ tx t _ q.names in
            let r = ap (λ (l : List Function). length (joined (λ f. f.code) l)) others_are in
            let o0 = fit.other.0 in let o1 = fit.other.1 in let s0 = fit.small.0 in let s1 = fit.small.1.1 in
            record {
              held = parts.2;
              has = parts.4 y.next (subst (Good (read_function true) s first y.next) same_main q.good);
              words = omega arith;
              text = omega arith;
              code = omega arith;
              places = omega arith;
              small = (omega arith, omega arith);
            }

        pub functions_filled : (fs₂ tx₂ ot₂ op₂ : List ℕ) → OthersFilled (k - 1) s y.next (t + y.name) fs₁ tx₁ ot op fs₂ tx₂ ot₂ op₂
            → FunctionsFilled s at t fs tx mn mp ot op fs₂ tx₂ mn₁ mp₁ ot₂ op₂
        unfolding main others function_at functions_laid joined
        functions_filled fs₂ tx₂ ot₂ op₂ v =
            let l : v.held ≡ parts.2 = has_one v.has.means (parts.4 y.next (subst (Good (read_function true) s first y.next) same_main q.good)).means in
            let e : q.held ∷ v.held ≡ fit.held = ap (λ (f : Function). f ∷ v.held) same_main ∙ ap (λ (m : List Function). parts.0 ∷ m) l ∙ sym parts.3 in
            record {
              held = q.held ∷ v.held;
              has = subst (Has read_functions s at) (sym e) fit.has;
              words = more_written fs fs₁ fs₂ 0 2 (pack t (length q.held.name) ∷ pack 0 (length q.held.code) ∷ []) (others_laid (t + y.name) 0 v.held) q.words refl v.words
                  ∙ ap (λ (j : ℕ). written fs 0 (pack t (length q.held.name) ∷ pack 0 (length q.held.code) ∷ others_laid (t + j) 0 v.held)) q.name;
              names = more_written tx tx₁ tx₂ t (t + y.name) q.held.name (joined (λ f. f.name) v.held) q.names (ap (λ (j : ℕ). t + j) q.name) v.names;
              main = q.codes;
              main_places = q.placed;
              other = v.codes;
              other_places = v.placed;
            }
          where
            has_one : {a b : List Function} {u w : List ℕ} {c : Step (List Function)} → c ≡ got a u → c ≡ got b w → a ≡ b
            has_one e f = cc
