-- The judging of a whole image.
use mathlib.Core.Path.{◌≡◌, refl, ap, subst, ◌∙◌}
use mathlib.Core.List.{List, [], ◌∷◌, ◌++◌}
use Prim.Native.Nat.{ℕ, ◌+◌, ◌-◌, ◌<◌, ◌≤◌}
use native.Mathlib.Omega.{arith}
use lib.ListN.{length, drop, length-append, length-drop, drop_of_length-le}
use Rattle.model.specs.Numbers.{Step, bad, and_then}
use Rattle.model.specs.Programs.{Constant, Function, Program}
use Rattle.model.specs.Images.{joined, read_constants, read_structs, read_functions, read_end, parse, fine, broken, judged_step, judge}
use Rattle.model.specs.Loading.{constant_text, constant_texts, struct_texts, texts_of, main_of, others_of}
use Rattle.image_judge.specs.Links.{Good, Bad, SectionAt, CheckedIs, CheckPost, functions_for, FunctionsAt, CodedIs, FunctionsPost, JudgePost}
use Rattle.image_judge.specs.declared.Section.{Section}
use Rattle.image_judge.specs.declared.Ended.{Ended}
use Rattle.image_judge.proofs.Reading.{bad_first, bad_second, good_both}
use Rattle.std.specs.Prelude.{Err, Ok, Result}
use Rattle.image_judge.specs.declared.Broken.{Broken}
use Rattle.image_judge.specs.declared.Broken.TheVariants.{At}

pub section_is : {A : Type 0} {dec : List ℕ → Step (List A)} {text_of : A → List ℕ} (s : List ℕ) (at : ℕ) (r : Result Section Broken) → CheckPost dec text_of s at r
    → (z : Section) → r ≡ Ok z → SectionAt dec text_of s at z
section_is {A} {dec} {text_of} s at r h z e = subst (CheckedIs dec text_of s at) e h.is

section_not : {A : Type 0} {dec : List ℕ → Step (List A)} {text_of : A → List ℕ} (s : List ℕ) (at : ℕ) (r : Result Section Broken) → CheckPost dec text_of s at r
    → (k : ℕ) → r ≡ Err (At k) → Bad dec s at k
section_not {A} {dec} {text_of} s at r h k e = subst (CheckedIs dec text_of s at) e h.is

pub functions_is : (s : List ℕ) (at : ℕ) (r : Result Ended Broken) → FunctionsPost s at r → (z : Ended) → r ≡ Ok z → FunctionsAt s at z
functions_is s at r h z e = subst (CodedIs s at) e h.is

functions_not : (s : List ℕ) (at : ℕ) (r : Result Ended Broken) → FunctionsPost s at r → (k : ℕ) → r ≡ Err (At k) → Bad read_functions s at k
functions_not s at r h k e = subst (CodedIs s at) e h.is

-- what follows the constants, the struct names, the functions
abbrev after_functions : List Constant → List (List ℕ) → List Function → List ℕ → Step Program
after_functions cs ss fs u = read_end (record { constants = cs; structs = ss; functions = fs }) u

abbrev after_structs : List Constant → List (List ℕ) → List ℕ → Step Program
after_structs cs ss t = and_then (read_functions t) (after_functions cs ss)

abbrev after_constants : List Constant → List ℕ → Step Program
after_constants cs r = and_then (read_structs r) (after_structs cs)

end_more : (p : Program) (r : List ℕ) → 0 < length r → read_end p r ≡ bad (length r)
unfolding read_end
end_more p [] h = absurd (let w : ⊥ = omega arith in w)
end_more p (x ∷ r) h = refl

module _ (s : List ℕ) where
  judged_bad : (k : ℕ) → Bad parse s 0 k → JudgePost s (Err (At k))
  unfolding judge judged_step
  judged_bad k h = let l = h.within in record { is = rw h.means (ap broken (let z : length s - (length s - k) ≡ k = omega arith in z)) }

  judged_fine : (p : Program) (next : ℕ) → Good parse s 0 next p → judge s ≡ fine p
  unfolding judge judged_step
  judged_fine p next h = rw h.means

  module _ (x : Result Section Broken) (hx : CheckPost read_constants constant_text s 0 x) where
    pub judge_1 : (b : Broken) → x ≡ Err b → JudgePost s (Err b)
    unfolding parse
    judge_1 (At k) e = judged_bad k (bad_first after_constants (section_not s 0 x hx k e))

    module _ (cs : Section) (ex : x ≡ Ok cs) where
      cg : SectionAt read_constants constant_text s 0 cs
      cg = section_is s 0 x hx cs ex

      pub structs_at : cs.next ≤ length s
      structs_at = cg.good.within

      module _ (y : Result Section Broken) (hy : CheckPost read_structs (λ t. t) s cs.next y) where
        pub judge_2 : (b : Broken) → y ≡ Err b → JudgePost s (Err b)
        unfolding parse
        judge_2 (At k) e = judged_bad k (bad_second after_constants cg.good (bad_first (after_structs cg.held) (section_not s cs.next y hy k e)))

        module _ (ss : Section) (ey : y ≡ Ok ss) where
          sg : SectionAt read_structs (λ t. t) s cs.next ss
          sg = section_is s cs.next y hy ss ey

          pub functions_at : ss.next ≤ length s
          functions_at = sg.good.within

          module _ (z : Result Ended Broken) (hz : FunctionsPost s ss.next z) where
            pub judge_3 : (b : Broken) → z ≡ Err b → JudgePost s (Err b)
            unfolding parse
            judge_3 (At k) e = judged_bad k (bad_second after_constants cg.good (bad_second (after_structs cg.held) sg.good
                (bad_first (after_functions cg.held sg.held) (functions_not s ss.next z hz k e))))

            module _ (fs : Ended) (ez : z ≡ Ok fs) where
              fg : FunctionsAt s ss.next fs
              fg = functions_is s ss.next z hz fs ez

              pub judge_4 : fs.next < length s → JudgePost s (Err (At fs.next))
              unfolding parse
              judge_4 l =
                  let e = length-drop fs.next s in
                  judged_bad fs.next (bad_second after_constants cg.good (bad_second (after_structs cg.held) sg.good
                  (bad_second (after_functions cg.held sg.held) fg.good
                  (record { means = end_more _ (drop fs.next s) (omega arith) ∙ ap bad e; ahead = omega arith; within = fg.good.within }))))

              pub text_fits : cs.text + ss.text + fs.text ≤ length s
              text_fits = let a = cg.room in let b = sg.room in let f = fg.room in let w = fg.good.within in omega arith

              pub judge_5 : length s ≤ fs.next → JudgePost s (Ok (record {
                constants = cs.count;
                structs = ss.count;
                functions = fs.count;
                text = cs.text + ss.text + fs.text;
                main = fs.main;
                other = fs.other;
                within = fs.within;
                first = fs.first;
              }))
              unfolding parse read_end texts_of constant_texts struct_texts main_of others_of
              judge_5 l =
                  let t1 = cg.text in let t2 = sg.text in let t3 = fg.text in
                  let a1 = length-append (joined constant_text cg.held ++ joined (λ n. n) sg.held) (joined (λ f. f.name) fg.held) in
                  let a2 = length-append (joined constant_text cg.held) (joined (λ n. n) sg.held) in
                  record {
                    is = record {
                      program = record { constants = cg.held; structs = sg.held; functions = fg.held };
                      judged = judged_fine _ fs.next (good_both after_constants cg.good (good_both (after_structs cg.held) sg.good
                          (good_both (after_functions cg.held sg.held) fg.good
                          (record { means = rw (drop_of_length-le s l); ahead = omega arith; within = fg.good.within }))));
                      sizes = record {
                        constants = cg.count;
                        structs = sg.count;
                        functions = fg.count;
                        text = omega arith;
                        main = fg.main;
                        other = fg.other;
                        within = fg.within;
                      };
                      begins =
                          let ends : fs.next ≡ length s = let w = fg.good.within in omega arith in
                          subst (λ (n : ℕ). Good (functions_for fs.count) s fs.first n fg.held) ends fg.begins;
                    };
                  }
