-- A program that emission leaves has grown.
use Rattle.std.specs.Prelude.{if◌then◌else◌, Ok}
use mathlib.Core.Path.{◌≡◌, refl, ap, ◌∙◌}
use mathlib.Core.Bool.{Bool, true, false}
use mathlib.Core.List.{List, [], ◌∷◌}
use mathlib.Core.Option.{Option, none, some}
use Prim.Native.Nat.{ℕ, suc, ◌+◌, ◌≤◌, ◌<◌}
use native.Mathlib.Omega.{arith}
use borrow.Author.Tests.{leb-false, eqb-true, eqb-false, ltb-false}
use lib.Dec.{eqb, leb, ltb}
use lib.ListN.{length, take, set}
use lib.Seq.{sets, take-set-le}
use Rattle.model.specs.declared.Counts.{Counts}
use Rattle.model.specs.declared.Constant.{Constant}
use Rattle.model.specs.declared.Constant.TheVariants as k
use Rattle.model.specs.Values.{places}
use Rattle.model.specs.Programs.{code_limit, constant_limit, name_limit}
use Rattle.model.specs.Stores.{Stores, start, size, pack, code_word, with_code}
use Rattle.model.specs.Orders.{other_taken, program_ok}
use Rattle.model.specs.Emission.{Res, written, refuse, one_function, text_room, size_here, end_here, code_room, appended, code_order, emit_in, emit_of, patch_order, patched, patch_of, with_constant, with_text_constant, constant_added, constant_order, add_constant_of, struct_added, struct_found, struct_order, add_struct_of, function_order, begun, begin_function_of}
use Rattle.layout.proofs.Bools.{either_way}
use Rattle.layout.proofs.Parts.{room_2, size_pack}
use Rattle.laws_programs.proofs.Entered.{same_counts}
use Rattle.laws_programs.proofs.Keeping.{Good, good_of, now_longer}
use Rattle.laws_programs.proofs.Growing.{words_other}
use Rattle.demands.specs.Kept.{Grew}
use Rattle.model.specs.declared.Refusal.{Refusal}
use Rattle.model.specs.declared.Refusal.TheVariants as why

-- what is written at i or behind it leaves the front
front_kept : (l : List ℕ) (i n : ℕ) (vs : List ℕ) → n ≤ i → take n (sets l i vs) ≡ take n l
front_kept l i n [] h = refl
front_kept l i n (v ∷ vs) h = front_kept (set l i v) (suc i) n vs (omega arith) ∙ take-set-le n l i v h

text_front : (t : List ℕ) (i : ℕ) (l : List ℕ) → take i (written t i l) ≡ take i t
unfolding written
text_front t i l = front_kept t i i l (omega arith)

pub record Grows (c : Counts) (s : Stores) (x : Res) : Type 0 where
  pub grown : (d : Counts) (n : ℕ) → x.answer ≡ Ok (d, n) → Grew c s d x.stores

module _ (c : Counts) (s : Stores) where
  grows_if : (b : Bool) (x y : Res) → (b ≡ true → Grows c s x) → (b ≡ false → Grows c s y) → Grows c s (if b then x else y)
  grows_if true x y h k = h refl
  grows_if false x y h k = k refl

  grows_refused : (r : Refusal) → Grows c s (refuse r s)
  grows_refused r = record { grown = λ d i e. absurd (let z : ◌≡◌ {A = ℕ} 0 1 = cc in let y : ⊥ = omega arith in y) }

  -- the functions' words are the same
  pub grows_same : (d : Counts) (n : ℕ) (s' : Stores) → c.text ≤ d.text → c.functions ≤ d.functions → take c.text s'.text ≡ take c.text s.text → s'.functions ≡ s.functions
      → Grows c s (record { answer = Ok (d, n); stores = s' })
  grows_same d n s' a b f e = record {
    grown = λ q i r. let z : d ≡ q = same_counts r in rw (← z) (record { text = a; front = f; functions = b; codes = λ j h. rw e (omega arith) });
  }

  code_functions : (code places' : List ℕ) → (with_code c code places' s).functions ≡ s.functions
  unfolding with_code
  code_functions code places' = either_way (eqb c.current 0) (λ t. rw t) (λ f. rw f)

  code_text : (code places' : List ℕ) → (with_code c code places' s).text ≡ s.text
  unfolding with_code
  code_text code places' = either_way (eqb c.current 0) (λ t. rw t) (λ f. rw f)

  longer_size : (w k : ℕ) → size w ≤ size (pack (start w) (size w + k))
  unfolding start
  longer_size w k = rw (size_pack (start w) (size w + k) (omega arith)) (omega arith)

  emit_by : (bytes : List ℕ) (place : ℕ) → Good c s → size_here c s + length bytes ≤ 65535 → end_here c s + length bytes ≤ code_room c s → Grows c s (appended c bytes place s)
  unfolding appended size_here
  emit_by bytes place g short fits = record {
    grown = λ q i r.
        let z : c ≡ q = same_counts r in
        let l = now_longer c s g (length bytes) short fits in
        rw (← z) (record {
          text = omega arith;
          front = ap (take c.text) (code_text _ _);
          functions = omega arith;
          codes = λ j h. either_way (eqb j c.current)
              (λ t. let e : j ≡ c.current = eqb-true j c.current t in rw (e, l.here) (longer_size (code_word s.functions c.current) (length bytes)))
              (λ f. rw (l.others j (eqb-false j c.current f)) (omega arith));
        });
  }

  -- add_op to add_op3
  pub emit_grows : (running : Bool) (op : ℕ) (bytes : List ℕ) (place : ℕ) → program_ok c s ≡ true → Grows c s (emit_of running c op bytes place s)
  unfolding emit_of emit_in
  emit_grows running op bytes place e =
      grows_if (code_order c s) _ _ (λ _.
      grows_if running _ _ (λ _. grows_refused why.RunUnderWay) (λ _.
      grows_if (ltb code_limit (size_here c s + length bytes)) _ _ (λ _. grows_refused why.OverLimit) (λ short.
      grows_if (ltb (code_room c s) (end_here c s + length bytes)) _ _ (λ _. grows_refused why.StoreFull) (λ fits.
      grows_if (leb 38 op) _ _ (λ _. grows_refused why.UnknownOpcode) (λ _. emit_by bytes place (good_of c s e) (ltb-false _ _ short) (ltb-false _ _ fits))))))
      (λ _. grows_refused why.NotInOrder)

  pub patch_grows : (running : Bool) (at a : ℕ) → Grows c s (patch_of running c at a s)
  unfolding patch_of patched
  patch_grows running at a =
      grows_if (patch_order c s) _ _ (λ _.
      grows_if running _ _ (λ _. grows_refused why.RunUnderWay) (λ _.
      grows_if (ltb (size_here c s) (at + 2)) _ _ (λ _. grows_refused why.PatchOutsideCode) (λ _. grows_same c 0 _ (omega arith) (omega arith) (ap (take c.text) (code_text _ _)) (code_functions _ _))))
      (λ _. grows_refused why.NotInOrder)

  constant_by : (x : Constant) (lent : List ℕ) → Grows c s (constant_added c x lent s)
  unfolding constant_added with_constant with_text_constant
  constant_by (k.Scalar w) lent = grows_same _ _ _ (omega arith) (omega arith) refl refl
  constant_by (k.Boolean b) lent = grows_same _ _ _ (omega arith) (omega arith) refl refl
  constant_by k.String lent = grows_if (text_room c s (length lent)) _ _ (λ _. grows_same _ _ _ (omega arith) (omega arith) (text_front s.text c.text lent) refl) (λ _. grows_refused why.StoreFull)
  constant_by k.FunctionReference lent = grows_if (text_room c s (length lent)) _ _
      (λ _. grows_same _ _ _ (omega arith) (omega arith) (text_front s.text c.text lent) refl) (λ _. grows_refused why.StoreFull)

  pub constant_grows : (running : Bool) (x : Constant) (lent : List ℕ) → Grows c s (add_constant_of running c x lent s)
  unfolding add_constant_of
  constant_grows running x lent =
      grows_if (constant_order c s) _ _ (λ _.
      grows_if running _ _ (λ _. grows_refused why.RunUnderWay) (λ _.
      grows_if (leb constant_limit c.constants) _ _ (λ _. grows_refused why.OverLimit) (λ _.
      grows_if (leb (places 2 s.constants) c.constants) _ _ (λ _. grows_refused why.StoreFull) (λ _. constant_by x lent))))
      (λ _. grows_refused why.NotInOrder)

  struct_by : (name : List ℕ) (x : Option ℕ) → Grows c s (struct_found c name s x)
  unfolding struct_found struct_added
  struct_by name none =
      grows_if (leb name_limit c.structs) _ _ (λ _. grows_refused why.OverLimit) (λ _.
      grows_if (leb (places 2 s.structs) c.structs) _ _ (λ _. grows_refused why.StoreFull) (λ _.
      grows_if (text_room c s (length name)) _ _ (λ _. grows_same _ _ _ (omega arith) (omega arith) (text_front s.text c.text name) refl) (λ _. grows_refused why.StoreFull)))
  struct_by name (some i) = grows_same _ _ _ (omega arith) (omega arith) refl refl

  pub struct_grows : (running : Bool) (name : List ℕ) → Grows c s (add_struct_of running c name s)
  unfolding add_struct_of
  struct_grows running name = grows_if (struct_order c s) _ _ (λ _. grows_if running _ _ (λ _. grows_refused why.RunUnderWay) (λ _. struct_by name _)) (λ _. grows_refused why.NotInOrder)

  begun_by : (name : List ℕ) → c.functions < places 2 s.functions → Grows c s (begun c name s)
  unfolding begun code_word
  begun_by name fits = record {
    grown = λ q i r.
        let z : one_function (length name) c ≡ q = same_counts r in
        rw (← z) (record {
          text = omega arith;
          front = text_front s.text c.text name;
          functions = omega arith;
          codes = λ j h. rw (words_other s.functions c.functions (pack c.text (length name)) (pack (other_taken c s.functions) 0)
              (omega (arith, room_2 s.functions)) j (λ (e : j ≡ c.functions). omega arith)).1 (omega arith);
        });
  }

  pub begin_grows : (running : Bool) (name : List ℕ) → Grows c s (begin_function_of running c name s)
  unfolding begin_function_of
  begin_grows running name =
      grows_if (function_order c s) _ _ (λ _.
      grows_if running _ _ (λ _. grows_refused why.RunUnderWay) (λ _.
      grows_if (leb name_limit c.functions) _ _ (λ _. grows_refused why.OverLimit) (λ _.
      grows_if (leb (places 2 s.functions) c.functions) _ _ (λ _. grows_refused why.StoreFull) (λ fits.
      grows_if (text_room c s (length name)) _ _ (λ _. begun_by name (leb-false _ _ fits)) (λ _. grows_refused why.StoreFull)))))
      (λ _. grows_refused why.NotInOrder)
