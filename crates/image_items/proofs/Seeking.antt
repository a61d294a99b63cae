-- Which item begins at an offset: what the code reads is what the definitions read.
use Rattle.std.specs.Prelude.{if◌then◌else◌, Err, None, Ok, Option, Result, Some}
use mathlib.Core.Path.{◌≡◌, sym, ap, ◌∙◌}
use mathlib.Core.List.{List}
use Prim.Native.Nat.{ℕ, suc, ◌+◌, ◌-◌, ◌≤◌, ◌<◌}
use native.Mathlib.Omega.{arith}
use lib.Dec.{ltb}
use lib.ListN.{length, drop, length-drop}
use borrow.Author.Tests.{eq-eqb, ne_eqb, lt-ltb, le-ltb}
use Rattle.model.specs.Numbers.{Step}
use Rattle.model.specs.Images.{read_constant}
use Rattle.number.specs.Links.{NumPost}
use Rattle.image_judge.specs.declared.Entry.{Entry}
use Rattle.image_judge.specs.Links.{Good, Bad, TextPost, ItemPost, RunsPost, runs_for}
use Rattle.image_judge.proofs.Items.{part_read, part_short, text_is, text_not, text_end, entry_is, entry_not}
use Rattle.image_judge.proofs.Reading.{no_number_lem, a_number}
use Rattle.image_judge.proofs.Functions.{runs_is, runs_not}
use Rattle.image_items.specs.declared.Row.{Row}
use Rattle.image_items.specs.declared.Row.TheVariants as w
use Rattle.image_items.specs.declared.Part.{Part}
use Rattle.image_items.specs.declared.Part.TheVariants as p
use Rattle.image_items.specs.declared.Sought.{Sought}
use Rattle.image_items.specs.declared.Sought.TheVariants as q
use Rattle.image_items.specs.Parts.{passing, constant_part, struct_part, places_part, code_part, function_part, entry_part, onward, row_part, section_part, at_end, part_at, Inside, SoughtPost}
use Rattle.image_judge.specs.declared.Broken.{Broken}
use Rattle.image_judge.specs.declared.Broken.TheVariants.{At}

-- ---- behind what was read

module _ {A : Type 0} {dec : List ℕ → Step A} {s : List ℕ} {at : ℕ} (f : A → ℕ → Sought) where
  pub passed : {next : ℕ} {a : A} → Good dec s at next a → passing s (dec (drop at s)) f ≡ f a next
  unfolding passing
  passed {next} {a} g =
      let left = length-drop next s in
      let within = g.within in
      let back : length s - length (drop next s) ≡ next = omega arith in
      rw (g.means, back)

  pub not_passed : {o : ℕ} → Bad dec s at o → passing s (dec (drop at s)) f ≡ q.Is p.Nowhere
  unfolding passing
  not_passed g = rw g.means

-- what was found is no place to go on
found : {s : List ℕ} {want : Sought} {x : Part} → want ≡ q.Is x → SoughtPost s want (q.Is x)
found e = record { is = sym e; inside = tt }

goes : {s : List ℕ} {want : Sought} {next : ℕ} → want ≡ q.On next → next ≤ length s → SoughtPost s want (q.On next)
goes e l = record { is = sym e; inside = l }

-- ---- a constant

module _ (s : List ℕ) (o k at : ℕ) (within : at ≤ length s) where
  pub kind_here : at ≡ o → SoughtPost s (constant_part s o k at) (q.Is (p.Kind k))
  unfolding constant_part
  kind_here h = found (rw (eq-eqb at o h))

  module _ (h : at ≡ o → ⊥) {r : Option (ℕ × ℕ)} (num : NumPost s at r) where
    pub no_kind : r ≡ None → SoughtPost s (constant_part s o k at) (q.Is p.Nowhere)
    unfolding constant_part
    no_kind e = found (rw (ne_eqb at o h) (not_passed _ (no_number_lem s at r num within e)))

    module _ {kind value : ℕ} (e : r ≡ Some (kind, value)) where
      pub value_here : value ≡ o → SoughtPost s (constant_part s o k at) (q.Is (p.Value k))
      unfolding constant_part
      value_here g = found (rw (ne_eqb at o h) (passed _ (a_number s at r num kind value e) ∙ rw (eq-eqb value o g)))

      module _ (g : value ≡ o → ⊥) {x : Result Entry Broken} (post : ItemPost (read_constant tt) s at x) where
        pub no_constant : {b : Broken} → x ≡ Err b → SoughtPost s (constant_part s o k at) (q.Is p.Nowhere)
        unfolding constant_part
        no_constant {b = At i} f =
            found (rw (ne_eqb at o h) (passed _ (a_number s at r num kind value e) ∙ rw (ne_eqb value o g) (not_passed _ (entry_not (read_constant tt) s at x post i f))))

        pub constant_over : {y : Entry} → x ≡ Ok y → SoughtPost s (constant_part s o k at) (q.On y.next)
        unfolding constant_part
        constant_over {y} f =
            let good = (entry_is (read_constant tt) s at x post y f).good in
            goes (rw (ne_eqb at o h) (passed _ (a_number s at r num kind value e) ∙ rw (ne_eqb value o g) (passed _ good))) good.within

-- ---- a struct's name

module _ (s : List ℕ) (o k at : ℕ) where
  pub struct_here : at ≡ o → SoughtPost s (struct_part s o k at) (q.Is (p.Struct k))
  unfolding struct_part
  struct_here h = found (rw (eq-eqb at o h))

  module _ (h : at ≡ o → ⊥) {r : Option (ℕ × ℕ)} (text : TextPost s at r) where
    pub no_struct : r ≡ None → SoughtPost s (struct_part s o k at) (q.Is p.Nowhere)
    unfolding struct_part
    no_struct e = found (rw (ne_eqb at o h) (not_passed _ (text_not s at r text e)))

    pub struct_over : {i m : ℕ} → r ≡ Some (i, m) → SoughtPost s (struct_part s o k at) (q.On (i + m))
    unfolding struct_part
    struct_over {i} {m} e = goes (rw (ne_eqb at o h) (passed _ (text_is s at r text i m e).good)) (text_end s at r text i m e)

-- ---- a function's code, and its places

module _ (s : List ℕ) (o k m code : ℕ) (within : code ≤ length s) where
  pub code_here_lem : code ≡ o → SoughtPost s (code_part s o k m code) (q.Is (p.Code k))
  unfolding code_part
  code_here_lem h = found (rw (eq-eqb code o h))

  module _ (h : code ≡ o → ⊥) where
    pub code_cut : length s - code < m → SoughtPost s (code_part s o k m code) (q.Is p.Nowhere)
    unfolding code_part
    code_cut l = found (rw (ne_eqb code o h) (not_passed _ (part_short s code m within l)))

    module _ (l : m ≤ length s - code) {r : Result ℕ Broken} (runs : RunsPost s (code + m) m r) where
      before_them : code_part s o k m code ≡ places_part s o k (runs_for m (drop (code + m) s))
      unfolding code_part
      before_them = rw (ne_eqb code o h) (passed _ (part_read s code m within l))

      pub places_broken : {b : Broken} → r ≡ Err b → SoughtPost s (code_part s o k m code) (q.Is (p.Places k))
      unfolding places_part
      places_broken {b = At i} e = found (before_them ∙ rw (runs_not s (code + m) m r runs i e).means)

      module _ {next : ℕ} (e : r ≡ Ok next) where
        placed : places_part s o k (runs_for m (drop (code + m) s)) ≡ (if ltb o next then q.Is (p.Places k) else q.On next)
        unfolding places_part
        placed =
            let good = (runs_is s (code + m) m r runs next e).good in
            let left = length-drop next s in
            let ends = good.within in
            let back : length s - length (drop next s) ≡ next = omega arith in
            rw (good.means, back)

        pub places_here_lem : o < next → SoughtPost s (code_part s o k m code) (q.Is (p.Places k))
        places_here_lem g = found (before_them ∙ placed ∙ rw (lt-ltb o next g))

        pub places_over : next ≤ o → SoughtPost s (code_part s o k m code) (q.On next)
        places_over g = goes (before_them ∙ placed ∙ rw (le-ltb o next g)) (runs_is s (code + m) m r runs next e).good.within

-- ---- a function

module _ (s : List ℕ) (o k at : ℕ) where
  pub name_here : at ≡ o → SoughtPost s (function_part s o k at) (q.Is (p.Name k))
  unfolding function_part
  name_here h = found (rw (eq-eqb at o h))

  module _ (h : at ≡ o → ⊥) {r : Option (ℕ × ℕ)} (text : TextPost s at r) where
    pub no_name : r ≡ None → SoughtPost s (function_part s o k at) (q.Is p.Nowhere)
    unfolding function_part
    no_name e = found (rw (ne_eqb at o h) (not_passed _ (text_not s at r text e)))

    module _ {i m : ℕ} (e : r ≡ Some (i, m)) where
      pub length_here : i + m ≡ o → SoughtPost s (function_part s o k at) (q.Is (p.Length k))
      unfolding function_part
      length_here g = found (rw (ne_eqb at o h) (passed _ (text_is s at r text i m e).good ∙ rw (eq-eqb (i + m) o g)))

      module _ (g : i + m ≡ o → ⊥) {x : Option (ℕ × ℕ)} (num : NumPost s (i + m) x) where
        pub no_length : x ≡ None → SoughtPost s (function_part s o k at) (q.Is p.Nowhere)
        unfolding function_part
        no_length f =
            found (rw (ne_eqb at o h) (passed _ (text_is s at r text i m e).good ∙ rw (ne_eqb (i + m) o g) (not_passed _ (no_number_lem s (i + m) x num (text_end s at r text i m e) f))))

        pub code_sought : {v code : ℕ} → x ≡ Some (v, code) → {size : ℕ} → (size ≡ v) × (size < 4294967296) → {y : Sought} → SoughtPost s (code_part s o k size code) y
            → SoughtPost s (function_part s o k at) y
        unfolding function_part
        code_sought {v} {code} f z y =
            let read : function_part s o k at ≡ code_part s o k v code =
            rw (ne_eqb at o h) (passed _ (text_is s at r text i m e).good ∙ rw (ne_eqb (i + m) o g) (passed _ (a_number s (i + m) x num v code f))) in
            record { is = y.is ∙ ap (λ (j : ℕ). code_part s o k j code) z.0 ∙ sym read; inside = y.inside }

-- a number ends inside
pub number_ends : (s : List ℕ) (at : ℕ) (r : Option (ℕ × ℕ)) → NumPost s at r → (v next : ℕ) → r ≡ Some (v, next) → next ≤ length s
number_ends s at r num v next e = (a_number s at r num v next e).within

-- ---- an entry of a row

module _ {row : Row} (s : List ℕ) (o k at : ℕ) {y : Sought} where
  pub of_constants : row ≡ w.Constants → SoughtPost s (constant_part s o k at) y → SoughtPost s (entry_part row s o k at) y
  unfolding entry_part
  of_constants e h = rw e h

  pub of_structs : row ≡ w.Structs → SoughtPost s (struct_part s o k at) y → SoughtPost s (entry_part row s o k at) y
  unfolding entry_part
  of_structs e h = rw e h

  pub of_functions : row ≡ w.Functions → SoughtPost s (function_part s o k at) y → SoughtPost s (entry_part row s o k at) y
  unfolding entry_part
  of_functions e h = rw e h

-- ---- the entries of a row

pub record Passing (row : Row) (s : List ℕ) (o m at k next : ℕ) : Type 0 where
  pub onto : row_part row s o 0 m at ≡ row_part row s o k (m - k) next
  pub within : next ≤ length s

pub none_passed : (row : Row) (s : List ℕ) (o m at : ℕ) → at ≤ length s → Passing row s o m at 0 at
none_passed row s o m at l = record { onto = (let all : m - 0 ≡ m = omega arith in rw all); within = l }

module _ {row : Row} {s : List ℕ} {o m at k next : ℕ} (a : Passing row s o m at k next) where
  pub all_passed : m ≤ k → SoughtPost s (row_part row s o 0 m at) (q.On next)
  unfolding row_part
  all_passed h = let none : m - k ≡ 0 = omega arith in goes (rw none at a.onto) a.within

  module _ (h : k < m) {x : Sought} (found-there : SoughtPost s (entry_part row s o k next) x) where
    one_on : row_part row s o 0 m at ≡ onward x (λ behind. row_part row s o (suc k) (m - suc k) behind)
    unfolding row_part
    one_on =
        let one : m - k ≡ suc (m - suc k) = omega arith in
        (rw one at a.onto) ∙ rw (← found-there.is)

    pub one_stops : {y : Part} → x ≡ q.Is y → SoughtPost s (row_part row s o 0 m at) x
    unfolding onward
    one_stops {y} e = rw e (found (one_on ∙ rw e))

    pub one_passed : {behind : ℕ} → x ≡ q.On behind → Passing row s o m at (k + 1) behind
    unfolding onward
    one_passed {behind} e =
        let next_one : suc k ≡ k + 1 = omega arith in
        let there : Inside (length s) (q.On behind) = rw e at found-there.inside in
        record { onto = rw (← next_one) (one_on ∙ rw e); within = there }

-- ---- a row with its count

module _ (row : Row) (s : List ℕ) (o at : ℕ) (within : at ≤ length s) where
  pub count_here : at ≡ o → SoughtPost s (section_part row s o at) (q.Is (p.Count row))
  unfolding section_part
  count_here h = found (rw (eq-eqb at o h))

  module _ (h : at ≡ o → ⊥) {r : Option (ℕ × ℕ)} (num : NumPost s at r) where
    pub no_count : r ≡ None → SoughtPost s (section_part row s o at) (q.Is p.Nowhere)
    unfolding section_part
    no_count e = found (rw (ne_eqb at o h) (not_passed _ (no_number_lem s at r num within e)))

    pub row_sought : {v first : ℕ} → r ≡ Some (v, first) → {m : ℕ} → (m ≡ v) × (m < 4294967296) → {y : Sought} → SoughtPost s (row_part row s o 0 m first) y
        → SoughtPost s (section_part row s o at) y
    unfolding section_part
    row_sought {v} {first} e z y =
        let read : section_part row s o at ≡ row_part row s o 0 v first = rw (ne_eqb at o h) (passed _ (a_number s at r num v first e)) in
        record { is = y.is ∙ ap (λ (j : ℕ). row_part row s o 0 j first) z.0 ∙ sym read; inside = y.inside }

-- ---- the image

-- what comes behind begins inside
pub behind_inside : {s : List ℕ} {want x : Sought} → SoughtPost s want x → {next : ℕ} → x ≡ q.On next → next ≤ length s
behind_inside {s} h {next} e = let there : Inside (length s) (q.On next) = rw e at h.inside in there

module _ (s : List ℕ) (o : ℕ) {x : Sought} (first : SoughtPost s (section_part w.Constants s o 0) x) where
  pub in_constants : {y : Part} → x ≡ q.Is y → y ≡ part_at s o
  unfolding part_at onward at_end
  in_constants e = rw (← first.is, e)

  module _ {structs : ℕ} (e : x ≡ q.On structs) {y : Sought} (second : SoughtPost s (section_part w.Structs s o structs) y) where
    pub in_structs : {z : Part} → y ≡ q.Is z → z ≡ part_at s o
    unfolding part_at onward at_end
    in_structs f = rw (← first.is, e, ← second.is, f)

    module _ {functions : ℕ} (f : y ≡ q.On functions) {z : Sought} (third : SoughtPost s (section_part w.Functions s o functions) z) where
      pub in_functions : {v : Part} → z ≡ q.Is v → v ≡ part_at s o
      unfolding part_at onward at_end
      in_functions g = rw (← first.is, e, ← second.is, f, ← third.is, g)

      pub at_the_end : {end : ℕ} → z ≡ q.On end → end ≡ o → p.Behind ≡ part_at s o
      unfolding part_at onward at_end
      at_the_end {end} g h = rw (← first.is, e, ← second.is, f, ← third.is, g, eq-eqb end o h)

      pub past_the_end : {end : ℕ} → z ≡ q.On end → (end ≡ o → ⊥) → p.Nowhere ≡ part_at s o
      unfolding part_at onward at_end
      past_the_end {end} g h = rw (← first.is, e, ← second.is, f, ← third.is, g, ne_eqb end o h)
