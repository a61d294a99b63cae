-- The judging of a section: a count, and each with its text.
use Rattle.std.specs.Prelude.{if◌then◌else◌, Err, None, Ok, Option, Result, Some}
use mathlib.Core.Path.{◌≡◌, refl, sym, ap, subst, ◌∙◌}
use mathlib.Core.Bool.{Bool, true, false, not}
use mathlib.Core.List.{List, [], ◌∷◌, ◌++◌}
use Prim.Native.Nat.{ℕ, zero, suc, ◌+◌, ◌<◌, ◌≤◌}
use native.Mathlib.Omega.{arith}
use native.Mathlib.Numerals.{lt_of_le_of_ne}
use lib.Dec.{eqb, ltb}
use lib.ListN.{length}
use borrow.Author.Tests.{ltb-true, ltb-false, eqb-true, eqb-false}
use Rattle.model.specs.Numbers.{Step, and_then, number}
use Rattle.model.specs.Equality.{same_bytes}
use Rattle.model.specs.Programs.{Constant, among}
use Rattle.model.specs.Images.{joined, series, read_constant, always, read_constants, read_name, snoc, read_structs}
use Rattle.model.specs.Loading.{constant_text}
use Rattle.number.specs.Links.{NumPost}
use Rattle.layout.proofs.Bools.{apart, either_way}
use Rattle.laws_programs.proofs.Searching.{among_false}
use Rattle.image_judge.specs.Links.{Good, Bad, part_of, TextAt, TextPost, constant_at, ItemPost, SectionAt, CheckPost}
use Rattle.image_judge.specs.Repeats.{place_of, name_of, names_to, RowsPost, Again, RepeatPost}
use Rattle.image_judge.specs.declared.Entry.{Entry}
use Rattle.number.proofs.Codes.{never}
use Rattle.image_judge.proofs.Reading.{Along, along_start, along_end, along_bad, along_step, joined_length, bad_first, bad_second, good_both, bad_test, bad_tested, good_test, no_number_lem, a_number}
use Rattle.image_judge.proofs.Items.{part_length, text_is, text_not, entry_is, entry_not}
use Rattle.image_judge.proofs.Repeating.{text_there, behind_there}
use Rattle.image_judge.specs.declared.Broken.{Broken}
use Rattle.image_judge.specs.declared.Broken.TheVariants.{At}

-- ---- any section

module _ {S A : Type 0} (dec : S → List ℕ → Step A) (next : S → A → S) (st : List A → S) (text_of : A → List ℕ) (s : List ℕ) (at n : ℕ) where
  -- at the head of the loop: `done` was read, and it has so much text
  pub record Passing (cur text i : ℕ) (done : List A) : Type 0 where
    pub along : Along dec next n (st []) s at i (st done) cur done
    pub room : at + text ≤ cur
    pub sized : text ≡ length (joined text_of done)

  pub pass_start : at ≤ length s → Passing at 0 0 []
  unfolding joined
  pass_start h = record { along = along_start dec next n (st []) s at h; room = omega arith; sized = refl }

  module _ (cur text i : ℕ) (done : List A) (h : Passing cur text i done) where
    pub pass_step : i < n → (a : A) (to m : ℕ) → Good (dec (st done)) s cur to a → m ≡ length (text_of a) → cur + m ≤ to
        → next (st done) a ≡ st (done ++ (a ∷ [])) → Passing to (text + m) (i + 1) (done ++ (a ∷ []))
    pass_step l a to m g e f k = record {
      along = subst (λ (x : S). Along dec next n (st []) s at (i + 1) x to (done ++ (a ∷ []))) k (along_step dec next n (st []) s at i (st done) cur done h.along l a to g);
      room = let z = h.room in omega arith;
      sized = let z = h.sized in let y = joined_length text_of done a in omega arith;
    }

    module _ (before : ℕ) (count : Good number s before at n) where
      pub pass_end : n ≤ i → SectionAt (λ b. and_then (number b) (λ k r. series dec next k (st []) r)) text_of s before (record { next = cur; count = n; text = text })
      pass_end l = record {
        held = done;
        good = good_both (λ k r. series dec next k (st []) r) count (along_end dec next n (st []) s at i (st done) cur done h.along l);
        count = let z = h.along.count in let y = h.along.most in omega arith;
        text = h.sized;
        room = let z = h.room in let y = count.ahead in omega arith;
      }

      pub pass_bad : i < n → (o : ℕ) → Bad (dec (st done)) s cur o → Bad (λ b. and_then (number b) (λ k r. series dec next k (st []) r)) s before o
      pass_bad l o g = bad_second (λ k r. series dec next k (st []) r) count (along_bad dec next n (st []) s at i (st done) cur done h.along l o g)

-- the count
pub counted_at : (s : List ℕ) (at : ℕ) (r : Option (ℕ × ℕ)) → NumPost s at r → (v first k : ℕ) → r ≡ Some (v, first) → (k ≡ v) × (k < 4294967296) → Good number s at first k
counted_at s at r p v first k e w = subst (Good number s at first) (sym w.0) (a_number s at r p v first e)

-- ---- constants

abbrev pub PassingConstants : List ℕ → ℕ → ℕ → ℕ → ℕ → ℕ → List Constant → Type 0
PassingConstants s at n cur text i done = Passing read_constant always (λ l. tt) constant_text s at n cur text i done

pub record Constants (s : List ℕ) (at n cur text i : ℕ) : Type 0 where
  pub done : List Constant
  pub pass : PassingConstants s at n cur text i done

pub constants_start : (s : List ℕ) (at n : ℕ) → at ≤ length s → Constants s at n at 0 0
constants_start s at n h = record { done = []; pass = pass_start read_constant always (λ l. tt) constant_text s at n h }

pub constants_none : (s : List ℕ) (at : ℕ) → at ≤ length s → (r : Option (ℕ × ℕ)) → NumPost s at r → r ≡ None → CheckPost read_constants constant_text s at (Err (At at))
unfolding read_constants
constants_none s at h r p e = record { is = bad_first (λ k r. series read_constant always k tt r) (no_number_lem s at r p h e) }

module _ (s : List ℕ) (before at n : ℕ) (count : Good number s before at n) (cur text i : ℕ) (h : Constants s at n cur text i) where
  pub constants_end : n ≤ i → CheckPost read_constants constant_text s before (Ok (record { next = cur; count = n; text = text }))
  unfolding read_constants
  constants_end l = record { is = pass_end read_constant always (λ l. tt) constant_text s at n cur text i h.done h.pass before count l }

  module _ (l : i < n) (r : Result Entry Broken) (p : ItemPost (read_constant tt) s cur r) where
    pub constants_bad : (b : Broken) → r ≡ Err b → CheckPost read_constants constant_text s before (Err b)
    unfolding read_constants
    constants_bad (At o) q = record { is = pass_bad read_constant always (λ l. tt) constant_text s at n cur text i h.done h.pass before count l o (entry_not _ s cur r p o q) }

    module _ (y : Entry) (q : r ≡ Ok y) where
      pub constants_step : Constants s at n y.next (text + y.len) (i + 1)
      constants_step =
          let g = entry_is _ s cur r p y q in
          record {
            done = h.done ++ (constant_at s y ∷ []);
            pass = pass_step read_constant always (λ l. tt) constant_text s at n cur text i h.done h.pass l (constant_at s y) y.next y.len g.good
                (sym (ap length g.text ∙ part_length s y.from y.len g.inside)) g.room refl;
          }

-- ---- struct names, all different

among_last : (t : List ℕ) (l : List (List ℕ)) (x : List ℕ) → same_bytes t x ≡ true → among t (l ++ (x ∷ [])) ≡ true
unfolding among
among_last t [] x e = rw e
among_last t (y ∷ l) x e = or_right (same_bytes t y) (among_last t l x e)
  where
    or_right : (c : Bool) {d : Bool} → d ≡ true → (if c then true else d) ≡ true
    or_right true h = refl
    or_right false h = h

among_more : (t : List ℕ) (l : List (List ℕ)) (x : List ℕ) → among t l ≡ true → among t (l ++ (x ∷ [])) ≡ true
unfolding among
among_more t [] x e = apart false e refl
among_more t (y ∷ l) x e = or_more (same_bytes t y) (among t l) e (λ q. among_more t l x q)
  where
    or_more : (c d : Bool) → (if c then true else d) ≡ true → {f : Bool} → (d ≡ true → f ≡ true) → (if c then true else f) ≡ true
    or_more true d h k = refl
    or_more false d h k = k h

-- a text is one of the first i, or none of them
one_listed : (s : List ℕ) (at i : ℕ) (t : List ℕ) (j : ℕ) → j < i → same_bytes t (name_of s at j) ≡ true → among t (names_to s at i) ≡ true
unfolding names_to
one_listed s at zero t j h e = absurd (let y : ⊥ = omega arith in y)
one_listed s at (suc i) t j h e = either_way (eqb j i)
    (λ x. let z : j ≡ i = eqb-true j i x in among_last t (names_to s at i) (name_of s at i) (rw z at e))
    (λ x. among_more t (names_to s at i) (name_of s at i) (one_listed s at i t j (lt_of_le_of_ne (omega arith) (eqb-false j i x)) e))

again_listed : (s : List ℕ) (at i repeat : ℕ) → i ≡ repeat → Again s at repeat → among (name_of s at i) (names_to s at i) ≡ true
again_listed s at i repeat z a =
    let q = a.earlier in
    one_listed s at i (name_of s at i) a.first (omega arith) (ap (λ (k : ℕ). same_bytes (name_of s at k) (name_of s at a.first)) z ∙ a.same)

none_listed : (s : List ℕ) (at i : ℕ) (t : List ℕ) → ((j : ℕ) → j < i → same_bytes t (name_of s at j) ≡ false) → among t (names_to s at i) ≡ false
unfolding names_to among
none_listed s at zero t h = refl
none_listed s at (suc i) t h = among_false t (names_to s at i) (name_of s at i) (none_listed s at i t (λ j l. h j (omega arith))) (h i (omega arith))

-- the names before i were read; none of them is there again
pub record Names (s : List ℕ) (at n repeat cur text i : ℕ) : Type 0 where
  pub done : List (List ℕ)
  pub pass : Passing read_name snoc (λ l. l) (λ t. t) s at n cur text i done
  pub listed : done ≡ names_to s at i
  pub here : cur ≡ place_of s at i
  pub least : i ≤ repeat

pub names_start : (s : List ℕ) (at n repeat : ℕ) → at ≤ length s → Names s at n repeat at 0 0
unfolding names_to place_of
names_start s at n repeat h = record { done = []; pass = pass_start read_name snoc (λ l. l) (λ t. t) s at n h; listed = refl; here = refl; least = omega arith }

pub names_none : (s : List ℕ) (at : ℕ) → at ≤ length s → (r : Option (ℕ × ℕ)) → NumPost s at r → r ≡ None → CheckPost read_structs (λ t. t) s at (Err (At at))
unfolding read_structs
names_none s at h r p e = record { is = bad_first (λ k r. series read_name snoc k [] r) (no_number_lem s at r p h e) }

module _ (s : List ℕ) (before at n : ℕ) (count : Good number s before at n) (whole repeat : ℕ) (rows : RowsPost s at n whole) (again : RepeatPost s at whole repeat)
    (cur text i : ℕ) (h : Names s at n repeat cur text i) where
  pub names_end : n ≤ i → CheckPost read_structs (λ t. t) s before (Ok (record { next = cur; count = n; text = text }))
  unfolding read_structs
  names_end l = record { is = pass_end read_name snoc (λ l. l) (λ t. t) s at n cur text i h.done h.pass before count l }

  module _ (l : i < n) (r : Option (ℕ × ℕ)) (p : TextPost s cur r) where
    refuse : Bad (read_name h.done) s cur cur → CheckPost read_structs (λ t. t) s before (Err (At cur))
    unfolding read_structs
    refuse b = record { is = pass_bad read_name snoc (λ l. l) (λ t. t) s at n cur text i h.done h.pass before count l cur b }

    pub names_bad : r ≡ None → CheckPost read_structs (λ t. t) s before (Err (At cur))
    unfolding read_name
    names_bad e = refuse (bad_tested (λ t. not (among t h.done)) (text_not s cur r p e))

    module _ (k m : ℕ) (e : r ≡ Some (k, m)) where
      g : TextAt s cur k m
      g = text_is s cur r p k m e

      this : part_of s k m ≡ name_of s at i
      unfolding name_of
      this = sym (rw h.here at (text_there s cur k m g))

      -- the text that is there again
      is_again : i ≡ repeat → among (part_of s k m) h.done ≡ true
      is_again z = either_way (ltb repeat whole)
          (λ x. rw (this, h.listed) (again_listed s at i repeat z (again.again (ltb-true repeat whole x))))
          (λ x.
          let y : whole ≤ repeat = ltb-false repeat whole x in let b = again.most in let v : whole ≡ i = omega arith in
          absurd (never (sym (rw (← h.here) at (rw v at (rows.ends (omega arith)).means)) ∙ g.good.means)))

      is_new : (i ≡ repeat → ⊥) → among (part_of s k m) h.done ≡ false
      is_new d =
          let f : i < repeat = lt_of_le_of_ne h.least d in
          rw (this, h.listed) (none_listed s at i (name_of s at i) (λ j q. again.differ i j q f))

      pub names_seen : i ≡ repeat → CheckPost read_structs (λ t. t) s before (Err (At cur))
      unfolding read_name
      names_seen z = refuse (bad_test (λ t. not (among t h.done)) g.good (ap not (is_again z)))

      pub names_step : (i ≡ repeat → ⊥) → Names s at n repeat (k + m) (text + m) (i + 1)
      unfolding read_name names_to place_of
      names_step d =
          let a = g.ahead in let f : i < repeat = lt_of_le_of_ne h.least d in let z : i + 1 ≡ suc i = omega arith in
          record {
            done = h.done ++ (part_of s k m ∷ []);
            pass = pass_step read_name snoc (λ l. l) (λ t. t) s at n cur text i h.done h.pass l (part_of s k m) (k + m) m
                (good_test (λ t. not (among t h.done)) g.good (ap not (is_new d))) (sym (part_length s k m g.good.within)) (omega arith) refl;
            listed = rw z (ap (λ (q : List (List ℕ)). q ++ (part_of s k m ∷ [])) h.listed ∙ ap (λ (q : List ℕ). names_to s at i ++ (q ∷ [])) this);
            here = rw z (sym (rw h.here at (behind_there s cur k m g)));
            least = omega arith;
          }
