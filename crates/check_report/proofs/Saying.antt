-- What is said of the function that breaks a rule, put piece by piece.
use Rattle.std.specs.Prelude.{if◌then◌else◌, Err, None, Ok, Option, Result, Some}
use mathlib.Core.Path.{◌≡◌, refl, sym, ap, ◌∙◌}
use mathlib.Core.Bool.{Bool, true, false}
use mathlib.Core.List.{List, [], ◌∷◌, ◌++◌, append_assoc}
use Prim.Native.Nat.{ℕ, zero, suc, ◌+◌, ◌≤◌, ◌<◌, ◌^◌}
use native.Mathlib.Nat.{min-le_right}
use native.Mathlib.Omega.{arith}
use lib.Dec.{eqb}
use lib.ListN.{length, get_or, take, drop, length-take, length-drop}
use lib.Seq.{take_at}
use denote.Enum.Declared.{tag_of}
use types.Run.{OneOf, miss}
use borrow.Author.Tests.{eq-eqb, ne_eqb, lt-ltb, le-ltb}
use Rattle.model.specs.declared.Counts.{Counts}
use Rattle.model.specs.Basics.{ascii}
use Rattle.model.specs.Values.{text_at}
use Rattle.model.specs.Opcodes.{popped, opcode_at}
use Rattle.model.specs.Programs.{Function}
use Rattle.model.specs.Listings.{decimal}
use Rattle.model.specs.Stores.{Stores, stores_of, start, size, part as partIn, code_word, constants_from, structs_from, function_in, program_in}
use Rattle.model.specs.Loading.{load_of}
use Rattle.model.specs.Reports.{empty_stores}
use Rattle.laws_names.proofs.Standing.{length_structs}
use Rattle.laws_images.proofs.Held.{written_front}
use Rattle.laws_runs.proofs.Programs.{length_functions, function_at_lem}
use Rattle.listing.specs.Links.{lent}
use Rattle.printing.specs.Links.{Put}
use Rattle.printing.proofs.Puts.{is, within, both, nothing}
use Rattle.notes.specs.Notes.{Known, known_of, name_at}
use Rattle.notes.specs.Links.{program_lent, known_in}
use Rattle.noted_listing.proofs.Lent.{known_is}
use Rattle.check_rules.specs.declared.Rule.{Rule}
use Rattle.check_rules.specs.declared.Rule.TheVariants as r
use Rattle.check_rules.specs.contracts.Rule.{the_type as the-rule}
use Rattle.check_rules.specs.Rules.{get_local, first_at, second_at, code_of, is_main, rule_number}
use Rattle.check_heights.specs.declared.Flaw.{Flaw}
use Rattle.check_heights.specs.declared.Flaw.TheVariants as w
use Rattle.check_image.specs.Flaws.{FlawIn}
use Rattle.image_items.specs.declared.Row.{Row}
use Rattle.image_items.specs.declared.Part.{Part}
use Rattle.image_items.specs.declared.Part.TheVariants as part
use Rattle.image_items.specs.Parts.{part_at}
use Rattle.check_code.specs.Links.{Sized}
use Rattle.check_places.specs.Places.{place_in, place_of, PlacePost}
use Rattle.check_report.specs.Details.{row_words, part_words, operand_words, found_words, counts_words, want_words, lacks_words, flaw_words, function_words, loaded_words, item_words, details}
use Rattle.check_report.specs.Links.{CountsPost, FunctionPost, LoadedPost, of_heights, FlawAsked, asked, not_asked, Said}
use Rattle.model.specs.declared.Refusal.{Refusal}
use Rattle.check_rules.specs.declared.Rejected.{Rejected}
use Rattle.model.specs.declared.Refusal.TheVariants as why
use Rattle.check_rules.specs.declared.Rejected.TheVariants as no

-- ---- an item of an image

module _ {s s' : List ℕ} {i r : ℕ} where
  pub row_is : {k : ℕ} {x y : Row} → x ≡ y → k ≤ 96 → Put k (row_words y) s i s' r → Put 96 (row_words x) s i s' r
  row_is e h p = rw e (within p 96 h)

  pub part_is : {k : ℕ} {x y : Part} → x ≡ y → k ≤ 96 → Put k (part_words y) s i s' r → Put 96 (part_words x) s i s' r
  part_is e h p = rw e (within p 96 h)

  pub count_is : {x : Part} {y : Row} → x ≡ part.Count y → Put 96 (row_words y) s i s' r → Put 96 (part_words x) s i s' r
  unfolding part_words
  count_is e p = rw e p

pub nowhere_is : (s : List ℕ) (i : ℕ) {x : Part} → x ≡ part.Nowhere → Put 96 (part_words x) s i s i
unfolding part_words
nowhere_is s i e = rw e (within (nothing s i) 96 (omega arith))

pub item_is : (image : List ℕ) (o : ℕ) {x : Part} → x ≡ part_at image o → {s s' : List ℕ} {at r : ℕ} → Put 96 (part_words x) s at s' r → Put 96 (part_words (part_at image o)) s at s' r
item_is image o e p = rw e at p

-- ---- an instruction

module _ (q : Rule) (code : List ℕ) (i : ℕ) {n : ℕ} (e : n ≡ rule_number q) {s : List ℕ} {at : ℕ} where
  pub operand_none : n ≡ 1 → Put 30 (operand_words q code i) s at s at
  unfolding operand_words
  operand_none z = rw (← e, eq-eqb n 1 z) (within (nothing s at) 30 (omega arith))

  pub operand_put : (n ≡ 1 → ⊥) → {k : ℕ} → (k ≡ first_at code i) × (k < 0x1_0000) → {s' : List ℕ} {r : ℕ} → Put 30 (ascii ", operand " ++ decimal k) s at s' r
      → Put 30 (operand_words q code i) s at s' r
  unfolding operand_words
  operand_put z f p = rw (← e, ne_eqb n 1 z, ← f.0) p

module _ (q : Rule) (code : List ℕ) (i : ℕ) where
  pub found_none : length code ≤ i → (s : List ℕ) (at : ℕ) → Put 81 (found_words q code i) s at s at
  unfolding found_words
  found_none h s at = rw (le-ltb _ _ h) (within (nothing s at) 81 (omega arith))

  pub found_put : i < length code → {b : ℕ} → b ≡ get_or code i 0 → {s₀ s₁ s₂ s₃ : List ℕ} {i₀ i₁ i₂ i₃ : ℕ} → Put 24 (ascii " at " ++ decimal i) s₀ i₀ s₁ i₁
      → Put 27 (ascii ", byte " ++ decimal b) s₁ i₁ s₂ i₂ → Put 30 (operand_words q code i) s₂ i₂ s₃ i₃ → Put 81 (found_words q code i) s₀ i₀ s₃ i₃
  unfolding found_words
  found_put h e x y z = rw (lt-ltb _ _ h, ← e) (within (is (both (both x y) z) (simp append_assoc)) 81 (omega arith))

-- ---- what the heights came upon

module _ (code : List ℕ) (i : ℕ) {b first : ℕ} (e : b ≡ get_or code i 0) (f : (first ≡ first_at code i) × (first < 0x1_0000)) {s s' : List ℕ} {at r : ℕ} where
  pub slot_put : b ≡ get_local → Put 27 (ascii ", slot " ++ decimal first) s at s' r → Put 27 (want_words code i) s at s' r
  unfolding want_words
  slot_put z p = rw (← e, eq-eqb b get_local z, ← f.0) p

  pub pops_put : (b ≡ get_local → ⊥) → {second : ℕ} → (second ≡ second_at code i) × (second < 0x1_0000) → {takes : ℕ} → (takes ≡ popped (opcode_at b) first second) × (takes < 131076)
      → Put 27 (ascii ", pops " ++ decimal takes) s at s' r → Put 27 (want_words code i) s at s' r
  unfolding want_words
  pops_put z g t p = rw (← e, ne_eqb b get_local z, ← f.0, ← g.0, ← t.0) p

module _ (code : List ℕ) (i h : ℕ) where
  pub lacks_none : length code ≤ i → (s : List ℕ) (at : ℕ) → Put 80 (lacks_words code i h) s at s at
  unfolding lacks_words
  lacks_none l s at = rw (le-ltb _ _ l) (within (nothing s at) 80 (omega arith))

  pub lacks_put : i < length code → {s₀ s₁ s₂ s₃ : List ℕ} {i₀ i₁ i₂ i₃ : ℕ} → Put 24 (ascii " at " ++ decimal i) s₀ i₀ s₁ i₁
      → Put 29 (ascii ", height " ++ decimal h) s₁ i₁ s₂ i₂ → Put 27 (want_words code i) s₂ i₂ s₃ i₃ → Put 80 (lacks_words code i h) s₀ i₀ s₃ i₃
  unfolding lacks_words
  lacks_put l x y z = rw (lt-ltb _ _ l) (is (both (both x y) z) (simp append_assoc))

pub differs_put : (i h k : ℕ) {s₀ s₁ s₂ s₃ : List ℕ} {i₀ i₁ i₂ i₃ : ℕ} → Put 24 (ascii " at " ++ decimal i) s₀ i₀ s₁ i₁ → Put 30 (ascii ", heights " ++ decimal h) s₁ i₁ s₂ i₂
    → Put 25 (ascii " and " ++ decimal k) s₂ i₂ s₃ i₃ → Put 80 (ascii " at " ++ decimal i ++ ascii ", heights " ++ decimal h ++ ascii " and " ++ decimal k) s₀ i₀ s₃ i₃
differs_put i h k x y z = within (is (both (both x y) z) (simp append_assoc)) 80 (omega arith)

pub ends_put : (n h : ℕ) {s₀ s₁ s₂ : List ℕ} {i₀ i₁ i₂ : ℕ} → Put 24 (ascii " at " ++ decimal n) s₀ i₀ s₁ i₁ → Put 38 (ascii ", the end, height " ++ decimal h) s₁ i₁ s₂ i₂
    → Put 80 (ascii " at " ++ decimal n ++ ascii ", the end, height " ++ decimal h) s₀ i₀ s₂ i₂
ends_put n h x y = within (is (both x y) (simp append_assoc)) 80 (omega arith)

module _ (code : List ℕ) {x : Option Flaw} {s s' : List ℕ} {at r : ℕ} where
  pub lacks_said : {i h : ℕ} → x ≡ Some (w.Lacks i h) → Put 80 (lacks_words code i h) s at s' r → Put 80 (flaw_words x code) s at s' r
  unfolding flaw_words
  lacks_said e p = rw e p

  pub differs_said : {i h k : ℕ} → x ≡ Some (w.Differs i h k) → Put 80 (ascii " at " ++ decimal i ++ ascii ", heights " ++ decimal h ++ ascii " and " ++ decimal k) s at s' r
      → Put 80 (flaw_words x code) s at s' r
  unfolding flaw_words
  differs_said e p = rw e p

  pub ends_said : {h : ℕ} → x ≡ Some (w.Ends h) → Put 80 (ascii " at " ++ decimal (length code) ++ ascii ", the end, height " ++ decimal h) s at s' r → Put 80 (flaw_words x code) s at s' r
  unfolding flaw_words
  ends_said e p = rw e p

pub nothing_said : (code s : List ℕ) (at : ℕ) {x : Option Flaw} → x ≡ None → Put 80 (flaw_words x code) s at s at
unfolding flaw_words
nothing_said code s at e = rw e (within (nothing s at) 80 (omega arith))

pub place_put : (q : Rule) (i : ℕ) (x : Option Flaw) (code : List ℕ) {s s' s'' : List ℕ} {at r r' : ℕ} → Put 81 (found_words q code i) s at s' r → Put 80 (flaw_words x code) s' r s'' r'
    → Put 161 (found_words q code i ++ flaw_words x code) s at s'' r'
place_put q i x code a b = both a b

-- ---- a function in its stores

length_constants : (n i : ℕ) (cs t : List ℕ) → length (constants_from n i cs t) ≡ n
unfolding constants_from
length_constants zero i cs t = refl
length_constants (suc n) i cs t = ap suc (length_constants n (suc i) cs t)

sized : (k : Counts) (s : Stores) → Sized k.constants k.structs k.functions (program_in k s)
unfolding program_in
sized k s = record {
  of_constants = length_constants k.constants 0 s.constants s.text;
  of_structs = length_structs k.structs 0 s.structs s.text;
  of_functions = length_functions s k.functions 0;
}

part_short : (s : List ℕ) (w : ℕ) → length (partIn s w) ≤ length s
unfolding partIn text_at
part_short s w =
    let taken = length-take (size w) (drop (start w) s) in
    let dropped = length-drop (start w) s in
    let most = min-le_right (size w) (length (drop (start w) s)) in
    omega arith

one_store : (b : Bool) (main other : List ℕ) (w : ℕ) {n : ℕ} → length main ≤ n → length other ≤ n → length (partIn (if b then main else other) w) ≤ n
one_store true main other w g h = let z = part_short main w in omega arith
one_store false main other w g h = let z = part_short other w in omega arith

module _ (k : Counts) (functions text main other : List ℕ) (f : ℕ) where
  -- the stores, whatever else they hold
  module _ (constants structs main_places other_places : List ℕ) where
    abbrev stores : Stores
    stores = stores_of constants structs functions text main main_places other other_places

    named : (known_of (program_in k stores)).functions ≡ structs_from k.functions 0 functions text
    unfolding program_lent known_in
    named = ap (λ (x : Known). x.functions) (known_is k constants structs functions text main main_places other other_places)

    coded : f < k.functions → code_of (program_in k stores) f ≡ (function_in stores f).code
    unfolding program_in
    coded h = let z : 0 + f ≡ f = omega arith in rw z at (ap (λ (x : Function). x.code) (function_at_lem stores k.functions 0 f h))

  pub code_fits : {code : List ℕ} → ((rest : Stores) (t : List ℕ) → code ≡ (function_in (lent rest functions t main other) f).code) × (length code < 2 ^ 32)
      → {n : ℕ} → length main ≤ n → length other ≤ n → length code ≤ n
  unfolding function_in lent
  code_fits e g h = rw (e.0 (stores_of [] [] [] [] [] [] [] []) text) (one_store (eqb f 0) main other (code_word functions f) g h)

  module _ {q : Rule} {x : Option Flaw} {s₀ : List ℕ} where
    pub function_none : k.functions ≤ f → FunctionPost k functions text main other q f x s₀ s₀ 0
    unfolding function_words program_in
    function_none h = record {
      says = λ cs ss mp op. let n = length_functions (stores cs ss mp op) k.functions 0 in rw (n, le-ltb _ _ h) (within (nothing s₀ 0) 384 (omega arith));
    }

    pub function_put : f < k.functions → {code : List ℕ} → ((rest : Stores) (t : List ℕ) → code ≡ (function_in (lent rest functions t main other) f).code) × (length code < 2 ^ 32) → {i : ℕ}
        → PlacePost k.constants k.structs k.functions q (eqb f 0) code i → {s₁ s₂ s₃ s₄ s₅ : List ℕ} {i₁ i₂ i₃ i₄ i₅ : ℕ} → Put 2 (ascii " (") s₀ 0 s₁ i₁
        → Put 26 (name_at (structs_from k.functions 0 functions text) f []) s₁ i₁ s₂ i₂ → Put 1 (ascii ")") s₂ i₂ s₃ i₃
        → Put 161 (found_words q code i ++ flaw_words x code) s₃ i₃ s₄ i₄ → CountsPost k functions main other q f s₄ i₄ s₅ i₅ → FunctionPost k functions text main other q f x s₀ s₅ i₅
    unfolding function_words program_in place_of lent
    function_put h {code} e {i} place a b d g w = record {
      says = λ cs ss mp op.
          let p = program_in k (stores cs ss mp op) in
          let n = length_functions (stores cs ss mp op) k.functions 0 in
          let own : code ≡ code_of p f = e.0 (stores cs ss mp op) text ∙ sym (coded cs ss mp op h) in
          let there : i ≡ place_in p q (is_main f) (code_of p f) = place.means p (sized k (stores cs ss mp op)) ∙ ap (place_in p q (is_main f)) own in
          let found : Put 161 (found_words q (code_of p f) (place_in p q (is_main f) (code_of p f)) ++ flaw_words x (code_of p f)) _ _ _ _ = rw (own, there) at g in
          let name = rw (← named cs ss mp op) at b in
          let counts : Put 168 (counts_words p q f) _ _ _ _ = w.says (stores cs ss mp op) text in
          rw (n, lt-ltb _ _ h) (within (is (both (both (both (both a name) d) found) counts) (simp append_assoc)) 384 (omega arith));
    }

-- ---- what was loaded

module _ {functions text main other : List ℕ} {q : Rule} {f : ℕ} {x : Option Flaw} {a : Result Counts Refusal} {s s' : List ℕ} {r : ℕ} where
  pub loaded_put : {k : Counts} → a ≡ Ok k → FunctionPost k functions text main other q f x s s' r → LoadedPost a functions text main other q f x s s' r
  unfolding loaded_words
  loaded_put e h = record { says = λ cs ss mp op. rw e (h.says cs ss mp op) }

pub refused_unput : {functions text main other : List ℕ} {q : Rule} {f : ℕ} {x : Option Flaw} {a : Result Counts Refusal} (s : List ℕ) {e : Refusal} → a ≡ Err e
    → LoadedPost a functions text main other q f x s s 0
unfolding loaded_words
refused_unput s e = record { says = λ cs ss mp op. rw e (within (nothing s 0) 384 (omega arith)) }

-- ---- of an image

no_words : (image : List ℕ) (e : Refusal) → ((o : ℕ) → e ≡ why.BrokenImage o → ⊥) → item_words image e ≡ []
unfolding item_words
no_words image (why.BrokenImage o) d = absurd (d o refl)
no_words image e d = refl

module _ (image : List ℕ) where
  pub flaw_asked : {q : Rule} {f : ℕ} {x : Option Flaw} → q ≡ r.Heights → FlawIn image f x → FlawAsked image (Err (no.Breaks q f)) x
  flaw_asked e h = rw e (asked h)

  pub flaw_unasked : (q : Rule) {f : ℕ} → OneOf (0 ∷ 1 ∷ 2 ∷ 3 ∷ 4 ∷ []) (tag_of the-rule q) → FlawAsked image (Err (no.Breaks q f)) None
  unfolding of_heights rule_number
  flaw_unasked r.Instructions n = not_asked refl
  flaw_unasked r.Numbers n = not_asked refl
  flaw_unasked r.Calls n = not_asked refl
  flaw_unasked r.Counts n = not_asked refl
  flaw_unasked r.Jumps n = not_asked refl
  flaw_unasked r.Heights n = absurd (miss (0 ∷ 1 ∷ 2 ∷ 3 ∷ 4 ∷ []) 5 tt n)

  pub image_put : {a : Result Counts Refusal} {constants structs functions text main main_places other other_places : List ℕ}
      → record { answer = a; stores = stores_of constants structs functions text main main_places other other_places } ≡ load_of image empty_stores → {q : Rule} {f : ℕ} {x : Option Flaw}
      → FlawAsked image (Err (no.Breaks q f)) x → {s s' : List ℕ} {n : ℕ} → LoadedPost a functions text main other q f x s s' n → Said image (Err (no.Breaks q f)) s s' n
  unfolding details
  image_put {constants = constants} {structs = structs} {main_places = main_places} {other_places = other_places} e {x = x} k h =
      record { flaw = x; finds = k; put = rw (← e) (h.says constants structs main_places other_places) }

  module _ {x : Result Counts Rejected} (s : List ℕ) where
    pub passed_plain : {k : Counts} → x ≡ Ok k → Said image x s s 0
    unfolding details of_heights
    passed_plain e = record { flaw = None; finds = rw e (not_asked refl); put = rw e (within (nothing s 0) 384 (omega arith)) }

  pub refused_put : {x : Result Counts Rejected} {e : Refusal} → x ≡ Err (no.Refused e) → {s s' : List ℕ} {n : ℕ} → Put 96 (item_words image e) s 0 s' n → Said image x s s' n
  unfolding details of_heights
  refused_put e p = record { flaw = None; finds = rw e (not_asked refl); put = rw e (within p 384 (omega arith)) }

  module _ (e : Refusal) where
    pub item_put : {o : ℕ} → e ≡ why.BrokenImage o → {s s' : List ℕ} {n : ℕ} → Put 96 (part_words (part_at image o)) s 0 s' n → Put 96 (item_words image e) s 0 s' n
    unfolding item_words
    item_put q p = rw q p

    pub no_item : ((o : ℕ) → e ≡ why.BrokenImage o → ⊥) → (s : List ℕ) → Put 96 (item_words image e) s 0 s 0
    no_item d s = rw (no_words image e d) (within (nothing s 0) 96 (omega arith))

  pub breach_put : {x : Result Counts Rejected} {q : Rule} {f : ℕ} → x ≡ Err (no.Breaks q f) → {s s' : List ℕ} {n : ℕ} → Said image (Err (no.Breaks q f)) s s' n → Said image x s s' n
  breach_put e p = rw e p

-- ---- what was said, as a slice

module _ {k : ℕ} {said s s' : List ℕ} {n : ℕ} (p : Put k said s 0 s' n) where
  pub said_short : n ≤ k
  said_short = let z = p.near in omega arith

  pub said_taken : k ≤ length s → take n s' ≡ said
  said_taken h =
      let e : length said ≡ n = (let z = p.next in omega arith) in
      let m = p.near in
      let all : s' ≡ said ++ drop (length said) s = p.stored ∙ written_front s said (omega arith) in
      rw all (take_at said (drop (length said) s) n e)

  pub said_length : k ≤ length s → n ≡ length (take n s')
  said_length h = let e = p.next in let same = ap length (said_taken h) in omega arith
