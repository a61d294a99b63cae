-- What each reader answers, way by way.
use Rattle.std.specs.Prelude.{if◌then◌else◌, Err, Ok, Result}
use mathlib.Core.Path.{◌≡◌, refl, sym, ap, ◌∙◌}
use mathlib.Core.Bool.{Bool, true, false, ◌&&◌}
use mathlib.Core.List.{List}
use mathlib.Core.Option.{Option, none, some}
use Prim.Native.Nat.{ℕ, suc, ◌+◌, ◌-◌, ◌*◌, ◌<◌, ◌≤◌}
use native.Mathlib.Omega.{arith}
use lib.Dec.{leb}
use lib.ListN.{length, take, drop, length-take, length-drop}
use mathlib.Core.Logic.{◌⊎◌, inl, inr}
use borrow.Author.Tests.{le-leb, lt-leb, leb-true, lt-ltb, le-ltb}
use Rattle.model.specs.declared.Vm.{Vm}
use Rattle.model.specs.declared.Value.{Value}
use Rattle.model.specs.declared.Value.TheVariants as v
use Rattle.model.specs.declared.Header.{Header}
use Rattle.model.specs.Basics.{written}
use Rattle.model.specs.Values.{if_string, if_reference, if_list, if_struct, places, kind_at, payload_at, value_at, exact_value, text_at}
use Rattle.model.specs.Heap.{Cell, header_of, heap_of, head_in, placed_below}
use Rattle.model.specs.Orders.{text_ok}
use Rattle.model.specs.Loading.{OutRes, put_out}
use Rattle.model.specs.Readers.{value_shown, stack_value_of, reads, header_at, header_shown, block_header_of, element_shown, element_of, reads_text, text_shown, text_bytes_of}
use Rattle.readers.specs.Links.{told_header, block_at, text_put}
use Rattle.layout.proofs.Bools.{either_way, and_left, and_right}
use Rattle.layout.proofs.Parts.{room_1, room_2}
use Rattle.laws_programs.proofs.Known.{text_within}
use Rattle.cells.proofs.Order.{Whole, Placed, list_of, struct_of}
use Rattle.cells.proofs.Stands.{header_is, header_room}
use Rattle.model.specs.declared.Refusal.{Refusal}
use Rattle.model.specs.declared.Refusal.TheVariants as why

-- ---- a value of a store

module _ (s : List ℕ) (i : ℕ) {b : Bool} (e : b ≡ exact_value (kind_at s i) (payload_at s i)) where
  pub exact_shown : b ≡ true → {x : Value} → x ≡ value_at s i → Ok x ≡ value_shown s i
  unfolding value_shown
  exact_shown q f = rw (← e, q, f)

  pub not_exact : b ≡ false → Err why.NotInOrder ≡ value_shown s i
  unfolding value_shown
  not_exact q = rw (← e, q)

module _ (m : Vm) (i : ℕ) (s : List ℕ) {r : ℕ} (e : r ≡ places 2 s) where
  pub stack_outside : r < m.stack → Err why.NotInOrder ≡ stack_value_of m i s
  unfolding stack_value_of
  stack_outside l = rw (← e, lt-leb _ _ l)

  module _ (k : m.stack ≤ r) where
    pub no_place_lem : m.stack ≤ i → Err why.NoSuchPlace ≡ stack_value_of m i s
    unfolding stack_value_of
    no_place_lem l = rw (← e, le-leb _ _ k, le-ltb _ _ l)

    pub place_room : i < m.stack → 2 * i + 2 ≤ length s
    place_room l = let x = room_2 s in omega arith

    pub place_shown : i < m.stack → {x : Result Value Refusal} → x ≡ value_shown s i → x ≡ stack_value_of m i s
    unfolding stack_value_of
    place_shown l f = rw (← e, le-leb _ _ k, lt-ltb _ _ l) f

-- ---- where a header is

abbrev header : Value → Result ℕ Refusal
header x = told_header (header_at x)

module _ (m : Vm) (x : Value) (cells : List ℕ) {r : ℕ} (e : r ≡ places 2 cells) where
  pub cells_outside : r < m.cells → Err why.NotInOrder ≡ block_at m x cells
  unfolding block_at reads
  cells_outside l = rw (← e, lt-leb _ _ l)

  module _ (k : m.cells ≤ r) where
    pub cells_room : 2 * m.cells ≤ length cells
    cells_room = let z = room_2 cells in omega arith

    module _ {b : Bool} (f : b ≡ placed_below m.program.text (heap_of m.cells cells) m.cells x) where
      pub not_placed : b ≡ false → Err why.NotInOrder ≡ block_at m x cells
      unfolding block_at reads
      not_placed q = rw (← e, ← f, le-leb _ _ k, q)

      module _ (q : b ≡ true) where
        block_is : header x ≡ block_at m x cells
        unfolding block_at reads
        block_is = rw (← e, ← f, le-leb _ _ k, q)

        pub block_found : (p : ℕ) → (x ≡ v.List p) ⊎ (x ≡ v.StructInstance p) → Ok p ≡ block_at m x cells
        unfolding header_at if_list if_struct
        block_found p (inl g) = sym (ap header g) ∙ block_is
        block_found p (inr g) = sym (ap header g) ∙ block_is

        pub no_block : ((p : ℕ) → x ≡ v.List p → ⊥) → ((p : ℕ) → x ≡ v.StructInstance p → ⊥) → Err why.WrongKind ≡ block_at m x cells
        unfolding header_at if_list if_struct
        no_block no_list no_struct = on x no_list no_struct ∙ block_is
          where
            on : (y : Value) → ((p : ℕ) → y ≡ v.List p → ⊥) → ((p : ℕ) → y ≡ v.StructInstance p → ⊥) → Err why.WrongKind ≡ header y
            on (v.Scalar _) _ _ = refl
            on (v.Boolean _) _ _ = refl
            on (v.String _ _) _ _ = refl
            on (v.FunctionReference _ _) _ _ = refl
            on (v.List p) differs _ = absurd (differs p refl)
            on (v.StructInstance p) _ differs = absurd (differs p refl)

-- ---- what stands at a header that was found

never : {A : Type 0} {n : ℕ} {e : Refusal} → Ok n ≡ Err e → A
never e = absurd (let z : ◌≡◌ {A = ℕ} 0 1 = cc in let y : ⊥ = omega arith in y)

whole_at_lem : (u : ℕ) (H : List Cell) (b : ℕ) (x : Value) (p : ℕ) → Placed u H b x → Ok p ≡ header x → Whole H p b
unfolding header_at if_list if_struct
whole_at_lem u H b (v.Scalar _) p f e = never e
whole_at_lem u H b (v.Boolean _) p f e = never e
whole_at_lem u H b (v.String _ _) p f e = never e
whole_at_lem u H b (v.FunctionReference _ _) p f e = never e
whole_at_lem u H b (v.List q) p f e = let z : p ≡ q = cc in rw z (list_of u H b q f)
whole_at_lem u H b (v.StructInstance q) p f e = let z : p ≡ q = cc in rw z (struct_of u H b q f)

pub record Stands (m : Vm) (cells : List ℕ) (p : ℕ) : Type 0 where
  pub room : 2 * m.cells ≤ length cells
  pub whole : Whole (heap_of m.cells cells) p m.cells

pub stands : (m : Vm) (x : Value) (cells : List ℕ) (p : ℕ) → Ok p ≡ block_at m x cells → Stands m cells p
unfolding block_at reads
stands m x cells p e =
    let a = leb m.cells (places 2 cells) in
    let b = placed_below m.program.text (heap_of m.cells cells) m.cells x in
    either_way (a && b) (λ q. on (and_left a b q) (and_right a b q) (rw q at e)) (λ q. never (rw q at e))
  where
    on : leb m.cells (places 2 cells) ≡ true → placed_below m.program.text (heap_of m.cells cells) m.cells x ≡ true → Ok p ≡ header x → Stands m cells p
    on a b g = record {
      room = (let z = room_2 cells in let y : m.cells ≤ places 2 cells = leb-true _ _ a in omega arith);
      whole = whole_at_lem m.program.text (heap_of m.cells cells) m.cells x p b g;
    }

-- the two answers, by where the header is
abbrev on_told : {A : Type 0} → Result ℕ Refusal → (ℕ → A) → (Refusal → A) → A
on_told (Ok p) found not_found = found p
on_told (Err e) found not_found = not_found e

module _ (m : Vm) (x : Value) (cells : List ℕ) where
  header_by : block_header_of m x cells ≡ on_told (block_at m x cells) (λ p. Ok (head_in (heap_of m.cells cells) p)) Err
  unfolding block_header_of block_at header_shown
  header_by = on (reads m x cells) (header_at x)
    where
      on : (b : Bool) (o : Option ℕ) → (if b then header_shown (heap_of m.cells cells) o else Err why.NotInOrder) ≡ on_told (if b then told_header o else Err why.NotInOrder)
          (λ p. Ok (head_in (heap_of m.cells cells) p)) Err
      on false o = refl
      on true none = refl
      on true (some p) = refl

  element_by : (i : ℕ) → element_of m x i cells ≡ on_told (block_at m x cells) (λ p. element_shown m i cells (some p)) Err
  unfolding element_of block_at element_shown
  element_by i = on (reads m x cells) (header_at x)
    where
      on : (b : Bool) (o : Option ℕ) → (if b then element_shown m i cells o else Err why.NotInOrder) ≡ on_told (if b then told_header o else Err why.NotInOrder) (λ p. element_shown m i cells (some p)) Err
      on false o = refl
      on true none = refl
      on true (some p) = refl

module _ (m : Vm) (x : Value) (cells : List ℕ) where
  module _ {w : Refusal} (e : Err w ≡ block_at m x cells) where
    pub header_refused : Err w ≡ block_header_of m x cells
    header_refused = sym (header_by m x cells ∙ rw (← e))

    pub element_refused : (i : ℕ) → Err w ≡ element_of m x i cells
    element_refused i = sym (element_by m x cells i ∙ rw (← e))

  module _ {p : ℕ} (e : Ok p ≡ block_at m x cells) where
    here : Stands m cells p
    here = stands m x cells p e

    pub head_room : 2 * p + 2 ≤ length cells
    head_room = header_room cells m.cells p here.whole here.room

    module _ {u : Header} (f : u ≡ header_of (payload_at cells p)) where
      head_here : head_in (heap_of m.cells cells) p ≡ u
      head_here = header_is cells m.cells p here.whole ∙ sym f

      pub header_shown_lem : Ok u ≡ block_header_of m x cells
      header_shown_lem = sym (header_by m x cells ∙ rw (← e, head_here))

      module _ (i : ℕ) where
        pub no_element : u.count ≤ i → Err why.NoSuchPlace ≡ element_of m x i cells
        unfolding element_shown
        no_element l = sym (element_by m x cells i ∙ rw (← e, head_here, le-ltb _ _ l))

        module _ (l : i < u.count) where
          pub element_room : 2 * (p + 1 + i) + 2 ≤ length cells
          element_room = let z : suc p + u.count ≤ m.cells = rw head_here at here.whole.ends in let y = here.room in omega arith

          module _ {y : Value} (g : y ≡ value_at cells (p + 1 + i)) {b : Bool} (q : b ≡ placed_below m.program.text (heap_of p cells) p y) where
            element_is : element_of m x i cells ≡ (if b then value_shown cells (p + 1 + i) else Err why.NotInOrder)
            unfolding element_shown
            element_is = let z : suc p + i ≡ p + 1 + i = omega arith in element_by m x cells i ∙ rw (← e, head_here, lt-ltb _ _ l, z, ← g, ← q)

            pub element_shown_lem : b ≡ true → {r : Result Value Refusal} → r ≡ value_shown cells (p + 1 + i) → r ≡ element_of m x i cells
            element_shown_lem o a = a ∙ sym (element_is ∙ rw o)

            pub element_misplaced : b ≡ false → Err why.NotInOrder ≡ element_of m x i cells
            element_misplaced o = sym (element_is ∙ rw o)

-- ---- a text

module _ (m : Vm) (text out : List ℕ) (o n : ℕ) where
  pub text_outside : m.program.text < o + n → record { answer = Err why.NotInOrder; out = out } ≡ text_put m text out o n
  unfolding text_put
  text_outside l = rw (lt-leb _ _ l)

  module _ (k : m.program.text ≤ length text) (l : o + n ≤ m.program.text) {r : ℕ} (e : r ≡ places 1 out) where
    abbrev lent : List ℕ
    lent = take (o + n - o) (drop o text)

    lent_is : lent ≡ text_at text o n
    unfolding text_at
    lent_is = let z : o + n - o ≡ n = omega arith in rw z

    size_is : length (text_at text o n) ≡ n
    unfolding text_at
    size_is = simp (length-take, length-drop) (omega arith)

    pub text_long : r < n → record { answer = Err why.ResultTooShort; out = out } ≡ text_put m text out o n
    unfolding text_put put_out
    text_long q = rw (le-leb _ _ l, size_is, ← e, lt-leb _ _ q)

    module _ (q : n ≤ r) where
      pub text_room_lem : 0 + length lent ≤ length out
      text_room_lem = let z = room_1 out in rw (lent_is, size_is) (omega arith)

      pub text_put_lem : {out' : List ℕ} → out' ≡ written out 0 lent → record { answer = Ok n; out = out' } ≡ text_put m text out o n
      unfolding text_put put_out
      text_put_lem f = rw (le-leb _ _ l, size_is, ← e, le-leb _ _ q, f, lent_is)

module _ (m : Vm) (x : Value) (text out : List ℕ) {b : Bool} (e : b ≡ text_ok m.program text) where
  pub text_disorder : b ≡ false → record { answer = Err why.NotInOrder; out = out } ≡ text_bytes_of m x text out
  unfolding text_bytes_of
  text_disorder q = rw (← e, q)

  module _ (q : b ≡ true) where
    pub text_taken : m.program.text ≤ length text
    text_taken = text_within m.program text (sym e ∙ q)

    module _ (o n : ℕ) {r : OutRes} (f : r ≡ text_put m text out o n) where
      pub bytes_shown : (x ≡ v.String o n) ⊎ (x ≡ v.FunctionReference o n) → r ≡ text_bytes_of m x text out
      unfolding text_bytes_of text_put reads_text text_shown if_string if_reference
      bytes_shown (inl g) = f ∙ rw (← e, q, g)
      bytes_shown (inr g) = f ∙ rw (← e, q, g)

    pub no_bytes : ((o n : ℕ) → x ≡ v.String o n → ⊥) → ((o n : ℕ) → x ≡ v.FunctionReference o n → ⊥) → record { answer = Err why.WrongKind; out = out } ≡ text_bytes_of m x text out
    unfolding text_bytes_of reads_text text_shown if_string if_reference
    no_bytes no_string no_reference = rw (← e, q) (on x no_string no_reference)
      where
        on : (y : Value) → ((o n : ℕ) → y ≡ v.String o n → ⊥) → ((o n : ℕ) → y ≡ v.FunctionReference o n → ⊥)
            → record { answer = Err why.WrongKind; out = out } ≡ (if reads_text m y then text_shown text out y else record { answer = Err why.NotInOrder; out = out })
        on (v.Scalar _) _ _ = refl
        on (v.Boolean _) _ _ = refl
        on (v.String o n) differs _ = absurd (differs o n refl)
        on (v.FunctionReference o n) _ differs = absurd (differs o n refl)
        on (v.List _) _ _ = refl
        on (v.StructInstance _) _ _ = refl
