-- The pieces of a value's text, put one behind the other.
use mathlib.Core.Path.{◌≡◌, refl, sym, ap, ◌∙◌}
use mathlib.Core.Bool.{Bool, true, false}
use mathlib.Core.List.{List, ◌++◌, append_assoc}
use Prim.Native.Nat.{ℕ, ◌≤◌, ◌<◌}
use native.Mathlib.Omega.{arith}
use lib.Dec.{eqb}
use lib.Ieee.{Float, binary64, to_bits}
use lib.ListN.{get_or-eq_default}
use Rattle.model.specs.declared.Header.{Header}
use Rattle.model.specs.declared.Value.{Value}
use Rattle.model.specs.declared.Value.TheVariants as v
use Rattle.model.specs.Basics.{ascii}
use Rattle.model.specs.Values.{kind_at, payload_at}
use Rattle.model.specs.Heap.{Cell, item, head, header_of, heap_of, is_head, head_of, cell_in, head_in}
use Rattle.model.specs.Listings.{decimal}
use Rattle.model.specs.Reports.{hex_for, boolean_text, value_text}
use Rattle.cells.proofs.Stands.{length_heap, kind_is, head_is}
use Rattle.printing.specs.Links.{Put}
use Rattle.printing.proofs.Puts.{is, within, both}

-- ---- the header at a cell

abbrev no_elements : Header
no_elements = record { count = 0; number = 0; depth = 0 }

unheaded : (x : Cell) → is_head x ≡ false → head_of x ≡ no_elements
unheaded (item u) e = refl
unheaded (head h) e = absurd (let z : ◌≡◌ {A = ℕ} 0 1 = cc in omega arith)

module _ (w : List ℕ) (used p : ℕ) where
  pub past_cells : used ≤ p → no_elements ≡ head_in (heap_of used w) p
  unfolding head_in cell_in
  past_cells h = sym (ap head_of (get_or-eq_default (heap_of used w) _ (let l = length_heap used w in omega arith)))

  module _ (l : p < used) where
    pub header_there : (h : Header) → h ≡ header_of (payload_at w p) → eqb (kind_at w p) 6 ≡ true → h ≡ head_in (heap_of used w) p
    header_there h e k = e ∙ sym (head_is w used p l (sym (kind_is w used p l) ∙ k))

    pub no_header : eqb (kind_at w p) 6 ≡ false → no_elements ≡ head_in (heap_of used w) p
    unfolding head_in
    no_header k = sym (unheaded (cell_in (heap_of used w) p) (sym (kind_is w used p l) ∙ k))

-- ---- a value

pub struct_is : (number count : ℕ) {s₀ s₁ s₂ : List ℕ} {i₀ i₁ i₂ : ℕ}
    → Put 27 (ascii "struct " ++ decimal number) s₀ i₀ s₁ i₁ → Put 21 (ascii " " ++ decimal count) s₁ i₁ s₂ i₂
    → Put 48 (ascii "struct " ++ decimal number ++ ascii " " ++ decimal count) s₀ i₀ s₂ i₂
struct_is number count p q = is (both p q) (sym (append_assoc (ascii "struct " ++ decimal number) (ascii " ") (decimal count)))

module _ (H : List Cell) {u : Value} {s₀ : List ℕ} {i₀ : ℕ} {s₁ : List ℕ} {i₁ : ℕ} where
  pub scalar_is : {x : Float} → u ≡ v.Scalar x → (w : ℕ) → w ≡ to_bits binary64 x → {s₂ : List ℕ} {i₂ : ℕ}
      → Put 7 (ascii "scalar ") s₀ i₀ s₁ i₁ → Put 16 (hex_for 16 w) s₁ i₁ s₂ i₂ → Put 64 (value_text H u) s₀ i₀ s₂ i₂
  unfolding value_text
  scalar_is e w f p q = rw e (within (both p (rw f at q)) 64 (omega arith))

  pub true_is : {b : Bool} → u ≡ v.Boolean b → b ≡ true → Put 4 (ascii "true") s₀ i₀ s₁ i₁ → Put 64 (value_text H u) s₀ i₀ s₁ i₁
  unfolding value_text boolean_text
  true_is e f p = rw (e, f) (within p 64 (omega arith))

  pub false_is : {b : Bool} → u ≡ v.Boolean b → b ≡ false → Put 5 (ascii "false") s₀ i₀ s₁ i₁ → Put 64 (value_text H u) s₀ i₀ s₁ i₁
  unfolding value_text boolean_text
  false_is e f p = rw (e, f) (within p 64 (omega arith))

  pub string_is : {o n : ℕ} → u ≡ v.String o n → Put 27 (ascii "string " ++ decimal n) s₀ i₀ s₁ i₁ → Put 64 (value_text H u) s₀ i₀ s₁ i₁
  unfolding value_text
  string_is e p = rw e (within p 64 (omega arith))

  pub reference_is : {o n : ℕ} → u ≡ v.FunctionReference o n → Put 29 (ascii "function " ++ decimal n) s₀ i₀ s₁ i₁ → Put 64 (value_text H u) s₀ i₀ s₁ i₁
  unfolding value_text
  reference_is e p = rw e (within p 64 (omega arith))

  module _ {p : ℕ} (h : Header) (f : h ≡ head_in H p) where
    pub list_is : u ≡ v.List p → Put 25 (ascii "list " ++ decimal h.count) s₀ i₀ s₁ i₁ → Put 64 (value_text H u) s₀ i₀ s₁ i₁
    unfolding value_text
    list_is e q = rw (e, ← f) (within q 64 (omega arith))

    pub instance_is : u ≡ v.StructInstance p → Put 48 (ascii "struct " ++ decimal h.number ++ ascii " " ++ decimal h.count) s₀ i₀ s₁ i₁ → Put 64 (value_text H u) s₀ i₀ s₁ i₁
    unfolding value_text
    instance_is e q = rw (e, ← f) (within q 64 (omega arith))
