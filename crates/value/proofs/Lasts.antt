-- The last result as two words, and back.
use mathlib.Core.Path.{◌≡◌, refl, ap}
use mathlib.Core.Bool.{false}
use Prim.Native.Nat.{ℕ}
use borrow.Author.Tests.{eq-eqb, ne_eqb}
use lib.Dec.{eqb}
use Rattle.model.specs.declared.Value.{Value}
use Rattle.model.specs.declared.Value.TheVariants as v
use Rattle.model.specs.Values.{value_of, kind, payload}
use Rattle.value.specs.Links.{PayloadOf, last_in, last_kind, last_payload, Fine}
use Rattle.value.proofs.Coding.{words_value}
use Rattle.std.specs.Prelude.{None, Option, Some}

-- ---- from its words

module _ (k a : ℕ) where
  pub last_none : k ≡ 7 → None ≡ last_in k a
  unfolding last_in
  last_none e = rw (eq-eqb _ _ e)

  pub last_some : (k ≡ 7 → ⊥) → {x : Value} → x ≡ value_of k a → Some x ≡ last_in k a
  unfolding last_in
  last_some h e = rw (ne_eqb _ _ h, e)

-- ---- to its words

-- no value has the kind that stands for no last result
no_kind : (x : Value) → eqb (kind x) 7 ≡ false
no_kind (v.Scalar x) = refl
no_kind (v.Boolean x) = refl
no_kind (v.String o n) = refl
no_kind (v.FunctionReference o n) = refl
no_kind (v.List p) = refl
no_kind (v.StructInstance p) = refl

pub last_words : (x : Value) → Fine x → last_in (kind x) (payload x) ≡ Some x
unfolding last_in
last_words x f = rw (no_kind x) (ap Some (words_value x f))

module _ {last : Option Value} where
  pub kind_none : last ≡ None → 7 ≡ last_kind last
  unfolding last_kind
  kind_none e = rw e

  pub kind_some : {x : Value} → last ≡ Some x → {k : ℕ} → k ≡ kind x → k ≡ last_kind last
  unfolding last_kind
  kind_some e f = rw e f

  pub payload_none : last ≡ None → (0 ≡ last_payload last) × (last_in (last_kind last) 0 ≡ last)
  unfolding last_in last_kind last_payload
  payload_none e = (rw e, rw e)

  pub payload_some : {x : Value} → last ≡ Some x → {a : ℕ} → PayloadOf x a → (a ≡ last_payload last) × (last_in (last_kind last) a ≡ last)
  unfolding last_in last_kind last_payload
  payload_some {x} e p = (rw e p.is, rw (e, p.is) (last_words x p.fine))
