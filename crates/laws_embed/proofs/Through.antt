-- What the functions ensure, from what their callees did: each is refused by what crosses, or is the entry's own rule, with the answer in words.
use Rattle.std.specs.Prelude.{if◌then◌else◌, Err, Ok, Result}
use mathlib.Core.Path.{◌≡◌, refl, sym, ap, ◌∙◌}
use mathlib.Core.Bool.{Bool, true, false}
use mathlib.Core.List.{List, [], ◌++◌, append-nil}
use Prim.Native.Nat.{ℕ, zero, suc, ◌≤◌}
use native.Mathlib.Omega.{arith}
use lib.Dec.{eqb}
use lib.ListN.{length, take, drop}
use lib.Seq.{take-length, drop-length, length-take-le}
use borrow.Author.Tests.{eq-eqb, ne_eqb}
use Rattle.model.specs.declared.Vm.{Vm}
use Rattle.model.specs.declared.Value.{Value}
use Rattle.model.specs.Answers.{answer_number}
use Rattle.model.specs.Stores.{Stores}
use Rattle.model.specs.Emission.{Res}
use Rattle.model.specs.Loading.{OutRes, save_of, list_of}
use Rattle.model.specs.Readers.{text_bytes_of}
use Rattle.embed_words.specs.Coding.{vm_in, slices_refusal, at_entry, at_listing, crossed, Coded, emitted_coded, told_coded}
use Rattle.embed_words.specs.Coding.{out_through, through, emit_through}
use Rattle.laws_embed.proofs.Says.{Says}
use Rattle.laws_embed.proofs.Foretells.{Foretells, save_foretells, list_foretells, text_foretells}
use Rattle.model.specs.declared.Counts.{Counts}
use Rattle.model.specs.declared.Refusal.{Refusal}

emitted_coded_lem : (x : Result (Counts × ℕ) Refusal) (w a : List ℕ) → answer_number x ≡ (emitted_coded x w a).number
unfolding emitted_coded
emitted_coded_lem (Ok (c, n)) w a = refl
emitted_coded_lem (Err e) w a = refl

told_coded_lem : (x : Result ℕ Refusal) (w a : List ℕ) → answer_number x ≡ (told_coded x w a).number
unfolding told_coded
told_coded_lem (Ok n) w a = refl
told_coded_lem (Err e) w a = refl

-- c is what the entry itself does
module _ (firsts : List ℕ) (why : ℕ) (w a : List ℕ) (c : Coded) where
  goes_through : why ≡ 0 → {d : Coded} → d ≡ c → d ≡ through firsts why w a c
  unfolding through
  goes_through z e = rw (eq-eqb why 0 z) e

  held_up : (why ≡ 0 → ⊥) → {own n : ℕ} → own ≡ c.number → n ≡ crossed firsts why own → record { number = n; vm = w; answer = a } ≡ through firsts why w a c
  unfolding through
  held_up z e f = rw (ne_eqb why 0 z, f, e)

-- ---- an entry that changes no store but the record and the answer: its rule of the record's machine, coded

module _ (firsts w a : List ℕ) (n : ℕ) {why : ℕ} (e : n ≡ why) {m : Vm} (em : m ≡ vm_in w) where
  pub is_through : {A : Type 0} (rule : Vm → A) (coded : A → List ℕ → List ℕ → Coded) → {x : A} → x ≡ rule m → {c : Coded}
      → c ≡ through firsts n w a (coded x w a) → c ≡ through firsts why w a (coded (rule (vm_in w)) w a)
  is_through rule coded er ec = rw (ec, er, em, e)

-- ---- emission

module _ (w a : List ℕ) (n : ℕ) {why : ℕ} (e : n ≡ why) {m : Vm} (em : m ≡ vm_in w) (rule : Vm → Result (Counts × ℕ) Refusal) where
  pub emits : n ≡ 0 → {x : Result (Counts × ℕ) Refusal} → x ≡ rule m → {c : Coded} → c ≡ emitted_coded x w a
      → c ≡ through at_entry why w a (emitted_coded (rule (vm_in w)) w a)
  emits z er ec = rw (← e, ← em, ← er) (goes_through at_entry n w a _ z ec)

  -- `own` was judged
  pub emits_not : (n ≡ 0 → ⊥) → (own : ℕ) → Says own (answer_number (rule m)) → {k : ℕ} → k ≡ crossed at_entry n own
      → record { number = k; vm = w; answer = a } ≡ through at_entry why w a (emitted_coded (rule (vm_in w)) w a)
  emits_not z own y ek =
      rw (← e, ← em) (held_up at_entry n w a _ z (emitted_coded_lem (rule m) w a) (ek ∙ y.crosses n))

module _ (w a : List ℕ) (n : ℕ) (e : n ≡ slices_refusal w 1 a) (s : Stores) (rule : Vm → Res) where
  pub emit_through_lem : n ≡ 0 → {m : Vm} → m ≡ vm_in w → {x : Result (Counts × ℕ) Refusal} {s' : Stores} → record { answer = x; stores = s' } ≡ rule m → {c : Coded}
      → c ≡ emitted_coded x w a → record { coded = c; stores = s' } ≡ emit_through w a s rule
  unfolding emit_through through
  emit_through_lem z em er ec = rw (← em, ← er, ec, eq-eqb (slices_refusal w 1 a) 0 (sym e ∙ z))

  pub emit_refused : (n ≡ 0 → ⊥) → {m : Vm} → m ≡ vm_in w → (own : ℕ) → Says own (answer_number (rule m).answer) → {k : ℕ}
      → k ≡ crossed at_entry n own → record { coded = record { number = k; vm = w; answer = a }; stores = s } ≡ emit_through w a s rule
  unfolding emit_through
  emit_refused z em own y ek =
      rw (ne_eqb (slices_refusal w 1 a) 0 (λ o. z (e ∙ o)), ← emits_not w a n e em (λ x. (rule x).answer) z own y ek)

-- ---- an entry that tells a number

module _ (w a out : List ℕ) (rule : Vm → OutRes) (n : ℕ) {why : ℕ} (e : n ≡ why) where
  pub out_through_lem : n ≡ 0 → (m : Vm) → m ≡ vm_in w → (x : Result ℕ Refusal) (out' : List ℕ) → record { answer = x; out = out' } ≡ rule m → (c : Coded) → c ≡ told_coded x w a
      → record { coded = c; out = out' } ≡ out_through at_entry why w a out rule
  unfolding out_through through
  out_through_lem z m em x out' er c ec = rw (← em, ← er, ec, eq-eqb why 0 (sym e ∙ z))

  -- `own` was judged
  pub out_refused : (n ≡ 0 → ⊥) → (m : Vm) → m ≡ vm_in w → (own : ℕ) → Says own (answer_number (rule m).answer) → (k : ℕ) → k ≡ crossed at_entry n own
      → record { coded = record { number = k; vm = w; answer = a }; out = out } ≡ out_through at_entry why w a out rule
  unfolding out_through
  out_refused z m em own y k ek =
      let h = held_up at_entry n w a (told_coded (rule m).answer w a) z (told_coded_lem (rule m).answer w a) (ek ∙ y.crosses n) in rw (← e, ← em, ne_eqb n 0 z, ← h)

at_most : (b : Bool) (size : ℕ) → (if b then size else 0) ≤ size
at_most true size = omega arith
at_most false size = omega arith

pub room_fits : (n size : ℕ) {k : ℕ} → k ≡ (if eqb n 0 then size else 0) → k ≤ size
room_fits n size e = rw e (at_most (eqb n 0) size)

pub room_taken : (n : ℕ) (out : List ℕ) {k : ℕ} → k ≡ (if eqb n 0 then length out else 0) → k ≡ length (take k out)
room_taken n out e = sym (length-take-le _ out (room_fits n (length out) e))

-- it is lent k places of the result store: all, or none where what crosses is refused
module _ (firsts w a out : List ℕ) (rule : Vm → List ℕ → OutRes) {m : Vm} (em : m ≡ vm_in w) {k : ℕ} {x : Result ℕ Refusal} {out' : List ℕ}
    (er : record { answer = x; out = out' } ≡ rule m (take k out)) where
  lent_all_lem : k ≡ length out → {c : Coded} → c ≡ through firsts 0 w a (told_coded x w a) → record { coded = c; out = out' ++ drop k out } ≡ out_through firsts 0 w a out (λ y. rule y out)
  unfolding out_through
  lent_all_lem ek ec =
      let f : record { answer = x; out = out' } ≡ rule m out = er ∙ ap (rule m) (ap (λ (i : ℕ). take i out) ek ∙ take-length out) in
      rw (ek, drop-length out, append-nil out', ← em, ← f, ec)

  lent_none : k ≡ 0 → Foretells firsts (rule m) → {n : ℕ} → (n ≡ 0 → ⊥) → {c : Coded} → c ≡ through firsts n w a (told_coded x w a)
      → record { coded = c; out = out' ++ drop k out } ≡ out_through firsts n w a out (λ y. rule y out)
  unfolding out_through through
  lent_none ek same {n} z ec =
      let f : record { answer = x; out = out' } ≡ rule m [] = er ∙ ap (λ (i : ℕ). rule m (take i out)) ek in
      let told : x ≡ (rule m []).answer = ap (λ (y : OutRes). y.answer) f in
      let empty : out' ≡ [] = ap (λ (y : OutRes). y.out) f ∙ same.nothing in
      let number : crossed firsts n (told_coded x w a).number ≡ crossed firsts n (told_coded (rule m out).answer w a).number
      = rw (← told_coded_lem x w a, ← told_coded_lem (rule m out).answer w a, told) (same.number out n) in
      rw (ek, empty, ← em, ec, ne_eqb n 0 z, number)

  pub lent_through : {why : ℕ} (n : ℕ) → n ≡ why → k ≡ (if eqb n 0 then length out else 0) → Foretells firsts (rule m) → {c : Coded}
      → c ≡ through firsts n w a (told_coded x w a) → record { coded = c; out = out' ++ drop k out } ≡ out_through firsts why w a out (λ y. rule y out)
  lent_through zero e ek same ec = rw (← e) (lent_all_lem ek ec)
  lent_through (suc n) e ek same ec =
      let z : suc n ≡ 0 → ⊥ = λ y. omega arith in
      let f : k ≡ 0 = ek ∙ rw (ne_eqb (suc n) 0 z) in
      rw (← e) (lent_none f same z ec)

module _ (w a out : List ℕ) {m : Vm} (em : m ≡ vm_in w) {k : ℕ} {x : Result ℕ Refusal} {out' : List ℕ} {why : ℕ} (n : ℕ) (e : n ≡ why)
    (ek : k ≡ (if eqb n 0 then length out else 0)) {c : Coded} where
  pub save_through : (s : Stores) → record { answer = x; out = out' } ≡ save_of m.program s (take k out) → c ≡ through at_entry n w a (told_coded x w a)
      → record { coded = c; out = out' ++ drop k out } ≡ out_through at_entry why w a out (λ (y : Vm). save_of y.program s out)
  save_through s er ec = lent_through at_entry w a out (λ (y : Vm). save_of y.program s) em er n e ek (save_foretells m.program s) ec

  pub list_through : (s : Stores) → record { answer = x; out = out' } ≡ list_of m.program s (take k out) → c ≡ through at_listing n w a (told_coded x w a)
      → record { coded = c; out = out' ++ drop k out } ≡ out_through at_listing why w a out (λ (y : Vm). list_of y.program s out)
  list_through s er ec = lent_through at_listing w a out (λ (y : Vm). list_of y.program s) em er n e ek (list_foretells m.program s) ec

  pub text_through : (z : Value) {u : Value} → u ≡ z → (text : List ℕ) → record { answer = x; out = out' } ≡ text_bytes_of m u text (take k out)
      → c ≡ through at_entry n w a (told_coded x w a) → record { coded = c; out = out' ++ drop k out } ≡ out_through at_entry why w a out (λ (y : Vm). text_bytes_of y z text out)
  text_through z ez text er ec =
      let f = er ∙ ap (λ (u : Value). text_bytes_of m u text (take k out)) ez in
      lent_through at_entry w a out (λ (y : Vm). text_bytes_of y z text) em f n e ek (text_foretells m z text) ec
