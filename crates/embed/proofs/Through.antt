-- What the functions over call frames ensure, from what their callees did: each is refused by what crosses, or is the entry's own rule, with the answer in words.
use Rattle.std.specs.Prelude.{if◌then◌else◌, Err, Result}
use mathlib.Core.Path.{◌≡◌, refl, sym, ap, subst, ◌∙◌}
use mathlib.Core.Bool.{Bool, true, false, ◌&&◌}
use mathlib.Core.List.{List, []}
use Prim.Native.Nat.{ℕ}
use lib.Dec.{eqb, leb}
use lib.ListN.{length}
use borrow.Author.Tests.{eq-eqb, eqb-true, ne_eqb}
use Rattle.model.specs.declared.Vm.{Vm}
use Rattle.model.specs.declared.Frame.{Frame}
use Rattle.model.specs.Answers.{refusal_number}
use Rattle.model.specs.Stores.{Stores}
use Rattle.model.specs.Machines.{Lent, RunCall, run_answer, RunPost, StartRes, refusal_of}
use Rattle.embed_words.specs.Coding.{vm_in, record_ok, slices_refusal, out_refusal, at_entry, among, crossed, Coded, run_coded, run_told, started_coded, changed_coded, through, unmade}
use Rattle.embed_words.specs.Coding.{RunThrough, start_through}
use Rattle.laws_embed.proofs.Says.{Says}
use Rattle.model.specs.declared.Halt.{Halt}
use Rattle.model.specs.declared.Refusal.{Refusal}
use Rattle.model.specs.declared.Refusal.TheVariants as why

-- no number comes before 19
no_record_first : (n : ℕ) → 19 ≡ crossed at_entry 19 n
unfolding crossed
no_record_first n = by_either (among at_entry n)
  where
    by_either : (b : Bool) → 19 ≡ (if b && eqb 19 17 then n else 19)
    by_either true = refl
    by_either false = refl

-- what crosses is refused by the number of a refusal
short_as : (own : ℕ) (a b c : Bool) → eqb own 19 ≡ a → eqb own 18 ≡ b → eqb own 25 ≡ c → (e : Refusal) × (refusal_number e ≡ crossed at_entry 17 own)
unfolding crossed among
short_as own true b c p q r = (why.NotInOrder, rw p (sym (eqb-true own 19 p)))
short_as own false true c p q r = (why.NoRunUnderWay, rw (p, q) (sym (eqb-true own 18 q)))
short_as own false false true p q r = (why.RunUnderWay, rw (p, q, r) (sym (eqb-true own 25 r)))
short_as own false false false p q r = (why.ResultTooShort, rw (p, q, r))

crossed_as : (ok fits : Bool) (n own : ℕ) → n ≡ (if ok then (if fits then 0 else 17) else 19) → (n ≡ 0 → ⊥) → (e : Refusal) × (refusal_number e ≡ crossed at_entry n own)
crossed_as true true n own q z = absurd (z q)
crossed_as true false n own q z = rw q (short_as own (eqb own 19) (eqb own 18) (eqb own 25) refl refl refl)
crossed_as false fits n own q z = (why.NotInOrder, rw q (no_record_first own))

slices_as : (w a : List ℕ) (n own : ℕ) → n ≡ slices_refusal w 5 a → (n ≡ 0 → ⊥) → (e : Refusal) × (refusal_number e ≡ crossed at_entry n own)
unfolding slices_refusal
slices_as w a n own e z = crossed_as (record_ok w) (leb 5 (length a)) n own e z

-- ---- a call of a run

module _ (call : RunCall) (w a : List ℕ) (s : Stores) (l : Lent) (n : ℕ) (e : n ≡ slices_refusal w 5 a) where
  pub run_through : n ≡ 0 → (m : Vm) → m ≡ vm_in w → (x : Result Halt Refusal) (l' : Lent) → RunPost call m s l x l' → (c : Coded) → c ≡ run_coded x w a → RunThrough call w a s l c l'
  run_through z m em x l' post c ec = record {
    result = x;
    coded = ec;
    runs = λ y. subst (λ (k : Vm). RunPost call k s l x l') em post;
    refuses = λ y. absurd (y (sym e ∙ z));
  }

  -- `own` was judged
  pub run_refused : (n ≡ 0 → ⊥) → (m : Vm) → m ≡ vm_in w → (own : ℕ) → Says own (refusal_of (run_answer call m s l)) → (k : ℕ)
      → k ≡ crossed at_entry n own → RunThrough call w a s l (record { number = k; vm = w; answer = a }) l
  unfolding run_told
  run_refused z m em own y k ek =
      let r = slices_as w a n own e z in
      record {
        result = Err r.0;
        coded = rw (ek, r.1);
        runs = λ o. absurd (z (e ∙ o));
        refuses = λ o. (r.0, refl, rw (← e, ← em) (r.1 ∙ y.crosses n), refl);
      }

-- ---- changing the setting, which asks no words for an answer: x is what the entry itself answers, of the record's machine

module _ (rule : Vm → Result Vm Refusal) (w : List ℕ) (g : Bool) (e : g ≡ record_ok w) where
  pub change_through : g ≡ true → (m : Vm) → m ≡ vm_in w → (x : Result Vm Refusal) → x ≡ rule m → (c : Coded) → c ≡ changed_coded x w []
      → c ≡ through at_entry (slices_refusal w 0 []) w [] (changed_coded (rule (vm_in w)) w [])
  unfolding through slices_refusal
  change_through y m em x ex c ec = rw (← e, y, ← em, ← ex) ec

  pub change_refused : g ≡ false → record { number = 19; vm = w; answer = [] } ≡ through at_entry (slices_refusal w 0 []) w [] (changed_coded (rule (vm_in w)) w [])
  unfolding through slices_refusal
  change_refused y = rw (← e, y) (ap (λ (n : ℕ). record { number = n; vm = w; answer = [] }) (no_record_first (changed_coded (rule (vm_in w)) w []).number))

-- ---- making a machine

module _ (w a : List ℕ) (s : Stores) (fs : List Frame) (res : StartRes) (n : ℕ) (e : n ≡ out_refusal w 1 a) where
  pub start_through_lem : n ≡ 0 → (x : Result Vm Refusal) (s' : Stores) (fs' : List Frame) → record { answer = x; stores = s'; frames = fs' } ≡ res → (c : Coded)
      → c ≡ started_coded x w a → record { coded = c; stores = s'; frames = fs' } ≡ start_through w a s fs res
  unfolding start_through
  start_through_lem z x s' fs' er c ec = rw (← er, ec, eq-eqb (out_refusal w 1 a) 0 (sym e ∙ z))

  pub start_refused : (n ≡ 0 → ⊥) → (c : Coded) → c ≡ unmade n res.answer w a → record { coded = c; stores = s; frames = fs } ≡ start_through w a s fs res
  unfolding start_through
  start_refused z c ec = rw (ne_eqb (out_refusal w 1 a) 0 (λ y. z (e ∙ y)), ec, e)
