-- The entries' answers in words, and the record that they leave.
use mathlib.Core.Path.{◌≡◌, refl, sym, ap, ◌∙◌}
use mathlib.Core.Bool.{true}
use mathlib.Core.List.{List}
use mathlib.Core.Option.{none, some}
use Prim.Native.Nat.{ℕ, ◌≤◌}
use native.Mathlib.Omega.{arith}
use lib.ListN.{length}
use Rattle.model.specs.declared.Vm.{Vm}
use Rattle.model.specs.declared.Value.{Value}
use Rattle.model.specs.declared.Halt.TheVariants as r
use Rattle.model.specs.Basics.{written}
use Rattle.model.specs.Stores.{Stores}
use Rattle.model.specs.Loading.{OutRes}
use Rattle.model.specs.Machines.{Lent, under_in, progress_in, run_order, answer_in, Left}
use Rattle.embed_words.specs.Coding.{vm_in, vm_words, record_ok, FineLast, TypedLast, Coded, run_words, run_coded, run_told, started_coded, started_told, changed_coded, changed_told, emitted_coded, told_coded, shown_coded, headed_coded}
use Rattle.embed_words.proofs.Back.{record_back}
use Rattle.demands.specs.Host.{counted, replaced, with_setting, vm_after, Answer, ran, emitted, started, changed, told, put, shown, headed}
use Rattle.demands.specs.Refusals.{refused_by}
use Rattle.demands.proofs.OneRun.{length_entries}
use Rattle.laws_hosts.specs.Crossed.{number_of, answer_words}
use Rattle.laws_hosts.proofs.Records.{order_fine, recounted}
use Rattle.std.specs.Prelude.{Err, Ok, Result}
use Rattle.model.specs.declared.Counts.{Counts}
use Rattle.model.specs.declared.Header.{Header}
use Rattle.model.specs.declared.Halt.{Halt}
use Rattle.model.specs.declared.Refusal.{Refusal}
use Rattle.model.specs.declared.Refusal.TheVariants as why

-- over the record's words w, the words c tell the answer x, and their record is of m
pub record CodedAs (w a : List ℕ) (x : Answer) (m : Vm) (c : Coded) : Type 0 where
  pub machine : vm_in c.vm ≡ m
  pub taken : record_ok w ≡ true → record_ok c.vm ≡ true
  pub number : c.number ≡ number_of (refused_by x)
  pub words : c.answer ≡ written a 0 (answer_words x)
  pub kept : (n : ℕ) → refused_by x ≡ some n → c.vm ≡ w

not_refused : {A : Type 0} {n : ℕ} → none ≡ some n → A
not_refused e = absurd (let z : ◌≡◌ {A = ℕ} 0 1 = cc in let y : ⊥ = omega arith in y)

module _ (w a : List ℕ) where
  pub emitted_as_lem : 17 ≤ length w → (x : Result (Counts × ℕ) Refusal) → CodedAs w a (emitted x) (counted (vm_in w) x) (emitted_coded x w a)
  unfolding emitted_coded written
  emitted_as_lem l (Ok (c, n)) = let z = recounted c w l in record { machine = z.machine; taken = λ ok. z.taken ∙ ok; number = refl; words = refl; kept = λ i y. not_refused y }
  emitted_as_lem l (Err e) = record { machine = refl; taken = λ ok. ok; number = refl; words = refl; kept = λ i y. refl }

  pub started_as_lem : 17 ≤ length w → (x : Result Vm Refusal) → ((m : Vm) → x ≡ Ok m → FineLast m.last) → CodedAs w a (started x) (replaced (vm_in w) x) (started_coded x w a)
  unfolding started_told written
  started_as_lem l (Ok m) f = let z = record_back w m l (f m refl) in record { machine = z.machine; taken = λ ok. z.taken; number = refl; words = refl; kept = λ i y. not_refused y }
  started_as_lem l (Err (why.BrokenImage i)) f = record { machine = refl; taken = λ ok. ok; number = refl; words = refl; kept = λ i y. refl }
  started_as_lem l (Err e) f = record { machine = refl; taken = λ ok. ok; number = refl; words = refl; kept = λ i y. refl }

  pub changed_as : 17 ≤ length w → (x : Result Vm Refusal) → ((m : Vm) → x ≡ Ok m → FineLast m.last) → CodedAs w a (changed x) (with_setting (vm_in w) x) (changed_coded x w a)
  unfolding changed_told written
  changed_as l (Ok m) f = let z = record_back w m l (f m refl) in record { machine = z.machine; taken = λ ok. z.taken; number = refl; words = refl; kept = λ i y. not_refused y }
  changed_as l (Err e) f = record { machine = refl; taken = λ ok. ok; number = refl; words = refl; kept = λ i y. refl }

  pub told_as : (x : Result ℕ Refusal) → CodedAs w a (told x) (vm_in w) (told_coded x w a)
  unfolding told_coded written
  told_as (Ok n) = record { machine = refl; taken = λ ok. ok; number = refl; words = refl; kept = λ i y. refl }
  told_as (Err e) = record { machine = refl; taken = λ ok. ok; number = refl; words = refl; kept = λ i y. refl }

  pub put_as : (out : List ℕ) (x : OutRes) → CodedAs w a (put out x) (vm_in w) (told_coded x.answer w a)
  put_as out x = let z = told_as x.answer in record { machine = z.machine; taken = z.taken; number = z.number; words = z.words; kept = z.kept }

  pub shown_as_lem : (x : Result Value Refusal) → CodedAs w a (shown x) (vm_in w) (shown_coded x w a)
  unfolding shown_coded written
  shown_as_lem (Ok v) = record { machine = refl; taken = λ ok. ok; number = refl; words = refl; kept = λ i y. refl }
  shown_as_lem (Err e) = record { machine = refl; taken = λ ok. ok; number = refl; words = refl; kept = λ i y. refl }

  pub headed_as : (x : Result Header Refusal) → CodedAs w a (headed x) (vm_in w) (headed_coded x w a)
  unfolding headed_coded written
  headed_as (Ok x) = record { machine = refl; taken = λ ok. ok; number = refl; words = refl; kept = λ i y. refl }
  headed_as (Err e) = record { machine = refl; taken = λ ok. ok; number = refl; words = refl; kept = λ i y. refl }

-- a part of a run: what it leaves is in good order, so that its last result fits two words
module _ (w a : List ℕ) (long : 17 ≤ length w) (s : Stores) (l l' : Lent) where
  left_as : (m : Vm) (x : Answer) (c : Coded) → run_order m s l' ≡ true → TypedLast m.last → c.vm ≡ written w 0 (vm_words m) → refused_by x ≡ none → c.number ≡ number_of (refused_by x)
      → c.answer ≡ written a 0 (answer_words x) → CodedAs w a x m c
  left_as m x c o t ev er en ea =
      let z = record_back w m long (order_fine m s l' o t) in
      record { machine = ap vm_in ev ∙ z.machine; taken = λ ok. ap record_ok ev ∙ z.taken; number = en; words = ea; kept = λ i y. not_refused (sym er ∙ y) }

  pub ran_as : (x : Result Halt Refusal) → Left s l x l' → TypedLast (vm_after (vm_in w) x).last → CodedAs w a (ran (answer_in l' x)) (vm_after (vm_in w) x) (run_coded x w a)
  unfolding run_told run_words answer_in under_in progress_in written
  ran_as (Ok (r.Value m v n)) y t = left_as m _ _ y.order t refl refl refl refl
  ran_as (Ok (r.Continue m n)) y t = left_as m _ _ y.order t refl refl refl refl
  ran_as (Ok (r.Fault m k n j)) y t = left_as m _ _ y.order t refl refl refl (rw (length_entries j 0 l'.backtrace))
  ran_as (Ok (r.Paused m)) y t = left_as m _ _ y.order t refl refl refl refl
  ran_as (Err e) y t = record { machine = refl; taken = λ ok. ok; number = refl; words = refl; kept = λ i y. refl }
