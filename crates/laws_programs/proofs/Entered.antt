-- What each entry answers, way by way; and no second answer fits.
use Rattle.std.specs.Prelude.{if◌then◌else◌, Err, Ok, Result}
use mathlib.Core.Path.{◌≡◌, sym, ap, ◌∙◌}
use mathlib.Core.Bool.{Bool, true, false, not, ◌&&◌}
use mathlib.Core.List.{List, [], ◌∷◌}
use Prim.Native.Nat.{ℕ, ◌≤◌}
use lib.Dec.{leb}
use lib.ListN.{length}
use native.Mathlib.Omega.{arith}
use borrow.Author.Tests.{leb-true, not-true, not-false}
use Rattle.layout.proofs.Bools.{and_left, and_right}
use Rattle.layout.proofs.Parts.{room_1, room_2}
use Rattle.model.specs.declared.Counts.{Counts}
use Rattle.model.specs.declared.Refusal.{Refusal}
use Rattle.model.specs.declared.Refusal.TheVariants as why
use Rattle.model.specs.Values.{places, payload_at, put_words}
use Rattle.model.specs.Programs.{main_name}
use Rattle.model.specs.Basics.{ascii}
use Rattle.model.specs.Stores.{Stores, size, pack, code_word}
use Rattle.model.specs.Orders.{counts_ok, functions_ok}
use Rattle.model.specs.Emission.{Res, counts, written, new_of, end_function_of, current_offset_of}
use Rattle.layout.specs.Links.{Is, names_lent}

-- no second answer fits
pub one_answer_lem : (want : Res) (r r' : Result (Counts × ℕ) Refusal) (s s' : Stores) → Is want r s → Is want r' s' → (r ≡ r') × (s ≡ s')
one_answer_lem want r r' s s' p q =
    let e = p.means ∙ sym q.means in
    (ap (λ (x : Res). x.answer) e, ap (λ (x : Res). x.stores) e)

-- answers that are done alike hold the same counts
pub same_counts : {c d : Counts} {m n : ℕ} → ◌≡◌ {A = Result (Counts × ℕ) Refusal} (Ok (c, m)) (Ok (d, n)) → c ≡ d
same_counts {c} {d} {m} {n} q = let p : ◌≡◌ {A = Counts × ℕ} (c, m) (d, n) = cc in ap (λ (x : Counts × ℕ). x.0) p

-- ---- end_function, current_offset

module _ (running : Bool) (c : Counts) (b : Bool) (e : b ≡ counts_ok c) where
  pub end_19 : not b ≡ true → Err why.NotInOrder ≡ end_function_of running c
  unfolding end_function_of
  end_19 h = rw (← e, not-true b h)

  pub end_25 : not b ≡ false → running ≡ true → Err why.RunUnderWay ≡ end_function_of running c
  unfolding end_function_of
  end_25 h r = rw (← e, not-false b h, r)

  pub ended : not b ≡ false → running ≡ false → Ok (counts c.constants c.structs c.functions c.text 0, 0) ≡ end_function_of running c
  unfolding end_function_of
  ended h r = rw (← e, not-false b h, r)

-- where it is done, main is current and nothing else has changed
done_behind : (b running : Bool) (x d : Counts) (n : ℕ) → ◌≡◌ {A = Result (Counts × ℕ) Refusal} (if b then (if running then Err why.RunUnderWay else Ok (x, 0)) else Err why.NotInOrder) (Ok (d, n)) → x ≡ d
done_behind true true x d n q = absurd (let z : ◌≡◌ {A = ℕ} 0 1 = cc in let y : ⊥ = omega arith in y)
done_behind true false x d n q = same_counts q
done_behind false running x d n q = absurd (let z : ◌≡◌ {A = ℕ} 0 1 = cc in let y : ⊥ = omega arith in y)

pub ended_in_main : (running : Bool) (c d : Counts) (n : ℕ) → end_function_of running c ≡ Ok (d, n) → counts c.constants c.structs c.functions c.text 0 ≡ d
unfolding end_function_of
ended_in_main running c d n q = done_behind (counts_ok c) running _ d n q

module _ (c : Counts) (fs : List ℕ) (a b : Bool) (ea : a ≡ counts_ok c) (eb : b ≡ functions_ok c fs) where
  pub offset_told : (a && b) ≡ true → (w n : ℕ) → w ≡ payload_at fs c.current → n ≡ size w → Ok n ≡ current_offset_of c fs
  unfolding current_offset_of code_word
  offset_told h w n ew en = rw (← ea, ← eb, h, en, ew)

  pub offset_refused : (a && b) ≡ false → Err why.NotInOrder ≡ current_offset_of c fs
  unfolding current_offset_of
  offset_refused h = rw (← ea, ← eb, h)

-- ---- new

module _ (fs t : List ℕ) (a b : ℕ) (ea : a ≡ places 1 t) (eb : b ≡ places 2 fs) where
  pub new_refused : (rest : Stores) → (leb 6 a && leb 1 b) ≡ false → Is (new_of (names_lent rest fs t)) (Err why.StoreFull) (names_lent rest fs t)
  unfolding new_of names_lent
  new_refused rest h = record { means = rw (← ea, ← eb, h) }

  pub new_fits : (leb 6 a && leb 1 b) ≡ true → (6 ≤ length t) × (2 ≤ length fs)
  new_fits h =
      let l : 6 ≤ a = leb-true 6 a (and_left (leb 6 a) (leb 1 b) h) in
      let k : 1 ≤ b = leb-true 1 b (and_right (leb 6 a) (leb 1 b) h) in
      let x = room_1 t in let y = room_2 fs in
      (omega arith, omega arith)

  pub new_done : (rest : Stores) → (leb 6 a && leb 1 b) ≡ true → (fs' t' : List ℕ) (w : ℕ) → t' ≡ written t 0 (60 ∷ 109 ∷ 97 ∷ 105 ∷ 110 ∷ 62 ∷ []) → w ≡ pack 0 6 → fs' ≡ put_words fs 0 w 0
      → Is (new_of (names_lent rest fs t)) (Ok (counts 0 0 1 6 0, 0)) (names_lent rest fs' t')
  unfolding new_of names_lent written put_words main_name ascii
  new_done rest h fs' t' w et ew ef = record { means = rw (← ea, ← eb, h, et, ef, ew) }
