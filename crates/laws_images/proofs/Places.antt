-- Places of code: the runs that are written of them read back as them, and whatever runs read are those of the places read.
use mathlib.Core.Path.{◌≡◌, refl, sym, ap, subst, ◌∙◌}
use mathlib.Core.Bool.{true, not, ◌&&◌}
use mathlib.Core.List.{List, [], ◌∷◌, ◌++◌, append_assoc}
use Prim.Native.Nat.{ℕ, zero, suc, ◌-◌, ◌<◌, ◌≤◌}
use native.Mathlib.Omega.{arith}
use lib.Dec.{ltb, leb, eqb}
use lib.ListN.{length, replicate, length-append, length-replicate}
use borrow.Author.Tests.{lt-ltb, ltb-true, le-leb, leb-true, eq-eqb, ne_eqb, eqb-true, eqb-false, not-true}
use Rattle.model.specs.Numbers.{got, and_then, digits, Bytes, Codes}
use Rattle.model.specs.Images.{joined, Run, run, join_run, runs_of, run_image, no_place, read_run_bytes, read_run_place, read_runs, Small, AllSmall}
use Rattle.number.proofs.Codes.{number_codes, never}
use Rattle.layout.proofs.Bools.{either_way, both_true}
use Rattle.laws_images.proofs.Codecs.{got_value, got_rest, then_only, made_only, bytes_rest, codes_item, codes_checked}

-- ---- runs, and the places that they give

unfoldable spread : List Run → List ℕ
spread [] = []
spread (r ∷ l) = replicate r.bytes r.place ++ spread l

-- runs of `left` bytes behind the place q: none empty, neighbours with different places
unfoldable Runs : ℕ → ℕ → List Run → Type 0
Runs left q [] = left ≡ 0
Runs left q (r ∷ l) = ((0 < r.bytes) × ((r.bytes ≤ left) × (Small r.place × (q ≡ r.place → ⊥)))) × Runs (left - r.bytes) r.place l

-- the first place is not q
unfoldable Apart : ℕ → List ℕ → Type 0
Apart q [] = Unit
Apart q (p ∷ ps) = q ≡ p → ⊥

-- the places of runs are as many as their bytes, and small
spread_length : (left q : ℕ) (l : List Run) → Runs left q l → length (spread l) ≡ left
unfolding spread Runs
spread_length left q [] h = sym h
spread_length left q (r ∷ l) h =
    let ih = spread_length (left - r.bytes) r.place l h.1 in
    let a = length-append (replicate r.bytes r.place) (spread l) in let b = length-replicate r.bytes r.place in let k = h.0.1.0 in
    omega arith

small_append : (a b : List ℕ) → AllSmall a → AllSmall b → AllSmall (a ++ b)
unfolding AllSmall
small_append [] b x y = y
small_append (p ∷ a) b x y = (x.0, small_append a b x.1 y)

small_replicate : (n p : ℕ) → Small p → AllSmall (replicate n p)
unfolding AllSmall
small_replicate zero p h = tt
small_replicate (suc n) p h = (h, small_replicate n p h)

spread_small : (left q : ℕ) (l : List Run) → Runs left q l → AllSmall (spread l)
unfolding spread Runs AllSmall
spread_small left q [] h = tt
spread_small left q (r ∷ l) h = small_append (replicate r.bytes r.place) (spread l) (small_replicate r.bytes r.place h.0.1.1.0) (spread_small (left - r.bytes) r.place l h.1)

-- a run of one place more
pub joins : (n p : ℕ) (ps : List ℕ) (l : List Run) → runs_of ps ≡ l → ((r : Run) (m : List Run) → l ≡ r ∷ m → p ≡ r.place → ⊥)
    → runs_of (replicate (suc n) p ++ ps) ≡ run (suc n) p ∷ l
unfolding runs_of join_run
joins zero p ps [] e d = rw e
joins zero p ps (r ∷ m) e d = rw (e, ne_eqb p r.place (d r m refl))
joins (suc n) p ps l e d = rw (joins n p ps l e d, eq-eqb p p refl)

other_place : (k q : ℕ) (l : List Run) → Runs k q l → (x : Run) (m : List Run) → l ≡ x ∷ m → q ≡ x.place → ⊥
unfolding Runs
other_place k q l g x m e = let g' : Runs k q (x ∷ m) = subst (Runs k q) e g in g'.0.1.1.1

runs_some : (n : ℕ) (r : Run) (l : List Run) → 0 < n → n ≡ r.bytes → runs_of (spread l) ≡ l → ((x : Run) (m : List Run) → l ≡ x ∷ m → r.place ≡ x.place → ⊥)
    → runs_of (replicate n r.place ++ spread l) ≡ r ∷ l
runs_some zero r l p e ih d = absurd (let w : ⊥ = omega arith in w)
runs_some (suc n) r l p e ih d = joins n r.place (spread l) l ih d ∙ ap (λ (k : ℕ). run k r.place ∷ l) e

runs_of_spread : (left q : ℕ) (l : List Run) → Runs left q l → runs_of (spread l) ≡ l
unfolding spread Runs runs_of
runs_of_spread left q [] h = refl
runs_of_spread left q (r ∷ l) h =
    runs_some r.bytes r l h.0.0 refl (runs_of_spread (left - r.bytes) r.place l h.1) (other_place (left - r.bytes) r.place l h.1)

-- the runs of places are runs, and give the places
runs_good : (ps : List ℕ) (q : ℕ) → AllSmall ps → Apart q ps → (spread (runs_of ps) ≡ ps) × Runs (length ps) q (runs_of ps)
unfolding spread Runs runs_of join_run AllSmall Apart
runs_good [] q s d = (refl, refl)
runs_good (p ∷ []) q s d = (refl, ((let z : 0 < 1 = omega arith in z, (let z : 1 ≤ 1 = omega arith in z, (s.0, d))), refl))
runs_good (p ∷ (p' ∷ ps)) q s d = more (runs_of (p' ∷ ps)) (λ q' d'. runs_good (p' ∷ ps) q' s.1 d') (runs_good (p' ∷ ps) no_place s.1 (λ e. let z = s.1.0 in omega arith))
  where
    more : (l : List Run) → ((q' : ℕ) → (q' ≡ p' → ⊥) → (spread l ≡ p' ∷ ps) × Runs (suc (length ps)) q' l) → (spread l ≡ p' ∷ ps) × Runs (suc (length ps)) no_place l
        → (spread (join_run p l) ≡ p ∷ p' ∷ ps) × Runs (suc (suc (length ps))) q (join_run p l)
    more [] f g = absurd (let z : suc (length ps) ≡ 0 = g.1 in let w : ⊥ = omega arith in w)
    more (r ∷ l) f g =
        let same : (n : ℕ) → 0 < n → replicate n r.place ++ spread l ≡ p' ∷ ps → r.place ≡ p' = λ n. first n in
        either_way (eqb p r.place)
        (λ t. let e : p ≡ r.place = eqb-true p r.place t in
        let b0 = g.1.0.0 in let b1 = g.1.0.1.0 in
        let z : suc (suc (length ps)) - suc r.bytes ≡ suc (length ps) - r.bytes = omega arith in
        rw t (
          ap (λ (x : List ℕ). p ∷ x) (ap (λ (k : ℕ). replicate r.bytes k ++ spread l) e ∙ g.0),
          (
            (let y : 0 < suc r.bytes = omega arith in y, (let y : suc r.bytes ≤ suc (suc (length ps)) = omega arith in y, (s.0, d))),
            rw (z, e) g.1.1,
          ),
        ))
        (λ t. let n : p ≡ r.place → ⊥ = eqb-false p r.place t in
        let h = f p (λ e. n (e ∙ sym (same r.bytes g.1.0.0 g.0))) in
        rw t (
          ap (λ (x : List ℕ). p ∷ x) h.0,
          (
            (let y : 0 < 1 = omega arith in y, (let y : 1 ≤ suc (suc (length ps)) = omega arith in y, (s.0, d))),
            subst (λ (k : ℕ). Runs k p (r ∷ l)) (let y : suc (length ps) ≡ suc (suc (length ps)) - 1 = omega arith in y) h.1,
          ),
        ))
      where
        first : (n : ℕ) → 0 < n → replicate n r.place ++ spread l ≡ p' ∷ ps → r.place ≡ p'
        first zero z e = absurd (let w : ⊥ = omega arith in w)
        first (suc n) z e = cc

-- ---- reading

codes_run_bytes : (left : ℕ) → Codes (λ n. Small n × ((ltb 0 n && leb n left) ≡ true)) digits (read_run_bytes left)
unfolding read_run_bytes
codes_run_bytes left = codes_item (codes_checked number_codes (λ n. ltb 0 n && leb n left))

codes_run_place : (q : ℕ) → Codes (λ p. Small p × (not (eqb q p) ≡ true)) digits (read_run_place q)
unfolding read_run_place
codes_run_place q = codes_item (codes_checked number_codes (λ p. not (eqb q p)))

runs_back : (fuel left q : ℕ) (l : List Run) (r : List ℕ) → left ≤ fuel → Small left → Runs left q l
    → read_runs fuel left q (joined run_image l ++ r) ≡ got (spread l) r
unfolding read_runs joined Runs run_image and_then spread
runs_back zero left q [] r h s g = rw (eq-eqb left 0 g)
runs_back zero left q (x ∷ l) r h s g = absurd (let a = g.0.0 in let b = g.0.1.0 in let w : ⊥ = omega arith in w)
runs_back (suc fuel) left q [] r h s g = rw (eq-eqb left 0 g)
runs_back (suc fuel) left q (x ∷ l) r h s g =
    let a = g.0.0 in let b = g.0.1.0 in
    let t : (ltb 0 x.bytes && leb x.bytes left) ≡ true = rw (lt-ltb 0 x.bytes a, le-leb x.bytes left b) in
    let u : not (eqb q x.place) ≡ true = rw (ne_eqb q x.place g.0.1.1.1) in
    let ih = runs_back fuel (left - x.bytes) x.place l r (omega arith) (omega arith) g.1 in
    rw (
      ne_eqb left 0 (λ e. omega arith),
      append_assoc,
      append_assoc,
      (codes_run_bytes left).back x.bytes (digits x.place ++ (joined run_image l ++ r)) (omega arith, t),
      (codes_run_place q).back x.place (joined run_image l ++ r) (g.0.1.1.0, u),
      ih,
    )

Read : ℕ → ℕ → List ℕ → List ℕ → List ℕ → Type 0
Read left q b ps r = (l : List Run) × (b ≡ joined run_image l ++ r) × (ps ≡ spread l) × Runs left q l

runs_none : (left q : ℕ) (b ps r : List ℕ) → left ≡ 0 → got [] b ≡ got ps r → Read left q b ps r
unfolding Read joined spread Runs
runs_none left q b ps r z e = ([], got_rest e, sym (got_value e), z)

runs_one : (left q : ℕ) (b ps r : List ℕ) (n p : ℕ) (b1 b2 ps1 : List ℕ) → b ≡ digits n ++ b1 → b1 ≡ digits p ++ b2 → 0 < n → n ≤ left → Small p → (q ≡ p → ⊥)
    → replicate n p ++ ps1 ≡ ps → Read (left - n) p b2 ps1 r → Read left q b ps r
unfolding Read joined spread Runs run_image
runs_one left q b ps r n p b1 b2 ps1 e1 e2 z f s d e ih = (
  run n p ∷ ih.0,
  e1 ∙ ap (λ (x : List ℕ). digits n ++ x) (e2 ∙ ap (λ (x : List ℕ). digits p ++ x) ih.1)
      ∙ sym (append_assoc (digits n) (digits p) (joined run_image ih.0 ++ r))
      ∙ sym (append_assoc (digits n ++ digits p) (joined run_image ih.0) r),
  sym e ∙ ap (λ (x : List ℕ). replicate n p ++ x) ih.2,
  ((z, (f, (s, d))), ih.3),
)

runs_only : (fuel left q : ℕ) (b ps r : List ℕ) → Bytes b → read_runs fuel left q b ≡ got ps r → Read left q b ps r
unfolding read_runs
runs_only zero left q b ps r y e = either_way (eqb left 0) (λ t. runs_none left q b ps r (eqb-true left 0 t) (rw t at e)) (λ t. absurd (never (rw t at e)))
runs_only (suc fuel) left q b ps r y e = either_way (eqb left 0)
    (λ t. runs_none left q b ps r (eqb-true left 0 t) (rw t at e))
    (λ t. let g1 = then_only (read_run_bytes left b) _ ps r (rw t at e) in
    let o1 = (codes_run_bytes left).only b g1.0 g1.1 y g1.2 in
    let y1 = bytes_rest (digits g1.0) g1.1 (subst Bytes o1.0 y) in
    let g2 = then_only (read_run_place q g1.1) _ ps r g1.3 in
    let o2 = (codes_run_place q).only g1.1 g2.0 g2.1 y1 g2.2 in
    let y2 = bytes_rest (digits g2.0) g2.1 (subst Bytes o2.0 y1) in
    let m = made_only (λ x. replicate g1.0 g2.0 ++ x) (read_runs fuel (left - g1.0) g2.0 g2.1) ps r g2.3 in
    let ih = runs_only fuel (left - g1.0) g2.0 g2.1 m.0 r y2 m.2 in
    let n = both_true _ _ o1.1.1 in
    runs_one left q b ps r g1.0 g2.0 g1.1 g2.1 m.0 o1.0 o2.0 (ltb-true 0 g1.0 n.0) (leb-true g1.0 left n.1) o2.1.0
    (eqb-false q g2.0 (not-true _ o2.1.1)) m.1 ih)

apart : (ps : List ℕ) → AllSmall ps → Apart no_place ps
unfolding AllSmall Apart
apart [] h = tt
apart (p ∷ ps) h = λ e. let z = h.0 in omega arith

-- PLACES: the runs of a code of n bytes
pub codes_places : (n : ℕ) → Small n → Codes (λ ps. (length ps ≡ n) × AllSmall ps) (λ ps. joined run_image (runs_of ps)) (read_runs n n no_place)
unfolding Read
codes_places n s = record {
  back = λ ps r h.
      let g = runs_good ps no_place h.1 (apart ps h.1) in
      runs_back n n no_place (runs_of ps) r (omega arith) s (subst (λ (k : ℕ). Runs k no_place (runs_of ps)) h.0 g.1) ∙ ap (λ (x : List ℕ). got x r) g.0;
  only = λ b ps r y e.
      let g = runs_only n n no_place b ps r y e in (
        g.1 ∙ ap (λ (x : List Run). joined run_image x ++ r) (sym (ap runs_of g.2 ∙ runs_of_spread n no_place g.0 g.3)),
        (ap length g.2 ∙ spread_length n no_place g.0 g.3, subst AllSmall (sym g.2) (spread_small n no_place g.0 g.3)),
      );
}
