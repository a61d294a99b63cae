-- The steps inside one function: where one step comes to, and what the run comes to from there.
use mathlib.Core.Path.{◌≡◌, refl, sym, ap, subst, ◌∙◌}
use mathlib.Core.Bool.{false}
use mathlib.Core.List.{List, [], ◌∷◌}
use Prim.Native.Nat.{ℕ, suc, ◌+◌, ◌-◌, ◌≤◌, ◌<◌}
use native.Mathlib.Numerals.{add-one}
use native.Mathlib.Omega.{arith}
use borrow.Author.Tests.{le-leb, lt-leb, ne_eqb}
use lib.ListN.{length, length-append}
use Rattle.model.specs.declared.Fault.{Fault}
use Rattle.model.specs.declared.Frame.{Frame}
use Rattle.model.specs.Values.{kind, payload}
use Rattle.model.specs.Heap.{Cell, heap_of}
use Rattle.model.specs.Steps.{World, State, Outcome, went, returned, faulted, short, with_last, code_of, step_of}
use Rattle.model.specs.Runs.{Progress, stopped, over, end_from, next}
use Rattle.cells.proofs.Stands.{length_heap}
use Rattle.layout.proofs.Parts.{places_same}
use Rattle.laws_runs.specs.Sane as sane
use Rattle.laws_runs.specs.Paths.{Spends, Balances, Grows, Adds}
use Rattle.laws_runs.proofs.Does.{Does, Stepped, step_one}
use Rattle.laws_runs.proofs.Does as does
use Rattle.laws_runs.proofs.Spends.{step_spends, step_balances}
use Rattle.laws_runs.proofs.Adds.{step_adds}
use Rattle.laws_runs.proofs.Ends.{end_over, end_step}
use Rattle.laws_runs.proofs.Keeps.{step_keeps}
use Rattle.run_arms.specs.declared.Fixed.{Fixed}
use Rattle.run_arms.specs.declared.Going.{Going}
use Rattle.run_arms.specs.declared.Completed.{Completed}
use Rattle.run_arms.specs.declared.Answer.{Answer}
use Rattle.run_arms.specs.declared.Answer.TheVariants as r
use Rattle.value.specs.Links.{PayloadOf, last_in}
use Rattle.value.proofs.Lasts.{last_words}
use Rattle.run_arms.specs.Links.{Around, around, state_of, outcome_of, going_in, Kept, BlockPost}
use Rattle.run_steps.specs.declared.Event.{Event}
use Rattle.run_steps.specs.declared.Event.TheVariants.{Over, Call, Back, Stopped, Paused}
use Rattle.run_steps.specs.Links.{Lent, Ready, answer_in, progress_in, CountedPost, back_in, after_event, going_at, SaneAt, ExecPost}
use Rattle.std.specs.Prelude.{Some}

-- ---- a step that keeps the callers keeps the function

abbrev SameCalled : List Frame → ℕ → Outcome → Type 0
SameCalled cs i (went t) = length t.callers ≡ length cs → t.frame.function ≡ i
SameCalled cs i (returned x t) = Unit
SameCalled cs i (faulted n t) = Unit
SameCalled cs i short = Unit

does_called : {w : World} {a : ℕ} {s t : State} {x y : Outcome} → Does w a s t x y → SameCalled s.callers s.frame.function x
does_called (does.fault n) = tt
does_called (does.spent x) = tt
does_called (does.full b) = tt
does_called (does.push h l) = λ e. refl
does_called (does.answer b p) = λ e. refl
does_called (does.compare b k l h) = λ e. refl
does_called (does.fall b) = λ e. refl
does_called (does.leap b) = λ e. refl
does_called (does.call i n b l m h) = λ e. absurd (let z : ⊥ = omega arith in z)
does_called (does.build b l) = λ e. refl
does_called (does.field p i b e) = λ e. refl
does_called (does.back b q) = λ e. absurd (let l = ap length q in let z : ⊥ = omega arith in z)
does_called (does.home b e) = tt

stepped_called : {w : World} {s t : State} {x y : Outcome} → Stepped w s t x y → SameCalled s.callers s.frame.function x
stepped_called (does.unpaid e x) = tt
stepped_called (does.unread h n) = tt
stepped_called (does.ran i a h l k e d) = does_called d

-- ---- a step that completes spends units, of those that were given in all

abbrev Pays : (given spent : ℕ) → Outcome → Type 0
Pays k e (went t) = (e < t.spent) × (t.spent ≤ k)
Pays k e (returned x t) = (e < t.spent) × (t.spent ≤ k)
Pays k e (faulted n t) = (e ≤ t.spent) × (t.spent ≤ k)
Pays k e short = Unit

-- what is no longer left was spent
pays : {k : ℕ} (s : State) → s.spent + s.units ≡ k → (x : Outcome) → Spends s x → Balances s x → Pays k s.spent x
pays s e (went t) l b = (omega arith, omega arith)
pays s e (returned x t) l b = (omega arith, omega arith)
pays s e (faulted n t) l b = (omega arith, omega arith)
pays s e short l b = tt

step_pays : {k : ℕ} (w : World) (s : State) → s.spent + s.units ≡ k → Pays k s.spent (step_of w s)
step_pays w s e = pays s e (step_of w s) (step_spends w s) (step_balances w s)

-- ---- from one machine to another in the same function

grown : {H K : List Cell} → Grows H K → length H ≤ length K
grown {H} z = let l = ap length z.is ∙ length-append H z.more in omega arith

-- the world is what the slices say, whatever the cells hold
pub lent_on : {w : World} {k : Fixed} {constants functions text x x' : List ℕ} → Lent w k constants functions text x → length x' ≡ length x → Lent w k constants functions text x'
lent_on {x = x} {x' = x'} l e = record {
  suits = l.suits;
  values = l.values;
  room = l.room;
  rest = l.rest;
  named = l.named;
  cell_room = l.cell_room ∙ sym (places_same 2 x' x e);
  sane = l.sane;
}

ends_same : (w : World) {m n : Progress} → m ≡ n → (t : State) → end_from w m t ≡ end_from w n t
ends_same w q t = rw q

-- the answer is of another name
pub told : {rule : State → Outcome} {k : Fixed} {g : Going} {s x : List ℕ} {r q : Answer} {t y : List ℕ} → r ≡ q → BlockPost rule k g s x r t y → BlockPost rule k g s x q t y
told e p = rw e at p

-- the words of a completed root Return's value
pub counts_it : (d : Completed) {a b n : ℕ} → a ≡ kind d.value → PayloadOf d.value b → n ≡ d.going.returns + 1
    → CountedPost d (record {
      sp = d.going.sp;
      function = d.going.function;
      position = d.going.position;
      base = d.going.base;
      callers = d.going.callers;
      used = d.going.used;
      spent = d.going.spent;
      kind = a;
      payload = b;
      mark = d.going.used;
      returns = n;
    })
counts_it d p q e = record { is = rw (p, q.is, e, add-one); fine = q.fine }

-- the run goes on in n, s', x' as it did in g, s, x
pub record Came (w : World) (ar : Around) (k : Fixed) (code constants functions text : List ℕ) (g : Going) (s x : List ℕ) (n : Going) (s' x' : List ℕ) : Type 0 where
  pub ready : Ready w ar k n code constants functions text s' x'
  pub means : end_from w (progress_in g x) (state_of k g s x ar) ≡ end_from w (progress_in n x') (state_of k n s' x' ar)
  pub callers : n.callers ≡ g.callers
  pub spent : g.spent ≤ n.spent
  pub mark : g.mark ≤ n.mark
  pub before : (i : ℕ) → i ≤ g.mark → heap_of i x' ≡ heap_of i x

module _ {w : World} {ar : Around} {k : Fixed} {code constants functions text : List ℕ} where
  pub came_none : {g : Going} {s x : List ℕ} → Ready w ar k g code constants functions text s x → Came w ar k code constants functions text g s x g s x
  came_none at = record { ready = at; means = refl; callers = refl; spent = omega arith; mark = omega arith; before = λ i h. refl }

  module _ {g : Going} {s x : List ℕ} {n : Going} {s' x' : List ℕ} (z : Came w ar k code constants functions text g s x n s' x') where
    pub came_on : {m : Going} {t y : List ℕ} → Came w ar k code constants functions text n s' x' m t y → Came w ar k code constants functions text g s x m t y
    came_on q = record {
      ready = q.ready;
      means = z.means ∙ q.means;
      callers = q.callers ∙ z.callers;
      spent = let a = z.spent in let b = q.spent in omega arith;
      mark = let a = z.mark in let b = q.mark in omega arith;
      before = λ i h. q.before i (let a = z.mark in omega arith) ∙ z.before i h;
    }

    sane_on : {i j : ℕ} → i ≤ j → (t y : List ℕ) (e : Event) → SaneAt w k ar j e t y → SaneAt w k ar i e t y
    sane_on h t y (Over m) q = q
    sane_on h t y (Call m i b) q = (omega (arith, q.0), q.1)
    sane_on h t y (Back m) q = (omega (arith, q.0), q.1)
    sane_on h t y (Stopped m n) q = q
    sane_on h t y (Paused m) q = q

    pub ends_on : {e : Event} {t y : List ℕ} → ExecPost w ar k n s' x' e t y → ExecPost w ar k g s x e t y
    ends_on {e} q = record {
      means = z.means ∙ q.means;
      fits = q.fits;
      sane = sane_on z.spent _ _ e q.sane;
      callers = q.callers ∙ z.callers;
      spent = let a = z.spent in let b = q.spent in omega arith;
      mark = let a = z.mark in let b = q.mark in omega arith;
      before = λ i h. q.before i (let a = z.mark in omega arith) ∙ z.before i h;
    }

  module _ {g : Going} {s x : List ℕ} (at : Ready w ar k g code constants functions text s x) where
    -- the position is past the code
    pub ends_over : length code ≤ g.position → ExecPost w ar k g s x (Over g) s x
    unfolding over code_of after_event
    ends_over h = record {
      means = end_over w _ (state_of k g s x ar) (rw at.coded (le-leb _ _ h));
      fits = at.fits;
      sane = at.sane;
      callers = refl;
      spent = omega arith;
      mark = omega arith;
      before = λ i h. refl;
    }

    module _ (h : g.position < length code) {r : Answer} {s' x' : List ℕ} (p : BlockPost (step_of w) k g s x r s' x') where
      inside : over w (state_of k g s x ar) ≡ false
      unfolding over code_of
      inside = rw at.coded (lt-leb _ _ h)

      outcome : step_of w (state_of k g s x ar) ≡ outcome_of k ar r s' x'
      outcome = sym (p.means ar at.callers)

      kept : sane.Kept w (state_of k g s x ar) (outcome_of k ar r s' x')
      kept = subst (sane.Kept w (state_of k g s x ar)) outcome (step_keeps w (state_of k g s x ar) at.lent.sane at.sane inside)

      adds : Adds (heap_of g.used x) (last_in g.kind g.payload) (outcome_of k ar r s' x')
      adds = subst (Adds (heap_of g.used x) (last_in g.kind g.payload)) outcome (step_adds w (state_of k g s x ar))

      paid : Pays k.given g.spent (outcome_of k ar r s' x')
      paid = subst (Pays k.given g.spent) outcome (step_pays w (state_of k g s x ar) (omega (arith, at.fits.spent)))

      called : SameCalled ar.callers g.function (outcome_of k ar r s' x')
      called = subst (SameCalled ar.callers g.function) outcome (stepped_called (step_one w (state_of k g s x ar)))

      follows : end_from w (progress_in g x) (state_of k g s x ar) ≡ next (end_from w) (progress_in g x) (state_of k g s x ar) (outcome_of k ar r s' x')
      follows = end_step w _ (state_of k g s x ar) inside ∙ ap (next (end_from w) (progress_in g x) (state_of k g s x ar)) outcome

      before_mark : (i : ℕ) → i ≤ g.mark → heap_of i x' ≡ heap_of i x
      before_mark i l = p.before i (let z = at.fits.mark in omega arith)

      -- how far the run has come stays so where the last result does
      module _ {n : Going} (c : Kept g n) (e : last_in n.kind n.payload ≡ last_in g.kind g.payload) where
        same_progress : progress_in g x ≡ progress_in n x'
        unfolding answer_in
        same_progress = rw (c.returns, e, c.mark, before_mark g.mark (omega arith))

        marked : Grows (heap_of g.used x) (heap_of n.used x') → n.mark ≤ n.used
        marked z = let a = grown z in let b = length_heap g.used x in let d = length_heap n.used x' in let q = at.fits.mark in let m = c.mark in omega arith

      -- a root Return has spent a unit
      few : {n : Going} → Kept g n → g.spent ≤ n.spent → n.returns ≤ n.spent
      few c l = let a = c.returns in let b = at.fits.returns in omega arith

      -- what the run comes to where the step leaves the function
      leaves : (e : Event) → going_at e ≡ going_in r → last_in (going_in r).kind (going_in r).payload ≡ last_in g.kind g.payload
          → Grows (heap_of g.used x) (heap_of (going_in r).used x') → (g.spent ≤ (going_in r).spent) × ((going_in r).spent ≤ k.given)
          → end_from w (progress_in g x) (state_of k g s x ar) ≡ after_event w k ar e s' x' → SaneAt w k ar g.spent e s' x' → ExecPost w ar k g s x e s' x'
      leaves e q l z u m i = record {
        means = m;
        fits = rw q (record { stack = p.within; cells = p.cells; mark = marked p.kept l z; spent = u.1; returns = few p.kept u.0 });
        sane = i;
        callers = rw q p.kept.callers;
        spent = rw q u.0;
        mark = rw q (let y = p.kept.mark in omega arith);
        before = before_mark;
      }

    module _ (h : g.position < length code) {n : Going} {s' x' : List ℕ} where
      pub went_on : BlockPost (step_of w) k g s x (r.Went n) s' x' → length x' ≡ length x → Came w ar k code constants functions text g s x n s' x'
      unfolding next
      went_on p e =
          let a : Adds (heap_of g.used x) (last_in g.kind g.payload) (went (state_of k n s' x' ar)) = adds h p in
          let l : (g.spent < n.spent) × (n.spent ≤ k.given) = paid h p in
          record {
            ready = record {
              lent = lent_on at.lent e;
              callers = at.callers ∙ sym p.kept.callers;
              coded = rw (called h p refl) at.coded;
              fits = record { stack = p.within; cells = p.cells; mark = marked h p p.kept a.1 a.0; spent = l.1; returns = few h p p.kept (omega arith) };
              sane = kept h p;
            };
            means = follows h p ∙ ends_same w (same_progress h p p.kept a.1) _;
            callers = p.kept.callers;
            spent = omega arith;
            mark = let m = p.kept.mark in omega arith;
            before = before_mark h p;
          }

      pub calls_out : {i b : ℕ} → BlockPost (step_of w) k g s x (r.Call n i b) s' x' → ExecPost w ar k g s x (Call n i b) s' x'
      unfolding next after_event
      calls_out {i} {b} p =
          let a : Adds (heap_of g.used x) (last_in g.kind g.payload) (outcome_of k ar (r.Call n i b) s' x') = adds h p in
          let l : (g.spent < n.spent) × (n.spent ≤ k.given) = paid h p in
          leaves h p (Call n i b) refl a.1 a.0 (omega arith, l.1)
          (follows h p ∙ ends_same w (same_progress h p p.kept a.1) _) (l.0, kept h p)

      pub stops : {m : Fault} → BlockPost (step_of w) k g s x (r.Stopped n m) s' x' → ExecPost w ar k g s x (Stopped n m) s' x'
      unfolding next after_event
      stops {m} p =
          let a : Adds (heap_of g.used x) (last_in g.kind g.payload) (faulted m (state_of k n s' x' ar)) = adds h p in
          let l : (g.spent ≤ n.spent) × (n.spent ≤ k.given) = paid h p in
          leaves h p (Stopped n m) refl a.1 a.0 l
          (follows h p ∙ ap (stopped m (state_of k n s' x' ar)) (same_progress h p p.kept a.1)) (kept h p).traced

    -- a step that is short has written nothing: the machine is paused before it
    pub pauses : g.position < length code → {n : Going} {s' x' : List ℕ} → BlockPost (step_of w) k g s x (r.Short n) s' x' → ExecPost w ar k g s x (Paused g) s' x'
    unfolding next after_event
    pauses h p = rw (p.unwritten.0, p.unwritten.1) (record {
      means = follows h p;
      fits = at.fits;
      sane = (at.sane, inside h p);
      callers = refl;
      spent = omega arith;
      mark = omega arith;
      before = λ i l. refl;
    })

    pub returned_on : g.position < length code → {d : Completed} {n : Going} {s' x' : List ℕ} → BlockPost (step_of w) k g s x (r.Returned d) s' x' → CountedPost d n → length x' ≡ length x
        → Came w ar k code constants functions text g s x n s' x'
    unfolding next answer_in
    returned_on h {d} {n} {s'} {x'} p c e =
        let q : sane.Returns w (state_of k g s x ar) d.value (with_last d.value (state_of k d.going s' x' ar)) = kept h p in
        let a : (heap_of d.going.used x' ≡ heap_of g.used x) × (Some d.value ≡ Some d.value) = adds h p in
        let l : (g.spent < d.going.spent) × (d.going.spent ≤ k.given) = paid h p in
        let last : last_in (kind d.value) (payload d.value) ≡ Some d.value = last_words d.value c.fine in
        rw c.is (record {
          ready = record {
            lent = lent_on at.lent e;
            callers = at.callers ∙ sym p.kept.callers;
            coded = rw q.frames.function at.coded;
            fits = record {
              stack = record { count = p.within.count; room = p.within.room; exact = p.within.exact; callers = p.within.callers };
              cells = record { count = p.cells.count; exact = p.cells.exact };
              mark = omega arith;
              spent = l.1;
              returns = let y = p.kept.returns in let b = at.fits.returns in omega arith;
            };
            sane = rw last q.sane;
          };
          means = follows h p ∙ rw (last, p.kept.returns, ne_eqb (suc g.returns) 0 (λ e. omega arith));
          callers = p.kept.callers;
          spent = omega arith;
          mark = let m = at.fits.mark in let y = ap length a.0 in let b = length_heap g.used x in let c = length_heap d.going.used x' in omega arith;
          before = before_mark h p;
        })

-- ---- a return to the caller: there is one

pub back_out : {w : World} (e : ℕ) (cs : List Frame) {k : Fixed} {g : Going} {code constants functions text s x : List ℕ}
    → Ready w (around e cs) k g code constants functions text s x → g.position < length code
    → {n : Going} {s' x' : List ℕ} → BlockPost (step_of w) k g s x (r.Back n) s' x' → ExecPost w (around e cs) k g s x (Back n) s' x'
unfolding next after_event back_in
back_out e [] at h p = absurd (let y : ⊥ = omega (arith, p.caller, p.kept.callers, at.callers) in y)
back_out {w} e (c ∷ cs) {k} {g} {x = x} at h {n} {s'} {x'} p =
    let a : Adds (heap_of g.used x) (last_in g.kind g.payload) (outcome_of k (around e (c ∷ cs)) (r.Back n) s' x') = adds at h p in
    let l : (g.spent < n.spent) × (n.spent ≤ k.given) = paid at h p in
    leaves at h p (Back n) refl a.1 a.0 (omega arith, l.1)
    (follows at h p ∙ ends_same w (same_progress at h p p.kept a.1) _) (l.0, kept at h p)

-- ---- a step that goes on spends a unit

module _ {w : World} {ar : Around} {k : Fixed} {g : Going} {code constants functions text s x : List ℕ} (at : Ready w ar k g code constants functions text s x)
    (h : g.position < length code) {s' x' : List ℕ} where
  pub went_less : {n : Going} → BlockPost (step_of w) k g s x (r.Went n) s' x' → k.given - n.spent < k.given - g.spent
  went_less {n} p = let l : (g.spent < n.spent) × (n.spent ≤ k.given) = paid at h p in omega arith

  -- so there are no more root Returns than units
  pub returned_few : {d : Completed} → BlockPost (step_of w) k g s x (r.Returned d) s' x' → d.going.returns < d.going.spent
  returned_few {d} p =
      let l : (g.spent < d.going.spent) × (d.going.spent ≤ k.given) = paid at h p in omega (arith, p.kept.returns, at.fits.returns)

  pub returned_less : {d : Completed} {n : Going} → BlockPost (step_of w) k g s x (r.Returned d) s' x' → CountedPost d n
      → k.given - n.spent < k.given - g.spent
  returned_less {d} p c = rw c.is (let l : (g.spent < d.going.spent) × (d.going.spent ≤ k.given) = paid at h p in omega arith)
