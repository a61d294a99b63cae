-- From function to function: where an event of the steps inside one function leaves the run, and what the run comes to from there.
-- Assumes nothing.
use mathlib.Core.Path.{◌≡◌, refl, sym, ap, subst, ◌∙◌}
use mathlib.Core.Bool.{Bool, true, false}
use mathlib.Core.List.{List, [], ◌∷◌}
use Prim.Native.Nat.{ℕ, suc, ◌+◌, ◌-◌, ◌≤◌, ◌<◌}
use native.Mathlib.Numerals.{add-one}
use native.Mathlib.Omega.{arith}
use lib.ListN.{length, take, get_or, set, length-take, length-set}
use borrow.Author.Tests.{eq-eqb, ne_eqb}
use Rattle.model.specs.declared.Fault.{Fault}
use Rattle.model.specs.declared.Frame.{Frame}
use Rattle.model.specs.Values.{payload_at}
use Rattle.model.specs.Heap.{heap_of}
use Rattle.model.specs.Steps.{World, State, with_frames}
use Rattle.model.specs.Runs.{Ended, ended, stopped, paused, over, end_from, traceable}
use Rattle.model.specs.Stores.{part, code_word}
use Rattle.laws_runs.specs.Sane.{Sane}
use Rattle.frames.specs.Links.{no_frame, callers_of}
use Rattle.frames.proofs.Callers.{length_callers, callers_more, callers_first}
use Rattle.run_arms.specs.declared.Fixed.{Fixed}
use Rattle.run_arms.specs.declared.Going.{Going}
use Rattle.run_arms.specs.Links.{Around, around, state_of, frame_in, entered}
use Rattle.run_steps.specs.declared.Event.{Event}
use Rattle.run_steps.specs.declared.Event.TheVariants.{Over, Call, Back, Stopped, Paused}
use Rattle.run_steps.specs.Links.{Ready, answer_in, progress_in, back_in, after_event, SaneBack, going_at, ExecPost}
use Rattle.run_steps.proofs.Following.{lent_on}
use Rattle.run_loop.specs.declared.Course.{Course}
use Rattle.run_loop.specs.Links.{code_in, around_in, state_in, Under, Ends, TurnsPost, goes_on, goes_in, is_over, is_stopped, is_paused, in_frame, is_on}
use Rattle.run_loop.specs.Links as ends

-- ---- what the steps inside a function are lent

-- its code, from main's store or from the others'
module _ (functions main other : List ℕ) (i : ℕ) {v : ℕ} {code : List ℕ} (word : v ≡ payload_at functions i) where
  pub in_main : i ≡ 0 → code ≡ part main v → code_in functions main other i ≡ code
  unfolding code_in code_word
  in_main e h = sym (h ∙ rw (word, eq-eqb i 0 e))

  pub in_other : (i ≡ 0 → ⊥) → code ≡ part other v → code_in functions main other i ≡ code
  unfolding code_in code_word
  in_other e h = sym (h ∙ rw (word, ne_eqb i 0 e))

pub coded_as : {w : World} {ar : Around} {k : Fixed} {g : Going} {c d constants functions text s x : List ℕ} → c ≡ d
    → Ready w ar k g c constants functions text s x → Ready w ar k g d constants functions text s x
coded_as {w} {ar} {k} {g} {constants = constants} {functions} {text} {s} {x} e r = subst (λ (c : List ℕ). Ready w ar k g c constants functions text s x) e r

-- the text that is taken
pub taken_count : (n : ℕ) (text : List ℕ) → n ≤ length text → n ≡ length (take n text)
taken_count n text h = let z = length-take n text in omega arith

-- ---- what the run comes to

-- a frame that is called, or gone back to, is the rules' frame: its function, its position, its own base, and when it was entered
pub a_frame_is_entered_whole : (k : Fixed) (g : Going) (n : ℕ) (f : Frame) (s x : List ℕ) (ar : Around)
    → state_of k (goes_in g n f).going s x (around (goes_in g n f).entered ar.callers) ≡ with_frames f ar.callers (state_of k g s x ar)
a_frame_is_entered_whole k g n f s x ar = refl

-- where there is a caller, a Back goes on in it
module _ {w : World} {ar : Around} {k : Fixed} {g : Going} {s x : List ℕ} {m : Going} {s' x' : List ℕ} (c : Frame) (ds : List Frame) (e : ar.callers ≡ c ∷ ds)
    (p : ExecPost w ar k g s x (Back m) s' x') where
  back_means : end_from w (progress_in g x) (state_of k g s x ar) ≡ end_from w (progress_in m x') (with_frames c ds (state_of k m s' x' ar))
  unfolding after_event back_in
  back_means = p.means ∙ ap (λ (cs : List Frame). back_in w cs (progress_in m x') (state_of k m s' x' ar)) e

  back_sane : Sane w (with_frames c ds (state_of k m s' x' ar))
  back_sane = subst (λ (cs : List Frame). SaneBack w cs (state_of k m s' x' ar)) e p.sane.1

some_caller : (w : World) (cs : List Frame) (t : State) → SaneBack w cs t → 0 < length cs
some_caller w [] t z = absurd z
some_caller w (c ∷ cs) t z = omega arith

-- ---- the loop's measure: a call and a return have spent a unit

abbrev weight_of : Bool → ℕ → ℕ
weight_of true u = suc u
weight_of false u = 0

abbrev pub weight : Fixed → Course → ℕ
weight k c = weight_of (is_on c.turn) (k.given - c.going.spent)

module _ (k : Fixed) (c : Course) where
  weight_on : (is_on c.turn) ≡ true → weight k c ≡ suc (k.given - c.going.spent)
  weight_on on = ap (λ (b : Bool). weight_of b (k.given - c.going.spent)) on

  module _ {r : Course} {m : Going} {e : ℕ} where
    pub over_less : r ≡ is_over m e → (is_on c.turn) ≡ true → weight k r < weight k c
    over_less is on = let a = ap (weight k) is in let b = weight_on on in omega arith

    pub stopped_less : (f : Fault) → r ≡ is_stopped m e f → (is_on c.turn) ≡ true → weight k r < weight k c
    stopped_less f is on = let a = ap (weight k) is in let b = weight_on on in omega arith

    pub paused_less : r ≡ is_paused m e → (is_on c.turn) ≡ true → weight k r < weight k c
    paused_less is on = let a = ap (weight k) is in let b = weight_on on in omega arith

module _ (k : Fixed) (n : ℕ) (constants functions text main other : List ℕ) where
  -- the run goes on in h, i, s', x', frames' as it did in g, e, s, x, frames
  pub record Gone (w : World) (g : Going) (e : ℕ) (s x : List ℕ) (frames : List Frame) (h : Going) (i : ℕ) (s' x' : List ℕ) (frames' : List Frame) : Type 0 where
    pub under : Under w k h i n constants functions text main other s' x' frames'
    pub means : end_from w (progress_in g x) (state_in k g e s x frames) ≡ end_from w (progress_in h x') (state_in k h i s' x' frames')
    pub spent : g.spent ≤ h.spent
    pub mark : g.mark ≤ h.mark
    pub before : (i : ℕ) → i ≤ g.mark → heap_of i x' ≡ heap_of i x

  -- where the run has come to: it goes on, or has ended
  abbrev Way : Bool → World → Going → ℕ → List ℕ → List ℕ → List Frame → Course → List ℕ → List ℕ → List Frame → Type 0
  Way true w g e s x frames c s' x' frames' = Gone w g e s x frames c.going c.entered s' x' frames'
  Way false w g e s x frames c s' x' frames' = TurnsPost w k g e s x frames c s' x' frames'

  -- the same in every world that the stores fit
  abbrev pub Ways : Bool → Going → ℕ → List ℕ → List ℕ → List Frame → Course → List ℕ → List ℕ → List Frame → Type 0
  Ways b g e s x frames c s' x' frames' = (w : World) → Under w k g e n constants functions text main other s x frames → Way b w g e s x frames c s' x' frames'

  -- a run that goes on takes another turn: if it did not, it would have to stand where the rules end it
  pub a_run_goes_on : {g : Going} {e : ℕ} {s x : List ℕ} {frames : List Frame} {h : Going} {i : ℕ} {s' x' : List ℕ} {frames' : List Frame}
      → Ways true g e s x frames (goes_on h i) s' x' frames' → Ways (is_on (goes_on h i).turn) g e s x frames (goes_on h i) s' x' frames'
  a_run_goes_on ways = ways

  abbrev pub Said : Going → List ℕ → List ℕ → Event → List ℕ → List ℕ → Type 0
  Said g s x e s' x' = (w : World) (ar : Around) → Ready w ar k g (code_in functions main other g.function) constants functions (take n text) s x → ExecPost w ar k g s x e s' x'

  module _ {w : World} {g : Going} {e : ℕ} {s x : List ℕ} {frames : List Frame} (at : Under w k g e n constants functions text main other s x frames) where
    pub gone_none : Gone w g e s x frames g e s x frames
    gone_none = record { under = at; means = refl; spent = omega arith; mark = omega arith; before = λ i h. refl }

    pub ready : Ready w (around_in g e frames) k g (code_in functions main other g.function) constants functions (take n text) s x
    ready = record {
      lent = at.lent;
      callers = length_callers g.callers frames;
      coded = at.coded g.function (subst (λ (j : ℕ). g.function < j) at.lent.suits.functions at.sane.frame.known);
      fits = at.fits;
      sane = at.sane;
    }

    module _ {s' x' : List ℕ} (same : length x' ≡ length x) where
      enters : {m : Going} {i b : ℕ} → ExecPost w (around_in g e frames) k g s x (Call m i b) s' x'
          → Gone w g e s x frames (in_frame m (m.callers + 1) (entered i b m.spent)) m.spent s' x' (set frames m.callers (frame_in m e))
      unfolding after_event answer_in
      enters {m} {i} {b} p = record {
        under = record {
          taken = at.taken;
          lent = lent_on at.lent same;
          coded = at.coded;
          room = rw (length-set frames m.callers (frame_in m e)) at.room;
          fits = record {
            stack = record { count = p.fits.stack.count; room = p.fits.stack.room; exact = p.fits.stack.exact; callers = more };
            cells = record { count = p.fits.cells.count; exact = p.fits.cells.exact };
            mark = p.fits.mark;
            spent = p.fits.spent;
            returns = p.fits.returns;
          };
          sane = subst (λ (cs : List Frame). Sane w (with_frames (entered i b m.spent) cs (state_of k m s' x' (around_in g e frames)))) (sym callers) p.sane.1;
        };
        means = p.means ∙ ap (λ (cs : List Frame). end_from w (progress_in m x') (with_frames (entered i b m.spent) cs (state_of k m s' x' (around_in g e frames)))) (sym callers);
        spent = p.spent;
        mark = p.mark;
        before = p.before;
      }
        where
          callers : callers_of (m.callers + 1) (set frames m.callers (frame_in m e)) ≡ frame_in m e ∷ callers_of g.callers frames
          callers = ap (λ (j : ℕ). callers_of j (set frames m.callers (frame_in m e))) (add-one m.callers)
              ∙ callers_more m.callers frames (frame_in m e) (let a = p.fits.stack.callers in let b = at.room in omega arith)
              ∙ ap (λ (j : ℕ). frame_in m e ∷ callers_of j frames) p.callers

          more : m.callers + 1 < k.frames
          more = let a = p.sane.1.frames in let b = length_callers g.callers frames in let c = at.lent.suits.frame_room in let d = p.callers in omega arith

      resumes : {m : Going} (j : ℕ) → m.callers ≡ j + 1 → ExecPost w (around_in g e frames) k g s x (Back m) s' x'
          → Gone w g e s x frames (in_frame m j (get_or frames j no_frame)) (get_or frames j no_frame).entered s' x' frames
      unfolding answer_in
      resumes {m} j q p = record {
        under = record {
          taken = at.taken;
          lent = lent_on at.lent same;
          coded = at.coded;
          room = at.room;
          fits = record {
            stack = record { count = p.fits.stack.count; room = p.fits.stack.room; exact = p.fits.stack.exact; callers = let a = p.fits.stack.callers in omega arith };
            cells = record { count = p.fits.cells.count; exact = p.fits.cells.exact };
            mark = p.fits.mark;
            spent = p.fits.spent;
            returns = p.fits.returns;
          };
          sane = back_sane (get_or frames j no_frame) (callers_of j frames) callers p;
        };
        means = back_means (get_or frames j no_frame) (callers_of j frames) callers p;
        spent = p.spent;
        mark = p.mark;
        before = p.before;
      }
        where
          callers : callers_of g.callers frames ≡ get_or frames j no_frame ∷ callers_of j frames
          callers = ap (λ (i : ℕ). callers_of i frames) (sym p.callers ∙ q ∙ add-one j) ∙ callers_first j frames

      ends_over : {m : Going} → ExecPost w (around_in g e frames) k g s x (Over m) s' x' → TurnsPost w k g e s x frames (is_over m e) s' x' frames
      unfolding after_event
      ends_over {m} p = record {
        ends = ends.over refl (p.means ∙ ap (λ (i : ℕ). ended (progress_in m x') (state_of k m s' x' (around e (callers_of i frames)))) (sym p.callers))
            (subst (λ (i : ℕ). Sane w (state_of k m s' x' (around e (callers_of i frames)))) (sym p.callers) p.sane);
        fits = p.fits;
        spent = p.spent;
        mark = p.mark;
        before = p.before;
      }

      ends_stopped : {m : Going} {f : Fault} → ExecPost w (around_in g e frames) k g s x (Stopped m f) s' x' → TurnsPost w k g e s x frames (is_stopped m e f) s' x' frames
      unfolding after_event
      ends_stopped {m} {f} p = record {
        ends = ends.stop f refl (p.means ∙ ap (λ (i : ℕ). stopped f (state_of k m s' x' (around e (callers_of i frames))) (progress_in m x')) (sym p.callers))
            (subst (λ (i : ℕ). traceable w.functions (frame_in m e ∷ callers_of i frames) ≡ true) (sym p.callers) p.sane);
        fits = p.fits;
        spent = p.spent;
        mark = p.mark;
        before = p.before;
      }

      ends_paused : {m : Going} → ExecPost w (around_in g e frames) k g s x (Paused m) s' x' → TurnsPost w k g e s x frames (is_paused m e) s' x' frames
      unfolding after_event
      ends_paused {m} p = record {
        ends = ends.pause refl (p.means ∙ ap (λ (i : ℕ). paused (progress_in m x') (state_of k m s' x' (around e (callers_of i frames)))) (sym p.callers))
            (subst (λ (i : ℕ). Sane w (state_of k m s' x' (around e (callers_of i frames)))) (sym p.callers) p.sane.0)
            (subst (λ (i : ℕ). over w (state_of k m s' x' (around e (callers_of i frames))) ≡ false) (sym p.callers) p.sane.1);
        fits = p.fits;
        spent = p.spent;
        mark = p.mark;
        before = p.before;
      }

  module _ {w : World} {g : Going} {e : ℕ} {s x : List ℕ} {frames : List Frame} {h : Going} {i : ℕ} {s' x' : List ℕ} {frames' : List Frame}
      (z : Gone w g e s x frames h i s' x' frames') where
    gone_on : {m : Going} {j : ℕ} {t y : List ℕ} {rows : List Frame} → Gone w h i s' x' frames' m j t y rows → Gone w g e s x frames m j t y rows
    gone_on q = record {
      under = q.under;
      means = z.means ∙ q.means;
      spent = let a = z.spent in let b = q.spent in omega arith;
      mark = let a = z.mark in let b = q.mark in omega arith;
      before = λ i l. q.before i (let a = z.mark in omega arith) ∙ z.before i l;
    }

    ended_on : {c : Course} {t y : List ℕ} {rows : List Frame} → TurnsPost w k h i s' x' frames' c t y rows → TurnsPost w k g e s x frames c t y rows
    ended_on {c} {t} {y} {rows} q = record {
      ends = subst (λ (e : Ended). Ends w k e c t y rows) (sym z.means) q.ends;
      fits = q.fits;
      spent = let a = z.spent in let b = q.spent in omega arith;
      mark = let a = z.mark in let b = q.mark in omega arith;
      before = λ i l. q.before i (let a = z.mark in omega arith) ∙ z.before i l;
    }

  -- ---- a turn of the loop, from c with the stores s, x and the frames, where the run started in g₀, in a frame that was entered at e₀

  module _ {g₀ : Going} {e₀ : ℕ} {s₀ x₀ : List ℕ} {frames₀ : List Frame} (c : Course) {s x : List ℕ} {frames : List Frame} where
    -- the loop's test
    pub goes : Ways (is_on c.turn) g₀ e₀ s₀ x₀ frames₀ c s x frames → (is_on c.turn) ≡ true → Ways true g₀ e₀ s₀ x₀ frames₀ c s x frames
    goes ways on = subst (λ (b : Bool). Ways b g₀ e₀ s₀ x₀ frames₀ c s x frames) on ways

    pub ends_so : Ways (is_on c.turn) g₀ e₀ s₀ x₀ frames₀ c s x frames → (is_on c.turn) ≡ false → Ways false g₀ e₀ s₀ x₀ frames₀ c s x frames
    ends_so ways off = subst (λ (b : Bool). Ways b g₀ e₀ s₀ x₀ frames₀ c s x frames) off ways

    module _ (ways : Ways true g₀ e₀ s₀ x₀ frames₀ c s x frames) where
      -- what the steps inside the function lean on
      pub asks : {w : World} → Under w k g₀ e₀ n constants functions text main other s₀ x₀ frames₀
          → ((v : World) × (ar : Around) × Ready v ar k c.going (code_in functions main other c.going.function) constants functions (take n text) s x) × (n ≤ length text)
      asks {w} at = let z = ways w at in ((w, around_in c.going c.entered frames, ready z.under), at.taken)

      pub roomy : {w : World} → Under w k g₀ e₀ n constants functions text main other s₀ x₀ frames₀ → k.frames ≤ length frames
      roomy {w} at = (ways w at).under.room

      module _ {s' x' : List ℕ} (e : length x' ≡ length x) {r : Course} where
        pub over_on : {m : Going} → Said c.going s x (Over m) s' x' → r ≡ is_over m c.entered → Ways (is_on r.turn) g₀ e₀ s₀ x₀ frames₀ r s' x' frames
        over_on {m} said is = subst (λ (r : Course). Ways (is_on r.turn) g₀ e₀ s₀ x₀ frames₀ r s' x' frames) (sym is)
            (λ w at. let z = ways w at in ended_on z (ends_over z.under e (said w _ (ready z.under))))

        pub stopped_on : {m : Going} {f : Fault} → Said c.going s x (Stopped m f) s' x' → r ≡ is_stopped m c.entered f → Ways (is_on r.turn) g₀ e₀ s₀ x₀ frames₀ r s' x' frames
        stopped_on {m} {f} said is = subst (λ (r : Course). Ways (is_on r.turn) g₀ e₀ s₀ x₀ frames₀ r s' x' frames) (sym is)
            (λ w at. let z = ways w at in ended_on z (ends_stopped z.under e (said w _ (ready z.under))))

        pub paused_on : {m : Going} → Said c.going s x (Paused m) s' x' → r ≡ is_paused m c.entered → Ways (is_on r.turn) g₀ e₀ s₀ x₀ frames₀ r s' x' frames
        paused_on {m} said is = subst (λ (r : Course). Ways (is_on r.turn) g₀ e₀ s₀ x₀ frames₀ r s' x' frames) (sym is)
            (λ w at. let z = ways w at in ended_on z (ends_paused z.under e (said w _ (ready z.under))))

        pub call_on : {m : Going} {i b : ℕ} {f : Frame} {rows : List Frame} → Said c.going s x (Call m i b) s' x' → f ≡ frame_in m c.entered
            → rows ≡ set frames m.callers f → r ≡ goes_in m (m.callers + 1) (entered i b m.spent)
            → Ways (is_on r.turn) g₀ e₀ s₀ x₀ frames₀ r s' x' rows
        call_on {m} {i} {b} {f} {rows} said here put is =
            subst (λ (r : Course). Ways (is_on r.turn) g₀ e₀ s₀ x₀ frames₀ r s' x' rows) (sym is)
            (a_run_goes_on
            (subst (λ (rows : List Frame). Ways true g₀ e₀ s₀ x₀ frames₀ (goes_in m (m.callers + 1) (entered i b m.spent)) s' x' rows) (sym (put ∙ ap (set frames m.callers) here))
            (λ w at. let z = ways w at in gone_on z (enters z.under e (said w _ (ready z.under))))))

        pub back_on : {m : Going} {j : ℕ} {f : Frame} → Said c.going s x (Back m) s' x' → m.callers ≡ j + 1 → f ≡ get_or frames j no_frame → r ≡ goes_in m j f
            → Ways (is_on r.turn) g₀ e₀ s₀ x₀ frames₀ r s' x' frames
        back_on {m} {j} {f} said some here is =
            subst (λ (r : Course). Ways (is_on r.turn) g₀ e₀ s₀ x₀ frames₀ r s' x' frames) (sym (is ∙ ap (λ (f : Frame). goes_in m j f) here))
            (a_run_goes_on (λ w at. let z = ways w at in gone_on z (resumes z.under e j some (said w _ (ready z.under)))))

      module _ {w : World} (at : Under w k g₀ e₀ n constants functions text main other s₀ x₀ frames₀) {s' x' : List ℕ} where
        -- the frames have room for one that is called from, and a caller stands in them
        pub within : (e : Event) → Said c.going s x e s' x' → (going_at e).callers < k.frames
        within e said = (said w _ (ready (ways w at).under)).fits.stack.callers

        pub some_back : {m : Going} → Said c.going s x (Back m) s' x' → 0 < m.callers
        some_back {m} said =
            let p = said w _ (ready (ways w at).under) in
            let l = some_caller w (callers_of c.going.callers frames) (state_of k m s' x' (around_in c.going c.entered frames)) p.sane.1 in
            let a = length_callers c.going.callers frames in let b = p.callers in omega arith

        pub call_less : {m : Going} {i b : ℕ} {r : Course} → Said c.going s x (Call m i b) s' x' → r ≡ goes_in m (m.callers + 1) (entered i b m.spent)
            → (is_on c.turn) ≡ true → weight k r < weight k c
        call_less said is on =
            let p = said w _ (ready (ways w at).under) in
            let l = p.sane.0 in let h = p.fits.spent in let a = ap (weight k) is in let b = weight_on k c on in omega arith

        pub back_less : {m : Going} {j : ℕ} {f : Frame} {r : Course} → Said c.going s x (Back m) s' x' → r ≡ goes_in m j f → (is_on c.turn) ≡ true → weight k r < weight k c
        back_less said is on =
            let p = said w _ (ready (ways w at).under) in
            let l = p.sane.0 in let h = p.fits.spent in let a = ap (weight k) is in let b = weight_on k c on in omega arith
