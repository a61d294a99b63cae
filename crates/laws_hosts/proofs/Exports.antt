-- What the exports ensure is what is said of them here. Most say it as it stands; those that are lent a part of the program's stores say it for any rest.
use mathlib.Core.Path.{◌≡◌, refl, sym, ap, ◌∙◌}
use mathlib.Core.Bool.{Bool, false}
use mathlib.Core.List.{List, []}
use Prim.Native.Nat.{ℕ}
use Rattle.model.specs.declared.Counts.{Counts}
use Rattle.model.specs.declared.Frame.{Frame}
use Rattle.model.specs.Stores.{Stores}
use Rattle.model.specs.Emission.{Res}
use Rattle.model.specs.Machines.{Lent, new_machine_of, set_strict as setStrictOf}
use Rattle.layout.specs.Links.{code_lent, bytes_lent, constants_lent, structs_lent, names_lent}
use Rattle.embed_words.specs.Coding.{vm_in, slices_refusal, at_entry, Coded, changed_coded, through, EmitThrough, emit_through, Emits, StartThrough, start_through}
use Rattle.demands.specs.Host.{with_frames, Ask, new, set_strict, ask}
use Rattle.laws_hosts.specs.Hosts.{CHeld, CDone, emitting, making, setting, ask_through, Through}

module _ (a : List ℕ) (g : CHeld) where
  -- an export of emission: `before` and `after` are the stores that it is lent, among the rest
  pub emission_through : (q : Ask) (rule : Bool → Counts → Stores → Res) → ask_through q a g ≡ emitting a g (λ m. rule m.run.on m.program g.stores)
      → (before after : Stores → Stores) → before g.stores ≡ g.stores → {n : ℕ} {w' a' : List ℕ} → Emits rule g.words a before n w' a' after
      → Through (ask q) a g (record { coded = record { number = n; vm = w'; answer = a' }; out = []; stores = after g.stores; lent = g.lent })
  unfolding emitting
  emission_through q rule is before after same e =
      let left : EmitThrough → CDone = λ x. record { coded = x.coded; out = []; stores = x.stores; lent = g.lent } in
      ap left (e g.stores) ∙ ap (λ (s : Stores). left (emit_through g.words a s (λ m. rule m.run.on m.program s))) same ∙ sym is

  -- what is lent, with that store for the backtrace
  abbrev traced_in : List ℕ → Lent
  traced_in backtrace = record { stack = g.lent.stack; cells = g.lent.cells; frames = g.lent.frames; copy = g.lent.copy; backtrace = backtrace }

  -- the export that makes a machine anew
  pub new_through : {n : ℕ} {w' a' : List ℕ} (after : Stores → Stores) (fs : List Frame)
      → ((rest : Stores) → record { coded = record { number = n; vm = w'; answer = a' }; stores = after rest; frames = fs }
      ≡ start_through g.words a (names_lent rest g.stores.functions g.stores.text) g.lent.frames
      (new_machine_of false (names_lent rest g.stores.functions g.stores.text) g.lent.frames))
      → Through (ask new) a g (record { coded = record { number = n; vm = w'; answer = a' }; out = []; stores = after g.stores; lent = with_frames fs g.lent })
  unfolding ask_through making names_lent
  new_through after fs e =
      let left : StartThrough → CDone = λ x. record { coded = x.coded; out = []; stores = x.stores; lent = with_frames x.frames g.lent } in
      ap left (e g.stores)

  -- the export that changes the setting is lent no store for an answer, and none for a backtrace: it says it for any
  pub setting_through : (b : Bool) {n : ℕ} {w' : List ℕ}
      → ((backtrace : List ℕ) → record { number = n; vm = w'; answer = [] }
      ≡ through at_entry (slices_refusal g.words 0 []) g.words [] (changed_coded (setStrictOf b (vm_in g.words) g.stores (traced_in backtrace)) g.words []))
      → Through (ask (set_strict b)) [] g (record { coded = record { number = n; vm = w'; answer = [] }; out = []; stores = g.stores; lent = g.lent })
  unfolding ask_through setting
  setting_through b e =
      let left : Coded → CDone = λ x. record { coded = x; out = []; stores = g.stores; lent = g.lent } in
      ap left (e g.lent.backtrace)

-- and these are the parts that they are lent
pub code_whole : (s : Stores) → code_lent s s.functions s.main s.main_places s.other s.other_places ≡ s
unfolding code_lent
code_whole s = refl

pub bytes_whole : (s : Stores) → bytes_lent s s.functions s.main s.other ≡ s
unfolding code_lent bytes_lent
bytes_whole s = refl

pub constants_whole : (s : Stores) → constants_lent s s.constants s.text ≡ s
unfolding constants_lent
constants_whole s = refl

pub structs_whole : (s : Stores) → structs_lent s s.structs s.text ≡ s
unfolding structs_lent
structs_whole s = refl

pub names_whole : (s : Stores) → names_lent s s.functions s.text ≡ s
unfolding names_lent
names_whole s = refl
