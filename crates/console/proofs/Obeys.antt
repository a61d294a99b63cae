-- What a line does that needs no frames: each group from what its command's function says.
use mathlib.Core.Path.{◌≡◌}
use mathlib.Core.List.{List}
use Prim.Native.Nat.{ℕ}
use Rattle.model.specs.declared.Vm.{Vm}
use Rattle.model.specs.Stores.{Stores, stores_of}
use Rattle.console_emission.specs.declared.Kind.{Kind}
use Rattle.console.specs.declared.commands.Group.{Group}
use Rattle.console.specs.declared.commands.Group.TheVariants as g
use Rattle.console_script.specs.Words.{word_of}
use Rattle.console.specs.Asks.{group_of}
use Rattle.console.specs.Said.{after_emitted}
use Rattle.console_damage.specs.Damage.{PokedWords, PokedBytes, PokedPlaces, words_asked, bytes_asked, places_asked}
use Rattle.console_emission.specs.Emits.{Emitted, emit_asked}
use Rattle.console_frames.specs.Calls.{Held, held}
use Rattle.console.specs.Turns.{emitted, poked_program, poked_in, obeyed_by, obeyed}
use Rattle.std.specs.Prelude.{Option, Result}
use Rattle.model.specs.declared.Counts.{Counts}
use Rattle.model.specs.declared.Refusal.{Refusal}

-- ---- any of them, by the group of its first word

module _ (line : List ℕ) (m : Vm) {what : List ℕ} (w : what ≡ word_of line 0) {group : Group} (e : group ≡ group_of what) where
  grouped : (s : Held) → obeyed_by group line m s ≡ obeyed line m s
  unfolding obeyed
  grouped s = rw (e, w)

  module _ (s : Held) where
    pub emits : {kind : Kind} → group ≡ g.Emit kind → {x : Option (Result (Counts × ℕ) Refusal)} {p : Stores} → ◌≡◌ {A = Emitted} (record { answer = x; stores = p }) (emit_asked kind m.run.on m.program line s.program)
        → {r : Vm} → r ≡ after_emitted m x
        → record { m = r; held = record { program = p; stack = s.stack; cells = s.cells; copy = s.copy; trace = s.trace; frames = s.frames } } ≡ obeyed line m s
    unfolding obeyed_by emitted
    emits f h er = rw (← grouped s, f, er, ← h)

    -- of the parts that were poked
    pub pokes : group ≡ g.Poke → {words : PokedWords}
        → words ≡ words_asked line s.program.constants s.program.structs s.program.functions s.stack s.cells
        → {bytes : PokedBytes} → bytes ≡ bytes_asked line s.program.text s.program.main s.program.other
        → {places : PokedPlaces} → places ≡ places_asked line s.program.main_places s.program.other_places
        → record {
          m = m;
          held = held (stores_of words.constants words.structs words.functions bytes.text bytes.main places.main_places bytes.other places.other_places)
              words.stack words.cells s.copy s.trace s.frames;
        } ≡ obeyed line m s
    unfolding obeyed_by poked_in poked_program
    pokes f x y z = rw (← grouped s, f, x, y, z)
