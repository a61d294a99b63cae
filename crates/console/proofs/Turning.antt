-- A line's turn: a call over frames that is lent a part of two stores, or anything else.
use mathlib.Core.Path.{◌≡◌}
use mathlib.Core.List.{List, ◌++◌}
use Prim.Native.Nat.{ℕ, ◌*◌, ◌/◌, min}
use lib.ListN.{length, take, drop}
use Rattle.model.specs.declared.Vm.{Vm}
use Rattle.console_script.specs.declared.Line.{Line}
use Rattle.console_frames.specs.declared.Call.{Call}
use Rattle.console_frames.specs.declared.Answer.{Answer}
use Rattle.console.specs.declared.commands.Lent.{Lent}
use Rattle.std.specs.Prelude.{Option, Some, None}
use Rattle.model.specs.Stores.{Stores}
use Rattle.console_script.specs.Words.{cut_of, blank, line_of, next_line}
use Rattle.console.specs.Asks.{ask_of}
use Rattle.console.specs.Said.{after_answer}
use Rattle.console_frames.specs.Calls.{Held, held, Bridged}
use Rattle.console.specs.Lendings.{words_lent, lent_to, back_from, OverFrames}
use Rattle.console.specs.Turns.{obeyed, TurnedBy, Turned, Played, over, line}

pub over_is : (m : Vm) (call : Call) (image : List ℕ) (lent : Lent) {p : Stores} {stack cells copy trace frames : List ℕ} {n j : ℕ}
    → n ≡ 2 * min lent.copy (length copy / 2) → j ≡ 3 * min lent.trace (length trace / 3)
    → {a : Answer} {p' : Stores} {stack' cells' copy' trace' frames' : List ℕ}
    → Bridged m call image (held p stack cells (take n copy) (take j trace) frames) a (held p' stack' cells' copy' trace' frames')
    → {r : Vm} → r ≡ after_answer m a
    → OverFrames m call image lent (held p stack cells copy trace frames) r (held p' stack' cells' (copy' ++ drop n copy) (trace' ++ drop j trace) frames')
unfolding words_lent lent_to back_from
over_is m call image lent en ej {a} {p'} {stack'} {cells'} {copy'} {trace'} {frames'} b er = record {
  answer = a;
  left = held p' stack' cells' copy' trace' frames';
  bridged = rw (← en, ← ej) b;
  stores = rw (← en, ← ej);
  machine = er;
}

module _ (m : Vm) (line : List ℕ) (s : Held) {asked : Option (Call × Lent)} {space : List ℕ} (h : record { asked = asked; space = space } ≡ ask_of line blank) where
  pub frames_asked : {call : Call} {lent : Lent} → asked ≡ Some (call, lent) → {image : List ℕ} → image ≡ cut_of space 0 lent.image
      → {r : Vm} {s' : Held} → OverFrames m call image lent s r s' → Turned line m s r s'
  unfolding Turned TurnedBy
  frames_asked e i o = rw (← h, e, ← i) o

  pub other_asked : asked ≡ None → {r : Vm} {s' : Held} → record { m = r; held = s' } ≡ obeyed line m s → Turned line m s r s'
  unfolding Turned TurnedBy
  other_asked e o = rw (← h, e) o

pub turned_line : {line line₀ : List ℕ} → line ≡ line₀ → (m : Vm) (s : Held) (r : Vm) (s' : Held) → Turned line m s r s' → Turned line₀ m s r s'
turned_line e m s r s' h = rw e at h

-- ---- line by line: what is played from here on is what was to be played

module _ {script : List ℕ} {l₀ next : Option Line} {m₀ m : Vm} {s₀ s : Held}
    (h : (s' : Held) → Played script next m s s' → Played script l₀ m₀ s₀ s') where
  pub one_line : {l : Line} → next ≡ Some l → {r : Vm} {s₁ : Held} → Turned (line_of script l) m s r s₁ → {next₁ : Option Line} → next₁ ≡ next_line script l
      → (s' : Held) → Played script next₁ r s₁ s' → Played script l₀ m₀ s₀ s'
  one_line on t e s' p = h s' (rw on (line t (rw e at p)))

  pub all_lines : next ≡ None → Played script l₀ m₀ s₀ s
  all_lines off = h s (rw off over)
