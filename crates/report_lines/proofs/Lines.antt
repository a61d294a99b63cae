-- The lines of a run, put one behind the other.
use mathlib.Core.Path.{◌≡◌, sym, ap, ◌∙◌}
use mathlib.Core.List.{List, [], ◌∷◌, ◌++◌, append_assoc, append-nil}
use Prim.Native.Nat.{ℕ, zero, suc, ◌+◌, ◌*◌, ◌≤◌, ◌<◌}
use native.Mathlib.Omega.{arith}
use native.Mathlib.Numerals.{add-one}
use lib.ListN.{length, get_or}
use Rattle.model.specs.Answers.{refusal_number}
use Rattle.model.specs.declared.Frame.{Frame}
use Rattle.model.specs.declared.Value.{Value}
use Rattle.model.specs.declared.Vm.{Vm}
use Rattle.model.specs.declared.Tally.{Tally}
use Rattle.model.specs.declared.Halt.TheVariants as r
use Rattle.model.specs.Basics.{ascii}
use Rattle.model.specs.Heap.{heap_of}
use Rattle.model.specs.Listings.{decimal}
use Rattle.model.specs.Runs.{Entry, entry}
use Rattle.model.specs.Machines.{Lent, machine_in, entries_in, answer_in}
use Rattle.model.specs.Reports.{value_text, entry_lines, spent_lines, reply_lines, refused_line, ran_lines}
use Rattle.value.proofs.Stores.{length_vals}
use Rattle.report_lines.specs.Links.{Shows, answer_lines}
use Rattle.printing.specs.Links.{Put}
use Rattle.printing.proofs.Puts.{is, within, both, nothing}
use Rattle.std.specs.Prelude.{Err, Ok, Result}
use Rattle.model.specs.declared.Halt.{Halt}
use Rattle.model.specs.declared.Refusal.{Refusal}

-- ---- one line

regroup : (a b c d e : List ℕ) → (a ++ b) ++ (c ++ d ++ e) ≡ a ++ (b ++ c) ++ d ++ e
regroup a b c d e = simp append_assoc

joined : (a b c d e f g : List ℕ) → ((a ++ b) ++ (c ++ d)) ++ (e ++ f ++ g) ≡ a ++ b ++ c ++ d ++ e ++ f ++ g
joined a b c d e f g = simp append_assoc

module _ {s₀ s₁ : List ℕ} {i₀ i₁ : ℕ} where
  pub refused_is : (n k : ℕ) → n ≡ k → Put 29 (ascii "refused " ++ decimal n ++ ascii "\n") s₀ i₀ s₁ i₁ → Put 29 (refused_line k) s₀ i₀ s₁ i₁
  unfolding refused_line
  refused_is n k e p = rw (← e) p

  module _ {s₂ : List ℕ} {i₂ : ℕ} where
    pub spent_is : (n k : ℕ) → Put 27 (ascii "spent " ++ decimal n ++ ascii "\n") s₀ i₀ s₁ i₁ → Put 27 (ascii "stack " ++ decimal k ++ ascii "\n") s₁ i₁ s₂ i₂
        → Put 54 (ascii "spent " ++ decimal n ++ ascii "\nstack " ++ decimal k ++ ascii "\n") s₀ i₀ s₂ i₂
    unfolding ascii
    spent_is n k p q = is (both p q) (regroup (ascii "spent " ++ decimal n) (ascii "\n") (ascii "stack ") (decimal k) (ascii "\n"))

    pub entry_is : (f p e : ℕ) {s₃ : List ℕ} {i₃ : ℕ} → Put 23 (ascii "at " ++ decimal f) s₀ i₀ s₁ i₁ → Put 21 (ascii " " ++ decimal p) s₁ i₁ s₂ i₂
        → Put 22 (ascii " " ++ decimal e ++ ascii "\n") s₂ i₂ s₃ i₃
        → Put 66 (ascii "at " ++ decimal f ++ ascii " " ++ decimal p ++ ascii " " ++ decimal e ++ ascii "\n") s₀ i₀ s₃ i₃
    entry_is f p e a b d =
        is (both (both a b) d) (joined (ascii "at ") (decimal f) (ascii " ") (decimal p) (ascii " ") (decimal e) (ascii "\n"))

    pub answer_is : (t : List ℕ) {s₃ : List ℕ} {i₃ : ℕ} → Put 6 (ascii "value ") s₀ i₀ s₁ i₁ → Put 64 t s₁ i₁ s₂ i₂ → Put 1 (ascii "\n") s₂ i₂ s₃ i₃
        → Put 71 (ascii "value " ++ t ++ ascii "\n") s₀ i₀ s₃ i₃
    answer_is t p q z = both (both p q) z

-- ---- the entries of a backtrace

entry_line : Entry → List ℕ
entry_line e = ascii "at " ++ decimal e.function ++ ascii " " ++ decimal e.place ++ ascii " " ++ decimal e.entered ++ ascii "\n"

lines_more : (es : List Entry) (e : Entry) → entry_lines (es ++ (e ∷ [])) ≡ entry_lines es ++ entry_line e
unfolding entry_lines entry_line
lines_more [] e = append-nil (entry_line e)
lines_more (x ∷ es) e = ap (λ (l : List ℕ). entry_line x ++ l) (lines_more es e) ∙ sym (append_assoc (entry_line x) (entry_lines es) (entry_line e))

entry_at : List ℕ → ℕ → Entry
entry_at b i = entry (get_or b (3 * i) 0) (get_or b (3 * i + 1) 0) (get_or b (3 * i + 2) 0)

entries_more : (n i : ℕ) (b : List ℕ) → entries_in (suc n) i b ≡ entries_in n i b ++ (entry_at b (i + n) ∷ [])
unfolding entries_in entry_at
entries_more zero i b = let z : i + 0 ≡ i = omega arith in rw z
entries_more (suc n) i b = let z : i + suc n ≡ suc i + n = omega arith in rw z (ap (λ (l : List Entry). entry_at b i ∷ l) (entries_more n (suc i) b))

-- the first i of n entries were put
pub record Traced (n : ℕ) (b s : List ℕ) (at : ℕ) (s' : List ℕ) (i j : ℕ) : Type 0 where
  pub so_far : i ≤ n
  pub put : Put (66 * i) (entry_lines (entries_in i 0 b)) s at s' j

pub none_traced : (n : ℕ) (b s : List ℕ) (at : ℕ) → Traced n b s at s 0 at
unfolding entry_lines entries_in
none_traced n b s at = record { so_far = omega arith; put = nothing s at }

module _ {n : ℕ} {b s : List ℕ} {at : ℕ} {s' : List ℕ} {i j : ℕ} (h : Traced n b s at s' i j) where
  pub one_more : i < n → {t : List ℕ} {k : ℕ}
      → Put 66 (ascii "at " ++ decimal (get_or b (3 * i) 0) ++ ascii " " ++ decimal (get_or b (3 * i + 1) 0) ++ ascii " " ++ decimal (get_or b (3 * i + 2) 0) ++ ascii "\n") s' j t k
      → Traced n b s at t (i + 1) k
  unfolding entry_line entry_at
  one_more l p =
      let z : 0 + i ≡ i = omega arith in
      record {
        so_far = omega arith;
        put = within (is (both h.put p) (sym (rw (add-one i, entries_more i 0 b, z) (lines_more (entries_in i 0 b) (entry_at b i))))) (66 * (i + 1)) (omega arith);
      }

  pub all_traced : n ≤ i → Put (66 * n) (entry_lines (entries_in n 0 b)) s at s' j
  all_traced l = let z : i ≡ n = (let y = h.so_far in omega arith) in rw z at h.put

-- ---- what an answer speaks of lies inside the stores

module _ {x : Result Halt Refusal} {cells backtrace : List ℕ} (h : Shows x cells backtrace) where
  pub cells_inside : {m : Vm} {u : Value} {n : Tally} → x ≡ Ok (r.Value m u n) → 2 * m.cells ≤ length cells
  cells_inside e = rw e at h.inside

  pub entries_inside : {m : Vm} {k : ℕ} {n : Tally} {j : ℕ} → x ≡ Ok (r.Fault m k n j) → 3 * j ≤ length backtrace
  entries_inside e = rw e at h.inside

-- ---- a report, whatever a host lends besides the cells and the backtrace

abbrev lent : List ℕ → List ℕ → List ℕ → List Frame → List ℕ → Lent
lent cells backtrace stack frames copy = record { stack = stack; cells = cells; frames = frames; copy = copy; backtrace = backtrace }

abbrev Reported : List ℕ → List ℕ → Result Halt Refusal → List ℕ → List ℕ → ℕ → Type 0
Reported cells backtrace x s t i =
    (stack : List ℕ) (frames : List Frame) (copy : List ℕ)
    → Put (128 + 22 * length backtrace) (answer_lines (answer_in (lent cells backtrace stack frames copy) x)) s 0 t i

spent_there : (m : Vm) (n : Tally) (l : Lent) {s s' : List ℕ} {i j : ℕ}
    → Put 54 (ascii "spent " ++ decimal n.spent ++ ascii "\nstack " ++ decimal m.stack ++ ascii "\n") s i s' j → Put 54 (spent_lines n (machine_in m l)) s i s' j
unfolding spent_lines machine_in
spent_there m n l p = rw (length_vals m.stack l.stack) p

pub paused_report : (cells backtrace : List ℕ) {x : Result Halt Refusal} {m : Vm} → x ≡ Ok (r.Paused m) → (s : List ℕ) → Reported cells backtrace x s s 0
unfolding answer_lines answer_in
paused_report cells backtrace e s = λ stack frames copy. rw e (within (nothing s 0) (128 + 22 * length backtrace) (omega arith))

module _ (cells backtrace : List ℕ) {x : Result Halt Refusal} {s₀ s₁ : List ℕ} {i₁ : ℕ} where
  pub refused_report : {e : Refusal} → x ≡ Err e → Put 29 (refused_line (refusal_number e)) s₀ 0 s₁ i₁ → Reported cells backtrace x s₀ s₁ i₁
  unfolding answer_lines answer_in
  refused_report e p stack frames copy = rw e (within p (128 + 22 * length backtrace) (omega arith))

  module _ (m : Vm) (n : Tally) {s₂ : List ℕ} {i₂ : ℕ} (q : Put 54 (ascii "spent " ++ decimal n.spent ++ ascii "\nstack " ++ decimal m.stack ++ ascii "\n") s₁ i₁ s₂ i₂) where
    pub value_report : {u : Value} → x ≡ Ok (r.Value m u n) → Put 71 (ascii "value " ++ value_text (heap_of m.cells cells) u ++ ascii "\n") s₀ 0 s₁ i₁
        → Reported cells backtrace x s₀ s₂ i₂
    unfolding answer_lines ran_lines answer_in reply_lines machine_in
    value_report e p stack frames copy = rw e (within (both p (spent_there m n (lent cells backtrace stack frames copy) q)) (128 + 22 * length backtrace) (omega arith))

    pub continue_report : x ≡ Ok (r.Continue m n) → Put 9 (ascii "continue\n") s₀ 0 s₁ i₁ → Reported cells backtrace x s₀ s₂ i₂
    unfolding answer_lines ran_lines answer_in reply_lines
    continue_report e p stack frames copy = rw e (within (both p (spent_there m n (lent cells backtrace stack frames copy) q)) (128 + 22 * length backtrace) (omega arith))

    pub fault_report : {k j : ℕ} → x ≡ Ok (r.Fault m k n j) → 3 * j ≤ length backtrace → {s₃ : List ℕ} {i₃ : ℕ}
        → Put 27 (ascii "fault " ++ decimal k ++ ascii "\n") s₀ 0 s₁ i₁ → Put (66 * j) (entry_lines (entries_in j 0 backtrace)) s₂ i₂ s₃ i₃
        → Reported cells backtrace x s₀ s₃ i₃
    unfolding answer_lines ran_lines answer_in reply_lines
    fault_report e h p z stack frames copy =
        rw e (within (both (both p (spent_there m n (lent cells backtrace stack frames copy) q)) z) (128 + 22 * length backtrace) (omega arith))
