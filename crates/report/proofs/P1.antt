-- P1, printed.
use mathlib.Core.Path.{◌≡◌, sym, ap, ◌∙◌}
use mathlib.Core.List.{List, [], map}
use Prim.Native.Nat.{ℕ, ◌≤◌}
use lib.ListN.{length, get_or}
use Rattle.model.specs.Basics.{ascii}
use Rattle.model.specs.Values.{places}
use Rattle.model.specs.Emission.{written}
use Rattle.model.specs.Reports.{runner_text, lister_text}
use Rattle.model.specs.Examples.{Shown, bytes, p1_image, p1_listing, examples, examples_hold}
use Rattle.report_lines.specs.Links.{Printed, printed}
use Rattle.report_lines.proofs.Prints.{fits}

bytes_same : {a b : List ℕ} → bytes a ≡ bytes b → a ≡ b
bytes_same e = cc

row : (n : ℕ) → get_or (map (λ e. e.gives) examples) n (bytes []) ≡ get_or (map (λ e. e.says) examples) n (bytes [])
row n = ap (λ (l : List Shown). get_or l n (bytes [])) examples_hold

ran : runner_text p1_image ≡ ascii "value scalar 4045800000000000\nspent 4\nstack 0\n"
unfolding examples
ran = bytes_same (row 5)

listed : lister_text p1_image ≡ p1_listing
unfolding examples
listed = bytes_same (row 6)

-- what is told and left where a text fits
left : (text want out : List ℕ) → text ≡ want → length want ≤ places 1 out → {r : ℕ} {out' : List ℕ} → record { count = r; out = out' } ≡ printed text out
    → ◌≡◌ {A = Printed} (record { count = r; out = out' }) (record { count = length want; out = written out 0 want })
left text want out e h p = p ∙ ap (λ (b : List ℕ). printed b out) e ∙ sym (fits want out h)

module _ (out : List ℕ) {r : ℕ} {out' : List ℕ} where
  -- what `run_image` prints for P1's image: three lines
  pub p1_prints : length (ascii "value scalar 4045800000000000\nspent 4\nstack 0\n") ≤ places 1 out → record { count = r; out = out' } ≡ printed (runner_text p1_image) out
      → ◌≡◌ {A = Printed} (record { count = r; out = out' })
      (record { count = length (ascii "value scalar 4045800000000000\nspent 4\nstack 0\n"); out = written out 0 (ascii "value scalar 4045800000000000\nspent 4\nstack 0\n") })
  p1_prints h p = left (runner_text p1_image) (ascii "value scalar 4045800000000000\nspent 4\nstack 0\n") out ran h p

  -- and `list_image`: its listing
  pub p1_lists : length p1_listing ≤ places 1 out → record { count = r; out = out' } ≡ printed (lister_text p1_image) out
      → ◌≡◌ {A = Printed} (record { count = r; out = out' }) (record { count = length p1_listing; out = written out 0 p1_listing })
  p1_lists h p = left (lister_text p1_image) p1_listing out listed h p
