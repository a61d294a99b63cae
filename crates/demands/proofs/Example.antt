-- Two strict machines that mean the same, each with a run under way: the texts of one lie in another order, as after loading, and its cells are not behind those of
-- a list that nothing names, so that its run goes back to fewer cells.
use mathlib.Core.Path.{◌≡◌, refl, sym, ◌∙◌}
use mathlib.Core.Bool.{true, false}
use mathlib.Core.List.{List, [], ◌∷◌}
use Prim.Native.Nat.{ℕ, zero, suc, ◌<◌}
use native.Mathlib.Omega.{arith}
use lib.ListN.{get_or}
use Rattle.model.specs.declared.Run.{Run}
use Rattle.model.specs.declared.Value.TheVariants as v
use Rattle.model.specs.Basics.{ascii, every_from}
use Rattle.model.specs.Values.{places, value_of, kind_at, payload_at, value_at, vals, values_from, exact_value, text_at}
use Rattle.model.specs.Heap as hp
use Rattle.model.specs.Equality.{same_bytes}
use Rattle.model.specs.Trees.{trees_of, tree_of, meaning_to, meaning}
use Rattle.model.specs.Programs.{main_name, function_at}
use Rattle.model.specs.Runs.{root}
use Rattle.model.specs.Stores as st
use Rattle.model.specs.Orders as o
use Rattle.model.specs.Emission.{counts}
use Rattle.model.specs.Machines.{frame_room, innermost, callers_in, machine_in, progress_in, under_in, world_of, machine_order, under_order, part_order, run_order}
use Rattle.laws_meaning.specs.Alike.{none, more, is, not_yet}
use Rattle.demands.specs.Host.{Held, Call, Answer, Chain}
use Rattle.demands.specs.Jobs.{anew, AllTyped}
use Rattle.demands.specs.Meant.{Fine, AlikeHeld, said}
use Rattle.demands.proofs.MeantChains.{chain_alike}
use Rattle.std.specs.Prelude.{Some}

-- a run of a machine with n cells that was given two units and has spent none; one value is saved
abbrev paused : ℕ → Run
paused n = record { on = true; given = 2; spent = 0; returns = 0; mark = n; saved = 1 }

-- `<main>` with one byte of code, and the string "ab", which lies at i of the text; `<main>` lies at j
abbrev holds : List ℕ → ℕ → ℕ → List ℕ → ℕ → ℕ → Held
holds text i j cells n p = record {
  vm = record { program = counts 1 0 1 8 0; stack = 1; frames = 1; cells = n; last = Some (v.List p); run = paused n; strict = true };
  stores = record {
    constants = 2 ∷ st.pack i 2 ∷ [];
    structs = [];
    functions = st.pack j 6 ∷ st.pack 0 1 ∷ [];
    text = text;
    main = 0 ∷ [];
    main_places = 0 ∷ [];
    other = [];
    other_places = [];
  };
  lent = record { stack = 4 ∷ p ∷ []; cells = cells; frames = root 0 ∷ []; copy = 4 ∷ p ∷ []; backtrace = 0 ∷ 0 ∷ 0 ∷ [] };
}

-- a list of true
abbrev one : List ℕ
one = 6 ∷ 4294967297 ∷ 1 ∷ 1 ∷ []

-- behind an empty list, on the stack, in the copy and as the last result
abbrev pub used : Held
used = holds (ascii "<main>ab") 6 0 (6 ∷ 4294967296 ∷ one) 3 1

-- alone
abbrev pub made : Held
made = holds (ascii "ab<main>") 0 2 one 2 0

one_byte : (j : ℕ) → j < 1 → get_or (0 ∷ []) j 0 < 256
one_byte zero h = omega arith
one_byte (suc j) h = absurd (let z : ⊥ = omega arith in z)

both_fine : Fine used × Fine made
unfolding ascii every_from places value_of kind_at payload_at value_at vals exact_value text_at same_bytes main_name function_at frame_room machine_in machine_order under_order part_order run_order innermost hp.header_of hp.cell_of hp.cell_at hp.cells_from hp.heap_of hp.cell_in hp.item_in hp.head_in hp.items hp.elements_in hp.depth_in hp.deepest hp.whole_below hp.placed_below hp.element_below hp.elements_below hp.block_ok hp.blocks_from hp.heap_ok hp.exact_cell hp.exact_cells st.start st.size st.pack st.part st.struct_word st.name_word st.code_word st.code_end st.structs_from st.function_in st.functions_from o.counts_ok o.text_ok o.inside_text o.constant_ok o.constants_ok o.structs_ok o.code_start o.function_ok o.functions_ok o.main_ok o.main_taken o.other_taken o.inside_codes o.program_ok o.cells_ok o.stack_ok o.last_ok o.frame_ok o.caller_ok o.frames_from o.frames_ok o.frame_store_ok
both_fine = (
  record { order = record { program = refl; machine = refl }; code = record { main = one_byte; other = λ j h. omega arith } },
  record { order = record { program = refl; machine = refl }; code = record { main = one_byte; other = λ j h. omega arith } },
)

pub mean_the_same : AlikeHeld false used made
unfolding ascii places value_of kind_at payload_at value_at vals values_from text_at trees_of tree_of meaning_to meaning innermost callers_in machine_in progress_in under_in world_of hp.header_of hp.cell_of hp.cell_at hp.cells_from hp.heap_of hp.cell_in hp.item_in hp.head_in hp.items hp.elements_in st.start st.size st.pack st.part st.name_word st.code_word st.constant_in st.constants_from st.structs_from st.function_in st.functions_from st.program_in st.world_in
mean_the_same = record {
  counts = refl;
  program = refl;
  stores = record { constants = refl; structs = refl; functions = refl; text = refl; main = refl; main_places = refl; other = refl; other_places = refl };
  strict = refl;
  machine = record { stack = more refl none; last = is refl; frame = refl; callers = refl; free = refl };
  on = refl;
  under = λ _. record {
    given = refl;
    state = record { machine = record { stack = more refl none; last = is refl; frame = refl; callers = refl; free = refl }; spent = refl; units = refl };
    start = more refl none;
    marks = record { last = is refl; free = refl; returns = refl };
    answers = not_yet refl refl;
  };
  stack = refl;
  frames = refl;
  copy = refl;
  backtrace = refl;
  cells = λ e. absurd (let z : ◌≡◌ {A = ℕ} 0 1 = cc in let y : ⊥ = omega arith in y);
  fine = both_fine.0;
  beside = both_fine.1;
}

-- whatever calls come that make no machine anew
pub example : {calls : List Call} → anew calls ≡ false → AllTyped calls → {xs ys : List Answer} {e f : Held} (p : Chain calls used xs e) (q : Chain calls made ys f) → said p ≡ said q
example n t p q = (chain_alike mean_the_same (λ e. sym n ∙ e) t p q).says
