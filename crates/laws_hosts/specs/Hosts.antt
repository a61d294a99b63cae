-- What a host in C holds, and what the export of each host call promises it: by cases over what crosses, no new rule.
use Rattle.std.specs.Prelude.{◌≡◌, false, List, [], ℕ, Result}
use Rattle.model.specs.declared.Vm.{Vm}
use Rattle.model.specs.Values.{value_of, kind, payload}
use Rattle.model.specs.Stores.{Stores}
use Rattle.model.specs.Emission.{Res, add_op_of, add_op1_of, add_op2_of, add_op3_of, current_offset_of, patch_of, add_constant_of, add_struct_of, begin_function_of, end_function_of, function_idx_of}
use Rattle.model.specs.Loading.{OutRes, save_of, list_of}
use Rattle.model.specs.Machines.{Lent, RunCall, set_strict as setStrictOf, backtrace_in, StartRes, load_machine_of, new_machine_of}
use Rattle.model.specs.Readers.{last_result_of, stack_value_of, block_header_of, element_of, text_bytes_of}
use Rattle.embed_words.specs.Coding.{vm_in, slices_refusal, value_refusal, at_entry, at_listing, Coded, changed_coded, told_coded, shown_coded, headed_coded, through, emit_through, out_through, RunThrough, start_through}
use Rattle.demands.specs.Host.{with_frames, Ask, new, load, add_op, add_op1, add_op2, add_op3, patch, add_constant, add_struct, begin_function, end_function, set_strict, current_offset, function_idx, save, disassemble, backtrace, last_result, stack_value, block_header, element, text_bytes, Call, run, ask}
use Rattle.model.specs.declared.Refusal.{Refusal}

-- the words of a machine's record, the program's stores, and what is lent besides
pub record CHeld : Type 0 where
  pub words : List ℕ
  pub stores : Stores
  pub lent : Lent

-- what an export leaves: the number that comes back, the record's words and the answer's; a lent result store ([] where none is lent); and the stores
pub record CDone : Type 0 where
  pub coded : Coded
  pub out : List ℕ
  pub stores : Stores
  pub lent : Lent

-- what the host then holds
abbrev pub left_by : CDone → CHeld
left_by d = record { words = d.coded.vm; stores = d.stores; lent = d.lent }

-- ---- the exports whose promise is an equation: a is the store that is lent for the answer

-- emission over the record's machine
unfoldable pub emitting : (a : List ℕ) → CHeld → (Vm → Res) → CDone
emitting a g rule =
    let x = emit_through g.words a g.stores rule in
    record { coded = x.coded; out = []; stores = x.stores; lent = g.lent }

-- making a machine: r is what the entry does where no run is under way
unfoldable pub making : (a : List ℕ) → CHeld → (r : StartRes) → CDone
making a g r =
    let x = start_through g.words a g.stores g.lent.frames r in
    record { coded = x.coded; out = []; stores = x.stores; lent = with_frames x.frames g.lent }

-- changing the setting: the record alone is written. Nothing is told besides, so that no store is lent for an answer: a is [], and in any case as it was
unfoldable pub setting : (a : List ℕ) → CHeld → (Vm → Result Vm Refusal) → CDone
setting a g rule = record {
  coded = through at_entry (slices_refusal g.words 0 a) g.words a (changed_coded (rule (vm_in g.words)) g.words a);
  out = [];
  stores = g.stores;
  lent = g.lent;
}

-- only looking: x is what the entry itself does, in words
unfoldable pub looking : (firsts : List ℕ) (why : ℕ) (a : List ℕ) → CHeld → (x : Coded) → CDone
looking firsts why a g x = record { coded = through firsts why g.words a x; out = []; stores = g.stores; lent = g.lent }

-- looking, with what is read put into a lent store
unfoldable pub putting : (firsts : List ℕ) (why : ℕ) (a out : List ℕ) → CHeld → (Vm → OutRes) → CDone
putting firsts why a out g rule =
    let x = out_through firsts why g.words a out rule in
    record { coded = x.coded; out = x.out; stores = g.stores; lent = g.lent }

-- a value is handed in as its kind and its payload
unfoldable pub ask_through : Ask → (a : List ℕ) → CHeld → CDone
ask_through new a g = making a g (new_machine_of false g.stores g.lent.frames)
ask_through (load image) a g = making a g (load_machine_of false image g.stores g.lent.frames)
ask_through (add_op op place) a g = emitting a g (λ m. add_op_of m.run.on m.program op place g.stores)
ask_through (add_op1 op i place) a g = emitting a g (λ m. add_op1_of m.run.on m.program op i place g.stores)
ask_through (add_op2 op i j place) a g = emitting a g (λ m. add_op2_of m.run.on m.program op i j place g.stores)
ask_through (add_op3 op i j k place) a g = emitting a g (λ m. add_op3_of m.run.on m.program op i j k place g.stores)
ask_through (patch offset word) a g = emitting a g (λ m. patch_of m.run.on m.program offset word g.stores)
ask_through (add_constant x text) a g = emitting a g (λ m. add_constant_of m.run.on m.program x text g.stores)
ask_through (add_struct text) a g = emitting a g (λ m. add_struct_of m.run.on m.program text g.stores)
ask_through (begin_function text) a g = emitting a g (λ m. begin_function_of m.run.on m.program text g.stores)
ask_through end_function a g = emitting a g (λ m. record { answer = end_function_of m.run.on m.program; stores = g.stores })
ask_through (set_strict b) a g = setting a g (λ m. setStrictOf b m g.stores g.lent)
ask_through current_offset a g =
    let m = vm_in g.words in looking at_entry (slices_refusal g.words 1 a) a g (told_coded (current_offset_of m.program g.stores.functions) g.words a)
ask_through (function_idx text) a g =
    let m = vm_in g.words in looking at_entry (slices_refusal g.words 1 a) a g (told_coded (function_idx_of m.program text g.stores) g.words a)
ask_through (save out) a g = putting at_entry (slices_refusal g.words 1 a) a out g (λ m. save_of m.program g.stores out)
ask_through (disassemble out) a g = putting at_listing (slices_refusal g.words 1 a) a out g (λ m. list_of m.program g.stores out)
ask_through (backtrace out) a g = putting at_entry (slices_refusal g.words 1 a) a out g (λ m. backtrace_in m g.stores g.lent.stack g.lent.frames out)
ask_through last_result a g = looking at_entry (slices_refusal g.words 2 a) a g (shown_coded (last_result_of (vm_in g.words)) g.words a)
ask_through (stack_value i) a g = looking at_entry (slices_refusal g.words 2 a) a g (shown_coded (stack_value_of (vm_in g.words) i g.lent.stack) g.words a)
ask_through (block_header x) a g =
    let y = value_of (kind x) (payload x) in
    looking at_entry (value_refusal g.words (kind x) (payload x) 3 a) a g (headed_coded (block_header_of (vm_in g.words) y g.lent.cells) g.words a)
ask_through (element x i) a g =
    let y = value_of (kind x) (payload x) in
    looking at_entry (value_refusal g.words (kind x) (payload x) 2 a) a g (shown_coded (element_of (vm_in g.words) y i g.lent.cells) g.words a)
ask_through (text_bytes x out) a g =
    let y = value_of (kind x) (payload x) in
    putting at_entry (value_refusal g.words (kind x) (payload x) 1 a) a out g (λ m. text_bytes_of m y g.stores.text out)

-- ---- a part of a run: the program's stores are only read

pub record RanThrough (c : RunCall) (a : List ℕ) (g : CHeld) (d : CDone) : Type 0 where
  pub run : RunThrough c g.words a g.stores g.lent d.coded d.lent
  pub stores : d.stores ≡ g.stores
  pub out : d.out ≡ []

-- WHAT THE EXPORT of each call promises of what it leaves
abbrev pub Through : Call → (a : List ℕ) → CHeld → CDone → Type 0
Through (run c) a g d = RanThrough c a g d
Through (ask q) a g d = d ≡ ask_through q a g
