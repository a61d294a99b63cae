-- What a host holds, the calls that it can make, and what each call answers and leaves: as the contracts of the entries say.
use Rattle.std.specs.Prelude.{◌≡◌, Bool, List, [], ◌∷◌, ℕ, Err, Ok, Result}
use Rattle.model.specs.declared.Constant.{Constant}
use Rattle.model.specs.declared.Value.{Value}
use Rattle.model.specs.declared.Frame.{Frame}
use Rattle.model.specs.declared.Vm.{Vm}
use Rattle.model.specs.declared.Halt.TheVariants as r
use Rattle.model.specs.Stores.{Stores}
use Rattle.model.specs.Emission.{Res, add_op_of, add_op1_of, add_op2_of, add_op3_of, current_offset_of, patch_of, add_constant_of, add_struct_of, begin_function_of, end_function_of, function_idx_of}
use Rattle.model.specs.Loading.{OutRes, save_of, list_of}
use Rattle.model.specs.Machines.{Lent, RunAnswer, answer_in, RunCall, RunPost, set_strict as setStrictOf, backtrace_in, StartRes, load_machine_of, new_machine_of}
use Rattle.model.specs.Readers.{last_result_of, stack_value_of, block_header_of, element_of, text_bytes_of}
use Rattle.model.specs.declared.Counts.{Counts}
use Rattle.model.specs.declared.Header.{Header}
use Rattle.model.specs.declared.Halt.{Halt}
use Rattle.model.specs.declared.Refusal.{Refusal}

-- the machine's counts, the program's stores, and what is lent besides
pub record Held : Type 0 where
  pub vm : Vm
  pub stores : Stores
  pub lent : Lent

-- the entries whose contract is an equation with a rule. `out` is a lent result store, `text` a lent text.
pub data Ask : Type 0 where
  new : Ask
  load : (image : List ℕ) → Ask
  add_op : (op place : ℕ) → Ask
  add_op1 : (op a place : ℕ) → Ask
  add_op2 : (op a b place : ℕ) → Ask
  add_op3 : (op a b c place : ℕ) → Ask
  patch : (offset word : ℕ) → Ask
  add_constant : Constant → (text : List ℕ) → Ask
  add_struct : (text : List ℕ) → Ask
  begin_function : (text : List ℕ) → Ask
  end_function : Ask
  set_strict : (strict : Bool) → Ask
  -- these only look
  current_offset : Ask
  function_idx : (text : List ℕ) → Ask
  save : (out : List ℕ) → Ask
  disassemble : (out : List ℕ) → Ask
  backtrace : (out : List ℕ) → Ask
  last_result : Ask
  stack_value : (i : ℕ) → Ask
  block_header : Value → Ask
  element : Value → (i : ℕ) → Ask
  text_bytes : Value → (out : List ℕ) → Ask

-- the three calls of a run, and all others
pub data Call : Type 0 where
  run : RunCall → Call
  ask : Ask → Call

-- what comes back; of an entry that writes a result store, the store as it was lent, the answer, and the store then
pub data Answer : Type 0 where
  ran : RunAnswer → Answer
  emitted : Result (Counts × ℕ) Refusal → Answer
  started : Result Vm Refusal → Answer
  changed : Result Vm Refusal → Answer
  told : Result ℕ Refusal → Answer
  put : (out : List ℕ) → OutRes → Answer
  shown : Result Value Refusal → Answer
  headed : Result Header Refusal → Answer

-- ---- the equational entries

pub record Done : Type 0 where
  pub answer : Answer
  pub held : Held

-- only the program's counts change
abbrev pub counted : Vm → Result (Counts × ℕ) Refusal → Vm
counted m (Ok (c, n)) = record { program = c; stack = m.stack; frames = m.frames; cells = m.cells; last = m.last; run = m.run; strict = m.strict }
counted m (Err e) = m

unfoldable pub emits : Held → Res → Done
emits h x = record { answer = emitted x.answer; held = record { vm = counted h.vm x.answer; stores = x.stores; lent = h.lent } }

-- the machine is another one
abbrev pub replaced : Vm → Result Vm Refusal → Vm
replaced m (Ok m') = m'
replaced m (Err e) = m

abbrev pub with_frames : List Frame → Lent → Lent
with_frames fs l = record { stack = l.stack; cells = l.cells; frames = fs; copy = l.copy; backtrace = l.backtrace }

unfoldable pub starts : Held → StartRes → Done
starts h x = record { answer = started x.answer; held = record { vm = replaced h.vm x.answer; stores = x.stores; lent = with_frames x.frames h.lent } }

-- the machine comes back with the setting
abbrev pub with_setting : Vm → Result Vm Refusal → Vm
with_setting m (Ok m') = m'
with_setting m (Err e) = m

unfoldable pub changes : Held → Result Vm Refusal → Done
changes h x = record { answer = changed x; held = record { vm = with_setting h.vm x; stores = h.stores; lent = h.lent } }

-- nothing changes
unfoldable pub looks : Held → Answer → Done
looks h a = record { answer = a; held = h }

-- emission, loading and making anew are told whether a run is under way
unfoldable pub done : Ask → Held → Done
done new h = starts h (new_machine_of h.vm.run.on h.stores h.lent.frames)
done (load image) h = starts h (load_machine_of h.vm.run.on image h.stores h.lent.frames)
done (add_op op place) h = emits h (add_op_of h.vm.run.on h.vm.program op place h.stores)
done (add_op1 op a place) h = emits h (add_op1_of h.vm.run.on h.vm.program op a place h.stores)
done (add_op2 op a b place) h = emits h (add_op2_of h.vm.run.on h.vm.program op a b place h.stores)
done (add_op3 op a b c place) h = emits h (add_op3_of h.vm.run.on h.vm.program op a b c place h.stores)
done (patch offset word) h = emits h (patch_of h.vm.run.on h.vm.program offset word h.stores)
done (add_constant x text) h = emits h (add_constant_of h.vm.run.on h.vm.program x text h.stores)
done (add_struct text) h = emits h (add_struct_of h.vm.run.on h.vm.program text h.stores)
done (begin_function text) h = emits h (begin_function_of h.vm.run.on h.vm.program text h.stores)
done end_function h = emits h (record { answer = end_function_of h.vm.run.on h.vm.program; stores = h.stores })
done (set_strict b) h = changes h (setStrictOf b h.vm h.stores h.lent)
done current_offset h = looks h (told (current_offset_of h.vm.program h.stores.functions))
done (function_idx text) h = looks h (told (function_idx_of h.vm.program text h.stores))
done (save out) h = looks h (put out (save_of h.vm.program h.stores out))
done (disassemble out) h = looks h (put out (list_of h.vm.program h.stores out))
done (backtrace out) h = looks h (put out (backtrace_in h.vm h.stores h.lent.stack h.lent.frames out))
done last_result h = looks h (shown (last_result_of h.vm))
done (stack_value i) h = looks h (shown (stack_value_of h.vm i h.lent.stack))
done (block_header x) h = looks h (headed (block_header_of h.vm x h.lent.cells))
done (element x i) h = looks h (shown (element_of h.vm x i h.lent.cells))
done (text_bytes x out) h = looks h (put out (text_bytes_of h.vm x h.stores.text out))

-- ---- a part of a run

abbrev pub vm_after : Vm → Result Halt Refusal → Vm
vm_after m (Ok (r.Value m' x n)) = m'
vm_after m (Ok (r.Continue m' n)) = m'
vm_after m (Ok (r.Fault m' k n j)) = m'
vm_after m (Ok (r.Paused m')) = m'
vm_after m (Err e) = m

-- a result and lent stores that fit the contract of a run's call; the program's stores are only read
pub record RanBy (c : RunCall) (h : Held) (a : Answer) (h' : Held) : Type 0 where
  pub result : Result Halt Refusal
  pub post : RunPost c h.vm h.stores h.lent result h'.lent
  pub answer : a ≡ ran (answer_in h'.lent result)
  pub vm : h'.vm ≡ vm_after h.vm result
  pub stores : h'.stores ≡ h.stores

-- ---- calls one after another

-- what a call's contract says of its answer and of what the host then holds
abbrev pub After : Call → Held → Answer → Held → Type 0
After (run c) h a h' = RanBy c h a h'
After (ask q) h a h' = done q h ≡ record { answer = a; held = h' }

pub data Chain : List Call → Held → List Answer → Held → Type 0 where
  none : {h : Held} → Chain [] h [] h
  more : {c : Call} {cs : List Call} {h h' k : Held} {a : Answer} {as' : List Answer} → After c h a h' → Chain cs h' as' k → Chain (c ∷ cs) h (a ∷ as') k
