-- What crosses: a host in C holds what a host in Rattle holds, and what comes back to it tells the entry's answer.
use Rattle.std.specs.Prelude.{◌≡◌, Bool, true, List, [], ◌∷◌, ℕ, ◌≤◌, leb, length, if◌then◌else◌, Err, Ok, Result}
use Rattle.std.proofs.Math.Option.{Option, none, some}
use Rattle.model.specs.declared.Value.{Value}
use Rattle.model.specs.declared.Vm.{Vm}
use Rattle.model.specs.Basics.{written}
use Rattle.model.specs.Values.{value_of, kind, payload, exact_value}
use Rattle.model.specs.Runs.{Reply, value, continue, fault, ends, pauses}
use Rattle.model.specs.Machines.{RunAnswer, ran as answered, refused}
use Rattle.embed_words.specs.Coding.{vm_in, record_ok, at_entry, at_listing, crossed}
use Rattle.demands.specs.Host.{Held, Ask, new, load, add_op, add_op1, add_op2, add_op3, patch, add_constant, add_struct, begin_function, end_function, set_strict, current_offset, function_idx, save, disassemble, backtrace, last_result, stack_value, block_header, element, text_bytes, Call, run, ask, Answer, ran, emitted, started, changed, told, put, shown, headed, After}
use Rattle.demands.specs.Refusals.{first_of, checks, refused_by}
use Rattle.demands.specs.Kept.{InOrder}
use Rattle.laws_hosts.specs.Hosts.{CHeld, CDone, left_by}
use Rattle.model.specs.declared.Counts.{Counts}
use Rattle.model.specs.declared.Header.{Header}
use Rattle.model.specs.declared.Refusal.{Refusal}
use Rattle.model.specs.declared.Refusal.TheVariants as why

-- the machine m with that setting
abbrev pub strictly : (strict : Bool) → Vm → Vm
strictly b m = record { program = m.program; stack = m.stack; frames = m.frames; cells = m.cells; last = m.last; run = m.run; strict = b }

-- what a host in C holds, as the entries take it
abbrev pub held_in : CHeld → Held
held_in g = record { vm = vm_in g.words; stores = g.stores; lent = g.lent }

-- its words are a machine's record
abbrev pub Taken : CHeld → Type 0
Taken g = record_ok g.words ≡ true

-- ---- how a call crosses

-- the words that its answer takes; the numbers that come before 17, where the answer is too short; the result store that it lends; the value that it hands in
pub record Way : Type 0 where
  pub room : ℕ
  pub firsts : List ℕ
  pub out : List ℕ
  pub value : Option Value

-- at an entry 19 comes first, and then 18 or 25
abbrev plain : ℕ → Way
plain n = record { room = n; firsts = at_entry; out = []; value = none }

-- "loading: 25 first", and then a broken image
abbrev made : Way
made = record { room = 1; firsts = 25 ∷ 20 ∷ []; out = []; value = none }

-- what is read is put into `out`
abbrev into : List ℕ → List ℕ → Way
into firsts out = record { room = 1; firsts = firsts; out = out; value = none }

-- a value is handed in
abbrev handing : Value → ℕ → List ℕ → Way
handing x n out = record { room = n; firsts = at_entry; out = out; value = some x }

abbrev pub ask_way : Ask → Way
ask_way new = made
ask_way (load image) = made
ask_way (add_op op place) = plain 1
ask_way (add_op1 op i place) = plain 1
ask_way (add_op2 op i j place) = plain 1
ask_way (add_op3 op i j k place) = plain 1
ask_way (patch offset word) = plain 1
ask_way (add_constant x text) = plain 1
ask_way (add_struct text) = plain 1
ask_way (begin_function text) = plain 1
ask_way end_function = plain 1
-- it tells nothing but its number
ask_way (set_strict b) = plain 0
ask_way current_offset = plain 1
ask_way (function_idx text) = plain 1
ask_way (save out) = into at_entry out
ask_way (disassemble out) = into at_listing out
ask_way (backtrace out) = into at_entry out
ask_way last_result = plain 2
ask_way (stack_value i) = plain 2
ask_way (block_header x) = handing x 3 []
ask_way (element x i) = handing x 2 []
ask_way (text_bytes x out) = handing x 1 out

abbrev pub way_of : Call → Way
way_of (run c) = plain 5
way_of (ask q) = ask_way q

-- a value that is exactly what its words stand for
pub record Exact (x : Value) : Type 0 where
  pub exact : exact_value (kind x) (payload x) ≡ true
  pub back : value_of (kind x) (payload x) ≡ x

abbrev pub ExactIf : Option Value → Type 0
ExactIf none = Unit
ExactIf (some x) = Exact x

-- the call is lent a store that is long enough for its answer, and what it hands in is the words of a value
pub record Handed (c : Call) (a : List ℕ) : Type 0 where
  pub room : (way_of c).room ≤ length a
  pub value : ExactIf (way_of c).value

-- ---- what comes back

abbrev pub number_of : Option ℕ → ℕ
number_of none = 0
number_of (some n) = n

abbrev pub reply_words : Reply → List ℕ
reply_words (value v n) = 1 ∷ n.spent ∷ n.returns ∷ kind v ∷ payload v ∷ []
reply_words (continue n) = 2 ∷ n.spent ∷ n.returns ∷ 0 ∷ 0 ∷ []
reply_words (fault k n es) = 3 ∷ n.spent ∷ n.returns ∷ k ∷ length es ∷ []

abbrev pub part_words : RunAnswer → List ℕ
part_words (answered c (ends x)) = reply_words x.reply
part_words (answered c (pauses r)) = 4 ∷ r.state.spent ∷ r.progress.returns ∷ 0 ∷ 0 ∷ []
part_words (refused n) = []

abbrev pub emitted_words : Result (Counts × ℕ) Refusal → List ℕ
emitted_words (Ok (c, n)) = n ∷ []
emitted_words (Err e) = []

-- of refusal 20 the offset
abbrev pub started_words : Result Vm Refusal → List ℕ
started_words (Ok m) = []
started_words (Err (why.BrokenImage i)) = i ∷ []
started_words (Err e) = []

-- whether the machine is strict is a word of its record
abbrev pub changed_words : Result Vm Refusal → List ℕ
changed_words x = []

abbrev pub told_words : Result ℕ Refusal → List ℕ
told_words (Ok n) = n ∷ []
told_words (Err e) = []

abbrev pub shown_words : Result Value Refusal → List ℕ
shown_words (Ok v) = kind v ∷ payload v ∷ []
shown_words (Err e) = []

abbrev pub headed_words : Result Header Refusal → List ℕ
headed_words (Ok x) = x.count ∷ x.number ∷ x.depth ∷ []
headed_words (Err e) = []

abbrev pub answer_words : Answer → List ℕ
answer_words (ran x) = part_words x
answer_words (emitted x) = emitted_words x
answer_words (started x) = started_words x
answer_words (changed x) = changed_words x
answer_words (told x) = told_words x
answer_words (put out x) = told_words x.answer
answer_words (shown x) = shown_words x
answer_words (headed x) = headed_words x

abbrev pub out_of : Answer → List ℕ
out_of (ran x) = []
out_of (emitted x) = []
out_of (started x) = []
out_of (changed x) = []
out_of (told x) = []
out_of (put out x) = x.out
out_of (shown x) = []
out_of (headed x) = []

-- what came back tells the answer x: 0 or the number of its refusal; its words at the front of the answer's store, and nothing past them; the result store
pub record Tells (a : List ℕ) (x : Answer) (d : CDone) : Type 0 where
  pub number : d.coded.number ≡ number_of (refused_by x)
  pub words : d.coded.answer ≡ written a 0 (answer_words x)
  pub out : d.out ≡ out_of x

-- a call from C does what the entry does: from what the host held to what it then holds
pub record Did (c : Call) (a : List ℕ) (g : CHeld) (d : CDone) : Type 0 where
  pub answer : Answer
  pub after : After c (held_in g) answer (held_in (left_by d))
  pub tells : Tells a answer d
  -- a refusal writes no word of the record, nor of a lent result store
  pub kept : (n : ℕ) → refused_by answer ≡ some n → (d.coded.vm ≡ g.words) × (d.out ≡ (way_of c).out)

-- A CALL THAT CROSSED: and the words are a machine's record again
pub record Crossed (c : Call) (a : List ℕ) (g : CHeld) (d : CDone) : Type 0 where
  pub did : Did c a g d
  pub taken : Taken (left_by d)

-- a machine that was made over seventeen words, whatever stood there: they are a record then, and what the host holds is in good order
pub record MadeIn (q : Ask) (a : List ℕ) (g : CHeld) (d : CDone) : Type 0 where
  pub did : Did (ask q) a g d
  pub taken : Taken (left_by d)
  pub order : InOrder (held_in (left_by d))

-- THE SETTING, changed from C: what the host then holds is what it held, but for that
pub record SetIn (strict : Bool) (g : CHeld) (d : CDone) : Type 0 where
  pub held : held_in (left_by d) ≡ record { vm = strictly strict (held_in g).vm; stores = g.stores; lent = g.lent }
  pub taken : Taken (left_by d)

-- ---- DEMAND 1 of a call from C

-- the number of the entry's first check that fails, or 0
unfoldable pub own_number : Call → Held → ℕ
own_number c h = number_of (first_of (checks c h))

-- the number that comes back: a short answer is 17, and gives way to a number that comes first
unfoldable pub number_from : Call → (a : List ℕ) → CHeld → ℕ
number_from c a g = if leb (way_of c).room (length a) then own_number c (held_in g) else crossed (way_of c).firsts 17 (own_number c (held_in g))

-- it is that number, and no other; with any but 0 nothing has changed that the host holds, nor a result store that it lent
pub record CDemand1 (c : Call) (a : List ℕ) (g : CHeld) (d : CDone) : Type 0 where
  pub number : d.coded.number ≡ number_from c a g
  pub held : (d.coded.number ≡ 0 → ⊥) → left_by d ≡ g
  pub out : (d.coded.number ≡ 0 → ⊥) → d.out ≡ (way_of c).out

-- nothing has changed, the answer's store and a lent result store among it
pub record Unchanged (c : Call) (a : List ℕ) (g : CHeld) (d : CDone) : Type 0 where
  pub held : left_by d ≡ g
  pub answer : d.coded.answer ≡ a
  pub out : d.out ≡ (way_of c).out

-- where the answer is too short
pub record Short (c : Call) (a : List ℕ) (g : CHeld) (d : CDone) : Type 0 where
  pub number : d.coded.number ≡ crossed (way_of c).firsts 17 (own_number c (held_in g))
  pub unchanged : Unchanged c a g d

-- where the words are no machine's record, or those of a value that is handed in are no value's
pub record NotTaken (c : Call) (a : List ℕ) (g : CHeld) (d : CDone) : Type 0 where
  pub number : d.coded.number ≡ 19
  pub unchanged : Unchanged c a g d
