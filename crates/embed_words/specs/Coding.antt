-- What crosses to a host in C: a machine's record and the entries' answers, as words in slices that the host lends.
-- Enums do not cross: a value is its kind and its payload, as in the stores; an entry returns 0, or the number of its refusal.
use Rattle.std.specs.Prelude.{◌≡◌, Bool, true, false, ◌&&◌, ◌||◌, List, [], ◌∷◌, ℕ, T, eqb, leb, length, get_or, if◌then◌else◌, Err, None, Ok, Option, Result, Some}
use Rattle.std.specs.Float.{binary64}
use Rattle.std.specs.Float.Ieee.{fits}
use Rattle.model.specs.declared.Counts.{Counts}
use Rattle.model.specs.declared.Run.{Run}
use Rattle.model.specs.declared.Vm.{Vm}
use Rattle.model.specs.declared.Value.{Value}
use Rattle.model.specs.declared.Value.TheVariants as v
use Rattle.model.specs.declared.Frame.{Frame}
use Rattle.model.specs.declared.Halt.TheVariants as r
use Rattle.model.specs.Basics.{written}
use Rattle.model.specs.Values.{kind, payload, exact_value, bit}
use Rattle.model.specs.Answers.{refusal_number}
use Rattle.model.specs.Stores.{Stores}
use Rattle.model.specs.Emission.{Res}
use Rattle.model.specs.Loading.{OutRes}
use Rattle.model.specs.Machines.{Lent, RunCall, run_answer, refusal_of, RunPost, StartRes}
use Rattle.value.specs.Links.{Fine, last_in, last_kind, last_payload}
use Rattle.model.specs.declared.Header.{Header}
use Rattle.model.specs.declared.Halt.{Halt}
use Rattle.model.specs.declared.Refusal.{Refusal}
use Rattle.model.specs.declared.Refusal.TheVariants as reason

-- ---- a machine's record in seventeen words: constants, structs, functions, text, current, stack, frames, cells; the last result's kind and payload (kind 7,
-- payload 0: none); and the run: whether one is under way (1, else 0), units given, units spent, root Returns, mark, values in the copy; and whether
-- the machine is strict (1, else 0)

unfoldable pub run_in : List ℕ → Run
run_in w = record {
  on = eqb (get_or w 10 0) 1;
  given = get_or w 11 0;
  spent = get_or w 12 0;
  returns = get_or w 13 0;
  mark = get_or w 14 0;
  saved = get_or w 15 0;
}

unfoldable pub vm_in : List ℕ → Vm
vm_in w = record {
  program = record { constants = get_or w 0 0; structs = get_or w 1 0; functions = get_or w 2 0; text = get_or w 3 0; current = get_or w 4 0 };
  stack = get_or w 5 0;
  frames = get_or w 6 0;
  cells = get_or w 7 0;
  last = last_in (get_or w 8 0) (get_or w 9 0);
  run = run_in w;
  strict = eqb (get_or w 16 0) 1;
}

unfoldable pub count_words : Counts → List ℕ
count_words c = c.constants ∷ c.structs ∷ c.functions ∷ c.text ∷ c.current ∷ []

unfoldable pub under_words : Run → List ℕ
under_words x = bit x.on ∷ x.given ∷ x.spent ∷ x.returns ∷ x.mark ∷ x.saved ∷ []

unfoldable pub vm_words : Vm → List ℕ
vm_words m =
    m.program.constants ∷ m.program.structs ∷ m.program.functions ∷ m.program.text ∷ m.program.current
    ∷ m.stack ∷ m.frames ∷ m.cells ∷ last_kind m.last ∷ last_payload m.last
    ∷ bit m.run.on ∷ m.run.given ∷ m.run.spent ∷ m.run.returns ∷ m.run.mark ∷ m.run.saved ∷ bit m.strict ∷ []

-- a last result that the words of a store can hold: what the types of the code say of it, and, of texts and cells, good order too
abbrev pub FineLast : Option Value → Type 0
FineLast None = Unit
FineLast (Some v) = Fine v

-- of these the type says only that a scalar is a float of 64 bits
abbrev pub TypedValue : Value → Type 0
TypedValue (v.Scalar x) = T (fits binary64 x)
TypedValue (v.Boolean x) = Unit
TypedValue (v.String o n) = Unit
TypedValue (v.FunctionReference o n) = Unit
TypedValue (v.List p) = Unit
TypedValue (v.StructInstance p) = Unit

abbrev pub TypedLast : Option Value → Type 0
TypedLast None = Unit
TypedLast (Some v) = TypedValue v

-- the words of a last result are exactly those of a value, or of none
unfoldable pub last_exact : ℕ → ℕ → Bool
last_exact k a = if eqb k 7 then eqb a 0 else exact_value k a

unfoldable pub record_ok : List ℕ → Bool
record_ok w = leb 17 (length w) && last_exact (get_or w 8 0) (get_or w 9 0) && leb (get_or w 10 0) 1 && leb (get_or w 16 0) 1

-- these words are the record of m: no entry refuses them 19 as no record, and every entry takes them for m
pub record RecordOf (m : Vm) (w : List ℕ) : Type 0 where
  pub taken : record_ok w ≡ true
  pub machine : vm_in w ≡ m

-- ---- refusals of what crosses

-- 19: no machine's record; 17: fewer than n words for the answer; or 0
unfoldable pub slices_refusal : List ℕ → ℕ → List ℕ → ℕ
slices_refusal w n a = if record_ok w then (if leb n (length a) then 0 else 17) else 19

-- where the host hands in a value too, as a kind and a payload: 19 where they are not exactly the words of a value, an unknown kind among them
unfoldable pub value_refusal : List ℕ → ℕ → ℕ → ℕ → List ℕ → ℕ
value_refusal w k p n a = if exact_value k p then slices_refusal w n a else 19

-- where the record is only written: 25 where a machine with a run under way stands there
unfoldable pub under_way : List ℕ → Bool
under_way w = leb 17 (length w) && eqb (get_or w 10 0) 1

unfoldable pub out_refusal : List ℕ → ℕ → List ℕ → ℕ
out_refusal w n a = if under_way w then 25 else (if leb 17 (length w) && leb n (length a) then 0 else 17)

-- ---- their order with the entry's own. The numbers of the entry itself that come before 17:

-- "Order at an entry: 19, 17, 22, 21, then the rest"; 18 and 25 are "both after 19"
abbrev pub at_entry : List ℕ
at_entry = 19 ∷ 18 ∷ 25 ∷ []

-- "the listing: 19, 1 or 3 as met first, 17"
abbrev pub at_listing : List ℕ
at_listing = 19 ∷ 1 ∷ 3 ∷ []

unfoldable pub among : List ℕ → ℕ → Bool
among [] n = false
among (k ∷ ks) n = eqb n k || among ks n

-- what crosses is refused `why`, and the entry itself answers n: a short answer (17) gives way to a number that comes first
unfoldable pub crossed : List ℕ → ℕ → ℕ → ℕ
crossed firsts why n = if among firsts n && eqb why 17 then n else why

-- ---- answers

-- the number that comes back, and then the record and the answer
pub record Coded : Type 0 where
  pub number : ℕ
  pub vm : List ℕ
  pub answer : List ℕ

-- a refusal writes nothing
abbrev pub refused : ℕ → List ℕ → List ℕ → Coded
refused n w a = record { number = n; vm = w; answer = a }

-- but of an image that breaks a rule (20) the answer is the offset
abbrev pub refused_at : (offset : Option ℕ) → (number : ℕ) → List ℕ → List ℕ → Coded
refused_at None n w a = refused n w a
refused_at (Some i) n w a = record { number = 20; vm = w; answer = written a 0 (i ∷ []) }

-- the offset of a refusal, where it tells one
abbrev pub broken_at : Refusal → Option ℕ
broken_at (reason.BrokenImage i) = Some i
broken_at e = None

-- What is told of a run, and of a machine that is made or changed, is told of any refusal E that has a number (`.._told`); of an entry's own refusal
-- (`.._coded`) it is the number of document 01.

-- 1 value, 2 "continue", 3 fault, 4 paused; the units spent; the root Returns completed; the value's kind and payload, or the fault's number and the length
-- of its backtrace
unfoldable pub run_words : Result Halt Refusal → List ℕ
run_words (Ok (r.Value m v t)) = 1 ∷ t.spent ∷ t.returns ∷ kind v ∷ payload v ∷ []
run_words (Ok (r.Continue m t)) = 2 ∷ t.spent ∷ t.returns ∷ 0 ∷ 0 ∷ []
run_words (Ok (r.Fault m n t j)) = 3 ∷ t.spent ∷ t.returns ∷ n ∷ j ∷ []
run_words (Ok (r.Paused m)) = 4 ∷ m.run.spent ∷ m.run.returns ∷ 0 ∷ 0 ∷ []
run_words (Err e) = []

unfoldable pub run_told : {E : Type 0} → (number : E → ℕ) → Result Halt E → List ℕ → List ℕ → Coded
run_told number (Ok (r.Value m v t)) w a = record { number = 0; vm = written w 0 (vm_words m); answer = written a 0 (run_words (Ok (r.Value m v t))) }
run_told number (Ok (r.Continue m t)) w a = record { number = 0; vm = written w 0 (vm_words m); answer = written a 0 (run_words (Ok (r.Continue m t))) }
run_told number (Ok (r.Fault m n t j)) w a = record { number = 0; vm = written w 0 (vm_words m); answer = written a 0 (run_words (Ok (r.Fault m n t j))) }
run_told number (Ok (r.Paused m)) w a = record { number = 0; vm = written w 0 (vm_words m); answer = written a 0 (run_words (Ok (r.Paused m))) }
run_told number (Err e) w a = refused (number e) w a

abbrev pub run_coded : Result Halt Refusal → List ℕ → List ℕ → Coded
run_coded = run_told refusal_number

unfoldable pub started_told : {E : Type 0} → (number : E → ℕ) → (offset : E → Option ℕ) → Result Vm E → List ℕ → List ℕ → Coded
started_told number offset (Ok m) w a = record { number = 0; vm = written w 0 (vm_words m); answer = a }
started_told number offset (Err e) w a = refused_at (offset e) (number e) w a

abbrev pub started_coded : Result Vm Refusal → List ℕ → List ℕ → Coded
started_coded = started_told refusal_number broken_at

-- changing the setting tells nothing besides
unfoldable pub changed_told : {E : Type 0} → (number : E → ℕ) → Result Vm E → List ℕ → List ℕ → Coded
changed_told number (Ok m) w a = record { number = 0; vm = written w 0 (vm_words m); answer = a }
changed_told number (Err e) w a = refused (number e) w a

abbrev pub changed_coded : Result Vm Refusal → List ℕ → List ℕ → Coded
changed_coded = changed_told refusal_number

-- the counts to the record, and the number that was told
unfoldable pub emitted_coded : Result (Counts × ℕ) Refusal → List ℕ → List ℕ → Coded
emitted_coded (Ok (c, n)) w a = record { number = 0; vm = written w 0 (count_words c); answer = written a 0 (n ∷ []) }
emitted_coded (Err e) w a = refused (refusal_number e) w a

unfoldable pub told_coded : Result ℕ Refusal → List ℕ → List ℕ → Coded
told_coded (Ok n) w a = record { number = 0; vm = w; answer = written a 0 (n ∷ []) }
told_coded (Err e) w a = refused (refusal_number e) w a

-- the kind and the payload of the value
unfoldable pub shown_coded : Result Value Refusal → List ℕ → List ℕ → Coded
shown_coded (Ok v) w a = record { number = 0; vm = w; answer = written a 0 (kind v ∷ payload v ∷ []) }
shown_coded (Err e) w a = refused (refusal_number e) w a

-- the count of elements, the struct number and the depth
unfoldable pub headed_coded : Result Header Refusal → List ℕ → List ℕ → Coded
headed_coded (Ok x) w a = record { number = 0; vm = w; answer = written a 0 (x.count ∷ x.number ∷ x.depth ∷ []) }
headed_coded (Err e) w a = refused (refusal_number e) w a

-- ---- the entries: refused by what crosses, or the entry's own rule, with its answer in words. `why` is that refusal, 0 where there is none

-- c is what the entry itself does; a refusal changes no store
unfoldable pub through : List ℕ → ℕ → List ℕ → List ℕ → Coded → Coded
through firsts why w a c = if eqb why 0 then c else refused (crossed firsts why c.number) w a

-- emission: an entry over the record's machine, whose program is written unless a run is under way, and the program's stores
pub record EmitThrough : Type 0 where
  pub coded : Coded
  pub stores : Stores

unfoldable pub emit_through : List ℕ → List ℕ → Stores → (Vm → Res) → EmitThrough
emit_through w a s rule = record {
  coded = through at_entry (slices_refusal w 1 a) w a (emitted_coded (rule (vm_in w)).answer w a);
  stores = if eqb (slices_refusal w 1 a) 0 then (rule (vm_in w)).stores else s;
}

-- what a function of emission promises, whatever the stores that it is not lent: `before` and `after` are those it is lent, among the rest
abbrev pub Emits : (Bool → Counts → Stores → Res) → List ℕ → List ℕ → (Stores → Stores) → ℕ → List ℕ → List ℕ → (Stores → Stores) → Type 0
Emits rule w a before n w' a' after =
    (rest : Stores) → record { coded = record { number = n; vm = w'; answer = a' }; stores = after rest }
    ≡ emit_through w a (before rest) (λ m. rule m.run.on m.program (before rest))

-- an entry that tells a number, with what it writes
pub record OutThrough : Type 0 where
  pub coded : Coded
  pub out : List ℕ

unfoldable pub out_through : List ℕ → ℕ → List ℕ → List ℕ → List ℕ → (Vm → OutRes) → OutThrough
out_through firsts why w a out rule = record {
  coded = through firsts why w a (told_coded (rule (vm_in w)).answer w a);
  out = if eqb why 0 then (rule (vm_in w)).out else out;
}

-- a call of a run: refused by its slices, or that part of the run of the record's machine, with its result in words
pub record RunThrough (call : RunCall) (w a : List ℕ) (s : Stores) (l : Lent) (c : Coded) (l' : Lent) : Type 0 where
  pub result : Result Halt Refusal
  pub coded : c ≡ run_coded result w a
  pub runs : slices_refusal w 5 a ≡ 0 → RunPost call (vm_in w) s l result l'
  pub refuses : (slices_refusal w 5 a ≡ 0 → ⊥)
      → (e : Refusal) × (result ≡ Err e) × (refusal_number e ≡ crossed at_entry (slices_refusal w 5 a) (refusal_of (run_answer call (vm_in w) s l))) × (l' ≡ l)

-- making a machine where the record refuses, or it or the answer is too short. "Loading: 20, 17, 22, 21" and "25 first": a broken image comes before 17,
-- and its offset is written where the answer has a word
unfoldable pub unmade_told : {E : Type 0} → (offset : E → Option ℕ) → ℕ → Result Vm E → List ℕ → List ℕ → Coded
unmade_told offset why (Ok m) w a = refused why w a
unmade_told offset why (Err e) w a = unmade_at (offset e)
  where
    unmade_at : Option ℕ → Coded
    unmade_at None = refused why w a
    unmade_at (Some i) = if eqb why 17 then refused_at (Some i) why w a else refused why w a

abbrev pub unmade : ℕ → Result Vm Refusal → List ℕ → List ℕ → Coded
unmade = unmade_told broken_at

-- making a machine; r is what the entry itself does where no run is under way
pub record StartThrough : Type 0 where
  pub coded : Coded
  pub stores : Stores
  pub frames : List Frame

unfoldable pub start_through : List ℕ → List ℕ → Stores → List Frame → StartRes → StartThrough
start_through w a s fs r =
    if eqb (out_refusal w 1 a) 0
    then record { coded = started_coded r.answer w a; stores = r.stores; frames = r.frames }
    else record { coded = unmade (out_refusal w 1 a) r.answer w a; stores = s; frames = fs }
