-- What the runner and the lister print always fits the stores that they lend: 32,768 and 524,288 bytes.
use mathlib.Core.Path.{◌≡◌, refl, sym, ap, subst}
use mathlib.Core.Bool.{Bool, true, false}
use mathlib.Core.List.{List, [], ◌∷◌, ◌++◌}
use Prim.Native.Nat.{ℕ, zero, suc, ◌+◌, ◌-◌, ◌*◌, ◌/◌, ◌≤◌, ◌<◌}
use native.Mathlib.Omega.{arith}
use native.Mathlib.Nat.{mul-add}
use lib.Dec.{ltb, leb, eqb}
use lib.Ieee.{binary64, to_bits}
use lib.ListN.{length, get_or, set, drop, replicate, length-append, length-replicate}
use borrow.Author.Tests.{leb-true, ltb-true, ltb-false}
use Rattle.model.specs.declared.Counts.{Counts}
use Rattle.model.specs.declared.Vm.{Vm}
use Rattle.model.specs.declared.Tally.{Tally}
use Rattle.model.specs.declared.Value.{Value}
use Rattle.model.specs.declared.Value.TheVariants as v
use Rattle.model.specs.declared.Decoded.{Decoded}
use Rattle.model.specs.declared.Decoded.TheVariants as d
use Rattle.model.specs.Answers.{refusal_number}
use Rattle.model.specs.Basics.{ascii}
use Rattle.model.specs.Heap.{Cell, head_in}
use Rattle.model.specs.Numbers.{Bytes, digits, groups_of}
use Rattle.model.specs.Opcodes.{operands}
use Rattle.model.specs.Programs.{Function, Program, function_at, within_limits, word_at, behind, opcode_in}
use Rattle.model.specs.Images.{joined, counted, constant_image, text_image, run_image, runs_of, function_image, image_of, Judged, fine, broken, judge}
use Rattle.model.specs.Listings.{operands_from, line_of, header_line, Listed, text, unlisted, in_front, known_then, opcode_then, line_then, lines_for, code_lines, and_listed, listing_from, listing_of}
use Rattle.model.specs.Runs.{Machine, root, Entry, Reply, value, continue, fault, run_of}
use Rattle.model.specs.Stores.{Stores, program_in}
use Rattle.model.specs.Emission.{written}
use Rattle.model.specs.Loading.{main_of, others_of, laid, room_for, load_judged, load_of}
use Rattle.model.specs.Machines.{Lent, machine_in, world_of, trace_short, run_refusal, fresh, start_with, unless_running, load_machine_of}
use Rattle.model.specs.Reports.{hex_for, boolean_text, value_text, entry_lines, spent_lines, reply_lines, refused_line, ran_lines, report_of, empty_stores, empty_lent, started_text, started, runner_text, listed_text, loaded_text, lister_text}
use Rattle.laws_runs.specs.Ordered.{CodeBytes}
use Rattle.layout.proofs.Bools.{either_way}
use Rattle.laws_images.proofs.Codecs.{bytes_front, bytes_rest}
use Rattle.image.proofs.Trip.{image_only, loaded_as}
use Rattle.listing.proofs.Names as names
use Rattle.printing.proofs.Digits.{short, five}
use Rattle.report.proofs.Shown.{runner_long, run_trace}
use Rattle.std.specs.Prelude.{Err, Ok, Result}
use Rattle.model.specs.declared.Refusal.{Refusal}

-- ---- bytes

bytes_both : (a b : List ℕ) → Bytes a → Bytes b → Bytes (a ++ b)
unfolding Bytes
bytes_both [] b h k = k
bytes_both (x ∷ a) b h k = (h.0, bytes_both a b h.1 k)

bytes_set : (s : List ℕ) (i x : ℕ) → x < 256 → Bytes s → Bytes (set s i x)
unfolding Bytes
bytes_set [] i x h b = tt
bytes_set (y ∷ s) zero x h b = (h, b.1)
bytes_set (y ∷ s) (suc i) x h b = (b.0, bytes_set s i x h b.1)

bytes_written : (s : List ℕ) (i : ℕ) (l : List ℕ) → Bytes s → Bytes l → Bytes (written s i l)
unfolding Bytes written
bytes_written s i [] b h = b
bytes_written s i (x ∷ l) b h = bytes_written (set s i x) (suc i) l (bytes_set s i x h.0 b) h.1

bytes_zeros : (n : ℕ) → Bytes (replicate n 0)
unfolding Bytes
bytes_zeros zero = tt
bytes_zeros (suc n) = (omega arith, bytes_zeros n)

bytes_at : (s : List ℕ) → Bytes s → (i : ℕ) → get_or s i 0 < 256
unfolding Bytes
bytes_at [] h i = omega arith
bytes_at (x ∷ s) h zero = h.0
bytes_at (x ∷ s) h (suc i) = bytes_at s h.1 i

-- ---- a function in an image: its code is bytes, and it is longer than its name and code by two bytes at least

some_digits : (n : ℕ) → 1 ≤ length (digits n)
unfolding digits groups_of
some_digits n = either_way (ltb n 128) (λ e. rw e (omega arith)) (λ e. rw e (omega arith))

module _ (f : Function) where
  pub long_image : 2 + length f.name + length f.code ≤ length (function_image f)
  unfolding function_image text_image
  long_image =
      let a = some_digits (length f.name) in
      let b = some_digits (length f.code) in
      simp length-append (omega arith)

  pub code_in : Bytes (function_image f) → Bytes f.code
  unfolding function_image
  code_in h =
      let front = text_image f.name ++ digits (length f.code) in
      let runs = joined run_image (runs_of f.places) in
      bytes_rest front f.code (bytes_front (front ++ f.code) runs h)

codes_in : (fs : List Function) → Bytes (joined function_image fs) → Bytes (joined (λ f. f.code) fs)
unfolding joined
codes_in [] h = h
codes_in (f ∷ fs) h =
    bytes_both f.code (joined (λ f. f.code) fs) (code_in f (bytes_front (function_image f) (joined function_image fs) h))
    (codes_in fs (bytes_rest (function_image f) (joined function_image fs) h))

main_in : (fs : List Function) → Bytes (joined function_image fs) → Bytes (function_at fs 0).code
unfolding joined function_at Bytes
main_in [] h = tt
main_in (f ∷ fs) h = code_in f (bytes_front (function_image f) (joined function_image fs) h)

others_in : (fs : List Function) → Bytes (joined function_image fs) → Bytes (joined (λ f. f.code) (drop 1 fs))
unfolding joined
others_in [] h = h
others_in (f ∷ fs) h = codes_in fs (bytes_rest (function_image f) (joined function_image fs) h)

module _ (p : Program) where
  abbrev front : List ℕ
  front = counted constant_image p.constants ++ counted text_image p.structs

  pub functions_in : Bytes (image_of p) → Bytes (joined function_image p.functions)
  unfolding image_of counted
  functions_in h = bytes_rest (digits (length p.functions)) (joined function_image p.functions) (bytes_rest front (counted function_image p.functions) h)

  pub functions_shorter : length (joined function_image p.functions) ≤ length (image_of p)
  unfolding image_of counted
  functions_shorter = simp length-append (omega arith)

-- ---- what is loaded of bytes is bytes

module _ (x : Stores) (a : Bytes x.main) (b : Bytes x.other) where
  kept_bytes : CodeBytes x
  kept_bytes = record { main = λ j h. bytes_at x.main a j; other = λ j h. bytes_at x.other b j }

  laid_bytes : (p : Program) → Bytes (image_of p) → CodeBytes (laid p x)
  unfolding laid main_of others_of
  laid_bytes p h =
      let f = functions_in p h in
      record {
        main = λ j h. bytes_at _ (bytes_written x.main 0 (function_at p.functions 0).code a (main_in p.functions f)) j;
        other = λ j h. bytes_at _ (bytes_written x.other 0 (joined (λ f. f.code) (drop 1 p.functions)) b (others_in p.functions f)) j;
      }

  module _ (image : List ℕ) (h : Bytes image) where
    judged_bytes : (j : Judged) → judge image ≡ j → CodeBytes (load_judged j x).stores
    unfolding load_judged
    judged_bytes (broken i) e = kept_bytes
    judged_bytes (fine p) e =
        either_way (within_limits p)
        (λ w. either_way (room_for p x) (λ r. rw (w, r) (laid_bytes p (subst Bytes (image_only image p h e).0 h))) (λ r. rw (w, r) kept_bytes))
        (λ w. rw w kept_bytes)

    loaded_bytes : CodeBytes (load_of image x).stores
    unfolding load_of
    loaded_bytes = judged_bytes (judge image) refl

-- ---- the runner's lines

pub refused_short : (n : ℕ) → length (refused_line n) ≤ 29
unfolding refused_line ascii
refused_short n = let a = short n in simp length-append (omega arith)

pub hex_length : (n w : ℕ) → length (hex_for n w) ≡ n
unfolding hex_for
hex_length zero w = refl
hex_length (suc n) w = let a = hex_length n (w / 16) in simp length-append (omega arith)

value_short : (H : List Cell) (x : Value) → length (value_text H x) ≤ 64
unfolding value_text boolean_text ascii
value_short H (v.Scalar x) = let a = hex_length 16 (to_bits binary64 x) in omega arith
value_short H (v.Boolean true) = omega arith
value_short H (v.Boolean false) = omega arith
value_short H (v.String o n) = let a = short n in omega arith
value_short H (v.FunctionReference o n) = let a = short n in omega arith
value_short H (v.List p) = let a = short (head_in H p).count in omega arith
value_short H (v.StructInstance p) = let a = short (head_in H p).number in let b = short (head_in H p).count in simp length-append (omega arith)

entries_short : (es : List Entry) → length (entry_lines es) ≤ 66 * length es
unfolding entry_lines ascii
entries_short [] = omega arith
entries_short (e ∷ es) =
    let a = short e.function in
    let b = short e.place in
    let d = short e.entered in
    let z = entries_short es in
    simp length-append (omega arith)

spent_short : (n : Tally) (m : Machine) → length (spent_lines n m) ≤ 54
unfolding spent_lines ascii
spent_short n m = let a = short n.spent in let b = short (length m.stack) in simp length-append (omega arith)

-- a report fits in 128 bytes, and 66 for each entry that its backtrace's store has room for
module _ (m : Vm) (s : Stores) (bytes : CodeBytes s) (l : Lent) (long : trace_short l ≡ false) (u : ℕ) where
  abbrev Short : List ℕ → Type 0
  Short b = length b ≤ 128 + 22 * length l.backtrace

  lines_short : eqb (run_refusal m s l) 0 ≡ true → (y : Reply) → (run_of (world_of m s l) (machine_in m l) u).reply ≡ y → (x : Machine) → Short (reply_lines y x)
  unfolding reply_lines ascii
  lines_short granted (value w n) f x = let a = value_short x.heap w in let b = spent_short n x in simp length-append (omega arith)
  lines_short granted (continue n) f x = let b = spent_short n x in omega arith
  lines_short granted (fault k n es) f x =
      let a = short k in
      let b = spent_short n x in
      let z = entries_short es in
      let y = run_trace m s l u bytes long granted k n es f in
      simp length-append (omega arith)

  report_short : Short (report_of m s l u)
  unfolding report_of ran_lines
  report_short =
      let one = run_of (world_of m s l) (machine_in m l) u in
      either_way (eqb (run_refusal m s l) 0) (λ e. rw e (lines_short e one.reply refl one.machine))
      (λ e. rw e (let z = refused_short (run_refusal m s l) in omega arith))

-- ---- the lister's lines: 32 bytes at most for each byte of code

operands_short : (n : ℕ) (code : List ℕ) (i : ℕ) → length (operands_from n code i) ≤ 21 * n
unfolding operands_from
operands_short zero code i = omega arith
operands_short (suc zero) code i = let a = short (word_at code i) in omega arith
operands_short (suc (suc n)) code i =
    let a = short (word_at code i) in
    let z = operands_short (suc n) code (i + 2) in
    simp length-append (omega arith)

-- a listing of at most k bytes, or a refusal
abbrev pub Within : ℕ → Listed → Type 0
Within k (text b) = length b ≤ k
Within k (unlisted l n) = Unit

pub within_front : (b : List ℕ) (w : Listed) (k n : ℕ) → Within k w → length b + k ≤ n → Within n (in_front b w)
unfolding in_front
within_front b (text r) k n h g = simp length-append (omega arith)
within_front b (unlisted l e) k n h g = tt

pub within_and : (v w : Listed) (j k : ℕ) → Within j v → Within k w → Within (j + k) (and_listed v w)
unfolding and_listed
within_and (text b) w j k h g = within_front b w k (j + k) g (omega arith)
within_and (unlisted l e) w j k h g = tt

pub line_short : (code : List ℕ) → Bytes code → length code ≤ 16384 → (i : ℕ) → i < length code → length (line_of code i) ≤ 32 + 21 * operands (opcode_in code i)
unfolding line_of ascii
line_short code bytes small i h =
    let a = five i (omega arith) in
    let b = names.short (get_or code i 0) (bytes_at code bytes i) in
    let c = operands_short (operands (opcode_in code i)) code (suc i) in
    simp length-append (omega arith)

-- whatever the lines are: w bytes at most for each byte of code
module _ (line : ℕ → List ℕ) (w : ℕ) (code : List ℕ) (short : (i : ℕ) → i < length code → length (line i) ≤ w * (1 + 2 * operands (opcode_in code i))) where
  module _ (k : ℕ → Listed) (rest : (j : ℕ) → j ≤ length code → Within (w * (length code - j)) (k j)) (i : ℕ) where
    known_within : i < length code → Within (w * (length code - i)) (known_then k line code i)
    unfolding known_then behind
    known_within h =
        let n = operands (opcode_in code i) in
        either_way (leb (suc i + 2 * n) (length code))
        (λ e.
        let g : suc i + 2 * n ≤ length code = leb-true _ _ e in
        let z = short i h in
        let y : 1 + 2 * n + (length code - (suc i + 2 * n)) ≡ length code - i = omega arith in
        let x : w * (1 + 2 * n) + w * (length code - (suc i + 2 * n)) ≡ w * (length code - i) = rw (← y) (sym (mul-add w (1 + 2 * n) (length code - (suc i + 2 * n)))) in
        rw e (within_front (line i) (k (suc i + 2 * n)) (w * (length code - (suc i + 2 * n))) _ (rest (suc i + 2 * n) g) (omega arith)))
        (λ e. rw e tt)

    opcode_within : i < length code → (x : Decoded) → Within (w * (length code - i)) (opcode_then k line code i x)
    unfolding opcode_then
    opcode_within h (d.Carried p) = known_within h
    opcode_within h d.NotCarried = known_within h
    opcode_within h d.Unknown = tt

    line_within : (b : Bool) → ltb i (length code) ≡ b → Within (w * (length code - i)) (line_then k line code i b)
    unfolding line_then
    line_within true e = opcode_within (ltb-true _ _ e) (opcode_in code i).what
    line_within false e = omega arith

  pub lines_within : (f i : ℕ) → i ≤ length code → Within (w * (length code - i)) (lines_for line f code i)
  unfolding lines_for
  lines_within zero i h = omega arith
  lines_within (suc f) i h = line_within (lines_for line f code) (lines_within f) i (ltb i (length code)) refl

pub header_short : (i : ℕ) (name : List ℕ) → length (header_line i name) ≤ 30 + length name
unfolding header_line ascii
header_short i name = let a = short i in simp length-append (omega arith)

-- 32 bytes at most for each byte of the functions in their image
listing_within : (i : ℕ) (fs : List Function) → Bytes (joined function_image fs) → length (joined function_image fs) ≤ 16384 → Within (32 * length (joined function_image fs)) (listing_from i fs)
unfolding listing_from joined
listing_within i [] h g = omega arith
listing_within i (f ∷ fs) h g =
    let z : length (function_image f ++ joined function_image fs) ≡ length (function_image f) + length (joined function_image fs) = length-append (function_image f) (joined function_image fs) in
    let a = long_image f in
    let b = header_short i f.name in
    let bytes = code_in f (bytes_front (function_image f) (joined function_image fs) h) in
    let short : (j : ℕ) → j < length f.code → length (line_of f.code j) ≤ 32 * (1 + 2 * operands (opcode_in f.code j)) =
    λ j l. let s = line_short f.code bytes (omega arith) j l in omega arith in
    let own = lines_within (line_of f.code) 32 f.code short (length f.code) 0 (omega arith) in
    let rest = listing_within (suc i) fs (bytes_rest (function_image f) (joined function_image fs) h) (omega arith) in
    within_front (header_line i f.name) (and_listed (code_lines f.code) (listing_from (suc i) fs)) _ _
    (within_and (code_lines f.code) (listing_from (suc i) fs) (32 * (length f.code - 0)) (32 * length (joined function_image fs)) own rest) (omega arith)

pub within_more : (w : Listed) (j k : ℕ) → Within j w → j ≤ k → Within k w
within_more (text b) j k h g = omega arith
within_more (unlisted l n) j k h g = tt

-- a text of k bytes at most; a refusal is shorter than 29
pub listed_short : (k : ℕ) → 29 ≤ k → (w : Listed) → Within k w → length (listed_text w) ≤ k
unfolding listed_text
listed_short k g (text b) h = h
listed_short k g (unlisted l e) h = let z = refused_short (refusal_number e) in omega arith

-- ---- both texts fit

module _ (image : List ℕ) (bytes : Bytes image) where
  loaded_code : CodeBytes (load_of image empty_stores).stores
  unfolding empty_stores
  loaded_code = loaded_bytes empty_stores (bytes_zeros 8192) (bytes_zeros 8192) image bytes

  started_fits : (a : Result Counts Refusal) → length (started (start_with a (load_of image empty_stores).stores empty_stores (replicate 256 (root 0)))) ≤ 32768
  unfolding started started_text start_with
  started_fits (Ok c) =
      let s = (load_of image empty_stores).stores in
      let lent = empty_lent (replicate 256 (root 0)) in
      let k : length lent.backtrace ≡ 768 = (unfold empty_lent in length-replicate {A = ℕ} 768 0) in
      let z = report_short (fresh c) s loaded_code lent runner_long 1000000 in
      omega arith
  started_fits (Err e) = let z = refused_short (refusal_number e) in omega arith

  loaded_fits : length image ≤ 16384 → (a : Result Counts Refusal) (s : Stores) → load_of image empty_stores ≡ record { answer = a; stores = s } → length (loaded_text a s) ≤ 524288
  unfolding loaded_text listing_of
  loaded_fits h (Ok c) s e =
      let p = program_in c s in
      let o : image ≡ image_of p = (loaded_as image empty_stores s c bytes e).0 in
      let i : length (image_of p) ≡ length image = ap length (sym o) in
      let n = functions_shorter p in
      let z = listing_within 0 p.functions (functions_in p (subst Bytes o bytes)) (omega arith) in
      listed_short 524288 (omega arith) (listing_from 0 p.functions) (within_more (listing_from 0 p.functions) _ 524288 z (omega arith))
  loaded_fits h (Err n) s e = let z = refused_short (refusal_number n) in omega arith

  pub runner_fits : length (runner_text image) ≤ 32768
  unfolding runner_text load_machine_of unless_running
  runner_fits =
      either_way (ltb 16384 (length image)) (λ e. rw e (let z = refused_short 22 in omega arith))
      (λ e. rw e (started_fits (load_of image empty_stores).answer))

  pub lister_fits : length (lister_text image) ≤ 524288
  unfolding lister_text
  lister_fits =
      either_way (ltb 16384 (length image)) (λ e. rw e (let z = refused_short 22 in omega arith))
      (λ e. rw e (loaded_fits (ltb-false _ _ e) (load_of image empty_stores).answer (load_of image empty_stores).stores refl))
