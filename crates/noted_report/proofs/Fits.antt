-- What the noter prints always fits the store that it lends: 1,048,576 bytes.
use mathlib.Core.Path.{◌≡◌, refl, sym, ap, subst, ◌∙◌}
use mathlib.Core.Bool.{true, false}
use mathlib.Core.List.{List, [], ◌∷◌, ◌++◌, map}
use Prim.Native.Nat.{ℕ, zero, suc, ◌+◌, ◌-◌, ◌*◌, ◌≤◌, ◌<◌, min}
use native.Mathlib.Omega.{arith}
use native.Mathlib.Nat.{min-le_left}
use lib.Dec.{ltb, leb}
use lib.ListN.{length, get_or, take, length-append, length-take, length-map}
use borrow.Author.Tests.{ltb-false}
use Rattle.model.specs.declared.Names.{Names}
use Rattle.model.specs.declared.Names.TheVariants as n
use Rattle.model.specs.Answers.{refusal_number}
use Rattle.model.specs.Basics.{ascii}
use Rattle.model.specs.Numbers.{Bytes}
use Rattle.model.specs.Opcodes.{operands}
use Rattle.model.specs.Programs.{Constant, scalar, boolean, string, reference, Function, word_at, opcode_in, next_in}
use Rattle.model.specs.Images.{joined, function_image, image_of}
use Rattle.model.specs.Listings.{digits_or_more, line_of, header_line, and_listed}
use Rattle.model.specs.Stores.{Stores, program_in}
use Rattle.model.specs.Values.{places}
use Rattle.model.specs.Emission.{written}
use Rattle.model.specs.Loading.{load_of}
use Rattle.model.specs.Reports.{boolean_text, empty_stores}
use Rattle.layout.proofs.Bools.{either_way}
use Rattle.laws_images.proofs.Codecs.{bytes_front, bytes_rest}
use Rattle.image.proofs.Trip.{loaded_as}
use Rattle.printing.proofs.Digits.{short, like_short, four}
use Rattle.report.specs.Links.{Printed, printed}
use Rattle.report.proofs.Prints.{fits}
use Rattle.report.proofs.Fits.{long_image, code_in, functions_in, functions_shorter, refused_short, hex_length, header_short, listed_short}
use Rattle.report.proofs.Fits.{Within, within_front, within_and, within_more, line_short, lines_within}
use Rattle.notes.specs.Notes.{shown_byte, shown_text, Known, known_of, constant_text, constant_at, name_at, note, operand_note, operand_notes, place_note, but_last}
use Rattle.notes.specs.Notes.{noted_line, noted_code, noted_from, noted_listing, loaded_notes, noter_text}
use Rattle.std.specs.Prelude.{Err, Ok, Result}
use Rattle.model.specs.declared.Counts.{Counts}
use Rattle.model.specs.declared.Refusal.{Refusal}

-- ---- notes

shown_short : (t : List ℕ) → length (shown_text t) ≤ 26
unfolding shown_text ascii
shown_short t =
    let a : length (map shown_byte (take 24 t)) ≡ min 24 (length t) = length-map (take 24 t) shown_byte ∙ length-take 24 t in
    let b = min-le_left 24 (length t) in
    either_way (leb (length t) 24) (λ e. rw e (simp length-append (omega arith))) (λ e. rw e (simp length-append (omega arith)))

constant_short : (c : Constant) → length (constant_text c) ≤ 35
unfolding constant_text boolean_text ascii
constant_short (scalar w) = let a = hex_length 16 w in omega arith
constant_short (boolean true) = omega arith
constant_short (boolean false) = omega arith
constant_short (string t) = let a = shown_short t in omega arith
constant_short (reference t) = let a = shown_short t in omega arith

constants_short : (cs : List Constant) (k : ℕ) → length (get_or (map constant_text cs) k (ascii "no constant")) ≤ 35
unfolding ascii
constants_short [] k = omega arith
constants_short (c ∷ cs) zero = constant_short c
constants_short (c ∷ cs) (suc k) = constants_short cs k

names_short : (names : List (List ℕ)) (k : ℕ) (none : List ℕ) → length none ≤ 26 → length (get_or (map shown_text names) k none) ≤ 26
names_short [] k none h = h
names_short (t ∷ names) zero none h = shown_short t
names_short (t ∷ names) (suc k) none h = names_short names k none h

target_short : (p : ℕ) → length (digits_or_more 4 p) ≤ 20
target_short p = rw (four p) at (like_short 1000 p)

operand_short : (known : Known) (next : ℕ) (x : Names) (k : ℕ) → length (operand_note known next x k) ≤ 48
unfolding operand_note note constant_at name_at ascii
operand_short known next n.Constant k = let a = constants_short known.constants k in omega arith
operand_short known next n.Slot k = omega arith
operand_short known next n.Function k = let a = names_short known.functions k (ascii "no function") (omega arith) in omega arith
operand_short known next n.Struct k = let a = names_short known.structs k (ascii "no struct") (omega arith) in omega arith
operand_short known next n.Field k = omega arith
operand_short known next n.Count k = omega arith
operand_short known next n.Offset k = let a = target_short (next + k) in omega arith
operand_short known next n.Nothing k = omega arith

operands_short : (known : Known) (next : ℕ) (ns : List Names) (code : List ℕ) (i : ℕ) → length (operand_notes known next ns code i) ≤ 48 * length ns
unfolding operand_notes
operands_short known next [] code i = omega arith
operands_short known next (x ∷ ns) code i =
    let a = operand_short known next x (word_at code i) in
    let z = operands_short known next ns code (i + 2) in
    simp length-append (omega arith)

place_short : (places : List ℕ) (i : ℕ) → length (place_note places i) ≤ 30
unfolding place_note note ascii
place_short places i = let a = short (get_or places i 0) in omega arith

-- ---- lines: 64 bytes at most for each byte of code

but_last_short : (l : List ℕ) → length (but_last l) ≤ length l - 1
unfolding but_last
but_last_short [] = omega arith
but_last_short (x ∷ []) = omega arith
but_last_short (x ∷ (y ∷ l)) = let z = but_last_short (y ∷ l) in omega arith

noted_short : (known : Known) (code places : List ℕ) → Bytes code → length code ≤ 16384 → (i : ℕ) → i < length code → length (noted_line known code places i) ≤ 64 * (1 + 2 * operands (opcode_in code i))
unfolding noted_line operands ascii
noted_short known code places bytes small i h =
    let a = line_short code bytes small i h in
    let b = but_last_short (line_of code i) in
    let d = operands_short known (next_in code i) (opcode_in code i).names code (suc i) in
    let e = place_short places i in
    simp length-append (omega arith)

-- ---- the listing: 64 bytes at most for each byte of the functions in their image

listing_within : (known : Known) (i : ℕ) (fs : List Function) → Bytes (joined function_image fs) → length (joined function_image fs) ≤ 16384
    → Within (64 * length (joined function_image fs)) (noted_from known i fs)
unfolding noted_from joined
listing_within known i [] h g = omega arith
listing_within known i (f ∷ fs) h g =
    let z : length (function_image f ++ joined function_image fs) ≡ length (function_image f) + length (joined function_image fs) = length-append (function_image f) (joined function_image fs) in
    let a = long_image f in
    let b = header_short i f.name in
    let bytes = code_in f (bytes_front (function_image f) (joined function_image fs) h) in
    let line = noted_line known f.code f.places in
    let own = lines_within line 64 f.code (noted_short known f.code f.places bytes (omega arith)) (length f.code) 0 (omega arith) in
    let rest = listing_within known (suc i) fs (bytes_rest (function_image f) (joined function_image fs) h) (omega arith) in
    let code = noted_code known f.code f.places in
    within_front (header_line i f.name) (and_listed code (noted_from known (suc i) fs)) _ _
    (within_and code (noted_from known (suc i) fs) (64 * (length f.code - 0)) (64 * length (joined function_image fs)) own rest) (omega arith)

-- ---- the text fits

module _ (image : List ℕ) (bytes : Bytes image) where
  loaded_fits : length image ≤ 16384 → (a : Result Counts Refusal) (s : Stores) → load_of image empty_stores ≡ record { answer = a; stores = s } → length (loaded_notes a s) ≤ 1048576
  unfolding loaded_notes noted_listing
  loaded_fits h (Ok c) s e =
      let p = program_in c s in
      let o : image ≡ image_of p = (loaded_as image empty_stores s c bytes e).0 in
      let i : length (image_of p) ≡ length image = ap length (sym o) in
      let n = functions_shorter p in
      let whole = noted_from (known_of p) 0 p.functions in
      let z = listing_within (known_of p) 0 p.functions (functions_in p (subst Bytes o bytes)) (omega arith) in
      listed_short 1048576 (omega arith) whole (within_more whole _ 1048576 z (omega arith))
  loaded_fits h (Err n) s e = let z = refused_short (refusal_number n) in omega arith

  pub noter_fits : length (noter_text image) ≤ 1048576
  unfolding noter_text
  noter_fits =
      either_way (ltb 16384 (length image)) (λ e. rw e (let z = refused_short 22 in omega arith))
      (λ e. rw e (loaded_fits (ltb-false _ _ e) (load_of image empty_stores).answer (load_of image empty_stores).stores refl))

-- so that it is never lost
pub never_lost : (image out : List ℕ) → Bytes image → length out ≡ 1048576 → (printed (noter_text image) out).out ≡ written out 0 (noter_text image)
unfolding places
never_lost image out bytes e =
    let fit = noter_fits image bytes in
    let room : length (noter_text image) ≤ places 1 out = rw e (omega arith) in
    ap (λ (p : Printed). p.out) (sym (fits (noter_text image) out room))

-- the first bytes of bytes
pub bytes_take : (n : ℕ) (b : List ℕ) → Bytes b → Bytes (take n b)
unfolding Bytes
bytes_take zero b h = tt
bytes_take (suc n) [] h = tt
bytes_take (suc n) (x ∷ b) h = (h.0, bytes_take n b h.1)
