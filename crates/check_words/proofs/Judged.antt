-- An image that is one has a main.
use mathlib.Core.Path.{◌≡◌, sym, subst}
use mathlib.Core.Bool.{Bool, true, false, true≢false}
use mathlib.Core.List.{List, [], ◌∷◌}
use Prim.Native.Nat.{ℕ, zero, suc, ◌<◌}
use native.Mathlib.Omega.{arith}
use lib.Dec.{ltb}
use lib.ListN.{length}
use Rattle.model.specs.Numbers.{got, item, checked, number}
use Rattle.model.specs.Programs.{Function, Program}
use Rattle.model.specs.Images.{series, read_function, read_constants, read_structs, read_functions, read_end, parse, fine, judge}
use Rattle.number.proofs.Codes.{never, item_only}
use Rattle.laws_images.proofs.Codecs.{got_value, then_only, checked_only}
use Rattle.laws_images.proofs.Formats.{judged_fine}

-- a reading of one or more functions gives one or more
read_some : (n : ℕ) → ltb 0 n ≡ true → (first : Bool) (b : List ℕ) (fs : List Function) (r : List ℕ)
    → series read_function (λ x f. false) n first b ≡ got fs r → 0 < length fs
unfolding series
read_some zero e first b fs r g = absurd (true≢false (sym e))
read_some (suc n) e first b fs r g =
    let one = then_only (read_function first b) _ fs r g in
    let more = then_only (series read_function (λ x f. false) n false one.1) _ fs r one.3 in
    let same = got_value more.3 in
    subst (λ (l : List Function). 0 < length l) same (omega arith)

-- nothing follows the functions
ends_so : (p : Program) (u : List ℕ) (q : Program) (r : List ℕ) → read_end p u ≡ got q r → p ≡ q
unfolding read_end
ends_so p [] q r e = got_value e
ends_so p (x ∷ u) q r e = absurd (never e)

pub an_image_has_main : (b : List ℕ) (p : Program) → judge b ≡ fine p → 0 < length p.functions
unfolding judge parse read_functions
an_image_has_main b p e =
    let read = judged_fine (length b) (parse b) p e in
    let constants = then_only (read_constants b) _ p read.0 read.1 in
    let structs = then_only (read_structs constants.1) _ p read.0 constants.3 in
    let at = structs.1 in
    let functions = then_only (read_functions at) _ p read.0 structs.3 in
    let counted = then_only (item at (checked (λ n. ltb 0 n) (number at))) _ functions.0 functions.1 functions.2 in
    let some = (checked_only (λ n. ltb 0 n) (number at) counted.0 counted.1 (item_only at _ counted.0 counted.1 counted.2)).1 in
    let whole = ends_so _ functions.1 p read.0 functions.3 in
    subst (λ (x : Program). 0 < length x.functions) whole
    (read_some counted.0 some true counted.1 functions.0 functions.1 counted.3)
