-- [loading] Loading an image, saving a program, and writing its listing: what comes back, and what the stores then hold.
use Rattle.std.specs.Prelude.{Bool, ◌&&◌, List, [], ◌∷◌, ◌++◌, ℕ, ◌+◌, leb, length, drop, if◌then◌else◌, Err, Ok, Result}
use Rattle.model.specs.declared.Counts.{Counts}
use Rattle.model.specs.Values.{places, bit}
use Rattle.model.specs.Programs.{Constant, scalar, boolean, string, reference, Function, Program, function_at, order_of, within_limits}
use Rattle.model.specs.Images.{joined, image_of, Judged, fine, broken, judge}
use Rattle.model.specs.Listings.{Listed, text, unlisted, listing_of}
use Rattle.model.specs.Stores.{Stores, pack, program_in}
use Rattle.model.specs.Orders.{program_ok, lists, judged_by}
use Rattle.model.specs.Emission.{written, counts}
use Rattle.model.specs.declared.Refusal.{Refusal}
use Rattle.model.specs.declared.Refusal.TheVariants as why

-- ---- [layout] where a loaded program lies: its texts in the image's order, each store filled from its start

unfoldable pub constant_text : Constant → List ℕ
constant_text (scalar w) = []
constant_text (boolean b) = []
constant_text (string s) = s
constant_text (reference s) = s

-- a constant's kind and payload, its text at o
unfoldable pub constant_words : ℕ → Constant → List ℕ
constant_words o (scalar w) = 0 ∷ w ∷ []
constant_words o (boolean b) = 1 ∷ bit b ∷ []
constant_words o (string s) = 2 ∷ pack o (length s) ∷ []
constant_words o (reference s) = 3 ∷ pack o (length s) ∷ []

unfoldable pub constants_laid : ℕ → List Constant → List ℕ
constants_laid o [] = []
constants_laid o (c ∷ cs) = constant_words o c ++ constants_laid (o + length (constant_text c)) cs

-- names from o on, each with a number of the order of names
unfoldable pub structs_laid : ℕ → List (List ℕ) → List ℕ → List ℕ
structs_laid o [] js = []
structs_laid o (n ∷ ns) [] = []
structs_laid o (n ∷ ns) (j ∷ js) = pack o (length n) ∷ j ∷ structs_laid (o + length n) ns js

-- names from o on, codes from i on
unfoldable pub others_laid : ℕ → ℕ → List Function → List ℕ
others_laid o i [] = []
others_laid o i (f ∷ fs) = pack o (length f.name) ∷ pack i (length f.code) ∷ others_laid (o + length f.name) (i + length f.code) fs

-- main's code is in a store of its own
unfoldable pub functions_laid : ℕ → List Function → List ℕ
functions_laid o [] = []
functions_laid o (f ∷ fs) = pack o (length f.name) ∷ pack 0 (length f.code) ∷ others_laid (o + length f.name) 0 fs

unfoldable pub constant_texts : Program → List ℕ
constant_texts p = joined constant_text p.constants

unfoldable pub struct_texts : Program → List ℕ
struct_texts p = joined (λ n. n) p.structs

unfoldable pub texts_of : Program → List ℕ
texts_of p = constant_texts p ++ struct_texts p ++ joined (λ f. f.name) p.functions

unfoldable pub main_of : Program → Function
main_of p = function_at p.functions 0

unfoldable pub others_of : Program → List Function
others_of p = drop 1 p.functions

unfoldable pub laid : Program → Stores → Stores
laid p s = record {
  constants = written s.constants 0 (constants_laid 0 p.constants);
  structs = written s.structs 0 (structs_laid (length (constant_texts p)) p.structs (order_of (length p.structs) p.structs));
  functions = written s.functions 0 (functions_laid (length (constant_texts p) + length (struct_texts p)) p.functions);
  text = written s.text 0 (texts_of p);
  main = written s.main 0 (main_of p).code;
  main_places = written s.main_places 0 (main_of p).places;
  other = written s.other 0 (joined (λ f. f.code) (others_of p));
  other_places = written s.other_places 0 (joined (λ f. f.places) (others_of p));
}

unfoldable pub counts_for : Program → Counts
counts_for p = counts (length p.constants) (length p.structs) (length p.functions) (length (texts_of p)) 0

-- every store has room for its part
unfoldable pub room_for : Program → Stores → Bool
room_for p s =
    leb (length p.constants) (places 2 s.constants)
    && leb (length p.structs) (places 2 s.structs)
    && leb (length p.functions) (places 2 s.functions)
    && leb (length (texts_of p)) (places 1 s.text)
    && leb (length (main_of p).code) (places 1 s.main)
    && leb (length (main_of p).code) (places 1 s.main_places)
    && leb (length (joined (λ f. f.code) (others_of p))) (places 1 s.other)
    && leb (length (joined (λ f. f.code) (others_of p))) (places 1 s.other_places)

-- ---- [loading] the whole image is judged first: 20, then 22, then 21, then it is written

pub record LoadRes : Type 0 where
  pub answer : Result Counts Refusal
  pub stores : Stores

unfoldable pub load_judged : Judged → Stores → LoadRes
load_judged (broken i) s = record { answer = Err (why.BrokenImage i); stores = s }
load_judged (fine p) s =
    if within_limits p then
    (if room_for p s then record { answer = Ok (counts_for p); stores = laid p s } else record { answer = Err why.StoreFull; stores = s })
    else record { answer = Err why.OverLimit; stores = s }

unfoldable pub load_of : List ℕ → Stores → LoadRes
load_of image s = load_judged (judge image) s

-- ---- [saving] and [listing] into a lent store: 19, the listing's 1 or 3, then 17; a refusal writes nothing

pub record OutRes : Type 0 where
  pub answer : Result ℕ Refusal
  pub out : List ℕ

unfoldable pub put_out : List ℕ → List ℕ → OutRes
put_out bytes out = if leb (length bytes) (places 1 out) then record { answer = Ok (length bytes); out = written out 0 bytes } else record { answer = Err why.ResultTooShort; out = out }

unfoldable pub save_of : Counts → Stores → List ℕ → OutRes
save_of c s out = if program_ok c s then put_out (image_of (program_in c s)) out else record { answer = Err why.NotInOrder; out = out }

unfoldable pub put_listing : Listed → List ℕ → OutRes
put_listing (text bytes) out = put_out bytes out
put_listing (unlisted before e) out = record { answer = Err e; out = out }

-- the listing is lent functions, text and code
unfoldable pub list_order : Counts → Stores → Bool
list_order c s = judged_by lists c s

unfoldable pub list_of : Counts → Stores → List ℕ → OutRes
list_of c s out = if list_order c s then put_listing (listing_of (program_in c s)) out else record { answer = Err why.NotInOrder; out = out }

-- all that an example computes with here
unfoldable pub computes : Type 1
unfolding constant_text constant_words constants_laid structs_laid others_laid functions_laid constant_texts struct_texts texts_of main_of others_of laid
    counts_for room_for load_judged load_of put_out save_of put_listing list_of
computes = Type 0
