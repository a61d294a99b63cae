-- Saving: what the code that writes a part of an image asks for, and what it leaves.
use Rattle.std.specs.Prelude.{◌≡◌, List, [], ℕ, ◌+◌, ◌-◌, ◌≤◌, ◌<◌, ◌^◌, length, get_or}
use Rattle.model.specs.Values.{kind_at, payload_at, text_at}
use Rattle.model.specs.Programs.{Function}
use Rattle.model.specs.Images.{joined, counted, text_image, constant_image, run_image, runs_of, function_image}
use Rattle.model.specs.Stores.{part, struct_word, name_word, code_word, start, size, constant_in, constants_from, structs_from, functions_from}
use Rattle.model.specs.Emission.{written}
use Rattle.model.specs.Stores.{stores_of as lent}

-- the bytes l from place `at` on, as far as the store reaches; r is the place behind them
pub record Put (l out : List ℕ) (at : ℕ) (out' : List ℕ) (r : ℕ) : Type 0 where
  pub next : r ≡ at + length l
  pub kept : length out' ≡ length out
  pub stored : out' ≡ written out at l

-- the place behind them is a number of the machine
unfoldable pub Near : ℕ → List ℕ → Type 0
Near at l = at + length l < 2 ^ 62

-- a text that has an image
pub record TextPuts (at : ℕ) (t : List ℕ) : Type 0 where
  pub small : length t < 2 ^ 32
  pub near : Near at (text_image t)

-- a constant that has an image: a known kind, a boolean that is 0 or 1, a text that is not too long
pub record Known (t : List ℕ) (k a : ℕ) : Type 0 where
  pub kind : k ≤ 3
  pub flag : k ≡ 1 → a < 2
  pub small : 1 < k → length (part t a) < 2 ^ 32

pub record ConstantPuts (at : ℕ) (t : List ℕ) (k a : ℕ) : Type 0 where
  pub known : Known t k a
  pub near : Near at (constant_image (constant_in t k a))

pub record ConstantsPut (at n : ℕ) (cs t : List ℕ) : Type 0 where
  pub count : n < 2 ^ 32
  pub each : (i : ℕ) → i < n → Known t (kind_at cs i) (payload_at cs i)
  pub near : Near at (counted constant_image (constants_from n 0 cs t))

pub record StructsPut (at n : ℕ) (ss t : List ℕ) : Type 0 where
  pub count : n < 2 ^ 32
  pub each : (i : ℕ) → i < n → length (part t (struct_word ss i)) < 2 ^ 32
  pub near : Near at (counted text_image (structs_from n 0 ss t))

-- n neighbours from i on have the place of the first; the next before `to` has another
pub record SameRun (places : List ℕ) (i to n : ℕ) : Type 0 where
  pub some : 0 < n
  pub most : i + n ≤ to
  pub same : (k : ℕ) → k < n → get_or places (i + k) 0 ≡ get_or places i 0
  pub last : i + n < to → get_or places (i + n) 0 ≡ get_or places i 0 → ⊥

pub record RunsPut (at : ℕ) (places : List ℕ) (from to : ℕ) : Type 0 where
  pub order : from ≤ to
  pub inside : to ≤ length places
  pub small : to - from < 2 ^ 32
  pub near : Near at (joined run_image (runs_of (text_at places from (to - from))))

-- the function that the words of function i name in these stores
unfoldable pub function_here : List ℕ → ℕ → List ℕ → List ℕ → List ℕ → Function
function_here fs i t cd pl = record { name = part t (name_word fs i); code = part cd (code_word fs i); places = part pl (code_word fs i) }

-- its name and its code are not too long, and its places lie in their store
pub record Lies (fs : List ℕ) (i : ℕ) (t cd pl : List ℕ) : Type 0 where
  pub name : length (part t (name_word fs i)) < 2 ^ 32
  pub code : length (part cd (code_word fs i)) < 2 ^ 32
  pub places : start (code_word fs i) + size (code_word fs i) ≤ length pl

pub record FunctionPuts (at : ℕ) (fs : List ℕ) (i : ℕ) (t cd pl : List ℕ) : Type 0 where
  pub lies : Lies fs i t cd pl
  pub near : Near at (function_image (function_here fs i t cd pl))

-- all functions, whatever the constants and struct names are
unfoldable pub functions_here : ℕ → ℕ → List ℕ → List ℕ → List ℕ → List ℕ → List ℕ → List ℕ → List Function
functions_here n i fs t mn mp ot op = functions_from n i (lent [] [] fs t mn mp ot op)

pub record FunctionsPut (at n : ℕ) (fs t mn mp ot op : List ℕ) : Type 0 where
  pub count : n < 2 ^ 32
  pub some : 0 < n
  pub main : Lies fs 0 t mn mp
  pub others : (i : ℕ) → 0 < i → i < n → Lies fs i t ot op
  pub near : Near at (counted function_image (functions_here n 0 fs t mn mp ot op))
