-- The writing pass of loading: what it asks for, and what it leaves in the stores.
use Rattle.std.specs.Prelude.{◌≡◌, Bool, true, List, [], ◌∷◌, ℕ, ◌+◌, ◌*◌, ◌≤◌, ◌<◌, ◌^◌, length, drop}
use Rattle.model.specs.Numbers.{Step, got}
use Rattle.model.specs.Programs.{Constant, Function, Program, function_at, order_of}
use Rattle.model.specs.Images.{joined, read_constants, read_structs, read_function, read_functions, fine, judge}
use Rattle.model.specs.Stores.{Stores, pack}
use Rattle.model.specs.Emission.{written}
use Rattle.model.specs.Loading.{constant_text, constants_laid, structs_laid, others_laid, functions_laid, laid, room_for}
use Rattle.image_judge.specs.Links.{Good, runs_for, others_for}
use Rattle.image_judge.specs.declared.Span.{Span}
use Rattle.image_load.specs.declared.loading.Filled.{Filled}

-- dec reads a at the place `at`: it was judged
pub record Has {A : Type 0} (dec : List ℕ → Step A) (s : List ℕ) (at : ℕ) (a : A) : Type 0 where
  pub within : at ≤ length s
  pub rest : List ℕ
  pub means : dec (drop at s) ≡ got a rest

abbrev pub bytes_in : (Function → List ℕ) → List Function → ℕ
bytes_in f l = length (joined f l)

-- ---- constants

pub record ConstantsFit (s : List ℕ) (at : ℕ) (cs tx : List ℕ) : Type 0 where
  pub held : List Constant
  pub has : Has read_constants s at held
  pub words : 2 * length held ≤ length cs
  pub text : length (joined constant_text held) ≤ length tx
  pub small : length (joined constant_text held) < 2 ^ 32

pub record ConstantsFilled (s : List ℕ) (at : ℕ) (cs tx : List ℕ) (z : Filled) (cs' tx' : List ℕ) : Type 0 where
  pub held : List Constant
  pub good : Good read_constants s at z.next held
  pub text : z.text ≡ length (joined constant_text held)
  pub words : cs' ≡ written cs 0 (constants_laid 0 held)
  pub texts : tx' ≡ written tx 0 (joined constant_text held)

-- ---- struct names, their texts from t on

pub record StructsFit (s : List ℕ) (at t : ℕ) (ss tx : List ℕ) : Type 0 where
  pub held : List (List ℕ)
  pub has : Has read_structs s at held
  pub words : 2 * length held ≤ length ss
  pub text : t + length (joined (λ n. n) held) ≤ length tx
  pub small : t + length (joined (λ n. n) held) < 2 ^ 32

pub record StructsFilled (s : List ℕ) (at t : ℕ) (ss tx : List ℕ) (z : Filled) (ss' tx' : List ℕ) : Type 0 where
  pub held : List (List ℕ)
  pub good : Good read_structs s at z.next held
  pub text : z.text ≡ t + length (joined (λ n. n) held)
  pub words : ss' ≡ written ss 0 (structs_laid t held (order_of (length held) held))
  pub texts : tx' ≡ written tx t (joined (λ n. n) held)

-- ---- the places of code, from c on

pub record RunsFit (s : List ℕ) (at size c : ℕ) (pl : List ℕ) : Type 0 where
  pub held : List ℕ
  pub has : Has (runs_for size) s at held
  pub room : c + size ≤ length pl

pub record RunsFilled (s : List ℕ) (at size c : ℕ) (pl : List ℕ) (next : ℕ) (pl' : List ℕ) : Type 0 where
  pub held : List ℕ
  pub good : Good (runs_for size) s at next held
  pub count : length held ≡ size
  pub stored : pl' ≡ written pl c held

-- ---- function i: its name from t on, its code from c on

pub record FunctionFits (first : Bool) (s : List ℕ) (at i t c : ℕ) (fs tx cd pl : List ℕ) : Type 0 where
  pub held : Function
  pub has : Has (read_function first) s at held
  pub words : 2 * i + 2 ≤ length fs
  pub name : t + length held.name ≤ length tx
  pub code : c + length held.code ≤ length cd
  pub places : c + length held.code ≤ length pl
  pub small : (t + length held.name < 2 ^ 32) × (c + length held.code < 2 ^ 32)

pub record FunctionFilled (first : Bool) (s : List ℕ) (at i t c : ℕ) (fs tx cd pl : List ℕ) (z : Span) (fs' tx' cd' pl' : List ℕ) : Type 0 where
  pub held : Function
  pub good : Good (read_function first) s at z.next held
  pub name : z.name ≡ length held.name
  pub code : z.code ≡ length held.code
  pub places : length held.places ≡ length held.code
  pub words : fs' ≡ written fs (2 * i) (pack t (length held.name) ∷ pack c (length held.code) ∷ [])
  pub names : tx' ≡ written tx t held.name
  pub codes : cd' ≡ written cd c held.code
  pub placed : pl' ≡ written pl c held.places

-- ---- the functions behind main

pub record OthersFit (n : ℕ) (s : List ℕ) (at t : ℕ) (fs tx cd pl : List ℕ) : Type 0 where
  pub held : List Function
  pub has : Has (others_for n) s at held
  pub words : 2 * n + 2 ≤ length fs
  pub text : t + bytes_in (λ f. f.name) held ≤ length tx
  pub code : bytes_in (λ f. f.code) held ≤ length cd
  pub places : bytes_in (λ f. f.code) held ≤ length pl
  pub small : (t + bytes_in (λ f. f.name) held < 2 ^ 32) × (bytes_in (λ f. f.code) held < 2 ^ 32)

pub record OthersFilled (n : ℕ) (s : List ℕ) (at t : ℕ) (fs tx cd pl fs' tx' cd' pl' : List ℕ) : Type 0 where
  pub held : List Function
  pub has : Has (others_for n) s at held
  pub words : fs' ≡ written fs 2 (others_laid t 0 held)
  pub names : tx' ≡ written tx t (joined (λ f. f.name) held)
  pub codes : cd' ≡ written cd 0 (joined (λ f. f.code) held)
  pub placed : pl' ≡ written pl 0 (joined (λ f. f.places) held)

-- ---- all functions

pub record FunctionsFit (s : List ℕ) (at t : ℕ) (fs tx mn mp ot op : List ℕ) : Type 0 where
  pub held : List Function
  pub has : Has read_functions s at held
  pub words : 2 * length held ≤ length fs
  pub text : t + bytes_in (λ f. f.name) held ≤ length tx
  pub small : (t + bytes_in (λ f. f.name) held < 2 ^ 32) × ((length (function_at held 0).code < 2 ^ 32) × (bytes_in (λ f. f.code) (drop 1 held) < 2 ^ 32))
  pub main : (length (function_at held 0).code ≤ length mn) × (length (function_at held 0).code ≤ length mp)
  pub other : (bytes_in (λ f. f.code) (drop 1 held) ≤ length ot) × (bytes_in (λ f. f.code) (drop 1 held) ≤ length op)

pub record FunctionsFilled (s : List ℕ) (at t : ℕ) (fs tx mn mp ot op fs' tx' mn' mp' ot' op' : List ℕ) : Type 0 where
  pub held : List Function
  pub has : Has read_functions s at held
  pub words : fs' ≡ written fs 0 (functions_laid t held)
  pub names : tx' ≡ written tx t (joined (λ f. f.name) held)
  pub main : mn' ≡ written mn 0 (function_at held 0).code
  pub main_places : mp' ≡ written mp 0 (function_at held 0).places
  pub other : ot' ≡ written ot 0 (joined (λ f. f.code) (drop 1 held))
  pub other_places : op' ≡ written op 0 (joined (λ f. f.places) (drop 1 held))

-- ---- the whole image

pub record Fits (s : List ℕ) (x : Stores) : Type 0 where
  pub program : Program
  pub judged : judge s ≡ fine program
  pub room : room_for program x ≡ true

pub record LaidPost (s : List ℕ) (x x' : Stores) : Type 0 where
  pub laid : (p : Program) → judge s ≡ fine p → x' ≡ laid p x
