-- What an image's loading, saving, running and listing answer, and when it agrees with texts that say what it should be.
use Rattle.std.specs.Prelude.{Bool, true, false, List, ◌∷◌, ◌++◌, ℕ, leb, length, take, replicate, if◌then◌else◌, Err, Ok, Result}
use Rattle.model.specs.declared.Counts.{Counts}
use Rattle.model.specs.Basics.{ascii}
use Rattle.model.specs.Answers.{refusal_number}
use Rattle.model.specs.Equality.{same_bytes}
use Rattle.model.specs.Listings.{decimal}
use Rattle.model.specs.Stores.{Stores}
use Rattle.model.specs.Loading.{LoadRes, load_of, save_of}
use Rattle.model.specs.Reports.{refused_line, empty_stores, runner_text, lister_text}
use Rattle.replay_judge.specs.declared.Verdict.{Verdict}
use Rattle.model.specs.declared.Refusal.{Refusal}
use Rattle.model.specs.declared.Refusal.TheVariants as why

-- ---- texts

-- a space and a number
unfoldable pub field : ℕ → List ℕ
field n = 32 ∷ decimal n

-- `refused 20` and the offset
unfoldable pub breach : ℕ → List ℕ
breach o = ascii "refused 20" ++ field o ++ ascii "\n"

-- `loaded`, the numbers of constants, structs and functions, and the bytes of text
unfoldable pub loaded : Counts → List ℕ
loaded c = ascii "loaded" ++ field c.constants ++ field c.structs ++ field c.functions ++ field c.text ++ ascii "\n"

unfoldable pub load_text : Result Counts Refusal → List ℕ
load_text (Ok c) = loaded c
load_text (Err (why.BrokenImage o)) = breach o
load_text (Err e) = refused_line (refusal_number e)

-- ---- loading and saving

-- the two programs read an image of at most 16,384 bytes; longer: 22
unfoldable pub read_of : List ℕ → Stores → LoadRes
read_of image s = if leb (length image) 16384 then load_of image s else record { answer = Err why.OverLimit; stores = s }

-- whether an answer agrees, and what it wrote
pub record Tried : Type 0 where
  pub agrees : Bool
  pub out : List ℕ

-- bytes were written, and they are the image
unfoldable pub back_to : List ℕ → Result ℕ Refusal → List ℕ → Bool
back_to image (Ok n) out = same_bytes (take n out) image
back_to image (Err e) out = false

-- a program that was loaded is saved as the image that it was loaded from
unfoldable pub saving_of : List ℕ → Result Counts Refusal → Stores → List ℕ → Tried
saving_of image (Ok c) s out = record { agrees = back_to image (save_of c s out).answer (save_of c s out).out; out = (save_of c s out).out }
saving_of image (Err e) s out = record { agrees = true; out = out }

pub record Compared : Type 0 where
  pub loading : Bool
  pub saving : Bool
  pub stores : Stores
  pub saved : List ℕ

unfoldable pub compared_at : List ℕ → List ℕ → LoadRes → List ℕ → Compared
compared_at image loading r saved = record {
  loading = same_bytes (load_text r.answer) loading;
  saving = (saving_of image r.answer r.stores saved).agrees;
  stores = r.stores;
  saved = (saving_of image r.answer r.stores saved).out;
}

-- an image against what loading should answer
unfoldable pub compare_of : List ℕ → List ℕ → Stores → List ℕ → Compared
compare_of image loading s saved = compared_at image loading (read_of image s) saved

-- ---- all of it

-- with the runner's stores, and room for every image that is read
unfoldable pub verdict_of : List ℕ → List ℕ → List ℕ → List ℕ → Verdict
verdict_of image loading running listing = record {
  loading = (compare_of image loading empty_stores (replicate 16384 0)).loading;
  saving = (compare_of image loading empty_stores (replicate 16384 0)).saving;
  running = same_bytes (runner_text image) running;
  listing = same_bytes (lister_text image) listing;
}
