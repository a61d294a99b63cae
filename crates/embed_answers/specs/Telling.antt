-- What an entry answers that tells only words.
use Rattle.std.specs.Prelude.{◌≡◌, refl, List, [], ◌∷◌, ℕ, Result, Ok, Err}
use Rattle.model.specs.declared.Header.{Header}
use Rattle.model.specs.declared.Refusal.{Refusal}
use Rattle.model.specs.declared.Value.{Value}
use Rattle.model.specs.Answers.{refusal_number}
use Rattle.model.specs.Basics.{written}
use Rattle.model.specs.Values.{kind, payload}
use Rattle.embed_words.specs.Coding.{Coded, refused, told_coded, shown_coded, headed_coded}

-- the words of what is told go to the answer, and a refusal, of any kind that has a number, writes nothing
abbrev pub words_told : {A E : Type 0} → (words : A → List ℕ) → (number : E → ℕ) → Result A E → List ℕ → List ℕ → Coded
words_told words number (Ok x) w a = record { number = 0; vm = w; answer = written a 0 (words x) }
words_told words number (Err e) w a = refused (number e) w a

abbrev pub words_coded : {A : Type 0} → (A → List ℕ) → Result A Refusal → List ℕ → List ℕ → Coded
words_coded words = words_told words refusal_number

pub told_is : (x : Result ℕ Refusal) (w a : List ℕ) → told_coded x w a ≡ words_coded (λ n. n ∷ []) x w a
unfolding told_coded
told_is (Ok n) w a = refl
told_is (Err e) w a = refl

pub shown_is : (x : Result Value Refusal) (w a : List ℕ) → shown_coded x w a ≡ words_coded (λ v. kind v ∷ payload v ∷ []) x w a
unfolding shown_coded
shown_is (Ok v) w a = refl
shown_is (Err e) w a = refl

pub headed_is : (x : Result Header Refusal) (w a : List ℕ) → headed_coded x w a ≡ words_coded (λ (y : Header). y.count ∷ y.number ∷ y.depth ∷ []) x w a
unfolding headed_coded
headed_is (Ok y) w a = refl
headed_is (Err e) w a = refl
