-- An entry that is lent nothing of a result store writes nothing, and says the same of what comes before 17.
use Rattle.std.specs.Prelude.{if◌then◌else◌, Err}
use mathlib.Core.Path.{◌≡◌, refl, sym, ◌∙◌}
use mathlib.Core.Bool.{Bool, true, false, ◌&&◌}
use mathlib.Core.List.{List, [], ◌∷◌}
use Prim.Native.Nat.{ℕ, suc}
use lib.Dec.{leb}
use lib.ListN.{length}
use lib.Seq.{sets}
use Rattle.model.specs.declared.Counts.{Counts}
use Rattle.model.specs.declared.Vm.{Vm}
use Rattle.model.specs.Basics.{written}
use Rattle.model.specs.Answers.{answer_number}
use Rattle.model.specs.declared.Value.{Value}
use Rattle.model.specs.declared.Value.TheVariants as val
use Rattle.model.specs.Values.{places, if_string, if_reference, text_at}
use Rattle.model.specs.Stores.{Stores, program_in}
use Rattle.model.specs.Orders.{text_ok, program_ok}
use Rattle.model.specs.Images.{image_of}
use Rattle.model.specs.Listings.{Listed, text, unlisted, listing_of}
use Rattle.model.specs.Loading.{OutRes, put_out, save_of, put_listing, list_order, list_of}
use Rattle.model.specs.Readers.{reads_text, text_shown, text_bytes_of}
use Rattle.embed_words.specs.Coding.{at_entry, at_listing, among, crossed}
use Rattle.model.specs.declared.Refusal.TheVariants as why

pub record Foretells (firsts : List ℕ) (rule : List ℕ → OutRes) : Type 0 where
  pub number : (out : List ℕ) (why : ℕ) → crossed firsts why (answer_number (rule []).answer) ≡ crossed firsts why (answer_number (rule out).answer)
  pub nothing : (rule []).out ≡ []

order_foretells : (firsts : List ℕ) (g : Bool) (rule : List ℕ → OutRes) → Foretells firsts rule
    → Foretells firsts (λ out. if g then rule out else record { answer = Err why.NotInOrder; out = out })
order_foretells firsts true rule p = record { number = p.number; nothing = p.nothing }
order_foretells firsts false rule p = record { number = λ out why. refl; nothing = refl }

either_why : (firsts : List ℕ) (why : ℕ) (b : Bool) (x y : OutRes) → crossed firsts why (answer_number x.answer) ≡ why → crossed firsts why (answer_number y.answer) ≡ why
    → crossed firsts why (answer_number (if b then x else y).answer) ≡ why
either_why firsts why true x y p q = p
either_why firsts why false x y p q = q

either_nothing : (b : Bool) (x y : OutRes) → x.out ≡ [] → y.out ≡ [] → (if b then x else y).out ≡ []
either_nothing true x y p q = p
either_nothing false x y p q = q

sets_nothing : (i : ℕ) (l : List ℕ) → sets [] i l ≡ []
sets_nothing i [] = refl
sets_nothing i (x ∷ l) = sets_nothing (suc i) l

put_nothing : (bytes : List ℕ) → (put_out bytes []).out ≡ []
unfolding put_out written
put_nothing bytes = either_nothing (leb (length bytes) (places 1 [])) _ _ (sets_nothing 0 bytes) refl

put_foretells : (bytes : List ℕ) → Foretells at_entry (put_out bytes)
unfolding put_out crossed among
put_foretells bytes = record {
  number = λ out why. either_why at_entry why (leb (length bytes) (places 1 [])) _ _ refl refl
      ∙ sym (either_why at_entry why (leb (length bytes) (places 1 out)) _ _ refl refl);
  nothing = put_nothing bytes;
}

pub save_foretells : (c : Counts) (s : Stores) → Foretells at_entry (save_of c s)
unfolding save_of
save_foretells c s = order_foretells at_entry (program_ok c s) (put_out (image_of (program_in c s))) (put_foretells (image_of (program_in c s)))

listed_foretells : (x : Listed) → Foretells at_listing (put_listing x)
unfolding put_listing put_out crossed among
listed_foretells (text bytes) = record {
  number = λ out why. either_why at_listing why (leb (length bytes) (places 1 [])) _ _ refl refl
      ∙ sym (either_why at_listing why (leb (length bytes) (places 1 out)) _ _ refl refl);
  nothing = put_nothing bytes;
}
listed_foretells (unlisted l e) = record { number = λ out why. refl; nothing = refl }

pub list_foretells : (c : Counts) (s : Stores) → Foretells at_listing (list_of c s)
unfolding list_of
list_foretells c s = order_foretells at_listing (list_order c s) (put_listing (listing_of (program_in c s))) (listed_foretells (listing_of (program_in c s)))

shown_foretells : (bytes : List ℕ) (x : Value) → Foretells at_entry (λ out. text_shown bytes out x)
unfolding text_shown if_string if_reference
shown_foretells bytes (val.Scalar y) = record { number = λ out why. refl; nothing = refl }
shown_foretells bytes (val.Boolean b) = record { number = λ out why. refl; nothing = refl }
shown_foretells bytes (val.String o n) = let p = put_foretells (text_at bytes o n) in record { number = p.number; nothing = p.nothing }
shown_foretells bytes (val.FunctionReference o n) = let p = put_foretells (text_at bytes o n) in record { number = p.number; nothing = p.nothing }
shown_foretells bytes (val.List p) = record { number = λ out why. refl; nothing = refl }
shown_foretells bytes (val.StructInstance p) = record { number = λ out why. refl; nothing = refl }

pub text_foretells : (m : Vm) (x : Value) (bytes : List ℕ) → Foretells at_entry (text_bytes_of m x bytes)
unfolding text_bytes_of
text_foretells m x bytes = order_foretells at_entry (text_ok m.program bytes && reads_text m x) (λ out. text_shown bytes out x) (shown_foretells bytes x)
