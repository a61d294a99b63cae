-- The writing pass: constants, struct names, and the places of code.
use mathlib.Core.Path.{◌≡◌, refl, sym, ap, subst, ◌∙◌}
use mathlib.Core.Bool.{true, not}
use mathlib.Core.List.{List, [], ◌∷◌, ◌++◌, append_assoc, append-nil}
use Prim.Native.Nat.{ℕ, suc, ◌+◌, ◌-◌, ◌*◌, ◌<◌, ◌≤◌, ◌^◌}
use native.Mathlib.Omega.{arith}
use lib.ListN.{length, take, drop, replicate, length-append}
use borrow.Author.Tests.{lt-ltb, le-ltb, not-true}
use Rattle.model.specs.Numbers.{Step, got, bad, and_then, number}
use Rattle.model.specs.Values.{put_words}
use Rattle.model.specs.Programs.{Constant, scalar, boolean, string, reference, among, order_of}
use Rattle.model.specs.Images.{joined, series, read_constant, always, read_constants, read_name, snoc, read_structs}
use Rattle.model.specs.Stores.{pack, structs_from, orders_from}
use Rattle.model.specs.Orders.{name_in_order}
use Rattle.model.specs.Emission.{written}
use Rattle.model.specs.Loading.{constant_text, constant_words, constants_laid, structs_laid}
use Rattle.number.specs.Links.{NumPost}
use Rattle.image_judge.specs.Links.{Good, Bad, part_of, TextPost, constant_at, payload_at, EntryAt, ItemPost, RunPost}
use Rattle.image_load.specs.Fills.{Has, ConstantsFit, ConstantsFilled, StructsFit, StructsFilled, RunsFit, RunsFilled}
use Rattle.image_judge.specs.declared.Entry.{Entry}
use Rattle.image_judge.specs.declared.Run.{Run}
use Rattle.laws_names.specs.Sorted.{Edge, struct_put}
use Rattle.laws_names.proofs.Laying.{Unlike, unlike_more, length_order, laid_length as structs_length, laid_more as structs_more}
use Rattle.layout.proofs.Bools.{either_way}
use Rattle.laws_programs.proofs.Growing.{split, below}
use Rattle.number.proofs.Codes.{never}
use Rattle.laws_images.proofs.Codecs.{got_value, then_only, made_only}
use Rattle.image_judge.proofs.Reading.{Along, along_start, along_end, along_within, along_bad, along_step, joined_length, joined_append, bad_first, bad_test, bad_tested, good_test, good_both, no_number_lem, onto}
use Rattle.image_judge.proofs.Items.{part_length, part_slice, text_is, text_not, entry_is, entry_not}
use Rattle.laws_images.proofs.Held.{written_front, Pieces, pieces_here, StructsAt, structs_here, structs_held}
use Rattle.image_judge.proofs.Runs.{Running, runs_start, runs_good, runs_bad, runs_fits, runs_less, runs_step}
use Rattle.image_judge.proofs.Functions.{series_count}
use Rattle.laws_images.proofs.Written.{written_none, written_two, kept_length, more_written, more_joined}
use Rattle.std.specs.Prelude.{Err, None, Ok, Option, Result, Some}
use Rattle.image_judge.specs.declared.Broken.{Broken}
use Rattle.image_judge.specs.declared.Broken.TheVariants.{At}

-- ---- what was judged

pub has_never : {A : Type 0} {dec : List ℕ → Step A} (s : List ℕ) (at : ℕ) (a : A) (o : ℕ) → Has dec s at a → Bad dec s at o → ⊥
has_never s at a o h b = never (sym b.means ∙ h.means)

pub has_same : {A : Type 0} {dec : List ℕ → Step A} (s : List ℕ) (at next : ℕ) (a b : A) → Has dec s at a → Good dec s at next b → b ≡ a
has_same s at next a b h g = got_value (sym g.means ∙ h.means)

pub has_second : {A B : Type 0} {dec : List ℕ → Step A} (k : A → List ℕ → Step B) (s : List ℕ) (at next : ℕ) (a : A) (c : B)
    → Has (λ b. and_then (dec b) k) s at c → Good dec s at next a → Has (k a) s next c
unfolding and_then
has_second k s at next a c h g = record { within = g.within; rest = h.rest; means = let m = h.means in rw g.means at m }

module _ {S A : Type 0} (dec : S → List ℕ → Step A) (next : S → A → S) (n : ℕ) (s₀ : S) (s : List ℕ) (at : ℕ) (held : List A)
    (has : Has (series dec next n s₀) s at held) (i : ℕ) (x : S) (cur : ℕ) (done : List A) (h : Along dec next n s₀ s at i x cur done) where
  pub series_whole : n ≤ i → done ≡ held
  series_whole l = has_same s at cur held done has (along_end dec next n s₀ s at i x cur done h l)

  pub series_never : i < n → (o : ℕ) → Bad (dec x) s cur o → ⊥
  series_never l o b = has_never s at held o has (along_bad dec next n s₀ s at i x cur done h l o b)

  -- what is read next is the next of what was judged
  pub series_front : i < n → (to : ℕ) (a : A) → Good (dec x) s cur to a → (m : List A) × (held ≡ (done ++ (a ∷ [])) ++ m)
  series_front l to a g = along_within dec next n s₀ s at (i + 1) (next x a) to (done ++ (a ∷ [])) (along_step dec next n s₀ s at i x cur done h l a to g) held has.rest has.means

  pub series_fits : (f : A → List ℕ) → i < n → (to : ℕ) (a : A) → Good (dec x) s cur to a → length (joined f done) + length (f a) ≤ length (joined f held)
  series_fits f l to a g =
      let w = series_front l to a g in
      let e1 : length (joined f held) ≡ length (joined f ((done ++ (a ∷ [])) ++ w.0)) = ap (λ (y : List A). length (joined f y)) w.1 in
      let e2 = joined_append f (done ++ (a ∷ [])) w.0 in let e3 = joined_length f done a in omega arith

  -- what is to be read next was judged
  pub series_head : i < n → (a : A) × (y : Has (dec x) s cur a) × (m : List A) × (held ≡ (done ++ (a ∷ [])) ++ m)
  unfolding series onto
  series_head l =
      let z : n - i ≡ suc (n - (i + 1)) = omega arith in
      let e : onto done (series dec next (suc (n - (i + 1))) x (drop cur s)) ≡ got held has.rest =
      subst (λ (k : ℕ). onto done (series dec next k x (drop cur s)) ≡ got held has.rest) z (sym h.means ∙ has.means) in
      let o = onto_value done _ held has.rest e in
      let g = then_only (dec x (drop cur s)) _ o.0 has.rest o.2 in
      let m = made_only (λ (y : List A). g.0 ∷ y) (series dec next (n - (i + 1)) (next x g.0) g.1) o.0 has.rest g.3 in (
        g.0,
        record { within = h.within; rest = g.1; means = g.2 },
        m.0,
        o.1 ∙ ap (λ (y : List A). done ++ y) (sym m.1) ∙ sym (append_assoc done (g.0 ∷ []) m.0),
      )
    where
      onto_value : (d : List A) (y : Step (List A)) (l : List A) (r : List ℕ) → onto d y ≡ got l r → (m : List A) × (l ≡ d ++ m) × (y ≡ got m r)
      onto_value d (got q t) l r e = (q, sym (got_value e), ap (got q) (let z : t ≡ r = cc in z))
      onto_value d (bad k) l r e = absurd (never e)

-- ---- constants

pub payload_word : (t : ℕ) (p : Entry) → p.kind < 2 → p.word ≡ payload_at t p
unfolding payload_at
payload_word t p l = rw (lt-ltb p.kind 2 l)

pub payload_text : (t : ℕ) (p : Entry) → 2 ≤ p.kind → (w : ℕ) → w ≡ pack t p.len → w ≡ payload_at t p
unfolding payload_at
payload_text t p l w e = rw (le-ltb p.kind 2 l) e

laid_more : (o : ℕ) (l : List Constant) (c : Constant) → constants_laid o (l ++ (c ∷ [])) ≡ constants_laid o l ++ constant_words (o + length (joined constant_text l)) c
unfolding constants_laid joined
laid_more o [] c = append-nil (constant_words o c) ∙ (let z : o ≡ o + 0 = omega arith in ap (λ (k : ℕ). constant_words k c) z)
laid_more o (x ∷ l) c =
    let z : o + length (constant_text x) + length (joined constant_text l) ≡ o + length (constant_text x ++ joined constant_text l) =
    (let y = length-append (constant_text x) (joined constant_text l) in omega arith) in
    ap (λ (y : List ℕ). constant_words o x ++ y) (laid_more (o + length (constant_text x)) l c ∙ ap (λ (k : ℕ). constants_laid (o + length (constant_text x)) l ++ constant_words k c) z)
    ∙ sym (append_assoc (constant_words o x) (constants_laid (o + length (constant_text x)) l) _)

words_length : (o : ℕ) (c : Constant) → length (constant_words o c) ≡ 2
unfolding constant_words
words_length o (scalar w) = refl
words_length o (boolean b) = refl
words_length o (string x) = refl
words_length o (reference x) = refl

pub laid_length : (o : ℕ) (l : List Constant) → length (constants_laid o l) ≡ 2 * length l
unfolding constants_laid
laid_length o [] = refl
laid_length o (x ∷ l) =
    let a = length-append (constant_words o x) (constants_laid (o + length (constant_text x)) l) in let b = words_length o x in let c = laid_length (o + length (constant_text x)) l in omega arith

pub record FillingConstants (s : List ℕ) (first k : ℕ) (cs₀ tx₀ cs tx : List ℕ) (next t i : ℕ) : Type 0 where
  pub done : List Constant
  pub along : Along read_constant always k tt s first i tt next done
  pub sized : t ≡ length (joined constant_text done)
  pub words : cs ≡ written cs₀ 0 (constants_laid 0 done)
  pub texts : tx ≡ written tx₀ 0 (joined constant_text done)

module _ (s : List ℕ) (at : ℕ) (cs₀ tx₀ : List ℕ) (fit : ConstantsFit s at cs₀ tx₀) where
  pub constants_no_count : (x : Option (ℕ × ℕ)) → NumPost s at x → x ≡ None → ⊥
  unfolding read_constants
  constants_no_count x p q = has_never s at fit.held at fit.has (bad_first (λ k r. series read_constant always k tt r) (no_number_lem s at x p fit.has.within q))

  module _ (first k : ℕ) (count : Good number s at first k) where
    inner : Has (series read_constant always k tt) s first fit.held
    unfolding read_constants
    inner = has_second (λ k r. series read_constant always k tt r) s at first k fit.held fit.has count

    counts : length fit.held ≡ k
    counts = series_count read_constant always k tt (drop first s) fit.held inner.rest inner.means

    pub constants_begin : FillingConstants s first k cs₀ tx₀ cs₀ tx₀ first 0 0
    unfolding joined constants_laid
    constants_begin = record { done = []; along = along_start read_constant always k tt s first count.within; sized = refl; words = written_none cs₀ 0; texts = written_none tx₀ 0 }

    module _ (cs tx : List ℕ) (next t i : ℕ) (h : FillingConstants s first k cs₀ tx₀ cs tx next t i) where
      pub constants_same : (length cs ≡ length cs₀) × (length tx ≡ length tx₀)
      constants_same = (kept_length cs cs₀ 0 _ h.words, kept_length tx tx₀ 0 _ h.texts)

      pub constants_filled : k ≤ i → ConstantsFilled s at cs₀ tx₀ (record { next = next; text = t }) cs tx
      unfolding read_constants
      constants_filled l = record {
        held = h.done;
        good = good_both (λ k r. series read_constant always k tt r) count (along_end read_constant always k tt s first i tt next h.done h.along l);
        text = h.sized;
        words = h.words;
        texts = h.texts;
      }

      module _ (l : i < k) (x : Result Entry Broken) (p : ItemPost (read_constant tt) s next x) where
        pub constants_never : (b : Broken) → x ≡ Err b → ⊥
        constants_never (At o) q = series_never read_constant always k tt s first fit.held inner i tt next h.done h.along l o (entry_not _ s next x p o q)

        module _ (y : Entry) (q : x ≡ Ok y) where
          g : EntryAt (read_constant tt) s next y
          g = entry_is _ s next x p y q

          text_size : length (constant_text (constant_at s y)) ≡ y.len
          text_size = ap length g.text ∙ part_length s y.from y.len g.inside

          -- room for the text, and for the words
          pub constants_room : (t + y.len ≤ length tx₀) × ((t + y.len < 2 ^ 32) × (2 * i + 2 ≤ length cs₀))
          constants_room =
              let f = series_fits read_constant always k tt s first fit.held inner i tt next h.done h.along constant_text l y.next (constant_at s y) g.good in
              let a = fit.text in let b = fit.small in let d = h.sized in let z = text_size in let w = fit.words in let v = counts in
              (omega arith, (omega arith, omega arith))

          pub entry_small : y.len < 2 ^ 32
          entry_small = g.small

          -- the bytes that are copied
          pub slice_length : length (take (y.from + y.len - y.from) (drop y.from s)) ≡ y.len
          slice_length = ap length (part_slice s y.from y.len) ∙ part_length s y.from y.len g.inside

          pub constants_next : (w : ℕ) → w ≡ payload_at t y → (cs' tx' : List ℕ) → cs' ≡ put_words cs i y.kind w → tx' ≡ written tx t (take (y.from + y.len - y.from) (drop y.from s))
              → FillingConstants s first k cs₀ tx₀ cs' tx' y.next (t + y.len) (i + 1)
          constants_next w ew cs' tx' ec et =
              let sz = h.sized in let z = text_size in let jl = joined_length constant_text h.done (constant_at s y) in
              let ll = laid_length 0 h.done in let ac = h.along.count in
              record {
                done = h.done ++ (constant_at s y ∷ []);
                along = along_step read_constant always k tt s first i tt next h.done h.along l (constant_at s y) y.next g.good;
                sized = omega arith;
                words = more_written cs₀ cs cs' 0 (2 * i) (constants_laid 0 h.done) (y.kind ∷ w ∷ []) h.words (omega arith) (ec ∙ written_two cs i y.kind w)
                    ∙ ap (λ (z : List ℕ). written cs₀ 0 (constants_laid 0 h.done ++ z))
                    (ap (λ (v : ℕ). y.kind ∷ v ∷ []) ew ∙ sym (g.words t) ∙ ap (λ (v : ℕ). constant_words v (constant_at s y))
                    (let z0 : t ≡ 0 + length (joined constant_text h.done) = omega arith in z0))
                    ∙ ap (written cs₀ 0) (sym (laid_more 0 h.done (constant_at s y)));
                texts = more_joined constant_text h.done (constant_at s y) tx₀ tx tx' 0 t h.texts (omega arith)
                    (et ∙ ap (written tx t) (part_slice s y.from y.len ∙ sym g.text));
              }

-- ---- struct names

pub record FillingStructs (s : List ℕ) (first k t₀ : ℕ) (ss₀ tx₀ ss tx : List ℕ) (next t i : ℕ) : Type 0 where
  pub done : List (List ℕ)
  pub along : Along read_name snoc k [] s first i done next done
  pub sized : t ≡ t₀ + length (joined (λ n. n) done)
  pub words : ss ≡ written ss₀ 0 (structs_laid t₀ done (order_of (length done) done))
  pub texts : tx ≡ written tx₀ t₀ (joined (λ n. n) done)
  pub unlike : Unlike (length done) done

module _ (s : List ℕ) (at t₀ : ℕ) (ss₀ tx₀ : List ℕ) (fit : StructsFit s at t₀ ss₀ tx₀) where
  pub structs_no_count : (x : Option (ℕ × ℕ)) → NumPost s at x → x ≡ None → ⊥
  unfolding read_structs
  structs_no_count x p q = has_never s at fit.held at fit.has (bad_first (λ k r. series read_name snoc k [] r) (no_number_lem s at x p fit.has.within q))

  module _ (first k : ℕ) (count : Good number s at first k) where
    names_inner : Has (series read_name snoc k []) s first fit.held
    unfolding read_structs
    names_inner = has_second (λ k r. series read_name snoc k [] r) s at first k fit.held fit.has count

    names_count : length fit.held ≡ k
    names_count = series_count read_name snoc k [] (drop first s) fit.held names_inner.rest names_inner.means

    pub structs_begin : FillingStructs s first k t₀ ss₀ tx₀ ss₀ tx₀ first t₀ 0
    unfolding joined structs_laid order_of
    structs_begin = record {
      done = [];
      along = along_start read_name snoc k [] s first count.within;
      sized = omega arith;
      words = written_none ss₀ 0;
      texts = written_none tx₀ t₀;
      unlike = record { unlike = λ i j a b. absurd (let y : ⊥ = omega arith in y) };
    }

    module _ (ss tx : List ℕ) (next t i : ℕ) (h : FillingStructs s first k t₀ ss₀ tx₀ ss tx next t i) where
      pub structs_same : (length ss ≡ length ss₀) × (length tx ≡ length tx₀)
      structs_same = (kept_length ss ss₀ 0 _ h.words, kept_length tx tx₀ t₀ _ h.texts)

      pub structs_filled : k ≤ i → StructsFilled s at t₀ ss₀ tx₀ (record { next = next; text = t }) ss tx
      unfolding read_structs
      structs_filled l = record {
        held = h.done;
        good = good_both (λ k r. series read_name snoc k [] r) count (along_end read_name snoc k [] s first i h.done next h.done h.along l);
        text = h.sized;
        words = h.words;
        texts = h.texts;
      }

      module _ (l : i < k) (x : Option (ℕ × ℕ)) (p : TextPost s next x) where
        no : (o : ℕ) → Bad (read_name h.done) s next o → ⊥
        no o b = series_never read_name snoc k [] s first fit.held names_inner i h.done next h.done h.along l o b

        pub structs_never : x ≡ None → ⊥
        unfolding read_name
        structs_never q = no next (bad_tested (λ t. not (among t h.done)) (text_not s next x p q))

        module _ (y m : ℕ) (q : x ≡ Some (y, m)) where
          -- it is a name that is none of those before it: it was judged
          new_name_lem : not (among (part_of s y m) h.done) ≡ true
          unfolding read_name
          new_name_lem = either_way (not (among (part_of s y m) h.done)) (λ f. f)
              (λ f. absurd (no next (bad_test (λ t. not (among t h.done)) (text_is s next x p y m q).good f)))

          named : Good (read_name h.done) s next (y + m) (part_of s y m)
          unfolding read_name
          named = good_test (λ t. not (among t h.done)) (text_is s next x p y m q).good new_name_lem

          pub name_inside : y + m ≤ length s
          name_inside = named.within

          pub name_small : m < 2 ^ 32
          name_small = (text_is s next x p y m q).small

          pub name_length : length (take (y + m - y) (drop y s)) ≡ m
          name_length = ap length (part_slice s y m) ∙ part_length s y m name_inside

          pub structs_room : (t + m ≤ length tx₀) × ((t + m < 2 ^ 32) × (2 * i + 2 ≤ length ss₀))
          structs_room =
              let f = series_fits read_name snoc k [] s first fit.held names_inner i h.done next h.done h.along (λ n. n) l (y + m) (part_of s y m) named in
              let a = fit.text in let b = fit.small in let d = h.sized in let z = part_length s y m name_inside in let w = fit.words in let v = names_count in
              (omega arith, (omega arith, omega arith))

          -- what was written reads back
          words_there : StructsAt ss 0 t₀ h.done × (orders_from (length h.done) 0 ss ≡ order_of (length h.done) h.done)
          words_there =
              let n = length_order (length h.done) h.done in let e = structs_length t₀ h.done (order_of (length h.done) h.done) n in
              let ac = h.along.count in let r = structs_room.1.1 in
              structs_here h.done (order_of (length h.done) h.done) ss [] _ 0 t₀ n (h.words ∙ written_front ss₀ _ (omega arith)) refl

          texts_there : Pieces (λ n. n) tx t₀ h.done
          texts_there =
              let sz = h.sized in let r = structs_room.0 in
              let f : t₀ + length (joined (λ n. n) h.done) ≤ length tx₀ = omega arith in
              pieces_here (λ n. n) h.done tx (take t₀ tx₀) _ t₀ (h.texts ∙ split tx₀ t₀ (joined (λ n. n) h.done) f) (below tx₀ t₀ (joined (λ n. n) h.done) f)

          names_there : structs_from (length h.done) 0 ss tx ≡ h.done
          names_there = let sz = h.sized in let r = structs_room.1.0 in structs_held h.done ss tx 0 t₀ words_there.0 texts_there (omega arith)

          pub structs_next : (place : ℕ) → Edge i (name_in_order ss tx) (take (y + m - y) (drop y s)) place → (w : ℕ) → w ≡ pack t m → (ss' tx' : List ℕ)
              → ss' ≡ struct_put i place w ss → tx' ≡ written tx t (take (y + m - y) (drop y s))
              → FillingStructs s first k t₀ ss₀ tx₀ ss' tx' (y + m) (t + m) (i + 1)
          structs_next place ed w ew ss' tx' es et =
              let sz = h.sized in let z = part_length s y m name_inside in let jl = joined_length (λ n. n) h.done (part_of s y m) in
              let ac : i ≡ length h.done = (let c = h.along.count in omega arith) in
              let la = length-append h.done (part_of s y m ∷ []) in
              let le : suc (length h.done) ≡ length (h.done ++ (part_of s y m ∷ [])) = omega arith in
              let u : Unlike (suc (length h.done)) (h.done ++ (part_of s y m ∷ [])) = unlike_more h.done (part_of s y m) h.unlike (not-true _ new_name_lem) in
              record {
                done = h.done ++ (part_of s y m ∷ []);
                along = along_step read_name snoc k [] s first i h.done next h.done h.along l (part_of s y m) (y + m) named;
                sized = omega arith;
                words = rw le at (structs_more ss₀ t₀ h.done (part_of s y m) ss tx place w ss' h.words names_there words_there.1 u
                    (rw ac at (rw (part_slice s y m) at ed)) (ew ∙ rw (sz, z)) (rw ac at es));
                texts = more_joined (λ n. n) h.done (part_of s y m) tx₀ tx tx' t₀ t h.texts sz (et ∙ ap (written tx t) (part_slice s y m));
                unlike = rw le at u;
              }

-- ---- the places of code

pub record FillingRuns (s : List ℕ) (at size c : ℕ) (pl₀ pl : List ℕ) (next left q : ℕ) : Type 0 where
  pub done : List ℕ
  pub runs : Running s at size next left q done
  pub stored : pl ≡ written pl₀ c done

module _ (s : List ℕ) (at size c : ℕ) (pl₀ : List ℕ) (fit : RunsFit s at size c pl₀) where
  pub runs_begin : FillingRuns s at size c pl₀ pl₀ at size 4294967296
  runs_begin = record { done = []; runs = runs_start s at size fit.has.within; stored = written_none pl₀ c }

  module _ (pl : List ℕ) (next left q : ℕ) (h : FillingRuns s at size c pl₀ pl next left q) where
    pub runs_same : length pl ≡ length pl₀
    runs_same = kept_length pl pl₀ c _ h.stored

    pub runs_left : left ≤ size
    runs_left = let z = h.runs.total in omega arith

    pub runs_filled : left ≤ 0 → RunsFilled s at size c pl₀ next pl
    runs_filled l = record { held = h.done; good = runs_good s at size next left q h.done h.runs l; count = (let z = h.runs.total in omega arith); stored = h.stored }

    module _ (l : 0 < left) (x : Result Run Broken) (p : RunPost s next left q x) where
      pub runs_never : (b : Broken) → x ≡ Err b → ⊥
      runs_never (At o) f = has_never s at fit.held o fit.has (runs_bad s at size next left q h.done h.runs l x p o f)

      module _ (y : Run) (f : x ≡ Ok y) where
        pub runs_most : (y.bytes ≤ left) × (left - y.bytes < left)
        runs_most = (runs_fits s at size next left q h.done h.runs l x p y f, runs_less s at size next left q h.done h.runs l x p y f)

        pub runs_room : c + (size - left) + y.bytes ≤ length pl
        runs_room = let a = runs_left in let b = runs_most.0 in let z = runs_same in let w = fit.room in omega arith

        pub runs_next : (pl' : List ℕ) → pl' ≡ written pl (c + (size - left)) (replicate y.bytes y.place) → (k : ℕ) → k ≡ y.place
            → FillingRuns s at size c pl₀ pl' y.next (left - y.bytes) k
        runs_next pl' ep k ek = record {
          done = h.done ++ replicate y.bytes y.place;
          runs = runs_step s at size next left q h.done h.runs l x p y f k ek;
          stored = more_written pl₀ pl pl' c (c + (size - left)) h.done (replicate y.bytes y.place) h.stored (let z = h.runs.total in omega arith) ep;
        }
