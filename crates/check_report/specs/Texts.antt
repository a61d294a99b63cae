-- [check] What the checker prints: facts, a line each, that a program can read; and behind a refusal one line in plain words.
use Rattle.std.specs.Prelude.{List, [], ◌++◌, ℕ, zero, suc, get_or, Err, Ok, Result}
use Rattle.model.specs.Basics.{ascii}
use Rattle.model.specs.Answers.{refusal_number}
use Rattle.model.specs.Listings.{decimal}
use Rattle.model.specs.Reports.{refused_line}
use Rattle.check_rules.specs.declared.Rule.{Rule}
use Rattle.check_rules.specs.declared.Rule.TheVariants as r
use Rattle.check_rules.specs.Rules.{rule_number}
use Rattle.model.specs.declared.Counts.{Counts}
use Rattle.check_rules.specs.declared.Rejected.{Rejected}
use Rattle.model.specs.declared.Refusal.{Refusal}
use Rattle.model.specs.declared.Refusal.TheVariants as why
use Rattle.check_rules.specs.declared.Rejected.TheVariants as no

-- ---- the facts

unfoldable pub height_line : (f height : ℕ) → List ℕ
height_line f h = ascii "height " ++ decimal f ++ ascii " " ++ decimal h ++ ascii "\n"

-- the lines of n functions, from f on
unfoldable pub height_lines : (n f : ℕ) → (heights : List ℕ) → List ℕ
height_lines zero f hs = []
height_lines (suc n) f hs = height_line f (get_or hs f 0) ++ height_lines n (suc f) hs

unfoldable pub broken_line : (offset : ℕ) → List ℕ
broken_line i = ascii "refused 20 at " ++ decimal i ++ ascii "\n"

unfoldable pub breach_line : Rule → (f : ℕ) → List ℕ
breach_line q f = ascii "refused 40 rule " ++ decimal (rule_number q) ++ ascii " function " ++ decimal f ++ ascii "\n"

unfoldable pub refused_facts : Refusal → List ℕ
refused_facts (why.BrokenImage i) = broken_line i
refused_facts e = refused_line (refusal_number e)

unfoldable pub facts_text : Result Counts Rejected → (heights : List ℕ) → List ℕ
facts_text (Ok k) hs = ascii "passed\n" ++ height_lines k.functions 0 hs
facts_text (Err (no.Refused e)) hs = refused_facts e
facts_text (Err (no.Breaks q f)) hs = breach_line q f

-- ---- the words

-- `said` is what is said besides (`details`): of the item, or of the function
unfoldable pub broken_words : (offset : ℕ) → (said : List ℕ) → List ℕ
broken_words i said = ascii "the bytes are no rule image: the item at offset " ++ decimal i ++ ascii " breaks a rule" ++ said ++ ascii "\n"

-- 20; 17, 21, and 22, of the checker's own stores
unfoldable pub refused_words : Refusal → (said : List ℕ) → List ℕ
refused_words (why.BrokenImage i) said = broken_words i said
refused_words why.ResultTooShort said = ascii "the image has more than 256 functions\n"
refused_words why.StoreFull said = ascii "the image has more than the programs' stores hold; a host with larger stores may pass it\n"
refused_words e said = ascii "the image is longer than 16,384 bytes, or has more than the limits allow\n"

unfoldable pub rule_words : Rule → List ℕ
rule_words r.Instructions = ascii "not a row of whole carried instructions\n"
rule_words r.Numbers = ascii "a constant, struct or function number is out of range\n"
rule_words r.Calls = ascii "a CallCallable, or a Call of main\n"
rule_words r.Counts = ascii "is called with different numbers of arguments\n"
rule_words r.Jumps = ascii "a jump that does not land on an instruction\n"
rule_words r.Heights = ascii "no one height at each place that is reached, too few values, or the end is passed\n"

unfoldable pub breach_words : Rule → (f : ℕ) → (said : List ℕ) → List ℕ
breach_words q f said = ascii "function " ++ decimal f ++ said ++ ascii ": " ++ rule_words q

unfoldable pub words_text : Result Counts Rejected → (said : List ℕ) → List ℕ
words_text (Ok k) said = []
words_text (Err (no.Refused e)) said = refused_words e said
words_text (Err (no.Breaks q f)) said = breach_words q f said

-- ---- both

unfoldable pub checked_text : Result Counts Rejected → (said heights : List ℕ) → List ℕ
checked_text a said hs = facts_text a hs ++ words_text a said
