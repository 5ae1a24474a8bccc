-- What `write` answers: an image's tree as text, `spell` of `write_cmd`, with names made up by their numbers, A0, A1, .., and with the fields' words in a list
-- of order 1's form, or made up, a0, a1, .., where the list is empty. An image is written if it breaks none of the rules 1 to 8: with every name
-- visible rule 9 can't be broken. A refusal has a number of its own, writes nothing, and comes in the order of the numbers. Assumes nothing.
use Rattle.std.specs.Prelude.{ℕ, ◌<◌, ◌≤◌, ◌≡◌, Bool, List, [], ◌++◌, map, length, get_or, drop, Option, Some, None, Result, Ok, Err}
use Rattle.laws.specs.Bools.{TrueIff}
use Rattle.laws.specs.UpTo.{up_to}
use Rattle.rules.specs.Image.{most_names, fields_of, code_at, node_at, cmd_at}
use Rattle.rules.specs.Scope.{Names}
use Rattle.rules.specs.State.{size}
use Rattle.rules.specs.Script.{root_of}
use Rattle.rules.specs.Refusals.{check}
use Rattle.rules.specs.declared.Verdict.{Verdict}
use Rattle.rules.specs.declared.Verdict.TheVariants.{Accepted, Refused as RefusedBy}
use Rattle.grammar.specs.FieldList.{Entry, word_of, code_of, Listed}
use Rattle.writing.specs.WriteTokens.{write_cmd}
use Rattle.writing.specs.Spell.{spell, made_up_field}
use Rattle.writer.specs.Walk.{names_for}
use Rattle.std.proofs.lemmas.List.Edits.{sets}
use Rattle.pen.specs.Draws.{Keeps}
use Rattle.pen.specs.declared.Pen.{Pen}
use Rattle.pen.specs.declared.Place.{Place}
use Rattle.pen.specs.declared.Place.TheVariants.{At, Over}
use Rattle.writer.specs.declared.WriteError.{WriteError}
use Rattle.writer.specs.declared.WriteError.TheVariants.{BadImage, BadList, OtherCodes, TooShort}

-- ---- why an image is not written, by its number

abbrev pub number_of : WriteError → ℕ
number_of BadImage = 30
number_of BadList = 31
number_of OtherCodes = 32
number_of TooShort = 33

-- ---- the image

unfoldable pub every_name : Names
every_name = up_to (λ x. x) most_names

abbrev pub verdict : List ℕ → Verdict
verdict img = check every_name size img

abbrev pub codes_of : List ℕ → List ℕ
codes_of img = up_to (code_at img) (fields_of img)

-- ---- the fields' words

pub data Words (img list : List ℕ) : List (List ℕ) → Type 0 where
  made-up : list ≡ [] → Words img list (up_to made_up_field (fields_of img))
  listed : {fs : List Entry} → Listed list fs → map code_of fs ≡ codes_of img → Words img list (map word_of fs)

-- ---- the text

unfoldable pub text_of : List ℕ → List (List ℕ) → List ℕ
text_of img words = spell (names_for img) words (write_cmd (cmd_at (node_at img) (root_of img)))

-- what was lent, the answer, and what it holds then
pub data Answers (img list lent : List ℕ) : Result ℕ WriteError → List ℕ → Type 0 where
  written : {words : List (List ℕ)} {n : ℕ} {out : List ℕ} → verdict img ≡ Accepted → Words img list words → n ≡ length (text_of img words) → n ≤ length lent
      → out ≡ text_of img words ++ drop n lent → Answers img list lent (Ok n) out
  bad-image : {k p : ℕ} → verdict img ≡ RefusedBy k p → Answers img list lent (Err BadImage) lent
  bad-list : verdict img ≡ Accepted → ((fs : List Entry) → Listed list fs → ⊥) → Answers img list lent (Err BadList) lent
  other-codes : {fs : List Entry} → verdict img ≡ Accepted → (list ≡ [] → ⊥) → Listed list fs → (map code_of fs ≡ codes_of img → ⊥) → Answers img list lent (Err OtherCodes) lent
  too-short : {words : List (List ℕ)} → verdict img ≡ Accepted → Words img list words → length lent < length (text_of img words) → Answers img list lent (Err TooShort) lent

-- ---- what the functions below it say

-- with these words
abbrev pub Said : List ℕ → List (List ℕ) → List ℕ → Result ℕ WriteError → List ℕ → Type 0
Said img words lent (Ok n) out = (n ≡ length (text_of img words)) × (n ≤ length lent) × (out ≡ text_of img words ++ drop n lent)
Said img words lent (Err k) out = (k ≡ TooShort) × (length lent < length (text_of img words)) × (out ≡ lent)

pub record Spells (img : List ℕ) (words : List (List ℕ)) (lent : List ℕ) (r : Result ℕ WriteError) (out : List ℕ) : Type 0 where
  pub says : Said img words lent r out

-- a text from nothing on
abbrev pub DrawsText : ℕ → List ℕ → List ℕ → List ℕ → Place → Type 0
DrawsText most text d e (At k l) = (e ≡ sets d 0 text) × (k ≡ length text) × (length text ≤ most)
DrawsText most text d e Over = most < length text

pub record WritesText (text : List ℕ) (p r : Pen) : Type 0 where
  pub says : DrawsText p.most text p.out.now r.out.now r.place
  pub keeps : Keeps p r

-- the length of a text, if it is at most `most`
abbrev pub Counts : ℕ → List ℕ → Option ℕ → Type 0
Counts most text (Some n) = (n ≡ length text) × (n ≤ most)
Counts most text None = most < length text

pub record Counted (most : ℕ) (text : List ℕ) (r : Option ℕ) : Type 0 where
  pub says : Counts most text r

-- the codes of a list are the image's, or not
pub record SameCodes (img codes : List ℕ) (count : ℕ) (r : Bool) : Type 0 where
  pub says : TrueIff r (up_to (λ i. get_or codes i 0) count ≡ codes_of img)

-- what is answered to an accepted image
abbrev pub ListSays : List ℕ → List ℕ → List ℕ → Result ℕ WriteError → List ℕ → Type 0
ListSays img list lent r out = verdict img ≡ Accepted → Answers img list lent r out

pub record FieldsSay (img list lent : List ℕ) (r : Result ℕ WriteError) (out : List ℕ) : Type 0 where
  pub says : ListSays img list lent r out
