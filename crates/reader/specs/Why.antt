-- Where the reading of a text ended, told to a person: what stood there and what could have stood there. The places before it are right; the one that follows
-- them is wrong, or it is the end of the text. "Could" is of the grammar and of kinds alone, whatever the name, the field or the number (`GoesOn`), not of the list
-- or the limits. Order 1 asks for number and line; the rest is for the eye. Every word of it is determined (proofs/WhyOne). Assumes nothing.
use Rattle.std.specs.Prelude.{ℕ, zero, suc, ◌<◌, ◌≤◌, ◌≡◌, Bool, true, false, Result, Ok, Err, List, ◌∷◌, ◌++◌, length, get_or}
use Rattle.grammar.specs.Tokens.{Tok}
use Rattle.grammar.specs.Places.{Spot, spot, Spelled, last_line}
use Rattle.grammar.specs.FieldList.{Entry}
use Rattle.grammar.specs.Grammar.{Text}
use Rattle.grammar.specs.Reads.{ReadsText, RefusedText, Right, GoesOn, Wrong}
use Rattle.letters.specs.declared.places.Place.{Place}
use Rattle.letters.specs.Says.{NextSays}
use Rattle.fieldlist.specs.declared.FieldRows.{FieldRows}
use Rattle.fieldlist.specs.Answer.{entries_of}
use Rattle.letters.specs.Upto.{piece_at, Upto}
use Rattle.reader.specs.Says.{cleared}
use Rattle.reader.specs.declared.ReadError.{ReadError}
use Rattle.reader.specs.declared.why.Why.{Why}

-- ---- what is told of how a reading ended, and of the place where it did

abbrev pub why_of : Result Unit ReadError → Place → List Bool → Why
why_of (Ok u) p could = record { why = 0; line = p.line; kind = p.kind; from = p.from; to = p.to; could = could }
why_of (Err e) p could = record { why = e.number; line = e.line; kind = p.kind; from = p.from; to = p.to; could = could }

-- ---- the answer, by its number

-- the text is read whole; the line is that of its end
pub record IsRead (fields : List Entry) (text : List ℕ) (line : ℕ) : Type 0 where
  pub img : List ℕ
  pub read : ReadsText fields text img
  pub last : line ≡ last_line text

abbrev pub Answers : ℕ → List Entry → List ℕ → ℕ → Type 0
Answers zero fields text line = IsRead fields text line
Answers (suc j) fields text line = RefusedText fields text (suc j) line

-- ---- what stands there, by its kind

-- a place on line `line`, which is wrong by the number `why`
pub record WrongThere (fields : List Entry) (text : List ℕ) (before : List Spot) (us : List Tok) (p : Place) (why line : ℕ) : Type 0 where
  pub after : List Spot
  pub spelled : Spelled text 1 (before ++ (spot line (piece_at text p) ∷ after))
  pub wrong : Wrong fields before us (piece_at text p) why
  pub not-empty : p.from < p.to
  pub within : p.to ≤ length text

-- nothing stands at the end
abbrev pub There : ℕ → List Entry → List ℕ → List Spot → List Tok → Place → ℕ → ℕ → Type 0
There zero fields text before us p why line = Spelled text 1 before × (p.from ≡ length text) × (p.to ≡ length text)
There (suc j) fields text before us p why line = WrongThere fields text before us p why line

-- ---- what could stand there

abbrev pub Tells : Bool → Type 0 → Type 0
Tells true A = A
Tells false A = A → ⊥

pub record Could (us : List Tok) (could : List Bool) : Type 0 where
  pub long : length could ≡ 29
  pub ends : Tells (get_or could 0 false) (Text us)
  pub goes_on : (k : ℕ) → 0 < k → k < 29 → Tells (get_or could k false) (GoesOn us k)

-- ---- all of it

-- the places before it are right, and it follows them: `at` is the byte behind the last of them, on line `line`
pub record Stops (fields : List Entry) (text : List ℕ) (r : Why) : Type 0 where
  pub before : List Spot
  pub tokens : List Tok
  pub right : Right fields before tokens
  pub at : ℕ
  pub line : ℕ
  pub upto : Upto text at line before
  pub place : Place
  pub next : NextSays text at line place
  pub is : (r.kind ≡ place.kind) × (r.from ≡ place.from) × (r.to ≡ place.to)
  pub there : There place.kind fields text before tokens place r.why r.line
  pub could : Could tokens r.could

pub record WhySays (list text : List ℕ) (rows : FieldRows) (r : Why) (ws ws' : List ℕ) : Type 0 where
  pub answers : Answers r.why (entries_of list rows) text r.line
  pub stops : Stops (entries_of list rows) text r
  pub words : ws' ≡ cleared text ws
