-- What the reader answers: the image's bytes and no other, or the number and the line of a refusal, which leaves every byte of the output; and what the lent words
-- hold afterwards. Assumes nothing.
use Rattle.std.specs.Prelude.{ℕ, ◌<◌, ◌≤◌, ◌≡◌, cond, Result, Ok, Err, List, [], ◌∷◌, ◌++◌, map, length, drop, replicate}
use Rattle.rules.specs.Image.{most_nodes, most_names}
use Rattle.rules.specs.Published.{image}
use Rattle.grammar.specs.Classes.{among}
use Rattle.grammar.specs.Tokens.{Tok}
use Rattle.grammar.specs.Places.{Piece, Spot, last_line}
use Rattle.grammar.specs.FieldList.{Entry, code_of}
use Rattle.grammar.specs.Reads.{ReadsText, Wrong, RefusedText, words_for, Reads, Refuses}
use Rattle.reading.specs.Items.{Item}
use Rattle.reading.specs.Links.{nodes_in, link}
use Rattle.reading.specs.Table.{Due}
use Rattle.reading.specs.Progress.{Progress}
use Rattle.letters.specs.Says.{NextSays}
use Rattle.fieldlist.specs.declared.FieldRows.{FieldRows}
use Rattle.fieldlist.specs.Answer.{entries_of}
use Rattle.tables.specs.Tabled.{Tabled}
use Rattle.dues.specs.Stack.{Stacked}
use Rattle.letters.specs.Upto.{piece_at, Upto}
use Rattle.reader.specs.Under.{Lasting}
use Rattle.reader.specs.declared.ReadError.{ReadError}
use Rattle.reader.specs.declared.text.Reading.{Reading}
use Rattle.reader.specs.Steps.{SameText}

-- ---- a text, with a list that is right

-- its nodes stand in the buffers, and with its codes and names they are the image
pub record Stood (list text : List ℕ) (rows : FieldRows) (start nodes names : ℕ) (img firsts : List ℕ) : Type 0 where
  pub items : List Item
  pub tabled : Tabled items start img firsts
  pub counted : nodes ≡ length items
  pub few : nodes ≤ most_nodes
  pub few-names : names ≤ most_names
  pub read : ReadsText (entries_of list rows) text (image (map code_of (entries_of list rows)) (nodes_in (link items)) names)

abbrev pub Finds : Result Unit ReadError → List ℕ → List ℕ → FieldRows → ℕ → Reading → Type 0
Finds (Ok u) list text rows start t = Stood list text rows start t.nodes.count t.names t.nodes.image t.nodes.firsts
Finds (Err e) list text rows start t = RefusedText (entries_of list rows) text e.number e.line

-- a place is wrong by just the number and the line that are told
abbrev pub WrongAs : Result Unit ReadError → List Entry → List Spot → List Tok → Piece → ℕ → Type 0
WrongAs (Ok u) fields before us p line = ⊥
WrongAs (Err e) fields before us p line = Wrong fields before us p e.number × (e.line ≡ line)

-- what is read whole ends on its last line
abbrev pub LastAs : Result Unit ReadError → List ℕ → ℕ → Type 0
LastAs (Ok u) text line = line ≡ last_line text
LastAs (Err e) text line = Unit {0}

-- where the reading ended: up to there all is right, what is due is on the stack, and what follows is wrong there or the end of the text
pub record Stopped (list text : List ℕ) (rows : FieldRows) (r : Result Unit ReadError) (t : Reading) (ws : List ℕ) : Type 0 where
  pub at : ℕ
  pub line : ℕ
  pub places : List Spot
  pub upto : Upto text at line places
  pub names : List (List ℕ)
  pub dues : List Due
  pub items : List Item
  pub progress : Progress (entries_of list rows) text at line names dues items
  pub stacked : Stacked dues t.depth ws
  pub next : NextSays text at line t.place
  pub wrong : 0 < t.place.kind → WrongAs r (entries_of list rows) progress.before progress.tokens (piece_at text t.place) t.place.line
  pub last : LastAs r text t.place.line

pub record Tells (list text : List ℕ) (rows : FieldRows) (start : ℕ) (ws : List ℕ) (r : Result Unit ReadError) (t : Reading) (ws' : List ℕ) : Type 0 where
  pub finds : Finds r list text rows start t
  pub lasting : Lasting text ws ws'
  pub stopped : Stopped list text rows r t ws'

pub record TextSays (s t : Reading) (ws ws' : List ℕ) (r : Result Unit ReadError) : Type 0 where
  pub same : SameText s t
  pub tells : Tells s.list.now s.text.now s.rows.now s.nodes.start ws r t ws'

-- ---- the answer

-- the words that the text's length asks for are zero, and those past them as they were
abbrev pub cleared : List ℕ → List ℕ → List ℕ
cleared text ws = replicate (words_for (length text)) 0 ++ drop (words_for (length text)) ws

-- what a list that is right and a text give
pub record Handed (list text : List ℕ) (rows : FieldRows) (n : ℕ) (ws out ws' out' : List ℕ) : Type 0 where
  pub img : List ℕ
  pub read : ReadsText (entries_of list rows) text img
  pub long : n ≡ length img
  pub output : out' ≡ img ++ drop n out
  pub words : ws' ≡ cleared text ws

pub record Withheld (list text : List ℕ) (rows : FieldRows) (k l : ℕ) (ws out ws' out' : List ℕ) : Type 0 where
  pub refused : RefusedText (entries_of list rows) text k l
  pub output : out' ≡ out
  pub words : ws' ≡ cleared text ws

abbrev pub Listens : List ℕ → List ℕ → FieldRows → Result ℕ ReadError → List ℕ → List ℕ → List ℕ → List ℕ → Type 0
Listens list text rows (Ok n) ws out ws' out' = Handed list text rows n ws out ws' out'
Listens list text rows (Err e) ws out ws' out' = Withheld list text rows e.number e.line ws out ws' out'

-- 20, 28 and 21 touch no word
unfoldable pub early : List ℕ
early = 20 ∷ 28 ∷ 21 ∷ []

unfoldable pub words_after : ℕ → List ℕ → List ℕ → List ℕ
words_after k text ws = cond (among k early) ws (cleared text ws)

-- "An accepted text writes the image's bytes and no other"
pub record Accepts (list text : List ℕ) (n : ℕ) (ws out ws' out' : List ℕ) : Type 0 where
  pub img : List ℕ
  pub reads : Reads (length out) (length ws) list text img
  pub long : n ≡ length img
  pub output : out' ≡ img ++ drop n out
  pub words : ws' ≡ cleared text ws

-- "A refusal writes nothing"
pub record Denies (list text : List ℕ) (k l : ℕ) (ws out ws' out' : List ℕ) : Type 0 where
  pub refuses : Refuses (length out) (length ws) list text k l
  pub output : out' ≡ out
  pub words : ws' ≡ words_after k text ws

abbrev pub ReadSays : List ℕ → List ℕ → Result ℕ ReadError → List ℕ → List ℕ → List ℕ → List ℕ → Type 0
ReadSays list text (Ok n) ws out ws' out' = Accepts list text n ws out ws' out'
ReadSays list text (Err e) ws out ws' out' = Denies list text e.number e.line ws out ws' out'
