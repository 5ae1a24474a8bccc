-- What a text that is being read has come to, and what each of its steps does. Assumes nothing.
use Rattle.std.specs.Prelude.{ℕ, ◌+◌, ◌*◌, ◌≡◌, List, length, drop, Option, Result, Ok, Err}
use Rattle.grammar.specs.Tokens.{Tok}
use Rattle.grammar.specs.Places.{Spot}
use Rattle.grammar.specs.Reads.{Wrong, words_for}
use Rattle.fieldlist.specs.declared.FieldRows.{FieldRows}
use Rattle.fieldlist.specs.Answer.{entries_of}
use Rattle.dues.specs.declared.Dues.{Dues}
use Rattle.dues.specs.declared.Made.{Made}
use Rattle.letters.specs.Upto.{piece_at}
use Rattle.building.specs.declared.finish.EndError.{EndError}
use Rattle.building.specs.declared.finish.EndError.TheVariants.{Early, TooManyNodes}
use Rattle.reader.specs.declared.ReadError.{ReadError}
use Rattle.reader.specs.declared.text.Reading.{Reading}
use Rattle.reader.specs.Under.{Under, TakeSays, Facing, Faces}

-- ---- where it is: `Under`, `Facing` and `Faces`, of what stands in its fields

abbrev pub UnderReading : Reading → ℕ → ℕ → List ℕ → List ℕ → Type 0
UnderReading s at line ws₀ ws = Under s.list.now s.text.now s.rows.now at line s.names s.depth s.nodes.start s.nodes.count s.spans ws₀ ws s.nodes.image s.nodes.firsts

-- before its place
abbrev pub FacingPlace : Reading → ℕ → ℕ → List ℕ → List ℕ → Type 0
FacingPlace s at line ws₀ ws = Facing s.list.now s.text.now s.rows.now s.place at line s.names s.depth s.nodes.start s.nodes.count s.spans ws₀ ws s.nodes.image s.nodes.firsts

abbrev pub FacesPlace : Reading → List ℕ → Type 0
FacesPlace s ws = Faces s.list.now s.text.now s.rows.now s.place s.names s.depth s.nodes.start s.nodes.count s.spans ws s.nodes.image s.nodes.firsts

-- ---- what no step changes

-- which text it is of, with which list, and where its nodes begin
pub record SameText (s t : Reading) : Type 0 where
  pub text : t.text ≡ s.text
  pub list : t.list ≡ s.list
  pub rows : t.rows ≡ s.rows
  pub start : t.nodes.start ≡ s.nodes.start

-- ---- the steps

-- it begins before the first place of this text, with words whose first stands for what is due
pub record Begins (text list : List ℕ) (rows : FieldRows) (ws ws' : List ℕ) (s : Reading) : Type 0 where
  pub its-text : s.text.now ≡ text
  pub its-list : s.list.now ≡ list
  pub its-rows : s.rows.now ≡ rows
  pub start : s.nodes.start ≡ 10 + 2 * rows.count
  pub under : UnderReading s s.place.to s.place.line ws' ws'
  pub past : drop (words_for (length text)) ws' ≡ drop (words_for (length text)) ws

-- a token is taken
pub record Takes (kind q : ℕ) (d : Dues) (x : Option Made) (s t : Reading) (ws ws' : List ℕ) : Type 0 where
  pub frame : t ≡ record s { depth = t.depth; nodes = t.nodes }
  pub start : t.nodes.start ≡ s.nodes.start
  pub says : TakeSays kind q s.depth s.nodes.start s.nodes.count d x t.depth t.nodes.count ws s.nodes.image s.nodes.firsts ws' t.nodes.image t.nodes.firsts

-- nothing is wrong, and it is behind its place; or the number and the line of what is wrong there, behind these places and tokens, and nothing has changed
abbrev pub Told : Result Unit ReadError → Reading → Reading → List Spot → List Tok → List ℕ → List ℕ → List ℕ → Type 0
Told (Ok u) s t before us ws₀ ws ws' =
    Under s.list.now s.text.now s.rows.now s.place.to s.place.line t.names t.depth s.nodes.start t.nodes.count t.spans ws₀ ws' t.nodes.image t.nodes.firsts
Told (Err e) s t before us ws₀ ws ws' =
    Wrong (entries_of s.list.now s.rows.now) before us (piece_at s.text.now s.place) e.number × (e.line ≡ s.place.line) × (t ≡ s) × (ws' ≡ ws)

pub record StepSays (s t : Reading) (ws ws' : List ℕ) (r : Result Unit ReadError) : Type 0 where
  pub same : SameText s t
  pub place : t.place ≡ s.place
  pub says : (at line : ℕ) (ws₀ : List ℕ) (f : FacingPlace s at line ws₀ ws) → Told r s t f.under.progress.before f.under.progress.tokens ws₀ ws ws'

-- what is wrong where a text ends on this line
abbrev pub at_end : EndError → ℕ → ReadError
at_end Early line = record { number = 23; line = line }
at_end TooManyNodes line = record { number = 27; line = 0 }
