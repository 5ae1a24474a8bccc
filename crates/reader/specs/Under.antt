-- How far the reader is: what the loop over the places keeps, of the text, the lent words and the local buffers. Assumes nothing.
use Rattle.std.specs.Prelude.{ℕ, ◌+◌, ◌*◌, ◌≤◌, ◌≡◌, List, Option, ◌++◌, length, drop}
use Rattle.rules.specs.Image.{most_names}
use Rattle.grammar.specs.Places.{Spot, line_from, last_line}
use Rattle.grammar.specs.Reads.{words_for}
use Rattle.reading.specs.Items.{Item}
use Rattle.reading.specs.Progress.{Progress}
use Rattle.reading.specs.Table.{Due}
use Rattle.letters.specs.declared.places.Place.{Place}
use Rattle.letters.specs.Says.{NextSays, Found}
use Rattle.fieldlist.specs.declared.FieldRows.{FieldRows}
use Rattle.fieldlist.specs.declared.names.Span.{Span}
use Rattle.fieldlist.specs.Names.{Spans, words}
use Rattle.fieldlist.specs.Answer.{entries_of}
use Rattle.dues.specs.declared.Dues.{Dues}
use Rattle.dues.specs.declared.Made.{Made}
use Rattle.dues.specs.Words.{due_words, made_items}
use Rattle.dues.specs.Stack.{Stacked, PassesAll, passed_items, Piled}
use Rattle.letters.specs.Upto.{Upto}
use Rattle.building.specs.Built.{Built, Adds}

-- the lent words: as many as before, and past those that the text's length asks for as they were
pub record Lasting (text ws₀ ws : List ℕ) : Type 0 where
  pub enough : words_for (length text) ≤ length ws₀
  pub same_length : length ws ≡ length ws₀
  pub past : drop (words_for (length text)) ws ≡ drop (words_for (length text)) ws₀

pub record Under (list text : List ℕ) (rows : FieldRows) (at line n depth start m : ℕ) (spans : List Span) (ws₀ ws img firsts : List ℕ) : Type 0 where
  pub inside : at ≤ length text
  pub lines : line ≤ at + 1
  pub last : line_from line (drop at text) ≡ last_line text
  pub few : n ≤ most_names
  pub names : Spans text spans n
  pub spans-long : length spans ≡ most_names
  pub shallow : depth ≤ 3 * at + 1
  pub lasting : Lasting text ws₀ ws
  pub places : List Spot
  pub upto : Upto text at line places
  pub dues : List Due
  pub items : List Item
  pub progress : Progress (entries_of list rows) text at line (words text spans n) dues items
  pub stacked : Stacked dues depth ws
  pub built : Built items start m img firsts

-- ---- a token that is taken, written down

pub record TakeSays (kind q depth start m : ℕ) (d : Dues) (x : Option Made) (depth' m' : ℕ) (ws img firsts ws' img' firsts' : List ℕ) : Type 0 where
  pub piled : Piled (due_words d) q depth' ws ws'
  pub adds : (above left : List Due)
      → Stacked (above ++ left) depth ws
      → length left ≡ q + 1
      → PassesAll above kind
      → Adds (passed_items above ++ made_items x) start m m' img firsts img' firsts'

-- ---- a place

-- the reader stands before it
pub record Facing (list text : List ℕ) (rows : FieldRows) (p : Place) (at line n depth start m : ℕ) (spans : List Span) (ws₀ ws img firsts : List ℕ) : Type 0 where
  pub under : Under list text rows at line n depth start m spans ws₀ ws img firsts
  pub next : NextSays text at line p
  pub found : Found text at line p
  pub lines : line_from p.line (drop p.to text) ≡ line_from line (drop at text)

-- somewhere
pub record Faces (list text : List ℕ) (rows : FieldRows) (p : Place) (n depth start m : ℕ) (spans : List Span) (ws img firsts : List ℕ) : Type 0 where
  pub at : ℕ
  pub line : ℕ
  pub ws₀ : List ℕ
  pub facing : Facing list text rows p at line n depth start m spans ws₀ ws img firsts
