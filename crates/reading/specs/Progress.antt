-- How far a text has been read: the places up to byte `at`, on line `line`, have tokens that the table took, `names` are the names so far, `ds` is due
-- and `is` are the nodes so far. The reader's loop keeps it; proofs/Steps says what each next place does to it. Assumes nothing.
use Rattle.std.specs.Prelude.{ℕ, ◌≡◌, List, [], ◌++◌, drop}
use Rattle.grammar.specs.Tokens.{Tok}
use Rattle.grammar.specs.Places.{Spot, Spelled}
use Rattle.grammar.specs.FieldList.{Entry}
use Rattle.grammar.specs.Names.{names_in}
use Rattle.grammar.specs.Reads.{Valued}
use Rattle.reading.specs.Items.{Item}
use Rattle.reading.specs.Marks.{Known}
use Rattle.reading.specs.Table.{Due, went, feeds, start}

pub record Progress (fields : List Entry) (text : List ℕ) (at line : ℕ) (names : List (List ℕ)) (ds : List Due) (is : List Item) : Type 0 where
  pub before : List Spot
  pub tokens : List Tok
  pub spelled : (ps : List Spot) → Spelled (drop at text) line ps → Spelled text 1 (before ++ ps)
  pub named : names_in before ≡ names
  pub valued : Valued fields before tokens
  pub known : Known tokens
  pub fed : feeds tokens start [] ≡ went ds is
