-- A tree as text, and the image that the text is read as (proofs/ReadsBack, proofs/ImageBack): by words for its fields and names that are given, or by words that are made
-- up. Assumes nothing.
use Rattle.std.specs.Prelude.{ℕ, List, map, length}
use Rattle.laws.specs.UpTo.{up_to}
use Rattle.rules.specs.Syntax.{Cmd}
use Rattle.rules.specs.Image.{fields_of, code_at, node_at, cmd_at}
use Rattle.rules.specs.Script.{root_of}
use Rattle.rules.specs.Published.{image}
use Rattle.grammar.specs.FieldList.{Entry, word_of, code_of}
use Rattle.grammar.specs.Nodes.{table_cmd}
use Rattle.writing.specs.WriteTokens.{write_cmd}
use Rattle.writing.specs.Spell.{spell, made_up, made_up_field, entries_for}
use Rattle.writing.specs.Renumber.{names_written, by_appearance}

-- the tree of an image, and its codes
abbrev pub tree_of : List ℕ → Cmd
tree_of img = cmd_at (node_at img) (root_of img)

abbrev pub codes_of : List ℕ → List ℕ
codes_of img = up_to (code_at img) (fields_of img)

abbrev pub text_of : List Entry → List (List ℕ) → Cmd → List ℕ
text_of fields names c = spell names (map word_of fields) (write_cmd c)

-- its names by first appearance, its nodes children first, and as many names as appear
abbrev pub image_of : List Entry → Cmd → List ℕ
image_of fields c = image (map code_of fields) (table_cmd 0 (by_appearance c)) (length (names_written c))

abbrev pub made_up_fields : List ℕ → List Entry
made_up_fields codes = entries_for made_up_field codes

abbrev pub made_up_names : ℕ → List (List ℕ)
made_up_names N = up_to made_up N
