-- An image that a text stands for: its tree is the text's tree (`read-tree`), it keeps the published layout (`read-published`), and the base's check accepts
-- it or refuses it with 9, never else (`read-checks`). It has at most 16,426 bytes (`few_bytes`). Assumes nothing.
use Prim.Native.Nat.{ℕ, ◌≤◌}
use mathlib.Core.Path.{◌≡◌, sym, ◌∙◌}
use mathlib.Core.List.{List, map}
use native.Mathlib.Omega.{arith}
use lib.ListN.{length, length-map}
use Rattle.rules.specs.Syntax.{bare_cmd}
use Rattle.rules.specs.Image.{most_fields, node_at, cmd_at}
use Rattle.rules.specs.Scope.{Names}
use Rattle.rules.specs.Script.{root_of}
use Rattle.rules.specs.State.{size}
use Rattle.rules.specs.Published.{Published}
use Rattle.rules.proofs.Table.{reads}
use Rattle.grammar.specs.FieldList.{Entry, word_of, code_of}
use Rattle.grammar.specs.Nodes.{table_cmd}
use Rattle.grammar.specs.Names.{names_in}
use Rattle.grammar.specs.Reads.{ReadsText, most_bytes, Reads}
use Rattle.grammar.specs.Proper.{ProperCmd, Field, Name}
use Rattle.grammar.proofs.Sizes.{length-cmd}
use Rattle.grammar.proofs.AllVisible.{all_names}
use Rattle.grammar.proofs.TableRight.{Judged, tree_is, laid-published, check-only-nine}
use Rattle.grammar.proofs.WritesProper.{writes-proper, writes-bare}
use Rattle.grammar.proofs.TokensProper.{tokens-proper}

pub read-proper : (fields : List Entry) (text img : List ℕ) (r : ReadsText fields text img)
    → ProperCmd (Field (length (map code_of fields))) (Name (length (names_in r.places))) r.tree
read-proper fields text img r =
    let e : length (map code_of fields) ≡ length (map word_of fields) = length-map fields code_of ∙ sym (length-map fields word_of) in
    rw e
    (writes-proper (Field (length (map word_of fields))) (Name (length (names_in r.places))) r.tree r.tokens r.writes
    (tokens-proper (map word_of fields) (names_in r.places) r.places r.tokens r.valued.tokens))

module _ {out work : ℕ} {list text img : List ℕ} (r : Reads out work list text img) where
  abbrev codes : List ℕ
  codes = map code_of r.fields

  abbrev names : ℕ
  names = length (names_in r.read.places)

  few-codes : length codes ≤ most_fields
  few-codes = rw (length-map r.fields code_of) r.listed.few

  -- "the image's tree being the only reading"
  pub read-tree : bare_cmd (cmd_at (node_at img) (root_of img)) ≡ r.read.tree
  read-tree =
      tree_is codes names r.read.tree img r.read.is few-codes r.listed.increasing r.read.few-nodes r.read.valued.few-names
      (read-proper r.fields text img r.read)
      ∙ writes-bare r.read.tree r.read.tokens r.read.writes

  pub read-published : Published (all_names names) img
  read-published =
      laid-published codes names r.read.tree img r.read.is few-codes r.listed.increasing r.read.few-nodes r.read.valued.few-names
      (read-proper r.fields text img r.read)

  pub read-checks : (visible : Names) (words : ℕ) → size ≤ words → Judged visible words img
  read-checks =
      check-only-nine codes names r.read.tree img r.read.is few-codes r.listed.increasing r.read.few-nodes r.read.valued.few-names
      (read-proper r.fields text img r.read)

  -- no image is longer than the output that is asked for
  pub few_bytes : length img ≤ most_bytes
  few_bytes =
      let i = reads codes (table_cmd 0 r.read.tree) names img r.read.is in
      omega (arith, i.long, length-cmd 0 r.read.tree, few-codes, r.read.few-nodes)
