-- What the end of a text does to `Progress`: the text is read, or it ends too early, or it has too many nodes. Assumes nothing.
use Prim.Native.Nat.{ℕ, ◌<◌, ◌≤◌}
use mathlib.Core.Path.{◌≡◌, sym, ap, subst, ◌∙◌}
use mathlib.Core.Option.{none, some}
use mathlib.Core.List.{List, [], map, append-nil}
use lib.ListN.{length, drop}
use Rattle.rules.specs.Syntax.{Cmd}
use Rattle.rules.specs.Image.{most_fields, most_nodes}
use Rattle.rules.specs.Published.{image}
use Rattle.grammar.specs.Places.{Spelled, line_from, last_line}
use Rattle.grammar.specs.FieldList.{Entry, code_of}
use Rattle.grammar.specs.Grammar.{Writes, a_command}
use Rattle.grammar.specs.Nodes.{size_cmd, table_cmd}
use Rattle.grammar.specs.Reads.{ReadsText, RefusedText, early-end, too-many-nodes}
use Rattle.reading.specs.Items.{Item, items_cmd}
use Rattle.reading.specs.Links.{nodes_in, link}
use Rattle.reading.specs.Table.{Due, finish, finished, reading}
use Rattle.reading.specs.Progress.{Progress}
use Rattle.reading.proofs.Sound.{reads_only}
use Rattle.reading.proofs.SameTexts.{rules-write}
use Rattle.reading.proofs.ItemSizes.{items-long}
use Rattle.reading.proofs.ReadLinks.{read-links}
use Rattle.reading.proofs.Steps.{right-so-far, cannot-end}

-- a tree with these nodes, and the text's answer by how many they are
pub record EndsWith (fields : List Entry) (text : List ℕ) (names : List (List ℕ)) (js : List Item) : Type 0 where
  pub tree : Cmd
  pub items : js ≡ items_cmd tree
  pub read : length js ≤ most_nodes → ReadsText fields text (image (map code_of fields) (table_cmd 0 tree) (length names))
  pub linked : length fields ≤ most_fields → length js ≤ most_nodes → nodes_in (link js) ≡ table_cmd 0 tree
  pub many : most_nodes < length js → RefusedText fields text 27 0

module _ {fields : List Entry} {text : List ℕ} {at line : ℕ} {names : List (List ℕ)} {ds : List Due} {is : List Item}
    (g : Progress fields text at line names ds is) (e : Spelled (drop at text) line []) where
  pub spelled-whole : Spelled text 1 g.before
  spelled-whole = subst (Spelled text 1) (append-nil g.before) (g.spelled [] e)

  pub end_refused : finish ds is ≡ none → RefusedText fields text 23 (last_line text)
  end_refused h = early-end spelled-whole (right-so-far g) (cannot-end g h)

  -- on the line that has been counted to the end, where it was counted right so far
  pub end-refused-on : {l : ℕ} → line_from line (drop at text) ≡ last_line text → l ≡ line_from line (drop at text) → finish ds is ≡ none → RefusedText fields text 23 l
  end-refused-on lines here h = subst (RefusedText fields text 23) (sym (here ∙ lines)) (end_refused h)

  pub ends : {js : List Item} → finish ds is ≡ some js → EndsWith fields text names js
  unfolding reading
  ends {js} h =
      let w = reads_only g.tokens js g.known (ap finished g.fed ∙ h) in
      let c = w.0 in
      let long : length js ≡ size_cmd c = ap length w.2 ∙ items-long c in
      let writes : Writes (a_command c) g.tokens = rules-write w.1 in
      let read : length js ≤ most_nodes → ReadsText fields text (image (map code_of fields) (table_cmd 0 c) (length names)) =
      λ few. record {
        places = g.before;
        spelled = spelled-whole;
        tokens = g.tokens;
        valued = g.valued;
        tree = c;
        writes = writes;
        few-nodes = subst (λ n. n ≤ most_nodes) long few;
        is = ap (λ ns. image (map code_of fields) (table_cmd 0 c) (length ns)) (sym g.named);
      } in
      record {
        tree = c;
        items = w.2;
        read = read;
        linked = λ short few. ap (λ ks. nodes_in (link ks)) w.2 ∙ read-links fields text _ (read few) short;
        many = λ more. too-many-nodes spelled-whole g.valued (record { command = c; writes = writes }) (subst (λ n. most_nodes < n) long more);
      }

  -- the same by the links of the nodes that came out
  pub ends-linked : {js : List Item} → finish ds is ≡ some js → length fields ≤ most_fields → length js ≤ most_nodes
      → ReadsText fields text (image (map code_of fields) (nodes_in (link js)) (length names))
  ends-linked h short few =
      let w = ends h in
      subst (λ ns. ReadsText fields text (image (map code_of fields) ns (length names))) (sym (w.linked short few)) (w.read few)

  pub ends-many : {js : List Item} → finish ds is ≡ some js → most_nodes < length js → RefusedText fields text 27 0
  ends-many h more = (ends h).many more
