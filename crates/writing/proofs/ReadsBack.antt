-- Reading back: what is written of a tree is read as the tree, its names numbered by first appearance. Every tree with nothing missing, within the
-- limits, has such a text, whatever different words its names and fields have. Assumes nothing.
use Prim.Native.Nat.{ℕ, ◌≤◌}
use mathlib.Core.Path.{◌≡◌, sym, ap, subst, ◌∙◌}
use mathlib.Core.List.{List, [], map}
use native.Mathlib.Omega.{arith}
use lib.ListN.{length, get_or, length-map}
use Rattle.laws.specs.UpTo.{length-up_to}
use Rattle.rules.specs.Syntax.{Cmd}
use Rattle.rules.specs.Image.{most_fields, most_nodes, most_names}
use Rattle.rules.specs.Published.{Increasing, image}
use Rattle.grammar.specs.FieldList.{Entry, word_of, code_of, FieldName, Rows, no_row, a-row, Different, Listed}
use Rattle.grammar.specs.Grammar.{Writes, a_command}
use Rattle.grammar.specs.Nodes.{size_cmd, table_cmd}
use Rattle.grammar.specs.Names.{names_in}
use Rattle.grammar.specs.Reads.{ReadsText, Lent, Reads}
use Rattle.grammar.specs.Proper.{ProperCmd, Field, Name}
use Rattle.writing.specs.WriteTokens.{write_cmd}
use Rattle.writing.specs.Spell.{places_for, VariableName, Each, Spellable, made_up, made_up_field, list_of}
use Rattle.writing.specs.Back.{text_of, image_of, made_up_fields, made_up_names}
use Rattle.writing.specs.Renumber.{appearing, place_in, rename_tok, rename_cmd, names_written, by_appearance}
use Rattle.writing.proofs.WritesBack.{writes-back}
use Rattle.writing.proofs.SpellsBack.{spells-back}
use Rattle.writing.proofs.Renamed.{write-renamed, bare-renamed, size-renamed, proper-renamed}
use Rattle.writing.proofs.TreeSpells.{tree-spells}
use Rattle.writing.proofs.Appear.{names-appear, tokens-appear}
use Rattle.writing.proofs.MadeUp.{variables-made-up, fields-made-up}
use Rattle.writing.proofs.ListsBack.{lists_back, words_of, codes-of, length-of}

-- ---- the renumbered tree is written with the renumbered tokens

writes-by-appearance : (P Q : ℕ → Type 0) (c : Cmd) → ProperCmd P Q c → Writes (a_command (by_appearance c)) (map (rename_tok (place_in (names_written c))) (write_cmd c))
unfolding by_appearance
writes-by-appearance P Q c p =
    let g = place_in (names_written c) in
    let w = writes-back P (λ x. Unit {0}) (rename_cmd g c) (proper-renamed P Q (λ x. Unit {0}) g (λ x q. tt) c p) in
    rw (bare-renamed g c, write-renamed g c) at w

size-by-appearance : (c : Cmd) → size_cmd (by_appearance c) ≡ size_cmd c
unfolding by_appearance
size-by-appearance c = size-renamed (place_in (names_written c)) c

-- ---- it is read

module _ (fields : List Entry) (names : List (List ℕ)) where
  pub reads-back : Each FieldName (map word_of fields) → Different (map word_of fields) → Each VariableName names → Different names
      → (c : Cmd) → ProperCmd (Field (length fields)) (Name (length names)) c → size_cmd c ≤ most_nodes → length (names_written c) ≤ most_names
      → ReadsText fields (text_of fields names c) (image_of fields c)
  unfolding names_written
  reads-back field-names different-fields variables different c p nodes few =
      let words = map word_of fields in
      let ts = write_cmd c in
      let s : Spellable (length names) (length words) ts =
      subst (λ n. Spellable (length names) n ts) (sym (length-map fields word_of)) (tree-spells (length names) (length fields) c p) in
      let ns = names-appear names words different different-fields 1 ts s in
      let count : length (names_in (places_for names words 1 ts)) ≡ length (names_written c) = ap length ns ∙ length-map (appearing ts) (λ x. get_or names x []) in
      record {
        places = places_for names words 1 ts;
        spelled = spells-back names words variables field-names ts s;
        tokens = map (rename_tok (place_in (names_written c))) ts;
        valued =
            record {
              few-names = omega (arith, count, few);
              tokens = tokens-appear names words different different-fields 1 ts s;
            };
        tree = by_appearance c;
        writes = writes-by-appearance (Field (length fields)) (Name (length names)) c p;
        few-nodes = omega (arith, size-by-appearance c, nodes);
        is = ap (λ n. image (map code_of fields) (table_cmd 0 (by_appearance c)) n) (sym count);
      }

-- ---- with a list of fields, and enough lent

pub rows-names : {list : List ℕ} {fs : List Entry} → Rows list fs → Each FieldName (map word_of fs)
unfolding word_of
rows-names no_row = tt
rows-names (a-row d ds n h r) = (n, rows-names r)

pub reads-image : {list : List ℕ} {fields : List Entry} (names : List (List ℕ)) (out work : ℕ) → Listed list fields → Each VariableName names → Different names
    → (c : Cmd) → ProperCmd (Field (length fields)) (Name (length names)) c → size_cmd c ≤ most_nodes → length (names_written c) ≤ most_names
    → Lent out work (text_of fields names c) → Reads out work list (text_of fields names c) (image_of fields c)
reads-image {list} {fields} names out work listed variables different c p nodes few lent =
    record {
      lent = lent;
      fields = fields;
      listed = listed;
      read = reads-back fields names (rows-names listed.rows) listed.different variables different c p nodes few;
    }

-- ---- every tree has a text, with words that are made up

module _ (codes : List ℕ) (N : ℕ) where
  abbrev fields : List Entry
  fields = made_up_fields codes

  pub some-text : length codes ≤ most_fields → Increasing 0 codes → (out work : ℕ)
      → (c : Cmd) → ProperCmd (Field (length codes)) (Name N) c → size_cmd c ≤ most_nodes → length (names_written c) ≤ most_names
      → Lent out work (text_of fields (made_up_names N) c)
      → Reads out work (list_of fields) (text_of fields (made_up_names N) c) (image codes (table_cmd 0 (by_appearance c)) (length (names_written c)))
  some-text few increasing out work c p nodes names lent =
      let v = variables-made-up N in
      let f = fields-made-up (length codes) in
      let ws = words_of made_up_field codes in
      let ks = codes-of made_up_field codes in
      let n = length-of made_up_field codes in
      let listed : Listed (list_of fields) fields =
      lists_back fields (rw n few) (rw ws f.0) (rw ws f.1) (rw ks increasing) in
      let q : ProperCmd (Field (length fields)) (Name (length (made_up_names N))) c = rw (n, length-up_to made_up N) p in
      let r = reads-image (made_up_names N) out work listed v.0 v.1 c q nodes names lent in
      subst (λ ms. Reads out work (list_of fields) (text_of fields (made_up_names N) c) (image ms (table_cmd 0 (by_appearance c)) (length (names_written c)))) ks r
