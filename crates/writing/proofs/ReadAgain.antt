-- What was read is written, and read again as the same image: its tree has its names by first appearance already. So for every tree of this kind
-- there is a text that is read as just this tree. Assumes nothing.
use Prim.Native.Nat.{ℕ, ◌≤◌}
use mathlib.Core.Path.{◌≡◌, refl, sym, ap, ap₂, ◌∙◌}
use mathlib.Core.List.{List, map}
use native.Mathlib.Omega.{arith}
use lib.ListN.{length, length-map}
use Rattle.rules.specs.Syntax.{Exp, Test, Cmd, no_exp, field, int, diff, null, ref, select, proc, no_test, is_true, is_false, equal, less, no_cmd, var, call, malloc, assign, assign_field, skip, seq, while, if, par, atom, bare_exp, bare_test, bare_cmd}
use Rattle.rules.specs.Image.{most_names}
use Rattle.rules.specs.Published.{image}
use Rattle.grammar.specs.FieldList.{Entry, word_of, code_of, FieldName, Different}
use Rattle.grammar.specs.Grammar.{Writes, a_command}
use Rattle.grammar.specs.Nodes.{table_cmd}
use Rattle.grammar.specs.Names.{names_in}
use Rattle.grammar.specs.Reads.{ReadsText, Lent, Reads}
use Rattle.grammar.specs.Proper.{ProperExp, ProperTest, ProperCmd, Field, Name}
use Rattle.grammar.proofs.WritesProper.{writes-bare}
use Rattle.grammar.proofs.ReadChecks.{read-proper}
use Rattle.writing.specs.WriteTokens.{write_cmd}
use Rattle.writing.specs.Spell.{VariableName, Each}
use Rattle.writing.specs.Renumber.{place_in, rename_exp, rename_test, rename_cmd, names_written, by_appearance}
use Rattle.writing.specs.Back.{text_of, image_of}
use Rattle.writing.proofs.WritesBack.{writes-back}
use Rattle.writing.proofs.NameOrder.{appear-alike}
use Rattle.writing.proofs.ReadOrder.{row, length-row, place-own, in_order_lem}
use Rattle.writing.proofs.ReadsBack.{reads-back, rows-names}

-- ---- names that stay

module _ (P Q : ℕ → Type 0) (g : ℕ → ℕ) (same : (x : ℕ) → Q x → g x ≡ x) where
  mutual
    unfolding rename_exp bare_exp

    exp-stays : (e : Exp) → ProperExp P Q e → rename_exp g e ≡ bare_exp e
    exp-stays (no_exp n) p = absurd p
    exp-stays (field n f) p = refl
    exp-stays (int n b) p = refl
    exp-stays (diff n a b) p = rw (exp-stays a p.0, exp-stays b p.1)
    exp-stays (null n) p = refl
    exp-stays (ref n x) p = rw (same x p)
    exp-stays (select n a b) p = rw (exp-stays a p.0, exp-stays b p.1)
    exp-stays (proc n y c) p = rw (same y p.0, stays c p.1)

    test-stays : (t : Test) → ProperTest P Q t → rename_test g t ≡ bare_test t
    test-stays (no_test n) p = absurd p
    test-stays (is_true n) p = refl
    test-stays (is_false n) p = refl
    test-stays (equal n a b) p = rw (exp-stays a p.0, exp-stays b p.1)
    test-stays (less n a b) p = rw (exp-stays a p.0, exp-stays b p.1)

    stays : (c : Cmd) → ProperCmd P Q c → rename_cmd g c ≡ bare_cmd c
    stays (no_cmd n) p = absurd p
    stays (var n x c) p = rw (same x p.0, stays c p.1)
    stays (call n a b) p = rw (exp-stays a p.0, exp-stays b p.1)
    stays (malloc n x) p = rw (same x p)
    stays (assign n x e) p = rw (same x p.0, exp-stays e p.1)
    stays (assign_field n a b c) p = rw (exp-stays a p.0, exp-stays b p.1, exp-stays c p.2)
    stays (skip n) p = refl
    stays (seq n c d) p = rw (stays c p.0, stays d p.1)
    stays (while n t c) p = rw (test-stays t p.0, stays c p.1)
    stays (if n t c d) p = rw (test-stays t p.0, stays c p.1, stays d p.2)
    stays (par n c d) p = rw (stays c p.0, stays d p.1)
    stays (atom n c) p = rw (stays c p)

-- a tree that has its names by first appearance keeps them
pub by-appearance-already : (P : ℕ → Type 0) (n : ℕ) (c : Cmd) → ProperCmd P (Name n) c → names_written c ≡ row 0 n → by_appearance c ≡ bare_cmd c
unfolding by_appearance
by-appearance-already P n c p e = rw e (stays P (Name n) (place_in (row 0 n)) (λ x l. place-own n x l) c p)

-- ---- what was read

module _ (fields : List Entry) (text img : List ℕ) (r : ReadsText fields text img) where
  abbrev count : ℕ
  count = length (names_in r.places)

  abbrev IsField : ℕ → Type 0
  IsField f = Field (length (map code_of fields)) f

  bare-tree : bare_cmd r.tree ≡ r.tree
  bare-tree = writes-bare r.tree r.tokens r.writes

  proper : ProperCmd IsField (Name count) r.tree
  proper = read-proper fields text img r

  names-row : names_written r.tree ≡ row 0 count
  unfolding names_written
  names-row =
      let w = writes-back IsField (Name count) r.tree proper in
      let v : Writes (a_command r.tree) (write_cmd r.tree) = rw bare-tree at w in
      appear-alike v r.writes ∙ in_order_lem (map word_of fields) r.places r.tokens r.valued.tokens

  pub by-appearance : by_appearance r.tree ≡ r.tree
  by-appearance = by-appearance-already IsField count r.tree proper names-row ∙ bare-tree

  pub names-count : length (names_written r.tree) ≡ count
  names-count = ap length names-row ∙ length-row 0 count

  pub reads-again : (names : List (List ℕ)) → Each FieldName (map word_of fields) → Different (map word_of fields) → Each VariableName names → Different names
      → length names ≡ count → ReadsText fields (text_of fields names r.tree) img
  reads-again names field-names different-fields variables different e =
      let p : ProperCmd (Field (length fields)) (Name (length names)) r.tree = rw (← length-map fields code_of, e) proper in
      let few : length (names_written r.tree) ≤ most_names = omega (arith, names-count, r.valued.few-names) in
      let again = reads-back fields names field-names different-fields variables different r.tree p r.few-nodes few in
      let i : image_of fields r.tree ≡ img =
      ap₂ (λ c n. image (map code_of fields) (table_cmd 0 c) n) by-appearance names-count ∙ sym r.is in
      rw i at again

pub read-write-read : {out work : ℕ} {list text img : List ℕ} (r : Reads out work list text img) (names : List (List ℕ))
    → Each VariableName names → Different names → length names ≡ length (names_in r.read.places)
    → (more lent : ℕ) → Lent more lent (text_of r.fields names r.read.tree) → Reads more lent list (text_of r.fields names r.read.tree) img
read-write-read {out} {work} {list} {text} {img} r names variables different e more lent enough =
    record {
      lent = enough;
      fields = r.fields;
      listed = r.listed;
      read = reads-again r.fields text img r.read names (rows-names r.listed.rows) r.listed.different variables different e;
    }
