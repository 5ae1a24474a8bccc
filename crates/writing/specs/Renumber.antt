-- Names by first appearance: order 1, "names are numbered by first appearance", here of a tree that is to be written. A tree whose names are renumbered
-- so is what its text is read as (proofs/ReadsBack). Node numbers are wiped: they don't count. Assumes nothing.
use Rattle.std.specs.Prelude.{ℕ, suc, cond, List, [], ◌∷◌, ◌++◌, eqb}
use Rattle.rules.specs.Syntax.{Exp, Test, Cmd, no_exp, field, int, diff, null, ref, select, proc, no_test, is_true, is_false, equal, less, no_cmd, var, call, malloc, assign, assign_field, skip, seq, while, if, par, atom}
use Rattle.grammar.specs.Classes.{among}
use Rattle.grammar.specs.Tokens.{Tok, name, field_name, number, mark}
use Rattle.writing.specs.WriteTokens.{write_cmd}

-- ---- the names of tokens, each where it first appears

unfoldable pub with_name : List ℕ → Tok → List ℕ
with_name xs (name x) = cond (among x xs) xs (xs ++ (x ∷ []))
with_name xs (field_name f) = xs
with_name xs (number n) = xs
with_name xs (mark k) = xs

unfoldable pub appearing_from : List ℕ → List Tok → List ℕ
appearing_from xs [] = xs
appearing_from xs (t ∷ ts) = appearing_from (with_name xs t) ts

unfoldable pub appearing : List Tok → List ℕ
appearing ts = appearing_from [] ts

-- where a number stands in a list, from 0
unfoldable pub place_in : List ℕ → ℕ → ℕ
place_in [] x = 0
place_in (y ∷ ys) x = cond (eqb x y) 0 (suc (place_in ys x))

-- ---- other names in the place of the names

unfoldable pub rename_tok : (ℕ → ℕ) → Tok → Tok
rename_tok g (name x) = name (g x)
rename_tok g (field_name f) = field_name f
rename_tok g (number n) = number n
rename_tok g (mark k) = mark k

unfoldable mutual
  pub rename_exp : (ℕ → ℕ) → Exp → Exp
  rename_exp g (no_exp n) = no_exp 0
  rename_exp g (field n f) = field 0 f
  rename_exp g (int n b) = int 0 b
  rename_exp g (diff n a b) = diff 0 (rename_exp g a) (rename_exp g b)
  rename_exp g (null n) = null 0
  rename_exp g (ref n x) = ref 0 (g x)
  rename_exp g (select n a b) = select 0 (rename_exp g a) (rename_exp g b)
  rename_exp g (proc n y c) = proc 0 (g y) (rename_cmd g c)

  pub rename_test : (ℕ → ℕ) → Test → Test
  rename_test g (no_test n) = no_test 0
  rename_test g (is_true n) = is_true 0
  rename_test g (is_false n) = is_false 0
  rename_test g (equal n a b) = equal 0 (rename_exp g a) (rename_exp g b)
  rename_test g (less n a b) = less 0 (rename_exp g a) (rename_exp g b)

  pub rename_cmd : (ℕ → ℕ) → Cmd → Cmd
  rename_cmd g (no_cmd n) = no_cmd 0
  rename_cmd g (var n x c) = var 0 (g x) (rename_cmd g c)
  rename_cmd g (call n a b) = call 0 (rename_exp g a) (rename_exp g b)
  rename_cmd g (malloc n x) = malloc 0 (g x)
  rename_cmd g (assign n x e) = assign 0 (g x) (rename_exp g e)
  rename_cmd g (assign_field n a b c) = assign_field 0 (rename_exp g a) (rename_exp g b) (rename_exp g c)
  rename_cmd g (skip n) = skip 0
  rename_cmd g (seq n c d) = seq 0 (rename_cmd g c) (rename_cmd g d)
  rename_cmd g (while n t c) = while 0 (rename_test g t) (rename_cmd g c)
  rename_cmd g (if n t c d) = if 0 (rename_test g t) (rename_cmd g c) (rename_cmd g d)
  rename_cmd g (par n c d) = par 0 (rename_cmd g c) (rename_cmd g d)
  rename_cmd g (atom n c) = atom 0 (rename_cmd g c)

-- ---- names in the order in which they appear in the text

unfoldable pub names_written : Cmd → List ℕ
names_written c = appearing (write_cmd c)

unfoldable pub by_appearance : Cmd → Cmd
by_appearance c = rename_cmd (place_in (names_written c)) c
