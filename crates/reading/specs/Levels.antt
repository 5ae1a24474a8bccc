-- The grammar once more, by levels: operands, selections of operands, differences of selections, and expressions, which alone may end in
-- a proc that is not in parentheses. Reading follows this form. That it writes the same texts as `grammar`'s rules is shown in
-- proofs/SameTexts, so nobody has to believe it. Assumes nothing.
use Rattle.std.specs.Prelude.{ℕ, List, [], ◌∷◌, ◌++◌}
use Rattle.rules.specs.Syntax.{Exp, Test, Cmd, field, int, diff, null, ref, select, proc, is_true, is_false, equal, less, var, call, malloc, assign, assign_field, skip, seq, while, if, par, atom}
use Rattle.grammar.specs.Tokens.{Tok, name, field_name, number, sign, k_null, k_proc, k_true, k_false, k_var, k_malloc, k_skip, k_while, k_if, k_else, k_atom, lpar, rpar, lbrace, rbrace, semi, bars, dot, becomes, equals, below, colon}
use Rattle.grammar.specs.Grammar.{Minus, NoSign, Plain, Signed, negated}

pub data Level : Type 0 where
  an_operand : Exp → Level
  a_selection : Exp → Level
  a_difference : Exp → Level
  a_procedure : Exp → Level
  an_expression : Exp → Level
  a_tested : Test → Cmd → Level  -- a test and the command behind it
  a_command : Cmd → Level

pub data Written : Level → List Tok → Type 0 where
  -- an operand
  a-field : {f : ℕ} → Written (an_operand (field 0 f)) (field_name f ∷ [])
  a-number : {n : ℕ} → Plain n → Written (an_operand (int 0 n)) (number n ∷ [])
  a-negative : {n : ℕ} → Signed n → Written (an_operand (int 0 (negated n))) (sign ∷ number n ∷ [])
  a-null : Written (an_operand (null 0)) (k_null ∷ [])
  a-name : {x : ℕ} → Written (an_operand (ref 0 x)) (name x ∷ [])
  a-group : {e : Exp} {us : List Tok} → Written (an_expression e) us → Written (an_operand e) (lpar ∷ (us ++ (rpar ∷ [])))
  -- a selection: operands with dots, to the left
  one-operand : {e : Exp} {us : List Tok} → Written (an_operand e) us → Written (a_selection e) us
  dotted : {a b : Exp} {us vs : List Tok} → Written (a_selection a) us → Written (an_operand b) vs → Written (a_selection (select 0 a b)) (us ++ (dot ∷ vs))
  -- a difference: selections with minuses, to the left
  one-selection : {e : Exp} {us : List Tok} → Written (a_selection e) us → Written (a_difference e) us
  less-a-selection : {a b : Exp} {us vs : List Tok} {m : Tok}
      → Written (a_difference a) us → Minus m → Written (a_selection b) vs → Written (a_difference (diff 0 a b)) (us ++ (m ∷ vs))
  -- a proc
  a-proc : {y : ℕ} {c : Cmd} {us : List Tok} → Written (a_command c) us → Written (a_procedure (proc 0 y c)) (k_proc ∷ name y ∷ colon ∷ us)
  -- an expression: a proc that is not in parentheses stands only at its end
  closed : {e : Exp} {us : List Tok} → Written (a_difference e) us → Written (an_expression e) us
  only-a-proc : {e : Exp} {us : List Tok} → Written (a_procedure e) us → Written (an_expression e) us
  ends-dot-proc : {a b : Exp} {us vs : List Tok}
      → Written (a_selection a) us → Written (a_procedure b) vs → Written (an_expression (select 0 a b)) (us ++ (dot ∷ vs))
  ends-minus-proc : {a b : Exp} {us vs : List Tok} {m : Tok}
      → Written (a_difference a) us → Minus m → Written (a_procedure b) vs → Written (an_expression (diff 0 a b)) (us ++ (m ∷ vs))
  ends-minus-dot-proc : {a b c : Exp} {us vs ws : List Tok} {m : Tok}
      → Written (a_difference a) us → Minus m → Written (a_selection b) vs → Written (a_procedure c) ws
      → Written (an_expression (diff 0 a (select 0 b c))) (us ++ (m ∷ (vs ++ (dot ∷ ws))))
  -- a test and the command behind it, which no sign begins where an operand has just ended
  says-true : {c : Cmd} {us : List Tok} → Written (a_command c) us → Written (a_tested (is_true 0) c) (k_true ∷ us)
  says-false : {c : Cmd} {us : List Tok} → Written (a_command c) us → Written (a_tested (is_false 0) c) (k_false ∷ us)
  are-equal : {a b : Exp} {c : Cmd} {us vs ws : List Tok}
      → Written (a_difference a) us → Written (an_expression b) vs → Written (a_command c) ws → NoSign ws
      → Written (a_tested (equal 0 a b) c) (us ++ (equals ∷ (vs ++ ws)))
  is-less : {a b : Exp} {c : Cmd} {us vs ws : List Tok}
      → Written (a_difference a) us → Written (an_expression b) vs → Written (a_command c) ws → NoSign ws
      → Written (a_tested (less 0 a b) c) (us ++ (below ∷ (vs ++ ws)))
  -- a command
  declares : {x : ℕ} {c : Cmd} {us : List Tok} → Written (a_command c) us → Written (a_command (var 0 x c)) (k_var ∷ name x ∷ semi ∷ us)
  calls : {a b : Exp} {us vs : List Tok}
      → Written (a_difference a) us → Written (an_expression b) vs → Written (a_command (call 0 a b)) (us ++ (lpar ∷ (vs ++ (rpar ∷ []))))
  allocates : {x : ℕ} → Written (a_command (malloc 0 x)) (k_malloc ∷ lpar ∷ name x ∷ rpar ∷ [])
  assigns : {x : ℕ} {e : Exp} {us : List Tok} → Written (an_expression e) us → Written (a_command (assign 0 x e)) (name x ∷ becomes ∷ us)
  assigns-field : {a b c : Exp} {us vs ws : List Tok}
      → Written (a_selection a) us → Written (an_operand b) vs → Written (an_expression c) ws
      → Written (a_command (assign_field 0 a b c)) (us ++ (dot ∷ (vs ++ (becomes ∷ ws))))
  assigns-at-proc : {a b c : Exp} {us vs ws : List Tok}
      → Written (a_selection a) us → Written (a_procedure b) vs → Written (an_expression c) ws
      → Written (a_command (assign_field 0 a b c)) (us ++ (dot ∷ (vs ++ (becomes ∷ ws))))
  skips : Written (a_command (skip 0)) (k_skip ∷ [])
  in-sequence : {c d : Cmd} {us vs : List Tok}
      → Written (a_command c) us → Written (a_command d) vs → Written (a_command (seq 0 c d)) (lbrace ∷ (us ++ (semi ∷ (vs ++ (rbrace ∷ [])))))
  in-parallel : {c d : Cmd} {us vs : List Tok}
      → Written (a_command c) us → Written (a_command d) vs → Written (a_command (par 0 c d)) (lbrace ∷ (us ++ (bars ∷ (vs ++ (rbrace ∷ [])))))
  repeats : {t : Test} {c : Cmd} {us : List Tok} → Written (a_tested t c) us → Written (a_command (while 0 t c)) (k_while ∷ us)
  chooses : {t : Test} {c d : Cmd} {us vs : List Tok}
      → Written (a_tested t c) us → Written (a_command d) vs → Written (a_command (if 0 t c d)) (k_if ∷ (us ++ (k_else ∷ vs)))
  in-atom : {c : Cmd} {us : List Tok} → Written (a_command c) us → Written (a_command (atom 0 c)) (k_atom ∷ lpar ∷ (us ++ (rpar ∷ [])))
