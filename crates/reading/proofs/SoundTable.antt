-- Every row of the table keeps what is meant: first the groups of rows that have a name, then the 32 things due.
-- `due` stands where a token only becomes part of what is left of the thing due, and nothing is put together yet.
use Prim.Native.Nat.{ℕ}
use native.Mathlib.Decide.{ℕ_discrete}
use mathlib.Core.Path.{◌≡◌}
use mathlib.Core.List.{List, [], ◌∷◌, ◌++◌}
use Rattle.grammar.specs.Tokens.{Tok, number, kind_of, value_of, k_true, k_false, k_if, lbrace, rpar, rbrace}
use Rattle.reading.specs.Levels.{an_operand, a_selection, a_difference, a_procedure, an_expression, a_command}
use Rattle.reading.specs.Table.{Due, command, body, var_name, var_semi, malloc_open, malloc_name, atom_open, middle, shut, otherwise, close, close_node, node, test, test_left, test_minus, operand, negative, name_first, first, first_dot, first_dotted, first_minus, becomes_due, expression, sel, sel_dot, after_minus, sel_minus, sel_minus_dot, proc_name, proc_colon, Act, take, pass, refuse, after, Row, row_for, operands, commands, minuses, arguments, firsts, sides, does}
use Rattle.reading.proofs.Meanings.{Meaning, ◌⊆◌, Is, IsBody, only, ◌then◌, Behind, On, OnMinus, Out, a_test, Means, Meant}
use Rattle.reading.proofs.SoundRows.{Keeps, keeps-after, signed-keeps, token_of, Told, RowsKeep, ◌&◌, rows_as, rows_append, table-keeps, over, one, two, due, joined, joined-operand, narrower, selected, subtracted, dotted-then, field-keeps, number-keeps, sign-keeps, null-keeps, group-keeps, operands-keep, proc-keeps, minuses-keep}
use Rattle.reading.proofs.SoundPhrases.{skipping, declaring, allocating, assigning, assigning-field, assigning-at-proc, calling, sequencing, paralleling, repeating, choosing, in-atoms, named, as-body, true-test, false-test, equating, comparing, operand-alone, negative-number, ending, a_body, proc-alone, dot-proc, minus-proc, minus-dot-proc}

-- ---- what begins a command

-- an operand begins its left side
begun : Is an_operand then Meant (first ∷ []) ⊆ Is a_command
begun = two (Is a_command) (Is an_operand) first (joined-operand (Is a_command))

commands-keep : RowsKeep (Is a_command) commands
unfolding commands token_of
commands-keep =
    (λ v. due (name_first v))
    & field-keeps (Is a_command) (first ∷ []) begun
    & number-keeps (Is a_command) (first ∷ []) begun
    & null-keeps (Is a_command) (first ∷ []) begun
    & group-keeps (Is a_command) (first ∷ []) begun
    & (λ v. due var_name)
    & (λ v. due malloc_open)
    & (λ v. skipping)
    & (λ v. repeating)
    & (λ v. two (On k_if (Is a_command)) (Is a_test) otherwise (joined a_test (On k_if (Is a_command))))
    & (λ v. due atom_open)
    & (λ v. two (On lbrace (Is a_command)) (Is a_command) middle (joined a_command (On lbrace (Is a_command))))
    & tt

-- no sign is among them, so they begin a body
signs-refused : (k v : ℕ) → k ≡ 4 → row_for k v commands refuse ≡ refuse
unfolding row_for commands
signs-refused k v e = rw e

body-keeps : (t : Tok) (a : Act) → (kind_of t ≡ 4 → ⊥) → Keeps (Is a_command) t a → Keeps IsBody t a
body-keeps t (take es js) n h = λ us is m. as-body (t ∷ us) (js ++ is) n (h us is m)
body-keeps t (pass js) n h = as-body [] js tt h
body-keeps t refuse n h = tt

bodies-keep : (t : Tok) → Told t → Keeps IsBody t (row_for (kind_of t) (value_of t) commands refuse)
bodies-keep t e = go (ℕ_discrete (kind_of t) 4)
  where
    go : Dec (kind_of t ≡ 4) → Keeps IsBody t (row_for (kind_of t) (value_of t) commands refuse)
    go (yes p) = rw (signs-refused (kind_of t) (value_of t) p) tt
    go (no n) = body-keeps t (row_for (kind_of t) (value_of t) commands refuse) n (table-keeps (Is a_command) t commands refuse e commands-keep tt)

-- ---- what stands behind a difference, and so behind a selection

narrower-rows : (P : Meaning) (rs : List Row) → RowsKeep (Behind a_difference P) rs → RowsKeep (Behind a_selection P) rs
narrower-rows P rs = rows_as (Behind a_difference P) (Behind a_selection P) rs (narrower P)

-- one more minus, with an operand behind it
minus-operand : (P : Meaning) (d : Due) → Is an_operand then Means d ⊆ OnMinus P → RowsKeep P (minuses (operand ∷ d ∷ []))
minus-operand P d f = minuses-keep P (operand ∷ d ∷ []) (two (OnMinus P) (Is an_operand) d f)

calls-keep : RowsKeep (Behind a_difference (Is a_command)) (minuses (operand ∷ first_minus ∷ []) ++ arguments)
unfolding arguments token_of
calls-keep =
    let P = Behind a_difference (Is a_command) in
    rows_append P (minuses (operand ∷ first_minus ∷ [])) arguments (minus-operand P first_minus (joined-operand (OnMinus P))) ((λ v. calling) & tt)

firsts-keep : RowsKeep (Means first) firsts
unfolding firsts token_of
firsts-keep = (λ v. due first_dot) & narrower-rows (Is a_command) (minuses (operand ∷ first_minus ∷ []) ++ arguments) calls-keep

sides-keep : RowsKeep (Behind a_difference (Is a_test)) sides
unfolding sides token_of
sides-keep =
    let P = Behind a_difference (Is a_test) in
    rows_append P (minuses (operand ∷ test_minus ∷ [])) _ (minus-operand P test_minus (joined-operand (OnMinus P))) ((λ v. equating) & (λ v. comparing) & tt)

subtractions-keep : RowsKeep (Behind a_difference (Is an_expression)) (minuses (after_minus ∷ []))
subtractions-keep = minuses-keep (Behind a_difference (Is an_expression)) (after_minus ∷ []) (due after_minus)

-- ---- the table

-- where no row fits, the token is refused
by_rows : (d : Due) (t : Tok) (rs : List Row) → Told t → RowsKeep (Means d) rs → Keeps (Means d) t (row_for (kind_of t) (value_of t) rs refuse)
by_rows d t rs e h = table-keeps (Means d) t rs refuse e h tt

-- where none of these fits, a node comes out and others are tried
by-more : (d : Due) (t : Tok) (Q : Meaning) (rs ss : List Row) (k v : ℕ) (a : Act)
    → Told t → RowsKeep (Means d) rs → Q ⊆ Out k v (Means d) → RowsKeep Q ss → Keeps Q t a
    → Keeps (Means d) t (row_for (kind_of t) (value_of t) rs (after k v (row_for (kind_of t) (value_of t) ss a)))
by-more d t Q rs ss k v a e h f g i =
    let more = row_for (kind_of t) (value_of t) ss a in
    table-keeps (Means d) t rs (after k v more) e h (keeps-after Q (Means d) t k v more f (table-keeps Q t ss a e g i))

-- an operand, and this behind it
operand-then : (P : Meaning) (d : Due) → Is an_operand then Means d ⊆ P → RowsKeep P (operands (d ∷ []))
operand-then P d f = operands-keep P (d ∷ []) (two P (Is an_operand) d f)

pub does-keeps : (d : Due) (t : Tok) → Told t → Keeps (Means d) t (does d (kind_of t) (value_of t))
unfolding does token_of
does-keeps command t e = by_rows command t _ e (sign-keeps (Is a_command) (first ∷ []) begun & commands-keep)
does-keeps body t e = bodies-keep t e
does-keeps var_name t e = by_rows var_name t _ e ((λ v. due (var_semi v)) & tt)
does-keeps (var_semi x) t e = by_rows (var_semi x) t _ e ((λ v. declaring x) & tt)
does-keeps malloc_open t e = by_rows malloc_open t _ e ((λ v. due malloc_name) & tt)
does-keeps malloc_name t e = by_rows malloc_name t _ e (allocating & tt)
does-keeps atom_open t e = by_rows atom_open t _ e ((λ v. in-atoms) & tt)
does-keeps middle t e = by_rows middle t _ e ((λ v. sequencing) & (λ v. paralleling) & tt)
does-keeps (shut n) t e = by_rows (shut n) t _ e ((λ v. over (On rbrace (Out n 0 (Means (shut n)))) only) & tt)
does-keeps otherwise t e = by_rows otherwise t _ e ((λ v. choosing) & tt)
does-keeps close t e = by_rows close t _ e ((λ v. over (On rpar (Means close)) only) & tt)
does-keeps (close_node n x) t e = by_rows (close_node n x) t _ e ((λ v. over (On rpar (Out n x (Means (close_node n x)))) only) & tt)
does-keeps (node n x) t e = only
does-keeps test t e =
    by_rows test t _ e
    ((λ v. one (On k_true (Out 16 0 (Means test))) command true-test)
    & (λ v. one (On k_false (Out 17 0 (Means test))) command false-test)
    & operand-then (Is a_test) test_left (joined-operand (Is a_test)))
does-keeps test_left t e = by_rows test_left t _ e ((λ v. dotted-then (Is a_test) test_left (λ us is m. m)) & narrower-rows (Is a_test) sides sides-keep)
does-keeps test_minus t e =
    by-more test_minus t (Behind a_difference (Is a_test)) _ sides 3 0 refuse e
    ((λ v. dotted-then (OnMinus (Behind a_difference (Is a_test))) test_minus (λ us is m. m)) & tt) (subtracted (Is a_test)) sides-keep tt
does-keeps operand t e = by_rows operand t _ e (operands-keep (Is an_operand) [] operand-alone)
does-keeps negative t e = by_rows negative t _ e ((λ n. signed-keeps (Means negative) (number n) n _ (negative-number n)) & tt)
does-keeps (name_first x) t e = by-more (name_first x) t (Means first) _ firsts 5 x refuse e ((λ v. assigning x) & tt) (named x) firsts-keep tt
does-keeps first t e = by_rows first t _ e firsts-keep
does-keeps first_dot t e =
    by_rows first_dot t _ e
    ((λ v. proc-keeps (Means first_dot) (becomes_due ∷ []) (two (Means first_dot) (Is a_procedure) becomes_due (joined a_procedure (Means first_dot))))
    & operand-then (Means first_dot) first_dotted (joined an_operand (Means first_dot)))
does-keeps first_dotted t e = by-more first_dotted t (Means first) _ firsts 6 0 refuse e ((λ v. assigning-field) & tt) (selected (Is a_command)) firsts-keep tt
does-keeps first_minus t e =
    by-more first_minus t (Behind a_difference (Is a_command)) _ (minuses (operand ∷ first_minus ∷ []) ++ arguments) 3 0 refuse e
    ((λ v. dotted-then (OnMinus (Behind a_difference (Is a_command))) first_minus (λ us is m. m)) & tt) (subtracted (Is a_command)) calls-keep tt
does-keeps becomes_due t e = by_rows becomes_due t _ e ((λ v. assigning-at-proc) & tt)
does-keeps expression t e =
    by_rows expression t _ e ((λ v. proc-keeps (Is an_expression) [] proc-alone) & operand-then (Is an_expression) sel (joined-operand (Is an_expression)))
does-keeps sel t e =
    table-keeps (Means sel) t _ (pass []) e ((λ v. due sel_dot) & narrower-rows (Is an_expression) (minuses (after_minus ∷ [])) subtractions-keep)
    (narrower (Is an_expression) [] [] ending)
does-keeps sel_dot t e =
    by_rows sel_dot t _ e
    ((λ v. proc-keeps (Means sel_dot) (node 6 0 ∷ []) dot-proc)
    & operands-keep (Means sel_dot) (node 6 0 ∷ sel ∷ []) (dotted-then (Is an_expression) sel (λ us is m. m)))
does-keeps after_minus t e =
    by_rows after_minus t _ e
    ((λ v. proc-keeps (Means after_minus) (node 3 0 ∷ []) minus-proc) & operand-then (Means after_minus) sel_minus (joined-operand (Means after_minus)))
does-keeps sel_minus t e =
    by-more sel_minus t (Behind a_difference (Is an_expression)) _ (minuses (after_minus ∷ [])) 3 0 (pass []) e
    ((λ v. due sel_minus_dot) & tt) (subtracted (Is an_expression)) subtractions-keep ending
does-keeps sel_minus_dot t e =
    by_rows sel_minus_dot t _ e
    ((λ v. proc-keeps (Means sel_minus_dot) (node 6 0 ∷ node 3 0 ∷ []) minus-dot-proc)
    & operands-keep (Means sel_minus_dot) (node 6 0 ∷ sel_minus ∷ []) (dotted-then (Means after_minus) sel_minus (λ us is m. m)))
does-keeps proc_name t e = by_rows proc_name t _ e ((λ v. due (proc_colon v)) & tt)
does-keeps (proc_colon y) t e = by_rows (proc_colon y) t _ e ((λ v. a_body y) & tt)
