-- What the grammar writes is read: with anything due below it and anything behind it that does not go on with it, the tokens of a command
-- bring its nodes and nothing else. One law by cases on what is written; what it says of each level is `Reads`. Assumes nothing.
use mathlib.Core.Path.{refl, ap, ◌∙◌}
use mathlib.Core.Bool.{true, false}
use mathlib.Core.List.{List, [], ◌∷◌, ◌++◌, append_assoc}
use Rattle.grammar.specs.Tokens.{Tok, name, kind_of, value_of, k_proc, k_true, k_false, k_var, k_malloc, k_skip, k_while, k_if, k_else, k_atom, lpar, rpar, semi, bars, dot, becomes, equals, below, colon}
use Rattle.reading.specs.Levels.{Level, Written, a-field, a-number, a-negative, a-null, a-name, a-group, one-operand, dotted, one-selection, less-a-selection, a-proc, closed, only-a-proc, ends-dot-proc, ends-minus-proc, ends-minus-dot-proc, says-true, says-false, are-equal, is-less, declares, calls, allocates, assigns, assigns-field, assigns-at-proc, skips, in-sequence, in-parallel, repeats, chooses, in-atom}
use Rattle.reading.specs.Items.{put, items_exp, items_test, items_cmd}
use Rattle.reading.specs.Table.{command, var_name, var_semi, malloc_open, malloc_name, atom_open, otherwise, close, close_node, node, test, name_first, first, first_dot, first_dotted, becomes_due, expression, sel, sel_dot, after_minus, sel_minus, sel_minus_dot, proc_name, proc_colon, does, row_for, operands, commands, minuses, arguments, firsts, sides}
use Rattle.reading.proofs.Behind.{token, from, ◌before◌, took, took-bare}
use Rattle.reading.proofs.Spots.{in-expression, in-command, first-dot}
use Rattle.reading.proofs.FirstToken.{written-starts}
use Rattle.reading.proofs.ReadParts.{Reads, ok-dot, ok-minus, minus-no-dot, two, node-behind, node-behind-two, parts, over-here, compared, in-braces, field_of, assigned}

module _ (X : Type 0) where
  pub reads : {l : Level} {ts : List Tok} → Written l ts → Reads X l ts
  unfolding ◌before◌ token from kind_of value_of items_exp items_test items_cmd does row_for minuses firsts arguments sides commands operands in-expression
  reads (a-field {f}) = λ o ds es b r is k. b.fields f r is
  reads (a-number {n} h) = λ o ds es b r is k. b.numbers n r is h
  reads (a-negative {n} h) = λ o ds es b r is k. b.signs n r is h
  reads a-null = λ o ds es b r is k. b.nulls r is
  reads (a-name {x}) = λ o ds es b r is k. b.names x r is k
  reads (a-group {e} {us} w) =
      λ o ds es b r is k.
      b.groups ((us ++ (rpar ∷ [])) before r) is
      ∙ parts us (rpar ∷ []) r (expression ∷ close ∷ es) is
      ∙ reads w (close ∷ es) (token rpar r) is (refl, refl, refl)
      ∙ took-bare rpar r close es (is ++ items_exp e) refl
  reads (one-operand w) = λ o ds es b d r is k. reads w o ds es b r is k
  reads (dotted {a} {b} {us} {vs} w v) =
      λ o ds es g d r is k.
      parts us (dot ∷ vs) r ds is
      ∙ reads w o ds es g d (token dot (vs before r)) is (ok-dot o)
      ∙ d.dots (vs before r) (is ++ items_exp a)
      ∙ reads v true d.behind_dot d.behind_operand d.begins r (is ++ items_exp a) tt
      ∙ d.selects r ((is ++ items_exp a) ++ items_exp b) k
      ∙ two r es is (items_exp a) (items_exp b) (put 6 0 ∷ [])
  reads (one-selection w) = λ o ds es s r is k n. reads w o ds es s.opens s.dotted r is k
  reads (less-a-selection {a} {b} {us} {vs} {m} w x v) =
      λ o ds es s r is k n.
      parts us (m ∷ vs) r ds is
      ∙ reads w o ds es s (token m (vs before r)) is (ok-minus o x) (minus-no-dot x)
      ∙ s.minuses x (vs before r) (is ++ items_exp a)
      ∙ reads v true s.behind_minus s.behind_selection s.begins s.dots r (is ++ items_exp a) tt
      ∙ s.subtracts r ((is ++ items_exp a) ++ items_exp b) n
      ∙ two r es is (items_exp a) (items_exp b) (put 3 0 ∷ [])
  reads (a-proc {y} {c} {us} w) =
      λ ds es p r is k.
      p (token (name y) (token colon (us before r))) is
      ∙ took-bare (name y) (token colon (us before r)) proc_name es is refl
      ∙ took-bare colon (us before r) (proc_colon y) es is refl
      ∙ reads w (node 7 y ∷ es) r is k
      ∙ node-behind r es 7 y is (items_cmd c)
  reads (closed {e} w) =
      λ ds r is k. reads w true (expression ∷ ds) (sel ∷ ds) (in-expression ds) r is tt k.0 ∙ over-here r ds (is ++ items_exp e) k
  reads (only-a-proc w) = λ ds r is k. reads w (expression ∷ ds) ds (λ q js. took-bare k_proc q expression ds js refl) r is k
  reads (ends-dot-proc {a} {b} {us} {vs} w v) =
      λ ds r is k.
      parts us (dot ∷ vs) r (expression ∷ ds) is
      ∙ reads w true (expression ∷ ds) (sel ∷ ds) (in-expression ds).opens (in-expression ds).dotted (token dot (vs before r)) is tt
      ∙ took-bare dot (vs before r) sel ds (is ++ items_exp a) refl
      ∙ reads v (sel_dot ∷ ds) (node 6 0 ∷ ds) (λ q js. took-bare k_proc q sel_dot ds js refl) r (is ++ items_exp a) k
      ∙ node-behind-two r ds 6 0 is (items_exp a) (items_exp b)
  reads (ends-minus-proc {a} {b} {us} {vs} {m} w x v) =
      λ ds r is k.
      parts us (m ∷ vs) r (expression ∷ ds) is
      ∙ reads w true (expression ∷ ds) (sel ∷ ds) (in-expression ds) (token m (vs before r)) is tt (minus-no-dot x)
      ∙ (in-expression ds).minuses x (vs before r) (is ++ items_exp a)
      ∙ reads v (after_minus ∷ ds) (node 3 0 ∷ ds) (λ q js. took-bare k_proc q after_minus ds js refl) r (is ++ items_exp a) k
      ∙ node-behind-two r ds 3 0 is (items_exp a) (items_exp b)
  reads (ends-minus-dot-proc {a} {b} {c} {us} {vs} {ws} {m} w x v u) =
      λ ds r is k.
      let q = (vs ++ (dot ∷ ws)) before r in
      let js = is ++ items_exp a in
      parts us (m ∷ (vs ++ (dot ∷ ws))) r (expression ∷ ds) is
      ∙ reads w true (expression ∷ ds) (sel ∷ ds) (in-expression ds) (token m q) is tt (minus-no-dot x)
      ∙ (in-expression ds).minuses x q js
      ∙ parts vs (dot ∷ ws) r (after_minus ∷ ds) js
      ∙ reads v true (after_minus ∷ ds) (sel_minus ∷ ds) (in-expression ds).begins (in-expression ds).dots (token dot (ws before r)) js tt
      ∙ took-bare dot (ws before r) sel_minus ds (js ++ items_exp b) refl
      ∙ reads u (sel_minus_dot ∷ ds) (node 6 0 ∷ node 3 0 ∷ ds) (λ q is. took-bare k_proc q sel_minus_dot ds is refl) r (js ++ items_exp b) k
      ∙ node-behind r (node 3 0 ∷ ds) 6 0 (js ++ items_exp b) (items_exp c)
      ∙ node-behind r ds 3 0 (js ++ items_exp b) (items_exp c ++ (put 6 0 ∷ []))
      ∙ ap (r.seen ds) (simp append_assoc)
  reads (says-true {c} {us} w) =
      λ ds r is k.
      took k_true (us before r) test ds is refl
      ∙ reads w ds r (is ++ (put 16 0 ∷ [])) k
      ∙ ap (r.seen ds) (append_assoc is (put 16 0 ∷ []) (items_cmd c))
  reads (says-false {c} {us} w) =
      λ ds r is k.
      took k_false (us before r) test ds is refl
      ∙ reads w ds r (is ++ (put 17 0 ∷ [])) k
      ∙ ap (r.seen ds) (append_assoc is (put 17 0 ∷ []) (items_cmd c))
  reads (are-equal {a} {b} {c} {us} {vs} {ws} w v u n) =
      compared equals 18 refl refl a b c us vs ws (reads w) (reads v) (reads u) (written-starts u) n
  reads (is-less {a} {b} {c} {us} {vs} {ws} w v u n) =
      compared below 19 refl refl a b c us vs ws (reads w) (reads v) (reads u) (written-starts u) n
  reads (declares {x} {c} {us} w) =
      λ ds r is k.
      took-bare k_var (token (name x) (token semi (us before r))) command ds is refl
      ∙ took-bare (name x) (token semi (us before r)) var_name ds is refl
      ∙ took-bare semi (us before r) (var_semi x) ds is refl
      ∙ reads w (node 32 x ∷ ds) r is k
      ∙ node-behind r ds 32 x is (items_cmd c)
  reads (calls {a} {b} {us} {vs} w v) =
      λ ds r is k.
      let q = (vs ++ (rpar ∷ [])) before r in
      parts us (lpar ∷ (vs ++ (rpar ∷ []))) r (command ∷ ds) is
      ∙ reads w false (command ∷ ds) (first ∷ ds) (in-command ds) (token lpar q) is refl refl
      ∙ took-bare lpar q first ds (is ++ items_exp a) refl
      ∙ parts vs (rpar ∷ []) r (expression ∷ close_node 33 0 ∷ ds) (is ++ items_exp a)
      ∙ reads v (close_node 33 0 ∷ ds) (token rpar r) (is ++ items_exp a) (refl, refl, refl)
      ∙ took rpar r (close_node 33 0) ds ((is ++ items_exp a) ++ items_exp b) refl
      ∙ two r ds is (items_exp a) (items_exp b) (put 33 0 ∷ [])
  reads (allocates {x}) =
      λ ds r is k.
      took-bare k_malloc (token lpar (token (name x) (token rpar r))) command ds is refl
      ∙ took-bare lpar (token (name x) (token rpar r)) malloc_open ds is refl
      ∙ took-bare (name x) (token rpar r) malloc_name ds is refl
      ∙ took rpar r (close_node 34 x) ds is refl
  reads (assigns {x} {e} {us} w) =
      λ ds r is k.
      took-bare (name x) (token becomes (us before r)) command ds is refl
      ∙ took-bare becomes (us before r) (name_first x) ds is refl
      ∙ reads w (node 35 x ∷ ds) r is k
      ∙ node-behind r ds 35 x is (items_exp e)
  reads (assigns-field {a} {b} {c} {us} {vs} {ws} w v u) =
      λ ds r is k.
      let js = is ++ items_exp a in
      field_of a us (vs ++ (becomes ∷ ws)) (reads w) ds r is
      ∙ parts vs (becomes ∷ ws) r (first_dot ∷ ds) js
      ∙ reads v true (first_dot ∷ ds) (first_dotted ∷ ds) (first-dot ds) (token becomes (ws before r)) js tt
      ∙ assigned first_dotted refl a b c ws (reads u) ds r is k
  reads (assigns-at-proc {a} {b} {c} {us} {vs} {ws} w v u) =
      λ ds r is k.
      let js = is ++ items_exp a in
      field_of a us (vs ++ (becomes ∷ ws)) (reads w) ds r is
      ∙ parts vs (becomes ∷ ws) r (first_dot ∷ ds) js
      ∙ reads v (first_dot ∷ ds) (becomes_due ∷ ds) (λ q es. took-bare k_proc q first_dot ds es refl) (token becomes (ws before r)) js (refl, refl, refl)
      ∙ assigned becomes_due refl a b c ws (reads u) ds r is k
  reads skips = λ ds r is k. took k_skip r command ds is refl
  reads (in-sequence {c} {d} {us} {vs} w v) = λ ds r is k. in-braces semi 38 c d us vs refl (refl, refl, refl) (reads w) (reads v) ds r is
  reads (in-parallel {c} {d} {us} {vs} w v) = λ ds r is k. in-braces bars 41 c d us vs refl (refl, refl, refl) (reads w) (reads v) ds r is
  reads (repeats {t} {c} {us} w) =
      λ ds r is k.
      took-bare k_while (us before r) command ds is refl
      ∙ reads w (node 39 0 ∷ ds) r is k
      ∙ node-behind r ds 39 0 is (items_test t ++ items_cmd c)
  reads (chooses {t} {c} {d} {us} {vs} w v) =
      λ ds r is k.
      let js = is ++ (items_test t ++ items_cmd c) in
      took-bare k_if ((us ++ (k_else ∷ vs)) before r) command ds is refl
      ∙ parts us (k_else ∷ vs) r (test ∷ otherwise ∷ ds) is
      ∙ reads w (otherwise ∷ ds) (token k_else (vs before r)) is (refl, refl, refl)
      ∙ took-bare k_else (vs before r) otherwise ds js refl
      ∙ reads v (node 40 0 ∷ ds) r js k
      ∙ node-behind r ds 40 0 js (items_cmd d)
      ∙ ap (r.seen ds) (simp append_assoc)
  reads (in-atom {c} {us} w) =
      λ ds r is k.
      let q = (us ++ (rpar ∷ [])) before r in
      took-bare k_atom (token lpar q) command ds is refl
      ∙ took-bare lpar q atom_open ds is refl
      ∙ parts us (rpar ∷ []) r (command ∷ close_node 42 0 ∷ ds) is
      ∙ reads w (close_node 42 0 ∷ ds) (token rpar r) is (refl, refl, refl)
      ∙ took rpar r (close_node 42 0) ds (is ++ items_cmd c) refl
      ∙ ap (r.seen ds) (append_assoc is (items_cmd c) (put 42 0 ∷ []))
