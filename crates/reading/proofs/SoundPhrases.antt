-- The rules of the grammar as the table comes to them: behind the token by which a rule shows, what is due from then on makes its phrase whole.
-- The rules of operands, selections and differences stand in SoundRows, since several things due share them.
use Prim.Native.Nat.{ℕ}
use mathlib.Core.Path.{refl}
use mathlib.Core.List.{List, [], ◌∷◌, append-nil}
use Rattle.rules.specs.Syntax.{int, diff, ref, select, proc, is_true, is_false, equal, less, var, call, malloc, assign, assign_field, skip, seq, while, if, par, atom}
use Rattle.grammar.specs.Tokens.{Tok, name, number, k_true, k_false, k_skip, k_while, k_else, lpar, semi, bars, becomes, equals, below, colon}
use Rattle.grammar.specs.Grammar.{NoSign, Signed, negated}
use Rattle.reading.specs.Levels.{an_operand, a_difference, a_procedure, an_expression, a_command, a-negative, a-name, one-operand, a-proc, closed, only-a-proc, ends-dot-proc, ends-minus-proc, ends-minus-dot-proc, says-true, says-false, are-equal, is-less, declares, calls, allocates, assigns, assigns-field, assigns-at-proc, skips, in-sequence, in-parallel, repeats, chooses, in-atom}
use Rattle.reading.specs.Items.{Item, items_exp, items_test, items_cmd}
use Rattle.reading.specs.Table.{command, body, var_semi, malloc_name, atom_open, middle, shut, otherwise, close_node, node, test, operand, negative, name_first, first, first_dotted, becomes_due, expression, sel_dot, after_minus, sel_minus_dot, proc_colon}
use Rattle.reading.proofs.Meanings.{◌⊆◌, Is, phrase, IsBody, unsigned, only, ◌then◌, both, Behind, On, Out, a_test, Means, Meant}
use Rattle.reading.proofs.SoundRows.{so, flat, over}

-- ---- commands

pub skipping : Meant [] ⊆ On k_skip (Out 37 0 (Means command))
unfolding items_cmd
skipping = over (On k_skip (Out 37 0 (Means command))) (phrase (skip 0) skips)

pub declaring : (x : ℕ) → Meant (command ∷ node 32 x ∷ []) ⊆ On semi (Means (var_semi x))
unfolding items_cmd
declaring x us is (both (phrase c w) (both only only)) = so (var 0 x c) (declares w) (simp flat) refl

pub allocating : (x : ℕ) → Meant (close_node 34 x ∷ []) ⊆ On (name x) (Means malloc_name)
unfolding items_cmd
allocating x us is (both only only) = phrase (malloc 0 x) allocates

pub assigning : (x : ℕ) → Meant (expression ∷ node 35 x ∷ []) ⊆ On becomes (Means (name_first x))
unfolding items_cmd
assigning x us is (both (phrase e w) (both only only)) = so (assign 0 x e) (assigns w) (simp flat) refl

pub assigning-field : Meant (expression ∷ node 36 0 ∷ []) ⊆ On becomes (Means first_dotted)
unfolding items_cmd
assigning-field us is (both (phrase c x) (both only only)) b vs v a ws w = so (assign_field 0 a b c) (assigns-field w v x) (simp flat) (simp flat)

pub assigning-at-proc : Meant (expression ∷ node 36 0 ∷ []) ⊆ On becomes (Means becomes_due)
unfolding items_cmd
assigning-at-proc us is (both (phrase c x) (both only only)) b vs v a ws w = so (assign_field 0 a b c) (assigns-at-proc w v x) (simp flat) (simp flat)

pub calling : Meant (expression ∷ close_node 33 0 ∷ []) ⊆ On lpar (Behind a_difference (Is a_command))
unfolding items_cmd
calling us is (both (phrase b v) (both only only)) a ws w = so (call 0 a b) (calls w v) refl (simp flat)

pub sequencing : Meant (command ∷ shut 38 ∷ []) ⊆ On semi (Means middle)
unfolding items_cmd
sequencing us is (both (phrase d v) (both only only)) c ws w = so (seq 0 c d) (in-sequence w v) refl (simp flat)

pub paralleling : Meant (command ∷ shut 41 ∷ []) ⊆ On bars (Means middle)
unfolding items_cmd
paralleling us is (both (phrase d v) (both only only)) c ws w = so (par 0 c d) (in-parallel w v) refl (simp flat)

pub repeating : Meant (test ∷ node 39 0 ∷ []) ⊆ On k_while (Means command)
unfolding items_cmd
repeating us is (both (phrase p w) (both only only)) = so (while 0 p.0 p.1) (repeats w) (simp flat) refl

pub choosing : Meant (command ∷ node 40 0 ∷ []) ⊆ On k_else (Means otherwise)
unfolding items_cmd
choosing us is (both (phrase d v) (both only only)) p ws w = so (if 0 p.0 p.1 d) (chooses w v) (simp flat) (simp flat)

pub in-atoms : Meant (command ∷ close_node 42 0 ∷ []) ⊆ On lpar (Means atom_open)
unfolding items_cmd
in-atoms us is (both (phrase c w) (both only only)) = phrase (atom 0 c) (in-atom w)

-- a command that began with a name began with a selection
pub named : (x : ℕ) → Means first ⊆ Out 5 x (Means (name_first x))
unfolding items_exp
named x us is f = f (ref 0 x) (name x ∷ []) (one-operand a-name)

pub as-body : (us : List Tok) (is : List Item) → NoSign us → Is a_command us is → IsBody us is
as-body us is n (phrase c w) = unsigned c w n

-- ---- tests

pub true-test : Means command ⊆ On k_true (Out 16 0 (Means test))
unfolding items_test
true-test us is (phrase c w) = phrase (is_true 0, c) (says-true w)

pub false-test : Means command ⊆ On k_false (Out 17 0 (Means test))
unfolding items_test
false-test us is (phrase c w) = phrase (is_false 0, c) (says-false w)

pub equating : Meant (expression ∷ node 18 0 ∷ body ∷ []) ⊆ On equals (Behind a_difference (Is a_test))
unfolding items_test
equating us is (both (phrase b v) (both only (both (unsigned c x n) only))) a ws w = so (equal 0 a b, c) (are-equal w v x n) (simp flat) (simp flat)

pub comparing : Meant (expression ∷ node 19 0 ∷ body ∷ []) ⊆ On below (Behind a_difference (Is a_test))
unfolding items_test
comparing us is (both (phrase b v) (both only (both (unsigned c x n) only))) a ws w = so (less 0 a b, c) (is-less w v x n) (simp flat) (simp flat)

-- ---- expressions

pub operand-alone : Is an_operand then Meant [] ⊆ Means operand
operand-alone us is (both o only) = simp append-nil o

pub negative-number : (n : ℕ) → Signed n → Meant [] ⊆ On (number n) (Out 2 (negated n) (Means negative))
unfolding items_exp
negative-number n p = over (On (number n) (Out 2 (negated n) (Means negative))) (phrase (int 0 (negated n)) (a-negative p))

-- an expression may be over behind each difference
pub ending : Behind a_difference (Is an_expression) [] []
ending a ws w = so a (closed w) (simp flat) (simp flat)

pub a_body : (y : ℕ) → Meant (command ∷ node 7 y ∷ []) ⊆ On colon (Means (proc_colon y))
unfolding items_exp
a_body y us is (both (phrase c w) (both only only)) = so (proc 0 y c) (a-proc w) (simp flat) refl

pub proc-alone : Is a_procedure then Meant [] ⊆ Means expression
proc-alone us is (both (phrase e w) only) = so e (only-a-proc w) (simp flat) (simp flat)

pub dot-proc : Is a_procedure then Meant (node 6 0 ∷ []) ⊆ Means sel_dot
unfolding items_exp
dot-proc us is (both (phrase b v) (both only only)) a ws w = so (select 0 a b) (ends-dot-proc w v) (simp flat) (simp flat)

pub minus-proc : Is a_procedure then Meant (node 3 0 ∷ []) ⊆ Means after_minus
unfolding items_exp
minus-proc us is (both (phrase b v) (both only only)) m k a ws w = so (diff 0 a b) (ends-minus-proc w k v) (simp flat) (simp flat)

pub minus-dot-proc : Is a_procedure then Meant (node 6 0 ∷ node 3 0 ∷ []) ⊆ Means sel_minus_dot
unfolding items_exp
minus-dot-proc us is (both (phrase c x) (both only (both only only))) b vs v m k a ws w =
    so (diff 0 a (select 0 b c)) (ends-minus-dot-proc w k v x) (simp flat) (simp flat)
