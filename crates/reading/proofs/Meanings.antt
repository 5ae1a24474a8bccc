-- What each thing due means in the grammar: which tokens may still come, and which nodes come out with them, given what stands left of them.
-- A meaning is built from few parts: a phrase of a level, two meanings one behind the other, what stands behind a phrase or a token.
use Prim.Native.Nat.{ℕ}
use mathlib.Core.List.{List, [], ◌∷◌, ◌++◌}
use Rattle.rules.specs.Syntax.{Test, Cmd}
use Rattle.grammar.specs.Tokens.{Tok, name, sign, k_proc, k_var, k_malloc, k_if, k_atom, lpar, rpar, lbrace, rbrace, dot}
use Rattle.grammar.specs.Grammar.{Minus, NoSign}
use Rattle.reading.specs.Levels.{Level, Written, an_operand, a_selection, a_difference, a_procedure, an_expression, a_tested, a_command}
use Rattle.reading.specs.Items.{Item, put, items_exp, items_test, items_cmd}
use Rattle.reading.specs.Table.{Due, command, body, var_name, var_semi, malloc_open, malloc_name, atom_open, middle, shut, otherwise, close, close_node, node, test, test_left, test_minus, operand, negative, name_first, first, first_dot, first_dotted, first_minus, becomes_due, expression, sel, sel_dot, after_minus, sel_minus, sel_minus_dot, proc_name, proc_colon}

-- tokens that are read, and the nodes that come out
abbrev pub Meaning : Type 1
Meaning = List Tok → List Item → Type 0

infix 5 ◌⊆◌
abbrev pub ◌⊆◌ : Meaning → Meaning → Type 0
P ⊆ Q = (us : List Tok) (is : List Item) → P us is → Q us is

abbrev pub items_of : Level → List Item
items_of (an_operand e) = items_exp e
items_of (a_selection e) = items_exp e
items_of (a_difference e) = items_exp e
items_of (a_procedure e) = items_exp e
items_of (an_expression e) = items_exp e
items_of (a_tested t c) = items_test t ++ items_cmd c
items_of (a_command c) = items_cmd c

abbrev pub a_test : (Test × Cmd) → Level
a_test p = a_tested p.0 p.1

-- ---- the parts of a meaning

-- a phrase of this level
pub data Is {A : Type 0} (L : A → Level) : List Tok → List Item → Type 0 where
  phrase : {us : List Tok} (a : A) → Written (L a) us → Is L us (items_of (L a))

-- a command that no sign begins
pub data IsBody : List Tok → List Item → Type 0 where
  unsigned : {us : List Tok} (c : Cmd) → Written (a_command c) us → NoSign us → IsBody us (items_cmd c)

-- these tokens and these nodes
pub data Only (vs : List Tok) (js : List Item) : List Tok → List Item → Type 0 where
  only : Only vs js vs js

-- one behind the other
infixr 20 ◌then◌
pub data ◌then◌ (P Q : Meaning) : List Tok → List Item → Type 0 where
  both : {us vs : List Tok} {is js : List Item} → P us is → Q vs js → (P then Q) (us ++ vs) (is ++ js)

-- whichever phrase of this level stands before, it is this with it
abbrev pub Behind : {A : Type 0} → (A → Level) → Meaning → Meaning
Behind {A} L P us is = (a : A) (ws : List Tok) → Written (L a) ws → P (ws ++ us) (items_of (L a) ++ is)

-- it is this with this token before it
abbrev pub On : Tok → Meaning → Meaning
On t P us is = P (t ∷ us) is

-- with a minus of either kind
abbrev pub OnMinus : Meaning → Meaning
OnMinus P us is = (m : Tok) → Minus m → P (m ∷ us) is

-- with a difference, a minus and a selection
abbrev pub BehindMinus : Meaning → Meaning
BehindMinus P = Behind a_selection (OnMinus (Behind a_difference P))

-- with this node before it
abbrev pub Out : ℕ → ℕ → Meaning → Meaning
Out k v P us is = P us (put k v ∷ is)

-- ---- the meanings

abbrev pub Means : Due → Meaning
Means command = Is a_command
Means body = IsBody
Means var_name = On k_var (Is a_command)
Means (var_semi x) = On (name x) (On k_var (Is a_command))
Means malloc_open = On k_malloc (Is a_command)
Means malloc_name = On lpar (On k_malloc (Is a_command))
Means atom_open = On k_atom (Is a_command)
Means middle = Behind a_command (On lbrace (Is a_command))
Means (shut t) = Only (rbrace ∷ []) (put t 0 ∷ [])
Means otherwise = Behind a_test (On k_if (Is a_command))
Means close = Only (rpar ∷ []) []
Means (close_node t x) = Only (rpar ∷ []) (put t x ∷ [])
Means (node t x) = Only [] (put t x ∷ [])
Means test = Is a_test
Means test_left = Behind a_selection (Is a_test)
Means test_minus = BehindMinus (Is a_test)
Means operand = Is an_operand
Means negative = On sign (Is an_operand)
Means (name_first x) = On (name x) (Is a_command)
Means first = Behind a_selection (Is a_command)
Means first_dot = On dot (Behind a_selection (Is a_command))
Means first_dotted = Behind an_operand (On dot (Behind a_selection (Is a_command)))
Means first_minus = BehindMinus (Is a_command)
Means becomes_due = Behind a_procedure (On dot (Behind a_selection (Is a_command)))
Means expression = Is an_expression
Means sel = Behind a_selection (Is an_expression)
Means sel_dot = On dot (Behind a_selection (Is an_expression))
Means after_minus = OnMinus (Behind a_difference (Is an_expression))
Means sel_minus = BehindMinus (Is an_expression)
Means sel_minus_dot = On dot (BehindMinus (Is an_expression))
Means proc_name = On k_proc (Is a_procedure)
Means (proc_colon y) = On (name y) (On k_proc (Is a_procedure))

-- a stack of things due: one behind the other
abbrev pub Meant : List Due → Meaning
Meant [] = Only [] []
Meant (d ∷ ds) = Means d then Meant ds
