-- A text has one reading: if the grammar writes the same tokens for two commands, they are the same command. What is read determines the items
-- (`reads_all`, proofs/Complete), and items determine the tree: a fold over them with a stack of trees builds it again. That it does is said of
-- what the grammar writes alone, since other trees carry node numbers, or parts that are nothing and leave no item.
use Prim.Native.Nat.{ℕ}
use mathlib.Core.Path.{◌≡◌, refl, sym, ap, ◌∙◌}
use mathlib.Core.Bool.{cond}
use mathlib.Core.Option.{some}
use mathlib.Core.List.{List, [], ◌∷◌, ◌++◌}
use lib.Dec.{eqb}
use Rattle.rules.specs.Syntax.{Exp, Test, Cmd, no_exp, field, int, diff, null, ref, select, proc, no_test, is_true, is_false, equal, less, no_cmd, var, call, malloc, assign, assign_field, skip, seq, while, if, par, atom}
use Rattle.grammar.specs.Tokens.{Tok}
use Rattle.grammar.specs.Grammar.{Writes}
use Rattle.grammar.specs.Grammar as G
use Rattle.reading.specs.Levels.{Level, Written, an_operand, a_selection, a_difference, a_procedure, an_expression, a_tested, a_command}
use Rattle.reading.specs.Levels as L
use Rattle.reading.specs.Items.{Item, put, items_exp, items_test, items_cmd}
use Rattle.reading.specs.Table.{reading}
use Rattle.reading.proofs.SameTexts.{levels-write}
use Rattle.reading.proofs.Complete.{reads_all}

-- ---- from items to the tree

data Tree : Type 0 where
  is_exp : Exp → Tree
  is_test : Test → Tree
  is_cmd : Cmd → Tree

exp_of : Tree → Exp
exp_of (is_exp e) = e
exp_of (is_test t) = no_exp 0
exp_of (is_cmd c) = no_exp 0

test_of : Tree → Test
test_of (is_exp e) = no_test 0
test_of (is_test t) = t
test_of (is_cmd c) = no_test 0

cmd_of : Tree → Cmd
cmd_of (is_exp e) = no_cmd 0
cmd_of (is_test t) = no_cmd 0
cmd_of (is_cmd c) = c

-- a node over as many trees as it has children; the last child lies on top
of_one : (Tree → Tree) → List Tree → List Tree
of_one f [] = []
of_one f (x ∷ s) = f x ∷ s

of_two : (Tree → Tree → Tree) → List Tree → List Tree
of_two f [] = []
of_two f (y ∷ []) = []
of_two f (y ∷ (x ∷ s)) = f x y ∷ s

of_three : (Tree → Tree → Tree → Tree) → List Tree → List Tree
of_three f [] = []
of_three f (z ∷ []) = []
of_three f (z ∷ (y ∷ [])) = []
of_three f (z ∷ (y ∷ (x ∷ s))) = f x y z ∷ s

-- tags, and what each makes of its value and the stack
data Maker : Type 0 where
  for : ℕ → (ℕ → List Tree → List Tree) → Maker

made : ℕ → ℕ → List Maker → List Tree → List Tree
made t v [] s = s
made t v (for u f ∷ ms) s = cond (eqb t u) (f v s) (made t v ms s)

makers : List Maker
makers =
    for 1 (λ v s. is_exp (field 0 v) ∷ s)
    ∷ for 2 (λ v s. is_exp (int 0 v) ∷ s)
    ∷ for 3 (λ v. of_two λ a b. is_exp (diff 0 (exp_of a) (exp_of b)))
    ∷ for 4 (λ v s. is_exp (null 0) ∷ s)
    ∷ for 5 (λ v s. is_exp (ref 0 v) ∷ s)
    ∷ for 6 (λ v. of_two λ a b. is_exp (select 0 (exp_of a) (exp_of b)))
    ∷ for 7 (λ v. of_one λ c. is_exp (proc 0 v (cmd_of c)))
    ∷ for 16 (λ v s. is_test (is_true 0) ∷ s)
    ∷ for 17 (λ v s. is_test (is_false 0) ∷ s)
    ∷ for 18 (λ v. of_two λ a b. is_test (equal 0 (exp_of a) (exp_of b)))
    ∷ for 19 (λ v. of_two λ a b. is_test (less 0 (exp_of a) (exp_of b)))
    ∷ for 32 (λ v. of_one λ c. is_cmd (var 0 v (cmd_of c)))
    ∷ for 33 (λ v. of_two λ a b. is_cmd (call 0 (exp_of a) (exp_of b)))
    ∷ for 34 (λ v s. is_cmd (malloc 0 v) ∷ s)
    ∷ for 35 (λ v. of_one λ e. is_cmd (assign 0 v (exp_of e)))
    ∷ for 36 (λ v. of_three λ a b c. is_cmd (assign_field 0 (exp_of a) (exp_of b) (exp_of c)))
    ∷ for 37 (λ v s. is_cmd (skip 0) ∷ s)
    ∷ for 38 (λ v. of_two λ c d. is_cmd (seq 0 (cmd_of c) (cmd_of d)))
    ∷ for 39 (λ v. of_two λ t c. is_cmd (while 0 (test_of t) (cmd_of c)))
    ∷ for 40 (λ v. of_three λ t c d. is_cmd (if 0 (test_of t) (cmd_of c) (cmd_of d)))
    ∷ for 41 (λ v. of_two λ c d. is_cmd (par 0 (cmd_of c) (cmd_of d)))
    ∷ for 42 (λ v. of_one λ c. is_cmd (atom 0 (cmd_of c)))
    ∷ []

built : Item → List Tree → List Tree
built (put t v) s = made t v makers s

rebuild : List Item → List Tree → List Tree
rebuild [] s = s
rebuild (i ∷ is) s = rebuild is (built i s)

-- ---- items of a tree, and a tree of items

rebuild-append : (is js : List Item) (s : List Tree) → rebuild (is ++ js) s ≡ rebuild js (rebuild is s)
unfolding rebuild
rebuild-append [] js s = refl
rebuild-append (i ∷ is) js s = rebuild-append is js (built i s)

-- these items put this tree onto any stack
abbrev Gives : List Item → Tree → Type 0
Gives is x = (s : List Tree) → rebuild is s ≡ x ∷ s

over-one : (is : List Item) (i : Item) (x y : Tree) → Gives is x → ((s : List Tree) → built i (x ∷ s) ≡ y ∷ s) → Gives (is ++ (i ∷ [])) y
unfolding rebuild
over-one is i x y g h s = rebuild-append is (i ∷ []) s ∙ ap (built i) (g s) ∙ h s

both : (is js : List Item) (x y : Tree) → Gives is x → Gives js y → (s : List Tree) → rebuild (is ++ js) s ≡ y ∷ x ∷ s
both is js x y g h s = rebuild-append is js s ∙ ap (rebuild js) (g s) ∙ h (x ∷ s)

over-two : (is js : List Item) (i : Item) (x y z : Tree)
    → Gives is x → Gives js y → ((s : List Tree) → built i (y ∷ x ∷ s) ≡ z ∷ s) → Gives ((is ++ js) ++ (i ∷ [])) z
unfolding rebuild
over-two is js i x y z g h k s = rebuild-append (is ++ js) (i ∷ []) s ∙ ap (built i) (both is js x y g h s) ∙ k s

over-three : (is js ks : List Item) (i : Item) (w x y z : Tree)
    → Gives is w → Gives js x → Gives ks y → ((s : List Tree) → built i (y ∷ x ∷ w ∷ s) ≡ z ∷ s) → Gives ((is ++ (js ++ ks)) ++ (i ∷ [])) z
unfolding rebuild
over-three is js ks i w x y z f g h k s =
    rebuild-append (is ++ (js ++ ks)) (i ∷ []) s
    ∙ ap (built i) (rebuild-append is (js ++ ks) s ∙ ap (rebuild (js ++ ks)) (f s) ∙ both js ks x y g h (w ∷ s))
    ∙ k s

-- ---- what the grammar writes is built again from its items

abbrev Exps : Exp → Type 0
Exps e = Gives (items_exp e) (is_exp e)

abbrev Cmds : Cmd → Type 0
Cmds c = Gives (items_cmd c) (is_cmd c)

abbrev Again : Level → Type 0
Again (an_operand e) = Exps e
Again (a_selection e) = Exps e
Again (a_difference e) = Exps e
Again (a_procedure e) = Exps e
Again (an_expression e) = Exps e
Again (a_tested t c) = Gives (items_test t) (is_test t) × Cmds c
Again (a_command c) = Cmds c

again-difference : (a b : Exp) → Exps a → Exps b → Exps (diff 0 a b)
unfolding items_exp built made makers of_two exp_of
again-difference a b g h = over-two (items_exp a) (items_exp b) (put 3 0) (is_exp a) (is_exp b) (is_exp (diff 0 a b)) g h (λ s. refl)

again-selection : (a b : Exp) → Exps a → Exps b → Exps (select 0 a b)
unfolding items_exp built made makers of_two exp_of
again-selection a b g h = over-two (items_exp a) (items_exp b) (put 6 0) (is_exp a) (is_exp b) (is_exp (select 0 a b)) g h (λ s. refl)

again-assignment : (a b c : Exp) → Exps a → Exps b → Exps c → Cmds (assign_field 0 a b c)
unfolding items_exp built made makers of_three exp_of
again-assignment a b c f g h =
    over-three (items_exp a) (items_exp b) (items_exp c) (put 36 0) (is_exp a) (is_exp b) (is_exp c) (is_cmd (assign_field 0 a b c)) f g h (λ s. refl)

again : {l : Level} {us : List Tok} → Written l us → Again l
unfolding items_exp built made makers rebuild of_one of_two of_three exp_of test_of cmd_of
again L.a-field = λ s. refl
again (L.a-number h) = λ s. refl
again (L.a-negative h) = λ s. refl
again L.a-null = λ s. refl
again L.a-name = λ s. refl
again (L.a-group w) = again w
again (L.one-operand w) = again w
again (L.dotted {a = a} {b = b} v w) = again-selection a b (again v) (again w)
again (L.one-selection w) = again w
again (L.less-a-selection {a = a} {b = b} v m w) = again-difference a b (again v) (again w)
again (L.a-proc {y = y} {c = c} w) = over-one (items_cmd c) (put 7 y) (is_cmd c) (is_exp (proc 0 y c)) (again w) (λ s. refl)
again (L.closed w) = again w
again (L.only-a-proc w) = again w
again (L.ends-dot-proc {a = a} {b = b} v w) = again-selection a b (again v) (again w)
again (L.ends-minus-proc {a = a} {b = b} v m w) = again-difference a b (again v) (again w)
again (L.ends-minus-dot-proc {a = a} {b = b} {c = c} u m v w) = again-difference a (select 0 b c) (again u) (again-selection b c (again v) (again w))
again (L.says-true w) = (λ s. refl, again w)
again (L.says-false w) = (λ s. refl, again w)
again (L.are-equal {a = a} {b = b} u v w n) =
    (over-two (items_exp a) (items_exp b) (put 18 0) (is_exp a) (is_exp b) (is_test (equal 0 a b)) (again u) (again v) (λ s. refl), again w)
again (L.is-less {a = a} {b = b} u v w n) =
    (over-two (items_exp a) (items_exp b) (put 19 0) (is_exp a) (is_exp b) (is_test (less 0 a b)) (again u) (again v) (λ s. refl), again w)
again (L.declares {x = x} {c = c} w) = over-one (items_cmd c) (put 32 x) (is_cmd c) (is_cmd (var 0 x c)) (again w) (λ s. refl)
again (L.calls {a = a} {b = b} v w) =
    over-two (items_exp a) (items_exp b) (put 33 0) (is_exp a) (is_exp b) (is_cmd (call 0 a b)) (again v) (again w) (λ s. refl)
again L.allocates = λ s. refl
again (L.assigns {x = x} {e = e} w) = over-one (items_exp e) (put 35 x) (is_exp e) (is_cmd (assign 0 x e)) (again w) (λ s. refl)
again (L.assigns-field {a = a} {b = b} {c = c} u v w) = again-assignment a b c (again u) (again v) (again w)
again (L.assigns-at-proc {a = a} {b = b} {c = c} u v w) = again-assignment a b c (again u) (again v) (again w)
again L.skips = λ s. refl
again (L.in-sequence {c = c} {d = d} v w) =
    over-two (items_cmd c) (items_cmd d) (put 38 0) (is_cmd c) (is_cmd d) (is_cmd (seq 0 c d)) (again v) (again w) (λ s. refl)
again (L.in-parallel {c = c} {d = d} v w) =
    over-two (items_cmd c) (items_cmd d) (put 41 0) (is_cmd c) (is_cmd d) (is_cmd (par 0 c d)) (again v) (again w) (λ s. refl)
again (L.repeats {t = t} {c = c} w) =
    over-two (items_test t) (items_cmd c) (put 39 0) (is_test t) (is_cmd c) (is_cmd (while 0 t c)) (again w).0 (again w).1 (λ s. refl)
again (L.chooses {t = t} {c = c} {d = d} v w) =
    over-three (items_test t) (items_cmd c) (items_cmd d) (put 40 0) (is_test t) (is_cmd c) (is_cmd d) (is_cmd (if 0 t c d))
    (again v).0 (again v).1 (again w) (λ s. refl)
again (L.in-atom {c = c} w) = over-one (items_cmd c) (put 42 0) (is_cmd c) (is_cmd (atom 0 c)) (again w) (λ s. refl)

-- items tell written trees apart
pub same-items : {c d : Cmd} {ts us : List Tok} → Written (a_command c) ts → Written (a_command d) us → items_cmd c ≡ items_cmd d → c ≡ d
same-items {c} {d} v w e =
    let trees : ◌≡◌ {A = List Tree} (is_cmd c ∷ []) (is_cmd d ∷ []) = sym (again v []) ∙ ap (λ is. rebuild is []) e ∙ again w [] in
    cc

pub one-reading : {c d : Cmd} {ts : List Tok} → Written (a_command c) ts → Written (a_command d) ts → c ≡ d
one-reading {c} {d} {ts} v w =
    let once : reading ts ≡ some (items_cmd c) = reads_all v in
    let twice : reading ts ≡ some (items_cmd d) = reads_all w in
    same-items v w (cc)

-- and by the rules of the paper, with the conditions
pub one-tree : {c d : Cmd} {ts : List Tok} → Writes (G.a_command c) ts → Writes (G.a_command d) ts → c ≡ d
one-tree v w = one-reading (levels-write v) (levels-write w)
