-- Which things due a token passes: a node that waits, and the end of an expression; whether it does, its kind alone decides. Assumes nothing.
use Prim.Native.Nat.{ℕ}
use mathlib.Core.Path.{◌≡◌, refl, sym, ap, ◌∙◌}
use mathlib.Core.Bool.{Bool, true, false, cond, true≢false}
use mathlib.Core.List.{List, [], ◌∷◌, ◌++◌, append_assoc, append-nil}
use lib.Dec.{eqb, ltb}
use Rattle.grammar.specs.Grammar.{negated}
use Rattle.reading.specs.Items.{Item, put}
use Rattle.reading.specs.Table.{Due, command, body, var_name, var_semi, malloc_open, malloc_name, atom_open, middle, shut, otherwise, close, close_node, node, test, test_left, test_minus, operand, negative, name_first, first, first_dot, first_dotted, first_minus, becomes_due, expression, sel, sel_dot, after_minus, sel_minus, sel_minus_dot, proc_name, proc_colon, Act, take, pass, refuse, after, Row, on, row_for, plain, signed, operands, commands, minuses, arguments, firsts, sides, does, feed}
use Rattle.dues.specs.Stack.{passing, PassesAll, passed_items}

abbrev is_pass : Act → Bool
is_pass (take ds is) = false
is_pass (pass is) = true
is_pass refuse = false

-- no row of these passes
abbrev NonePass : List Row → Type 0
NonePass [] = Unit {0}
NonePass (on j f ∷ rs) = ((v : ℕ) → is_pass (f v) ≡ false) × NonePass rs

-- nor does what is looked up in them
decides : (b : Bool) (a c : Act) → is_pass a ≡ false → is_pass c ≡ false → is_pass (cond b a c) ≡ false
decides true a c p q = p
decides false a c p q = q

none_passes : (k v : ℕ) (rs : List Row) (d : Act) → NonePass rs → is_pass d ≡ false → is_pass (row_for k v rs d) ≡ false
unfolding row_for
none_passes k v [] d h e = e
none_passes k v (on j f ∷ rs) d h e = decides (eqb k j) (f v) (row_for k v rs d) (h.0 v) (none_passes k v rs d h.1 e)

both-pass : (rs ss : List Row) → NonePass rs → NonePass ss → NonePass (rs ++ ss)
both-pass [] ss h g = g
both-pass (on j f ∷ rs) ss h g = (h.0, both-pass rs ss h.1 g)

after-passes : (t v : ℕ) (a : Act) → is_pass a ≡ false → is_pass (after t v a) ≡ false
after-passes t v (take ds is) e = refl
after-passes t v (pass is) e = e
after-passes t v refuse e = refl

plain_passes : (v : ℕ) (ds : List Due) (is : List Item) → is_pass (plain v (take ds is)) ≡ false
unfolding plain
plain_passes v ds is = decides (ltb v 2147483648) (take ds is) refuse refl refl

signed-passes : (v : ℕ) (ds : List Due) (is : List Item) → is_pass (signed v (take ds is)) ≡ false
unfolding signed
signed-passes v ds is = decides (ltb v 2147483649) (take ds is) refuse refl refl

-- ---- the shared rows

operands-pass : (ds : List Due) → NonePass (operands ds)
unfolding operands
operands-pass ds =
    (λ v. refl, (λ v. refl, (λ v. plain_passes v ds (put 2 v ∷ []), (λ v. refl, (λ v. refl, (λ v. refl, tt))))))

commands-pass : NonePass commands
unfolding commands
commands-pass =
    (λ v. refl, (λ v. refl, (λ v. plain_passes v (first ∷ []) (put 2 v ∷ []), (λ v. refl, (λ v. refl, (λ v. refl, (λ v. refl, (λ v. refl, (λ v. refl, (λ v. refl, (λ v. refl, (λ v. refl, tt))))))))))))

minuses-pass : (ds : List Due) → NonePass (minuses ds)
unfolding minuses
minuses-pass ds = (λ v. refl, (λ v. refl, tt))

arguments-pass : NonePass arguments
unfolding arguments
arguments-pass = (λ v. refl, tt)

firsts-pass : NonePass firsts
unfolding firsts
firsts-pass = (λ v. refl, both-pass (minuses (operand ∷ first_minus ∷ [])) arguments (minuses-pass _) arguments-pass)

sides-pass : NonePass sides
unfolding sides
sides-pass = both-pass (minuses (operand ∷ test_minus ∷ [])) _ (minuses-pass _) (λ v. refl, (λ v. refl, tt))

-- ---- the things due

-- a row of one kind
single : (k v j : ℕ) (f : ℕ → Act) → ((v : ℕ) → is_pass (f v) ≡ false) → is_pass (row_for k v (on j f ∷ []) refuse) ≡ false
single k v j f h = none_passes k v (on j f ∷ []) refuse (h, tt) refl

-- a row of one kind before others
before : (k v j : ℕ) (f : ℕ → Act) (rs : List Row) → ((v : ℕ) → is_pass (f v) ≡ false) → NonePass rs → is_pass (row_for k v (on j f ∷ rs) refuse) ≡ false
before k v j f rs h g = none_passes k v (on j f ∷ rs) refuse (h, g) refl

-- and with a node first, where it is of another kind
behind : (k v j t x : ℕ) (f : ℕ → Act) (rs : List Row) → ((v : ℕ) → is_pass (f v) ≡ false) → NonePass rs → is_pass (row_for k v (on j f ∷ []) (after t x (row_for k v rs refuse))) ≡ false
behind k v j t x f rs h g =
    none_passes k v (on j f ∷ []) (after t x (row_for k v rs refuse)) (h, tt) (after-passes t x (row_for k v rs refuse) (none_passes k v rs refuse g refl))

-- it can't be passed, so from its being passed follows anything
never : {A : Type 0} (a : Act) (is : List Item) → is_pass a ≡ false → a ≡ pass is → A
never a is e p = absurd (true≢false (sym (ap is_pass p) ∙ e))

-- of three kinds none, or one that is taken
three-others : (a b c : Bool) (x y z : Act) (is js : List Item)
    → is_pass x ≡ false → is_pass y ≡ false → is_pass z ≡ false → cond a x (cond b y (cond c z (pass is))) ≡ pass js → cond a x (cond b y (cond c z (pass is))) ≡ pass is
three-others true b c x y z is js p q r e = never x js p e
three-others false true c x y z is js p q r e = never y js q e
three-others false false true x y z is js p q r e = never z js r e
three-others false false false x y z is js p q r e = refl

-- the same where a node comes out first behind the first of them
behind-others : (a b c : Bool) (is : List Item)
    → cond a (take (sel_minus_dot ∷ []) []) (after 3 0 (cond b (take (after_minus ∷ []) []) (cond c (take (after_minus ∷ []) []) (pass [])))) ≡ pass is
    → cond a (take (sel_minus_dot ∷ []) []) (after 3 0 (cond b (take (after_minus ∷ []) []) (cond c (take (after_minus ∷ []) []) (pass [])))) ≡ pass (put 3 0 ∷ [])
behind-others true b c is e = never _ is refl e
behind-others false true c is e = never _ is refl e
behind-others false false true is e = never _ is refl e
behind-others false false false is e = refl

sel-passes : (k : ℕ) (is : List Item) → does sel k 0 ≡ pass is → (v : ℕ) → does sel k v ≡ pass []
unfolding does row_for minuses
sel-passes k is e v = three-others (eqb k 23) (eqb k 4) (eqb k 5) _ _ _ [] is refl refl refl e

sel-minus-passes : (k : ℕ) (is : List Item) → does sel_minus k 0 ≡ pass is → (v : ℕ) → does sel_minus k v ≡ pass (put 3 0 ∷ [])
unfolding does row_for minuses
sel-minus-passes k is e v = behind-others (eqb k 23) (eqb k 4) (eqb k 5) is e

-- whatever the token's value is: what is passed once is passed with its own node
pub passes-always : (d : Due) (k : ℕ) (is : List Item) → does d k 0 ≡ pass is → (v : ℕ) → does d k v ≡ pass (passing d)
unfolding does passing
passes-always command k is e v = never _ is (before k 0 4 _ commands (λ v. refl) commands-pass) e
passes-always body k is e v = never _ is (none_passes k 0 commands refuse commands-pass refl) e
passes-always var_name k is e v = never _ is (single k 0 1 _ (λ v. refl)) e
passes-always (var_semi x) k is e v = never _ is (single k 0 21 _ (λ v. refl)) e
passes-always malloc_open k is e v = never _ is (single k 0 17 _ (λ v. refl)) e
passes-always malloc_name k is e v = never _ is (single k 0 1 _ (λ v. refl)) e
passes-always atom_open k is e v = never _ is (single k 0 17 _ (λ v. refl)) e
passes-always middle k is e v = never _ is (before k 0 21 _ _ (λ v. refl) (λ v. refl, tt)) e
passes-always (shut t) k is e v = never _ is (single k 0 20 _ (λ v. refl)) e
passes-always otherwise k is e v = never _ is (single k 0 15 _ (λ v. refl)) e
passes-always close k is e v = never _ is (single k 0 18 _ (λ v. refl)) e
passes-always (close_node t x) k is e v = never _ is (single k 0 18 _ (λ v. refl)) e
passes-always (node t x) k is e v = refl
passes-always test k is e v = never _ is (before k 0 8 _ _ (λ v. refl) (λ v. refl, operands-pass (test_left ∷ []))) e
passes-always test_left k is e v = never _ is (before k 0 23 _ sides (λ v. refl) sides-pass) e
passes-always test_minus k is e v = never _ is (behind k 0 23 3 0 _ sides (λ v. refl) sides-pass) e
passes-always operand k is e v = never _ is (none_passes k 0 (operands []) refuse (operands-pass []) refl) e
passes-always negative k is e v = never _ is (single k 0 3 _ (λ v. signed-passes v [] (put 2 (negated v) ∷ []))) e
passes-always (name_first x) k is e v = never _ is (behind k 0 24 5 x _ firsts (λ v. refl) firsts-pass) e
passes-always first k is e v = never _ is (none_passes k 0 firsts refuse firsts-pass refl) e
passes-always first_dot k is e v = never _ is (before k 0 7 _ _ (λ v. refl) (operands-pass (first_dotted ∷ []))) e
passes-always first_dotted k is e v = never _ is (behind k 0 24 6 0 _ firsts (λ v. refl) firsts-pass) e
passes-always first_minus k is e v = never _ is (behind k 0 23 3 0 _ _ (λ v. refl) (both-pass (minuses (operand ∷ first_minus ∷ [])) arguments (minuses-pass _) arguments-pass)) e
passes-always becomes_due k is e v = never _ is (single k 0 24 _ (λ v. refl)) e
passes-always expression k is e v = never _ is (before k 0 7 _ _ (λ v. refl) (operands-pass (sel ∷ []))) e
passes-always sel k is e v = sel-passes k is e v
passes-always sel_dot k is e v = never _ is (before k 0 7 _ _ (λ v. refl) (operands-pass (node 6 0 ∷ sel ∷ []))) e
passes-always after_minus k is e v = never _ is (before k 0 7 _ _ (λ v. refl) (operands-pass (sel_minus ∷ []))) e
passes-always sel_minus k is e v = sel-minus-passes k is e v
passes-always sel_minus_dot k is e v = never _ is (before k 0 7 _ _ (λ v. refl) (operands-pass (node 6 0 ∷ sel_minus ∷ []))) e
passes-always proc_name k is e v = never _ is (single k 0 1 _ (λ v. refl)) e
passes-always (proc_colon y) k is e v = never _ is (single k 0 27 _ (λ v. refl)) e

-- so what stands above is passed on the way down
pub feed-above : (above left : List Due) (k v : ℕ) (is : List Item) → PassesAll above k → feed (above ++ left) k v is ≡ feed left k v (is ++ passed_items above)
unfolding feed passed_items
feed-above [] left k v is h = ap (λ (js : List Item). feed left k v js) (sym (append-nil is))
feed-above (d ∷ above) left k v is h =
    rw (h.0 v)
    (feed-above above left k v (is ++ passing d) h.1
    ∙ ap (λ (js : List Item). feed left k v js) (append_assoc is (passing d) (passed_items above)))
