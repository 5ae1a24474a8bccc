-- Whatever is due can be brought to an end: each thing due has tokens that complete it, so every stack has. These tokens begin with no dot and no
-- minus: `sel` and `sel_minus` are over when another token comes, but a dot or a minus they would take. Assumes nothing.
use Prim.Native.Nat.{ℕ, ◌<◌}
use mathlib.Core.Path.{◌≡◌, refl, ◌∙◌}
use mathlib.Core.Bool.{true, false}
use mathlib.Core.Option.{some}
use mathlib.Core.List.{List, [], ◌∷◌, ◌++◌}
use native.Mathlib.Omega.{arith}
use lib.Dec.{eqb, ltb}
use borrow.Author.Tests.{ne_eqb, ltb-true}
use Rattle.grammar.specs.Tokens.{Tok, name, mark, number, kind_of, value_of}
use Rattle.reading.specs.Items.{Item, put}
use Rattle.reading.specs.Marks.{IsMark, Known}
use Rattle.reading.specs.Table.{Due, take, pass, row_for, does, operands, commands, minuses, arguments, firsts, sides, signed, feed, feeds, finish, finished}
use Rattle.reading.specs.Table as T

-- a kind that is no sign, no minus and no dot
record Clear (k : ℕ) : Type 0 where
  no_sign : eqb k 4 ≡ false
  no_minus : eqb k 5 ≡ false
  no-dot : eqb k 23 ≡ false

abbrev BeginsClear : List Tok → Type 0
BeginsClear [] = Unit {0}
BeginsClear (t ∷ ts) = Clear (kind_of t)

-- tokens that bring a stack to the end of a text, whatever came out before
pub record Completed (ds : List Due) : Type 0 where
  pub rest : List Tok
  pub known : Known rest
  clear : BeginsClear rest
  pub ends : (is : List Item) → (js : List Item) × (finished (feeds rest ds is) ≡ some js)

-- ---- a thing due that a token takes, and one that every clear token passes

by_token : (d : Due) (t : Tok) {es ds : List Due} {js : List Item}
    → IsMark t → Clear (kind_of t) → does d (kind_of t) (value_of t) ≡ take es js → Completed (es ++ ds) → Completed (d ∷ ds)
unfolding feeds feed
by_token d t {es} {js} m k e c = record { rest = t ∷ c.rest; known = (m, c.known); clear = k; ends = λ is. rw e (c.ends (is ++ js)) }

abbrev Passes : Due → List Item → Type 0
Passes d js = (k v : ℕ) → Clear k → does d k v ≡ pass js

end-clear : Clear 0
end-clear = record { no_sign = refl; no_minus = refl; no-dot = refl }

passed : (d : Due) (js : List Item) (ds : List Due) (ts : List Tok)
    → Passes d js → BeginsClear ts → (is : List Item) → finished (feeds ts (d ∷ ds) is) ≡ finished (feeds ts ds (is ++ js))
unfolding feeds feed finish
passed d js ds [] e k is = rw (e 0 0 end-clear) refl
passed d js ds (t ∷ ts) e k is = rw (e (kind_of t) (value_of t) k) refl

by-passing : (d : Due) (js : List Item) {ds : List Due} → Passes d js → Completed ds → Completed (d ∷ ds)
by-passing d js {ds} e c =
    record {
      rest = c.rest;
      known = c.known;
      clear = c.clear;
      ends = λ is. ((c.ends (is ++ js)).0, passed d js ds c.rest e c.clear is ∙ (c.ends (is ++ js)).1);
    }

-- ---- each thing due

node-passes : (t x : ℕ) → Passes (T.node t x) (put t x ∷ [])
unfolding does
node-passes t x k v c = refl

sel-passes : Passes T.sel []
unfolding does row_for minuses
sel-passes k v c = rw (c.no_sign, c.no_minus, c.no-dot) refl

sel_minus-passes : Passes T.sel_minus (put 3 0 ∷ [])
unfolding does row_for minuses
sel_minus-passes k v c = rw (c.no_sign, c.no_minus, c.no-dot) refl

-- a mark is clear if its kind is above 5 and it isn't the dot
mark-clear : (k : ℕ) → ltb 5 k ≡ true → eqb k 23 ≡ false → Clear k
mark-clear k h n =
    let l : 5 < k = ltb-true 5 k h in
    record { no_sign = ne_eqb k 4 (λ e. omega arith); no_minus = ne_eqb k 5 (λ e. omega arith); no-dot = n }

by-mark : (d : Due) (k : ℕ) {es ds : List Due} {js : List Item}
    → ltb 5 k ≡ true → eqb k 23 ≡ false → does d k 0 ≡ take es js → Completed (es ++ ds) → Completed (d ∷ ds)
unfolding kind_of value_of
by-mark d k h n e c =
    let l : 5 < k = ltb-true 5 k h in
    by_token d (mark k) (omega arith) (mark-clear k h n) e c

by_name_lem : (d : Due) {es ds : List Due} {js : List Item} → does d 1 0 ≡ take es js → Completed (es ++ ds) → Completed (d ∷ ds)
unfolding kind_of value_of
by_name_lem d e c = by_token d (name 0) tt (record { no_sign = refl; no_minus = refl; no-dot = refl }) e c

by_number : (d : Due) {es ds : List Due} {js : List Item} → does d 3 0 ≡ take es js → Completed (es ++ ds) → Completed (d ∷ ds)
unfolding kind_of value_of
by_number d e c = by_token d (number 0) tt (record { no_sign = refl; no_minus = refl; no-dot = refl }) e c

a-node : (t x : ℕ) {ds : List Due} → Completed ds → Completed (T.node t x ∷ ds)
a-node t x c = by-passing (T.node t x) (put t x ∷ []) (node-passes t x) c

a-sel : {ds : List Due} → Completed ds → Completed (T.sel ∷ ds)
a-sel c = by-passing T.sel [] sel-passes c

a-sel_minus : {ds : List Due} → Completed ds → Completed (T.sel_minus ∷ ds)
a-sel_minus c = by-passing T.sel_minus (put 3 0 ∷ []) sel_minus-passes c

a-command : {ds : List Due} → Completed ds → Completed (T.command ∷ ds)
unfolding does row_for commands
a-command c = by-mark T.command 12 refl refl refl c

a_body : {ds : List Due} → Completed ds → Completed (T.body ∷ ds)
unfolding does row_for commands
a_body c = by-mark T.body 12 refl refl refl c

an-expression : {ds : List Due} → Completed ds → Completed (T.expression ∷ ds)
unfolding does row_for operands
an-expression c = by-mark T.expression 6 refl refl refl (a-sel c)

a-closing : (t x : ℕ) {ds : List Due} → Completed ds → Completed (T.close_node t x ∷ ds)
unfolding does row_for
a-closing t x c = by-mark (T.close_node t x) 18 refl refl refl c

a-brace : (t : ℕ) {ds : List Due} → Completed ds → Completed (T.shut t ∷ ds)
unfolding does row_for
a-brace t c = by-mark (T.shut t) 20 refl refl refl c

a-semicolon : (x : ℕ) {ds : List Due} → Completed ds → Completed (T.var_semi x ∷ ds)
unfolding does row_for
a-semicolon x c = by-mark (T.var_semi x) 21 refl refl refl (a-command (a-node 32 x c))

a-colon : (y : ℕ) {ds : List Due} → Completed ds → Completed (T.proc_colon y ∷ ds)
unfolding does row_for
a-colon y c = by-mark (T.proc_colon y) 27 refl refl refl (a-command (a-node 7 y c))

a-malloc-name : {ds : List Due} → Completed ds → Completed (T.malloc_name ∷ ds)
unfolding does row_for
a-malloc-name c = by_name_lem T.malloc_name refl (a-closing 34 0 c)

a-dotted : {ds : List Due} → Completed ds → Completed (T.first_dotted ∷ ds)
unfolding does row_for
a-dotted c = by-mark T.first_dotted 24 refl refl refl (an-expression (a-node 36 0 c))

completes : (d : Due) {ds : List Due} → Completed ds → Completed (d ∷ ds)
unfolding does row_for operands minuses arguments firsts sides signed
completes T.command c = a-command c
completes T.body c = a_body c
completes T.var_name c = by_name_lem T.var_name refl (a-semicolon 0 c)
completes (T.var_semi x) c = a-semicolon x c
completes T.malloc_open c = by-mark T.malloc_open 17 refl refl refl (a-malloc-name c)
completes T.malloc_name c = a-malloc-name c
completes T.atom_open c = by-mark T.atom_open 17 refl refl refl (a-command (a-closing 42 0 c))
completes T.middle c = by-mark T.middle 21 refl refl refl (a-command (a-brace 38 c))
completes (T.shut t) c = a-brace t c
completes T.otherwise c = by-mark T.otherwise 15 refl refl refl (a-command (a-node 40 0 c))
completes T.close c = by-mark T.close 18 refl refl refl c
completes (T.close_node t x) c = a-closing t x c
completes (T.node t x) c = a-node t x c
completes T.test c = by-mark T.test 8 refl refl refl (a-command c)
completes T.test_left c = by-mark T.test_left 25 refl refl refl (an-expression (a-node 18 0 (a_body c)))
completes T.test_minus c = by-mark T.test_minus 25 refl refl refl (an-expression (a-node 18 0 (a_body c)))
completes T.operand c = by-mark T.operand 6 refl refl refl c
completes T.negative c = by_number T.negative refl c
completes (T.name_first x) c = by-mark (T.name_first x) 24 refl refl refl (an-expression (a-node 35 x c))
completes T.first c = by-mark T.first 17 refl refl refl (an-expression (a-closing 33 0 c))
completes T.first_dot c = by-mark T.first_dot 6 refl refl refl (a-dotted c)
completes T.first_dotted c = a-dotted c
completes T.first_minus c = by-mark T.first_minus 17 refl refl refl (an-expression (a-closing 33 0 c))
completes T.becomes_due c = by-mark T.becomes_due 24 refl refl refl (an-expression (a-node 36 0 c))
completes T.expression c = an-expression c
completes T.sel c = a-sel c
completes T.sel_dot c = by-mark T.sel_dot 6 refl refl refl (a-node 6 0 (a-sel c))
completes T.after_minus c = by-mark T.after_minus 6 refl refl refl (a-sel_minus c)
completes T.sel_minus c = a-sel_minus c
completes T.sel_minus_dot c = by-mark T.sel_minus_dot 6 refl refl refl (a-node 6 0 (a-sel_minus c))
completes T.proc_name c = by_name_lem T.proc_name refl (a-colon 0 c)
completes (T.proc_colon y) c = a-colon y c

-- every stack can be brought to an end
pub completed : (ds : List Due) → Completed ds
unfolding feeds finish
completed [] = record { rest = []; known = tt; clear = tt; ends = λ is. (is, refl) }
completed (d ∷ ds) = completes d (completed ds)
