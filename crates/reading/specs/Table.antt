-- How a text is read, one token after the other, with a stack of what is still due and no way back. A token looks at the top of the stack: it is
-- taken, and other things are due in its place; or what stood there is over, and what is due below it looks; or it is refused. Nodes come out
-- children first. Nobody has to believe this table: proofs/ shows that what it reads is what the grammar writes, and that it refuses a token exactly
-- where no text goes on with it. Assumes nothing.
use Rattle.std.specs.Prelude.{ℕ, cond, List, [], ◌∷◌, ◌++◌, eqb, ltb}
use Rattle.std.proofs.Math.Option.{Option, none, some}
use Rattle.grammar.specs.Tokens.{Tok, kind_of, value_of}
use Rattle.grammar.specs.Grammar.{negated}
use Rattle.reading.specs.Items.{Item, put}

-- ---- what is still to come

pub data Due : Type 0 where
  command : Due
  body : Due  -- a command behind an operand: no sign may begin it
  var_name : Due
  var_semi : ℕ → Due
  malloc_open : Due
  malloc_name : Due
  atom_open : Due
  middle : Due  -- ; or ||, in braces
  shut : ℕ → Due  -- } and then the node of this tag
  otherwise : Due  -- else
  close : Due  -- ) of a group
  close_node : ℕ → ℕ → Due  -- ) and then this node
  node : ℕ → ℕ → Due  -- this node, with no token
  test : Due
  test_left : Due  -- behind the left side's operands, no minus open
  test_minus : Due  -- behind the operands behind a minus
  operand : Due
  negative : Due  -- the digits behind a sign
  name_first : ℕ → Due  -- a command began with this name
  first : Due  -- a command began with a selection
  first_dot : Due
  first_dotted : Due
  first_minus : Due
  becomes_due : Due
  expression : Due
  sel : Due  -- in an expression, behind a selection
  sel_dot : Due
  after_minus : Due
  sel_minus : Due  -- in an expression, behind a selection behind a minus
  sel_minus_dot : Due
  proc_name : Due
  proc_colon : ℕ → Due

-- what a token does to what is due
pub data Act : Type 0 where
  take : List Due → List Item → Act  -- it is taken; this is due instead; these nodes come out first
  pass : List Item → Act  -- nothing is due here any more: these nodes come out, and the next thing due looks at the token
  refuse : Act

-- a node comes out before anything else does
abbrev pub after : ℕ → ℕ → Act → Act
after t v (take ds is) = take ds (put t v ∷ is)
after t v (pass is) = pass (put t v ∷ is)
after t v refuse = refuse

-- ---- the table: a kind of token, and what it does

pub data Row : Type 0 where
  on : ℕ → (ℕ → Act) → Row  -- kind; of the token's value

unfoldable pub row_for : ℕ → ℕ → List Row → Act → Act
row_for k v [] d = d
row_for k v (on j f ∷ rs) d = cond (eqb k j) (f v) (row_for k v rs d)

-- an integer without a sign, and with one
unfoldable pub plain : ℕ → Act → Act
plain n a = cond (ltb n 2147483648) a refuse

unfoldable pub signed : ℕ → Act → Act
signed n a = cond (ltb n 2147483649) a refuse

-- an operand, and then these
unfoldable pub operands : List Due → List Row
operands ds =
    on 1 (λ v. take ds (put 5 v ∷ []))
    ∷ on 2 (λ v. take ds (put 1 v ∷ []))
    ∷ on 3 (λ v. plain v (take ds (put 2 v ∷ [])))
    ∷ on 4 (λ v. take (negative ∷ ds) [])
    ∷ on 6 (λ v. take ds (put 4 0 ∷ []))
    ∷ on 17 (λ v. take (expression ∷ close ∷ ds) [])
    ∷ []

unfoldable pub commands : List Row
commands =
    on 1 (λ v. take (name_first v ∷ []) [])
    ∷ on 2 (λ v. take (first ∷ []) (put 1 v ∷ []))
    ∷ on 3 (λ v. plain v (take (first ∷ []) (put 2 v ∷ [])))
    ∷ on 6 (λ v. take (first ∷ []) (put 4 0 ∷ []))
    ∷ on 17 (λ v. take (expression ∷ close ∷ first ∷ []) [])
    ∷ on 10 (λ v. take (var_name ∷ []) [])
    ∷ on 11 (λ v. take (malloc_open ∷ []) [])
    ∷ on 12 (λ v. take [] (put 37 0 ∷ []))
    ∷ on 13 (λ v. take (test ∷ node 39 0 ∷ []) [])
    ∷ on 14 (λ v. take (test ∷ otherwise ∷ []) [])
    ∷ on 16 (λ v. take (atom_open ∷ []) [])
    ∷ on 19 (λ v. take (command ∷ middle ∷ []) [])
    ∷ []

-- a minus of either kind
unfoldable pub minuses : List Due → List Row
minuses ds = on 4 (λ v. take ds []) ∷ on 5 (λ v. take ds []) ∷ []

unfoldable pub arguments : List Row
arguments = on 17 (λ v. take (expression ∷ close_node 33 0 ∷ []) []) ∷ []

unfoldable pub firsts : List Row
firsts = on 23 (λ v. take (first_dot ∷ []) []) ∷ (minuses (operand ∷ first_minus ∷ []) ++ arguments)

unfoldable pub sides : List Row  -- in a test, behind its left side
sides =
    minuses (operand ∷ test_minus ∷ [])
    ++ (on 25 (λ v. take (expression ∷ node 18 0 ∷ body ∷ []) [])
    ∷ on 26 (λ v. take (expression ∷ node 19 0 ∷ body ∷ []) [])
    ∷ [])

unfoldable pub does : Due → ℕ → ℕ → Act
does command k v = row_for k v (on 4 (λ v. take (negative ∷ first ∷ []) []) ∷ commands) refuse
does body k v = row_for k v commands refuse
does var_name k v = row_for k v (on 1 (λ x. take (var_semi x ∷ []) []) ∷ []) refuse
does (var_semi x) k v = row_for k v (on 21 (λ v. take (command ∷ node 32 x ∷ []) []) ∷ []) refuse
does malloc_open k v = row_for k v (on 17 (λ v. take (malloc_name ∷ []) []) ∷ []) refuse
does malloc_name k v = row_for k v (on 1 (λ x. take (close_node 34 x ∷ []) []) ∷ []) refuse
does atom_open k v = row_for k v (on 17 (λ v. take (command ∷ close_node 42 0 ∷ []) []) ∷ []) refuse
does middle k v = row_for k v (on 21 (λ v. take (command ∷ shut 38 ∷ []) []) ∷ on 22 (λ v. take (command ∷ shut 41 ∷ []) []) ∷ []) refuse
does (shut t) k v = row_for k v (on 20 (λ v. take [] (put t 0 ∷ [])) ∷ []) refuse
does otherwise k v = row_for k v (on 15 (λ v. take (command ∷ node 40 0 ∷ []) []) ∷ []) refuse
does close k v = row_for k v (on 18 (λ v. take [] []) ∷ []) refuse
does (close_node t x) k v = row_for k v (on 18 (λ v. take [] (put t x ∷ [])) ∷ []) refuse
does (node t x) k v = pass (put t x ∷ [])
does test k v =
    row_for k v
    (on 8 (λ v. take (command ∷ []) (put 16 0 ∷ [])) ∷ on 9 (λ v. take (command ∷ []) (put 17 0 ∷ [])) ∷ operands (test_left ∷ []))
    refuse
does test_left k v = row_for k v (on 23 (λ v. take (operand ∷ node 6 0 ∷ test_left ∷ []) []) ∷ sides) refuse
does test_minus k v =
    row_for k v (on 23 (λ v. take (operand ∷ node 6 0 ∷ test_minus ∷ []) []) ∷ []) (after 3 0 (row_for k v sides refuse))
does operand k v = row_for k v (operands []) refuse
does negative k v = row_for k v (on 3 (λ n. signed n (take [] (put 2 (negated n) ∷ []))) ∷ []) refuse
does (name_first x) k v = row_for k v (on 24 (λ v. take (expression ∷ node 35 x ∷ []) []) ∷ []) (after 5 x (row_for k v firsts refuse))
does first k v = row_for k v firsts refuse
does first_dot k v = row_for k v (on 7 (λ v. take (proc_name ∷ becomes_due ∷ []) []) ∷ operands (first_dotted ∷ [])) refuse
does first_dotted k v = row_for k v (on 24 (λ v. take (expression ∷ node 36 0 ∷ []) []) ∷ []) (after 6 0 (row_for k v firsts refuse))
does first_minus k v =
    row_for k v (on 23 (λ v. take (operand ∷ node 6 0 ∷ first_minus ∷ []) []) ∷ [])
    (after 3 0 (row_for k v (minuses (operand ∷ first_minus ∷ []) ++ arguments) refuse))
does becomes_due k v = row_for k v (on 24 (λ v. take (expression ∷ node 36 0 ∷ []) []) ∷ []) refuse
does expression k v = row_for k v (on 7 (λ v. take (proc_name ∷ []) []) ∷ operands (sel ∷ [])) refuse
does sel k v = row_for k v (on 23 (λ v. take (sel_dot ∷ []) []) ∷ minuses (after_minus ∷ [])) (pass [])
does sel_dot k v = row_for k v (on 7 (λ v. take (proc_name ∷ node 6 0 ∷ []) []) ∷ operands (node 6 0 ∷ sel ∷ [])) refuse
does after_minus k v = row_for k v (on 7 (λ v. take (proc_name ∷ node 3 0 ∷ []) []) ∷ operands (sel_minus ∷ [])) refuse
does sel_minus k v =
    row_for k v (on 23 (λ v. take (sel_minus_dot ∷ []) []) ∷ []) (after 3 0 (row_for k v (minuses (after_minus ∷ [])) (pass [])))
does sel_minus_dot k v =
    row_for k v (on 7 (λ v. take (proc_name ∷ node 6 0 ∷ node 3 0 ∷ []) []) ∷ operands (node 6 0 ∷ sel_minus ∷ [])) refuse
does proc_name k v = row_for k v (on 1 (λ y. take (proc_colon y ∷ []) []) ∷ []) refuse
does (proc_colon y) k v = row_for k v (on 27 (λ v. take (command ∷ node 7 y ∷ []) []) ∷ []) refuse

-- ---- a token, and a text

pub data Fed : Type 0 where
  went : List Due → List Item → Fed  -- what is due now, and the nodes so far
  stuck : Fed

-- the token is taken, or the next thing due looks at it
abbrev pub onward : Act → List Due → List Item → (List Item → Fed) → Fed
onward (take es js) ds is next = went (es ++ ds) (is ++ js)
onward (pass js) ds is next = next (is ++ js)
onward refuse ds is next = stuck

unfoldable pub feed : List Due → ℕ → ℕ → List Item → Fed
feed [] k v is = stuck
feed (d ∷ ds) k v is = onward (does d k v) ds is (λ js. feed ds k v js)

-- the tokens one after the other
abbrev pub fed_on : Fed → (List Due → List Item → Fed) → Fed
fed_on (went ds is) next = next ds is
fed_on stuck next = stuck

unfoldable pub feeds : List Tok → List Due → List Item → Fed
feeds [] ds is = went ds is
feeds (t ∷ ts) ds is = fed_on (feed ds (kind_of t) (value_of t) is) (λ es js. feeds ts es js)

-- the end of a text is a token of kind 0, which nothing takes
abbrev pub over : Act → List Item → (List Item → Option (List Item)) → Option (List Item)
over (take es js) is next = none
over (pass js) is next = next (is ++ js)
over refuse is next = none

unfoldable pub finish : List Due → List Item → Option (List Item)
finish [] is = some is
finish (d ∷ ds) is = over (does d 0 0) is (λ js. finish ds js)

abbrev pub finished : Fed → Option (List Item)
finished (went ds is) = finish ds is
finished stuck = none

-- what is due at the start
abbrev pub start : List Due
start = command ∷ []

-- the nodes of a text, children first, left before right; none where it is no text of the grammar
unfoldable pub reading : List Tok → Option (List Item)
reading ts = finished (feeds ts start [])
