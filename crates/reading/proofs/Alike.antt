-- Reading goes by kinds: tokens of the same kinds lead to stacks that differ only in the names they carry. Values matter in one place, where a
-- number is too large, and 0 isn't: so a token is refused for its kind if it is refused with value 0, and one that is no number whatever its value.
-- Assumes nothing.
use Prim.Native.Nat.{ℕ}
use mathlib.Core.Path.{◌≡◌, refl, ap, subst, ◌∙◌}
use mathlib.Core.Bool.{Bool, true, false, cond}
use mathlib.Core.List.{List, [], ◌∷◌, ◌++◌, map}
use native.Mathlib.Omega.{arith}
use lib.Dec.{eqb, ltb}
use borrow.Author.Tests.{eqb-true}
use Rattle.grammar.specs.Tokens.{Tok, kind_of, value_of}
use Rattle.reading.specs.Items.{Item}
use Rattle.reading.specs.Table.{Due, Act, take, pass, refuse, Row, on, row_for, does, operands, commands, minuses, arguments, firsts, sides, plain, signed, after, Fed, feed, feeds, onward, went, stuck, fed_on}
use Rattle.reading.specs.Table as T

-- ---- alike but for the names they carry

pub data Alike : Due → Due → Type 0 where
  same : {d : Due} → Alike d d
  semis : {x y : ℕ} → Alike (T.var_semi x) (T.var_semi y)
  closings : {t x y : ℕ} → Alike (T.close_node t x) (T.close_node t y)
  nodes : {t x y : ℕ} → Alike (T.node t x) (T.node t y)
  names : {x y : ℕ} → Alike (T.name_first x) (T.name_first y)
  colons : {x y : ℕ} → Alike (T.proc_colon x) (T.proc_colon y)

pub data AllAlike : List Due → List Due → Type 0 where
  none : AllAlike [] []
  more : {d e : Due} {ds es : List Due} → Alike d e → AllAlike ds es → AllAlike (d ∷ ds) (e ∷ es)

turned : {d e : Due} → Alike d e → Alike e d
turned same = same
turned semis = semis
turned closings = closings
turned nodes = nodes
turned names = names
turned colons = colons

through : {d e f : Due} → Alike d e → Alike e f → Alike d f
through same a = a
through semis same = semis
through semis semis = semis
through closings same = closings
through closings closings = closings
through nodes same = nodes
through nodes nodes = nodes
through names same = names
through names names = names
through colons same = colons
through colons colons = colons

pub all_same : (ds : List Due) → AllAlike ds ds
all_same [] = none
all_same (d ∷ ds) = more same (all_same ds)

-- two stacks that are like a third are alike
both-alike : {ds es fs : List Due} → AllAlike ds fs → AllAlike es fs → AllAlike ds es
both-alike none none = none
both-alike (more a g) (more b h) = more (through a (turned b)) (both-alike g h)

append-alike : {ds es fs gs : List Due} → AllAlike ds es → AllAlike fs gs → AllAlike (ds ++ fs) (es ++ gs)
append-alike none h = h
append-alike (more a g) h = more a (append-alike g h)

-- ---- what a token does, and what another of its kind does: if the first isn't refused, neither is the second, unless it is a number other than 0

data Under : Act → Act → Type 0 where
  refused : {a : Act} → Under refuse a
  takes : {ds es : List Due} {is js : List Item} → AllAlike ds es → Under (take ds is) (take es js)
  passes : {is js : List Item} → Under (pass is) (pass js)

-- a value that no row finds too large
abbrev pub Small : ℕ → ℕ → Type 0
Small k v = k ≡ 3 → v ≡ 0

data RowsUnder : List Row → List Row → Type 0 where
  no_row : RowsUnder [] []
  a-row : {k : ℕ} {f g : ℕ → Act} {rs ss : List Row}
      → ((v w : ℕ) → Small k w → Under (f v) (g w)) → RowsUnder rs ss → RowsUnder (on k f ∷ rs) (on k g ∷ ss)

cond-under : (b : Bool) {a a' d d' : Act} → (b ≡ true → Under a a') → Under d d' → Under (cond b a d) (cond b a' d')
cond-under true u w = u refl
cond-under false u w = w

after-under : (t x y : ℕ) {a b : Act} → Under a b → Under (after t x a) (after t y b)
after-under t x y refused = refused
after-under t x y (takes h) = takes h
after-under t x y passes = passes

-- ---- the table's rows

-- a row whose token's value goes into a node at most
steady : {k : ℕ} {ds : List Due} {h g : ℕ → List Item} {rs ss : List Row}
    → RowsUnder rs ss → RowsUnder (on k (λ v. take ds (h v)) ∷ rs) (on k (λ v. take ds (g v)) ∷ ss)
steady {ds = ds} r = a-row (λ v w c. takes (all_same ds)) r

cond-refused : (b : Bool) {a c : Act} → Under a c → Under (cond b a refuse) c
cond-refused true u = u
cond-refused false u = refused

plain-under : (v w : ℕ) {a b : Act} → w ≡ 0 → Under a b → Under (plain v a) (plain w b)
unfolding plain
plain-under v w e u = rw e (cond-refused (ltb v 2147483648) u)

signed-under : (v w : ℕ) {a b : Act} → w ≡ 0 → Under a b → Under (signed v a) (signed w b)
unfolding signed
signed-under v w e u = rw e (cond-refused (ltb v 2147483649) u)

operands-under : (ds : List Due) → RowsUnder (operands ds) (operands ds)
unfolding operands
operands-under ds = steady (steady (a-row (λ v w c. plain-under v w (c refl) (takes (all_same ds))) (steady (steady (steady no_row)))))

commands-under : RowsUnder commands commands
unfolding commands
commands-under =
    a-row (λ v w c. takes (more names none))
    (steady
    (a-row (λ v w c. plain-under v w (c refl) (takes (all_same (T.first ∷ []))))
    (steady (steady (steady (steady (steady (steady (steady (steady (steady no_row)))))))))))

minuses-under : (ds : List Due) {rs ss : List Row} → RowsUnder rs ss → RowsUnder (minuses ds ++ rs) (minuses ds ++ ss)
unfolding minuses
minuses-under ds r = steady (steady r)

arguments-under : RowsUnder arguments arguments
unfolding arguments
arguments-under = steady no_row

firsts-under : RowsUnder firsts firsts
unfolding firsts
firsts-under = steady (minuses-under (T.operand ∷ T.first_minus ∷ []) arguments-under)

sides-under : RowsUnder sides sides
unfolding sides
sides-under = minuses-under (T.operand ∷ T.test_minus ∷ []) (steady (steady no_row))

module _ (k v w : ℕ) (small : Small k w) where
  rows_under : {rs ss : List Row} {a b : Act} → RowsUnder rs ss → Under a b → Under (row_for k v rs a) (row_for k w ss b)
  unfolding row_for
  rows_under no_row u = u
  rows_under (a-row {k = j} h r) u = cond-under (eqb k j) (λ e. h v w (λ i. small (eqb-true k j e ∙ i))) (rows_under r u)

  does-same : (d : Due) → Under (does d k v) (does d k w)
  unfolding does minuses
  does-same T.command = rows_under (steady commands-under) refused
  does-same T.body = rows_under commands-under refused
  does-same T.var_name = rows_under (a-row (λ v w c. takes (more semis none)) no_row) refused
  does-same (T.var_semi x) = rows_under (steady no_row) refused
  does-same T.malloc_open = rows_under (steady no_row) refused
  does-same T.malloc_name = rows_under (a-row (λ v w c. takes (more closings none)) no_row) refused
  does-same T.atom_open = rows_under (steady no_row) refused
  does-same T.middle = rows_under (steady (steady no_row)) refused
  does-same (T.shut t) = rows_under (steady no_row) refused
  does-same T.otherwise = rows_under (steady no_row) refused
  does-same T.close = rows_under (steady no_row) refused
  does-same (T.close_node t x) = rows_under (steady no_row) refused
  does-same (T.node t x) = passes
  does-same T.test = rows_under (steady (steady (operands-under (T.test_left ∷ [])))) refused
  does-same T.test_left = rows_under (steady sides-under) refused
  does-same T.test_minus = rows_under (steady no_row) (after-under 3 0 0 (rows_under sides-under refused))
  does-same T.operand = rows_under (operands-under []) refused
  does-same T.negative = rows_under (a-row (λ v w c. signed-under v w (c refl) (takes none)) no_row) refused
  does-same (T.name_first x) = rows_under (steady no_row) (after-under 5 x x (rows_under firsts-under refused))
  does-same T.first = rows_under firsts-under refused
  does-same T.first_dot = rows_under (steady (operands-under (T.first_dotted ∷ []))) refused
  does-same T.first_dotted = rows_under (steady no_row) (after-under 6 0 0 (rows_under firsts-under refused))
  does-same T.first_minus =
      rows_under (steady no_row) (after-under 3 0 0 (rows_under (minuses-under (T.operand ∷ T.first_minus ∷ []) arguments-under) refused))
  does-same T.becomes_due = rows_under (steady no_row) refused
  does-same T.expression = rows_under (steady (operands-under (T.sel ∷ []))) refused
  does-same T.sel = rows_under (steady (minuses-under (T.after_minus ∷ []) no_row)) passes
  does-same T.sel_dot = rows_under (steady (operands-under (T.node 6 0 ∷ T.sel ∷ []))) refused
  does-same T.after_minus = rows_under (steady (operands-under (T.sel_minus ∷ []))) refused
  does-same T.sel_minus = rows_under (steady no_row) (after-under 3 0 0 (rows_under (minuses-under (T.after_minus ∷ []) no_row) passes))
  does-same T.sel_minus_dot = rows_under (steady (operands-under (T.node 6 0 ∷ T.sel_minus ∷ []))) refused
  does-same T.proc_name = rows_under (a-row (λ v w c. takes (more colons none)) no_row) refused
  does-same (T.proc_colon y) = rows_under (steady no_row) refused

  does-under : {d e : Due} → Alike d e → Under (does d k v) (does e k w)
  unfolding does
  does-under (same {d = d}) = does-same d
  does-under semis = rows_under (a-row (λ v w c. takes (more same (more nodes none))) no_row) refused
  does-under closings = rows_under (steady no_row) refused
  does-under nodes = passes
  does-under (names {x = x} {y = y}) =
      rows_under (a-row (λ v w c. takes (more same (more nodes none))) no_row) (after-under 5 x y (rows_under firsts-under refused))
  does-under colons = rows_under (a-row (λ v w c. takes (more same (more nodes none))) no_row) refused

-- ---- a token, and tokens

pub data FedUnder : Fed → Fed → Type 0 where
  stops : {f : Fed} → FedUnder stuck f
  goes : {ds es : List Due} {is js : List Item} → AllAlike ds es → FedUnder (went ds is) (went es js)

onward-under : {a b : Act} {ds es : List Due} {f g : List Item → Fed} (is js : List Item)
    → Under a b → AllAlike ds es → ((ks ls : List Item) → FedUnder (f ks) (g ls)) → FedUnder (onward a ds is f) (onward b es js g)
onward-under is js refused h n = stops
onward-under is js (takes l) h n = goes (append-alike l h)
onward-under is js (passes {is = ks} {js = ls}) h n = n (is ++ ks) (js ++ ls)

pub feed-under : {ds es : List Due} (k v w : ℕ) → Small k w → AllAlike ds es → (is js : List Item) → FedUnder (feed ds k v is) (feed es k w js)
unfolding feed
feed-under k v w c none is js = stops
feed-under k v w c (more a h) is js = onward-under is js (does-under k v w c a) h (λ ks ls. feed-under k v w c h ks ls)

under-stuck : {f g : Fed} → FedUnder f g → g ≡ stuck → f ≡ stuck
under-stuck stops e = refl
under-stuck (goes a) e = cc

-- what is refused with value 0 is refused with every value; what is no number is refused with one value if it is with another
pub refused-whatever : (ds : List Due) (k v w : ℕ) (is js : List Item) → Small k w → feed ds k w js ≡ stuck → feed ds k v is ≡ stuck
refused-whatever ds k v w is js c e = under-stuck (feed-under k v w c (all_same ds) is js) e

-- what takes a token of value 0 passes none of its kind
pub taker-never-passes : (d : Due) (k v : ℕ) {es : List Due} {is js : List Item} → does d k 0 ≡ take es js → does d k v ≡ pass is → ⊥
taker-never-passes d k v t p = apart (does-same k v 0 (λ _. refl) d) p t
  where
    apart : {a b : Act} {es : List Due} {is js : List Item} → Under a b → a ≡ pass is → b ≡ take es js → ⊥
    apart refused p t = let clash : ◌≡◌ {A = ℕ} 0 1 = cc in omega arith
    apart (takes h) p t = let clash : ◌≡◌ {A = ℕ} 0 1 = cc in omega arith
    apart passes p t = let clash : ◌≡◌ {A = ℕ} 0 1 = cc in omega arith

-- two tokens of one kind on stacks that are alike, and what is fed behind them
both-on : {f g h : Fed} {n m : List Due → List Item → Fed} {gs : List Due} {ks : List Item}
    → FedUnder f h → FedUnder g h → fed_on g m ≡ went gs ks
    → ((ds es : List Due) (is js : List Item) → AllAlike ds es → m es js ≡ went gs ks → n ds is ≡ stuck)
    → fed_on f n ≡ stuck
both-on stops u e next = refl
both-on (goes {ds = ds} {is = is} a) stops e next =
    let clash : ◌≡◌ {A = ℕ} 0 1 = cc in
    absurd (omega arith)
both-on (goes {ds = ds} {is = is} a) (goes {ds = es} {is = js} b) e next = next ds es is js (both-alike a b) e

-- where a token with value 0 is refused, so is every token of its kind, whatever the values before it
pub stops-alike : (us ts : List Tok) (k : ℕ) (ds es : List Due) {gs : List Due} (is js : List Item) {ks : List Item}
    → AllAlike ds es → map kind_of ts ≡ map kind_of us ++ (k ∷ []) → feeds us es js ≡ went gs ks → feed gs k 0 ks ≡ stuck → feeds ts ds is ≡ stuck
unfolding feeds
stops-alike [] [] k ds es is js a q e r = cc
stops-alike [] (t ∷ ts) k ds es is js a q e r =
    let i : kind_of t ≡ k = cc in
    ap (λ f. fed_on f (λ es js. feeds ts es js)) (under-stuck (feed-under (kind_of t) (value_of t) 0 (λ _. refl) a is js) (cc))
stops-alike (u ∷ us) [] k ds es is js a q e r = cc
stops-alike (u ∷ us) (t ∷ ts) k ds es is js a q e r =
    let i : kind_of u ≡ kind_of t = cc in
    let rest : map kind_of ts ≡ map kind_of us ++ (k ∷ []) = cc in
    both-on
    (subst (λ j. FedUnder (feed ds j (value_of t) is) (feed es (kind_of u) 0 js)) i (feed-under (kind_of u) (value_of t) 0 (λ _. refl) a is js))
    (feed-under (kind_of u) (value_of u) 0 (λ _. refl) (all_same es) js js)
    e
    (λ ds es is js b f. stops-alike us ts k ds es is js b rest f r)
