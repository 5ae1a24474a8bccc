-- What is said of the tokens of each level when they are read, `Reads`, and the parts of reading that several rules share: a node
-- behind its children, a comparison, braces, the assignment to a field. Assumes nothing.
use Prim.Native.Nat.{ℕ}
use mathlib.Core.Path.{◌≡◌, refl, ap, ◌∙◌}
use mathlib.Core.Bool.{Bool, true, false}
use mathlib.Core.List.{List, [], ◌∷◌, ◌++◌, append_assoc, append-nil}
use lib.Dec.{eqb}
use borrow.Author.Tests.{ne_eqb}
use Rattle.rules.specs.Syntax.{Exp, Cmd}
use Rattle.grammar.specs.Tokens.{Tok, kind_of, value_of, k_proc, lbrace, rbrace, dot, becomes}
use Rattle.grammar.specs.Grammar.{Minus, before-digit, alone, NoSign}
use Rattle.reading.specs.Levels.{Level, an_operand, a_selection, a_difference, a_procedure, an_expression, a_tested, a_command}
use Rattle.reading.specs.Items.{Item, put, items_exp, items_test, items_cmd}
use Rattle.reading.specs.Table.{Due, command, body, middle, shut, node, test, test_left, first, first_dot, expression, sel, proc_name, take, does, row_for, feed, commands, minuses, firsts}
use Rattle.reading.proofs.Behind.{Rest, token, from, looks, ◌before◌, behind-append, took, took-bare}
use Rattle.reading.proofs.Spots.{Ok, Begins, Dots, Spot, in-test, in-command}
use Rattle.reading.proofs.FirstToken.{Starts}

-- no dot and no minus: an expression does not go on
abbrev pub Clear : ℕ → Type 0
Clear k = (eqb k 23 ≡ false) × (eqb k 4 ≡ false) × (eqb k 5 ≡ false)

-- with anything due below and anything behind that does not go on with it, the tokens bring the nodes of the tree and nothing else
abbrev pub Reads : (X : Type 0) → Level → List Tok → Type 0
Reads X (an_operand e) ts =
    (o : Bool) (ds es : List Due) → Begins X o ds es
    → (r : Rest X) (is : List Item) → Ok o r.kind → (ts before r).seen ds is ≡ r.seen es (is ++ items_exp e)
Reads X (a_selection e) ts =
    (o : Bool) (ds es : List Due) → Begins X o ds es → Dots X o es
    → (r : Rest X) (is : List Item) → Ok o r.kind → (ts before r).seen ds is ≡ r.seen es (is ++ items_exp e)
Reads X (a_difference e) ts =
    (o : Bool) (ds es : List Due) → Spot X o ds es
    → (r : Rest X) (is : List Item) → Ok o r.kind → eqb r.kind 23 ≡ false → (ts before r).seen ds is ≡ r.seen es (is ++ items_exp e)
Reads X (a_procedure e) ts =
    (ds es : List Due) → ((r : Rest X) (is : List Item) → (token k_proc r).seen ds is ≡ r.seen (proc_name ∷ es) is)
    → (r : Rest X) (is : List Item) → Clear r.kind → (ts before r).seen ds is ≡ r.seen es (is ++ items_exp e)
Reads X (an_expression e) ts =
    (ds : List Due) (r : Rest X) (is : List Item) → Clear r.kind → (ts before r).seen (expression ∷ ds) is ≡ r.seen ds (is ++ items_exp e)
Reads X (a_tested t c) ts =
    (ds : List Due) (r : Rest X) (is : List Item)
    → Clear r.kind → (ts before r).seen (test ∷ ds) is ≡ r.seen ds (is ++ (items_test t ++ items_cmd c))
Reads X (a_command c) ts =
    (ds : List Due) (r : Rest X) (is : List Item) → Clear r.kind → (ts before r).seen (command ∷ ds) is ≡ r.seen ds (is ++ items_cmd c)

pub ok-dot : (o : Bool) → Ok o 23
ok-dot true = tt
ok-dot false = refl

pub ok-minus : (o : Bool) {m : Tok} → Minus m → Ok o (kind_of m)
unfolding kind_of
ok-minus true m = tt
ok-minus false before-digit = refl
ok-minus false alone = refl

pub minus-no-dot : {m : Tok} → Minus m → eqb (kind_of m) 23 ≡ false
unfolding kind_of
minus-no-dot before-digit = refl
minus-no-dot alone = refl

-- ---- nodes one after the other

module _ {X : Type 0} (r : Rest X) (es : List Due) where
  pub two : (is js ks ls : List Item) → r.seen es (((is ++ js) ++ ks) ++ ls) ≡ r.seen es (is ++ ((js ++ ks) ++ ls))
  two is js ks ls = ap (r.seen es) (simp append_assoc)

  module _ (t x : ℕ) (is js : List Item) where
    pub node-behind : r.seen (node t x ∷ es) (is ++ js) ≡ r.seen es (is ++ (js ++ (put t x ∷ [])))
    unfolding does
    node-behind = r.settles (node t x) es (is ++ js) (put t x ∷ []) refl ∙ ap (r.seen es) (append_assoc is js (put t x ∷ []))

    pub node-behind-two : (ks : List Item) → r.seen (node t x ∷ es) ((is ++ js) ++ ks) ≡ r.seen es (is ++ ((js ++ ks) ++ (put t x ∷ [])))
    unfolding does
    node-behind-two ks = r.settles (node t x) es ((is ++ js) ++ ks) (put t x ∷ []) refl ∙ two is js ks (put t x ∷ [])

module _ {X : Type 0} where
  pub parts : (us vs : List Tok) (r : Rest X) (ds : List Due) (is : List Item) → ((us ++ vs) before r).seen ds is ≡ (us before (vs before r)).seen ds is
  parts us vs r ds is = ap (λ (q : Rest X). q.seen ds is) (behind-append us vs r)

  -- an expression is over
  pub over-here : (r : Rest X) (ds : List Due) (is : List Item) → Clear r.kind → r.seen (sel ∷ ds) is ≡ r.seen ds is
  unfolding does row_for minuses
  over-here r ds is k = r.settles sel ds is [] (rw (k.0, k.1, k.2)) ∙ ap (r.seen ds) (append-nil is)

  clear_first : (ws : List Tok) (r : Rest X) → Starts ws → NoSign ws → Clear (ws before r).kind
  unfolding ◌before◌ token from
  clear_first [] r s n = absurd s
  clear_first (t ∷ ws) r s n = (s.0, ne_eqb (kind_of t) 4 n, s.1)

  -- a command that no sign begins is read as a body
  body-first : (ws : List Tok) (r : Rest X) (ds : List Due) (is : List Item)
      → Starts ws → NoSign ws → (ws before r).seen (body ∷ ds) is ≡ (ws before r).seen (command ∷ ds) is
  unfolding ◌before◌ token from looks feed does row_for
  body-first [] r ds is s n = absurd s
  body-first (t ∷ ws) r ds is s n = rw (ne_eqb (kind_of t) 4 n)

  -- a comparison, and the command behind it
  pub compared : (m : Tok) (t : ℕ) → does test_left (kind_of m) (value_of m) ≡ take (expression ∷ node t 0 ∷ body ∷ []) [] → eqb (kind_of m) 23 ≡ false
      → (a b : Exp) (c : Cmd) (us vs ws : List Tok)
      → Reads X (a_difference a) us → Reads X (an_expression b) vs → Reads X (a_command c) ws → Starts ws → NoSign ws
      → (ds : List Due) (r : Rest X) (is : List Item) → Clear r.kind
      → ((us ++ (m ∷ (vs ++ ws))) before r).seen (test ∷ ds) is
      ≡ r.seen ds (is ++ (((items_exp a ++ items_exp b) ++ (put t 0 ∷ [])) ++ items_cmd c))
  unfolding ◌before◌ token from
  compared m t e h a b c us vs ws w v u s n ds r is k =
      let js = is ++ items_exp a in
      let es = body ∷ ds in
      parts us (m ∷ (vs ++ ws)) r (test ∷ ds) is
      ∙ w true (test ∷ ds) (test_left ∷ ds) (in-test ds) (token m ((vs ++ ws) before r)) is tt h
      ∙ took-bare m ((vs ++ ws) before r) test_left ds js e
      ∙ parts vs ws r (expression ∷ node t 0 ∷ es) js
      ∙ v (node t 0 ∷ es) (ws before r) js (clear_first ws r s n)
      ∙ node-behind-two (ws before r) es t 0 is (items_exp a) (items_exp b)
      ∙ body-first ws r ds (is ++ ((items_exp a ++ items_exp b) ++ (put t 0 ∷ []))) s n
      ∙ u ds r (is ++ ((items_exp a ++ items_exp b) ++ (put t 0 ∷ []))) k
      ∙ ap (r.seen ds) (append_assoc is ((items_exp a ++ items_exp b) ++ (put t 0 ∷ [])) (items_cmd c))

  -- two commands in braces, with ; or || between them
  pub in-braces : (m : Tok) (t : ℕ) (c d : Cmd) (us vs : List Tok)
      → does middle (kind_of m) (value_of m) ≡ take (command ∷ shut t ∷ []) [] → Clear (kind_of m)
      → Reads X (a_command c) us → Reads X (a_command d) vs → (ds : List Due) (r : Rest X) (is : List Item)
      → ((lbrace ∷ (us ++ (m ∷ (vs ++ (rbrace ∷ []))))) before r).seen (command ∷ ds) is
      ≡ r.seen ds (is ++ ((items_cmd c ++ items_cmd d) ++ (put t 0 ∷ [])))
  unfolding ◌before◌ token from kind_of value_of does row_for commands
  in-braces m t c d us vs e k w v ds r is =
      let q = (vs ++ (rbrace ∷ [])) before r in
      took-bare lbrace ((us ++ (m ∷ (vs ++ (rbrace ∷ [])))) before r) command ds is refl
      ∙ parts us (m ∷ (vs ++ (rbrace ∷ []))) r (command ∷ middle ∷ ds) is
      ∙ w (middle ∷ ds) (token m q) is k
      ∙ took-bare m q middle ds (is ++ items_cmd c) e
      ∙ parts vs (rbrace ∷ []) r (command ∷ shut t ∷ ds) (is ++ items_cmd c)
      ∙ v (shut t ∷ ds) (token rbrace r) (is ++ items_cmd c) (refl, refl, refl)
      ∙ took rbrace r (shut t) ds ((is ++ items_cmd c) ++ items_cmd d) refl
      ∙ two r ds is (items_cmd c) (items_cmd d) (put t 0 ∷ [])

  -- a command that begins with a selection and a dot
  pub field_of : (a : Exp) (us vs : List Tok) → Reads X (a_selection a) us → (ds : List Due) (r : Rest X) (is : List Item)
      → ((us ++ (dot ∷ vs)) before r).seen (command ∷ ds) is ≡ (vs before r).seen (first_dot ∷ ds) (is ++ items_exp a)
  unfolding ◌before◌ token from kind_of value_of does row_for firsts
  field_of a us vs w ds r is =
      parts us (dot ∷ vs) r (command ∷ ds) is
      ∙ w false (command ∷ ds) (first ∷ ds) (in-command ds).opens (in-command ds).dotted (token dot (vs before r)) is refl
      ∙ took-bare dot (vs before r) first ds (is ++ items_exp a) refl

  -- and what is assigned to its field
  pub assigned : (d : Due) → does d 24 0 ≡ take (expression ∷ node 36 0 ∷ []) []
      → (a b c : Exp) (ws : List Tok) → Reads X (an_expression c) ws → (ds : List Due) (r : Rest X) (is : List Item) → Clear r.kind
      → (token becomes (ws before r)).seen (d ∷ ds) ((is ++ items_exp a) ++ items_exp b)
      ≡ r.seen ds (is ++ ((items_exp a ++ (items_exp b ++ items_exp c)) ++ (put 36 0 ∷ [])))
  unfolding kind_of value_of
  assigned d e a b c ws u ds r is k =
      let js = (is ++ items_exp a) ++ items_exp b in
      took-bare becomes (ws before r) d ds js e
      ∙ u (node 36 0 ∷ ds) r js k
      ∙ node-behind r ds 36 0 js (items_exp c)
      ∙ ap (r.seen ds) (simp append_assoc)
