-- No text of the grammar for a tree has fewer parentheses than `write_cmd` gives, and none has fewer tokens. Tokens are weighed by their kinds, for both at once.
-- A text of an expression weighs a pair of parentheses more than it does here, or it is like it: the same at its top, open at its end where this one is, and a
-- sign first where this one has it. So where parentheses are put here, any other text has a pair too. Assumes nothing.
use Prim.Native.Nat.{ℕ, ◌+◌, ◌<◌, ◌≤◌}
use mathlib.Core.Path.{◌≡◌, refl, sym, ap, subst, ◌∙◌}
use mathlib.Core.Bool.{Bool, true, false, cond, true≢false, false≢true, ◌||◌}
use mathlib.Core.List.{List, [], ◌∷◌, ◌++◌}
use native.Mathlib.Omega.{arith}
use lib.ListN.{length}
use lib.Dec.{eqb, ltb}
use borrow.Author.Tests.{eqb-true, lt-ltb}
use Rattle.rules.specs.Syntax.{Exp, Cmd, diff, int, select}
use Rattle.grammar.specs.Tokens.{Tok, number, mark, kind_of, sign, lpar, rpar, dot, becomes}
use Rattle.grammar.specs.Grammar.{Top, operand, selection, difference, procedure, Ending, closed, Ended, an_operand, no_operand, NoDifference, NoSelection, NoSign, Behind, Minus, negated, Phrase, Writes, an_expression, a_test, a_command}
use Rattle.grammar.specs.Grammar as G
use Rattle.writing.specs.WriteTokens.{top_of, is_difference, is_selection, is_bare, not_dotted, end_of, grouped, opens_left, opens_dot, sign_first, signed, write_int, ended_by, write_exp, write_test, write_behind, write_cmd, weigh, opened, parentheses}

no_true : (b : Bool) → (b ≡ true → ⊥) → b ≡ false
no_true true h = absurd (h refl)
no_true false h = refl

-- ---- signs

sign-stays : (us vs : List Tok) → sign_first us ≡ true → sign_first (us ++ vs) ≡ true
unfolding sign_first
sign-stays [] vs e = absurd (false≢true e)
sign-stays (t ∷ us) vs e = e

sign-before : (us vs : List Tok) → sign_first vs ≡ false → sign_first (us ++ vs) ≡ true → sign_first us ≡ true
unfolding sign_first
sign-before [] vs n e = absurd (true≢false (sym e ∙ n))
sign-before (t ∷ us) vs n e = e

no_sign : (us vs : List Tok) → NoSign (us ++ vs) → sign_first us ≡ true → ⊥
unfolding sign_first
no_sign [] vs n e = false≢true e
no_sign (t ∷ us) vs n e = n (eqb-true (kind_of t) 4 e)

module _ (weight : ℕ → ℕ) (minuses : weight 5 ≤ weight 4) where
  abbrev size : List Tok → ℕ
  size ts = weigh weight ts

  abbrev pair : ℕ
  pair = weight 17 + weight 18

  weigh-append : (us vs : List Tok) → size (us ++ vs) ≡ size us + size vs
  unfolding weigh
  weigh-append [] vs = omega arith
  weigh-append (t ∷ us) vs = omega (arith, weigh-append us vs)

  -- ---- expressions

  data LeastExp (t : Top) (p : Ending) (e : Exp) (us : List Tok) : Type 0 where
    more : size (write_exp e) + pair ≤ size us → LeastExp t p e us
    alike : size (write_exp e) ≤ size us → top_of e ≡ t → (is_bare (end_of e) ≡ true → is_bare p ≡ true)
        → (sign_first (write_exp e) ≡ true → sign_first us ≡ true) → LeastExp t p e us

  least-exp : {t : Top} {p : Ending} {e : Exp} {us : List Tok} → LeastExp t p e us → size (write_exp e) ≤ size us
  least-exp (more h) = omega arith
  least-exp (alike h i j k) = h

  -- a part, with parentheses if k
  data LeastPart (k : Bool) (p : Ending) (e : Exp) (us : List Tok) : Type 0 where
    more : size (grouped k (write_exp e)) + pair ≤ size us → LeastPart k p e us
    alike : size (grouped k (write_exp e)) ≤ size us → (k ≡ false → is_bare (end_of e) ≡ true → is_bare p ≡ true)
        → (sign_first (grouped k (write_exp e)) ≡ true → sign_first us ≡ true) → LeastPart k p e us

  least-part : {k : Bool} {p : Ending} {e : Exp} {us : List Tok} → LeastPart k p e us → size (grouped k (write_exp e)) ≤ size us
  least-part (more h) = omega arith
  least-part (alike h i j) = h

  group-size : (us : List Tok) → size (lpar ∷ (us ++ (rpar ∷ []))) ≡ size us + pair
  unfolding weigh kind_of
  group-size us = omega (arith, weigh-append us (rpar ∷ []))

  -- a part whose text, where it is like this one, needs no parentheses
  a-part : (k : Bool) {t : Top} {p : Ending} {e : Exp} {us : List Tok} → LeastExp t p e us
      → (top_of e ≡ t → (is_bare (end_of e) ≡ true → is_bare p ≡ true) → (sign_first (write_exp e) ≡ true → sign_first us ≡ true) → k ≡ false)
      → LeastPart k p e us
  unfolding grouped sign_first kind_of
  a-part true {e = e} (more h) f = alike (omega (arith, group-size (write_exp e))) (λ i. absurd (true≢false i)) (λ i. absurd (false≢true i))
  a-part true (alike h i j k) f = absurd (true≢false (f i j k))
  a-part false (more h) f = more h
  a-part false (alike h i j k) f = alike h (λ l. j) k

  -- ---- where parentheses aren't needed

  no_difference : (t : Top) → NoDifference t → is_difference t ≡ false
  unfolding is_difference
  no_difference operand n = refl
  no_difference selection n = refl
  no_difference difference n = absurd n
  no_difference procedure n = refl

  no-selection : (t : Top) → NoSelection t → is_selection t ≡ false
  unfolding is_selection
  no-selection operand n = refl
  no-selection selection n = absurd n
  no-selection difference n = refl
  no-selection procedure n = refl

  not-bare : (p : Ending) → (is_bare p ≡ true → is_bare closed ≡ true) → is_bare p ≡ false
  unfolding is_bare
  not-bare p h = no_true (is_bare p) (λ e. false≢true (h e))

  left : {t : Top} {a : Exp} {us : List Tok} → LeastExp t closed a us → LeastPart (opens_left a) closed a us
  unfolding opens_left
  left {a = a} l = a-part (opens_left a) l (λ i j k. not-bare (end_of a) j)

  left-of-dot : {t : Top} {a : Exp} {us : List Tok} → LeastExp t closed a us → NoDifference t → LeastPart (opens_dot a) closed a us
  unfolding opens_dot
  left-of-dot {t = t} {a = a} l n = a-part (opens_dot a) l (λ i j k. rw (i, no_difference t n) (not-bare (end_of a) j))

  right : {u : Top} {p : Ending} {b : Exp} {vs : List Tok} → LeastExp u p b vs → NoDifference u → LeastPart (is_difference (top_of b)) p b vs
  right {u = u} {b = b} l n = a-part (is_difference (top_of b)) l (λ i j k. rw i (no_difference u n))

  right-of-dot : {u : Top} {p : Ending} {b : Exp} {vs : List Tok} → LeastExp u p b vs → NoDifference u → NoSelection u → LeastPart (not_dotted (top_of b)) p b vs
  unfolding not_dotted
  right-of-dot {u = u} {b = b} l n m = a-part (not_dotted (top_of b)) l (λ i j k. rw (i, no_difference u n) (no-selection u m))

  unsigned : (f : Ended) (us vs ws : List Tok) → Behind f (us ++ vs) → (sign_first ws ≡ true → sign_first us ≡ true) → signed f ws ≡ false
  unfolding signed
  unsigned an_operand us vs ws n h = no_true (sign_first ws) (λ e. no_sign us vs n (h e))
  unsigned no_operand us vs ws n h = refl

  first-called : (f : Ended) {t : Top} {a : Exp} {us : List Tok} (vs : List Tok) → LeastExp t closed a us → Behind f (us ++ vs)
      → LeastPart (opens_left a || signed f (write_exp a)) closed a us
  unfolding opens_left
  first-called f {a = a} {us = us} vs l n =
      a-part (opens_left a || signed f (write_exp a)) l (λ i j k. rw (not-bare (end_of a) j) (unsigned f us vs (write_exp a) n k))

  first-dotted : (f : Ended) {t : Top} {a : Exp} {us : List Tok} (vs : List Tok) → LeastExp t closed a us → NoDifference t → Behind f (us ++ vs)
      → LeastPart (opens_dot a || signed f (write_exp a)) closed a us
  unfolding opens_dot
  first-dotted f {t = t} {a = a} {us = us} vs l d n =
      a-part (opens_dot a || signed f (write_exp a)) l (λ i j k. rw (i, no_difference t d, not-bare (end_of a) j) (unsigned f us vs (write_exp a) n k))

  -- ---- two parts, with a token between them

  bare-part : (j : Bool) (p q : Ending) → (j ≡ false → is_bare q ≡ true → is_bare p ≡ true) → is_bare (cond j closed q) ≡ true → is_bare p ≡ true
  unfolding is_bare
  bare-part true p q h e = absurd (false≢true e)
  bare-part false p q h e = h refl e

  two-sizes : (us vs : List Tok) (m : Tok) → size (us ++ (m ∷ vs)) ≡ size us + size vs + weight (kind_of m)
  unfolding weigh
  two-sizes us vs m = omega (arith, weigh-append us (m ∷ vs))

  two-parts : {k j : Bool} {p : Ending} {a b : Exp} (e : Exp) {us vs : List Tok} (m n : Tok)
      → write_exp e ≡ grouped k (write_exp a) ++ (m ∷ grouped j (write_exp b)) → end_of e ≡ cond j closed (end_of b) → eqb (kind_of m) 4 ≡ false → weight (kind_of m) ≤ weight (kind_of n)
      → LeastPart k closed a us → LeastPart j p b vs → LeastExp (top_of e) p e (us ++ (n ∷ vs))
  unfolding sign_first
  two-parts {k = k} {j = j} {a = a} {b = b} e {us = us} {vs = vs} m n w q s c (more h) r =
      let g = least-part r in
      more (omega (arith, g, c, ap size w, two-sizes (grouped k (write_exp a)) (grouped j (write_exp b)) m, two-sizes us vs n))
  two-parts {k = k} {j = j} {a = a} {b = b} e {us = us} {vs = vs} m n w q s c (alike h x y) (more g) =
      more (omega (arith, c, ap size w, two-sizes (grouped k (write_exp a)) (grouped j (write_exp b)) m, two-sizes us vs n))
  two-parts {k = k} {j = j} {p = p} {a = a} {b = b} e {us = us} {vs = vs} m n w q s c (alike h x y) (alike g z o) =
      alike
      (omega (arith, c, ap size w, two-sizes (grouped k (write_exp a)) (grouped j (write_exp b)) m, two-sizes us vs n))
      refl
      (λ i. bare-part j p (end_of b) z (rw q at i))
      (λ i. sign-stays us (n ∷ vs) (y (sign-before (grouped k (write_exp a)) (m ∷ grouped j (write_exp b)) s (rw w at i))))

  -- ---- operands

  one_token : {t : Tok} {e : Exp} → write_exp e ≡ t ∷ [] → top_of e ≡ operand → is_bare (end_of e) ≡ false → LeastExp operand closed e (t ∷ [])
  one_token {t} {e} w i b = alike (omega (arith, ap size w)) i (λ j. absurd (true≢false (sym j ∙ b))) (λ j. rw w at j)

  a-number : (n : ℕ) → n < 2147483648 → LeastExp operand closed (int 0 n) (number n ∷ [])
  unfolding write_exp write_int top_of end_of is_bare
  a-number n h = one_token (rw (lt-ltb n 2147483648 h) refl) refl refl

  a-negative : (b n : ℕ) → LeastExp operand closed (int 0 b) (sign ∷ number n ∷ [])
  unfolding write_exp write_int top_of end_of is_bare sign_first kind_of weigh
  a-negative b n = go (ltb b 2147483648) refl
    where
      go : (t : Bool) → ltb b 2147483648 ≡ t → LeastExp operand closed (int 0 b) (sign ∷ number n ∷ [])
      go true e = alike (rw e (omega arith)) refl (λ i. absurd (false≢true i)) (λ i. refl)
      go false e = alike (rw e (omega arith)) refl (λ i. absurd (false≢true i)) (λ i. refl)

  a-group : {t : Top} {p : Ending} {e : Exp} {us : List Tok} → LeastExp t p e us → LeastExp operand closed e (lpar ∷ (us ++ (rpar ∷ [])))
  a-group {us = us} l = more (omega (arith, least-exp l, group-size us))

  -- ---- all phrases

  record NoLonger (us vs : List Tok) : Type 0 where
    is : size us ≤ size vs

  nothing : NoLonger [] []
  nothing = record { is = omega arith }

  front : {t : Tok} {us vs : List Tok} → NoLonger us vs → NoLonger (t ∷ us) (t ∷ vs)
  unfolding weigh
  front h = let i = h.is in record { is = omega arith }

  both : {us vs ws xs : List Tok} → NoLonger us vs → NoLonger ws xs → NoLonger (us ++ ws) (vs ++ xs)
  both {us} {vs} {ws} {xs} g h = record { is = omega (arith, g.is, h.is, weigh-append us ws, weigh-append vs xs) }

  part : {k : Bool} {p : Ending} {e : Exp} {us : List Tok} → LeastPart k p e us → NoLonger (grouped k (write_exp e)) us
  part l = record { is = least-part l }

  whole : {t : Top} {p : Ending} {e : Exp} {us : List Tok} → LeastExp t p e us → NoLonger (write_exp e) us
  whole l = record { is = least-exp l }

  least-minus : {m : Tok} → Minus m → weight 5 ≤ weight (kind_of m)
  unfolding kind_of
  least-minus G.before-digit = minuses
  least-minus G.alone = omega arith

  abbrev Least : Phrase → List Tok → Type 0
  Least (an_expression t p e) us = LeastExp t p e us
  Least (a_test f t) us = (f ≡ ended_by t) × NoLonger (write_test t) us
  Least (a_command c) us = (f : Ended) → Behind f us → NoLonger (write_behind c f) us

  least : {p : Phrase} {us : List Tok} → Writes p us → Least p us
  unfolding write_exp top_of end_of is_bare ended_by kind_of sign_first weigh
  least G.a-field = one_token refl refl refl
  least (G.a-number {n} h) = a-number n h
  least (G.a-negative {n} h) = a-negative (negated n) n
  least (G.a-difference {a = a} {b = b} {m = m} v i w n) =
      two-parts (diff 0 a b) (mark 5) m refl refl refl (least-minus i) (left (least v)) (right (least w) n)
  least G.a-null = one_token refl refl refl
  least G.a-name = one_token refl refl refl
  least (G.a-selection {a = a} {b = b} v k w n s) =
      two-parts (select 0 a b) (mark 23) (mark 23) refl refl refl (omega arith) (left-of-dot (least v) k) (right-of-dot (least w) n s)
  least (G.a-proc w) = alike (let h = (least w no_operand tt).is in omega arith) refl (λ i. refl) (λ i. i)
  least (G.a-group w) = a-group (least w)
  least G.says-true = (refl, front nothing)
  least G.says-false = (refl, front nothing)
  least (G.are-equal v w) = (refl, both (part (left (least v))) (front (whole (least w))))
  least (G.is-less v w) = (refl, both (part (left (least v))) (front (whole (least w))))
  least (G.declares w) = λ f n. front (front (front (least w no_operand tt)))
  least (G.calls {vs = vs} v w) = λ f n. both (part (first-called f (lpar ∷ (vs ++ (rpar ∷ []))) (least v) n)) (front (both (whole (least w)) (front nothing)))
  least G.allocates = λ f n. front (front (front (front nothing)))
  least (G.assigns w) = λ f n. front (front (whole (least w)))
  least (G.assigns-field {vs = vs} {ws = ws} v k w n s x) =
      λ f i. both (part (first-dotted f (dot ∷ (vs ++ (becomes ∷ ws))) (least v) k i)) (front (both (part (right-of-dot (least w) n s)) (front (whole (least x)))))
  least G.skips = λ f n. front nothing
  least (G.in-sequence v w) = λ f n. front (both (least v no_operand tt) (front (both (least w no_operand tt) (front nothing))))
  least (G.repeats {vs = vs} v w n) = λ f i. let t = least v in front (both t.1 (least w _ (subst (λ g. Behind g vs) t.0 n)))
  least (G.chooses {vs = vs} v w n x) =
      λ f i. let t = least v in front (both t.1 (both (least w _ (subst (λ g. Behind g vs) t.0 n)) (front (least x no_operand tt))))
  least (G.in-parallel v w) = λ f n. front (both (least v no_operand tt) (front (both (least w no_operand tt) (front nothing))))
  least (G.in-atom w) = λ f n. front (front (both (least w no_operand tt) (front nothing)))

  lightest : {c : Cmd} {ts : List Tok} → Writes (a_command c) ts → size (write_cmd c) ≤ size ts
  unfolding write_cmd
  lightest w = (least w no_operand tt).is

-- ---- parentheses, and tokens

pub fewest-parentheses : {c : Cmd} {ts : List Tok} → Writes (a_command c) ts → parentheses (write_cmd c) ≤ parentheses ts
unfolding opened
fewest-parentheses w = lightest opened (omega arith) w

each-one : (ts : List Tok) → weigh (λ k. 1) ts ≡ length ts
unfolding weigh
each-one [] = refl
each-one (t ∷ ts) = omega (arith, each-one ts)

pub fewest : {c : Cmd} {ts : List Tok} → Writes (a_command c) ts → length (write_cmd c) ≤ length ts
fewest {c} {ts} w = omega (arith, lightest (λ k. 1) (omega arith) w, each-one (write_cmd c), each-one ts)
