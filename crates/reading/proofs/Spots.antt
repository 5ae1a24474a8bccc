-- The three spots where operands, selections and differences are read: an expression, the left side of a test, the beginning of a command.
-- The table does alike in all three, but for a `=` behind the beginning of a command, which makes it an assignment. Assumes nothing.
use Prim.Native.Nat.{ℕ}
use mathlib.Core.Path.{◌≡◌, refl, ◌∙◌}
use mathlib.Core.Bool.{Bool, true, false}
use mathlib.Core.List.{List, [], ◌∷◌, ◌++◌}
use lib.Dec.{eqb}
use borrow.Author.Tests.{lt-ltb}
use native.Mathlib.Omega.{arith}
use Rattle.grammar.specs.Tokens.{Tok, name, field_name, number, sign, k_null, minus, lpar, dot, kind_of, value_of}
use Rattle.grammar.specs.Grammar.{Minus, before-digit, alone, Plain, Signed, negated}
use Rattle.reading.specs.Items.{Item, put}
use Rattle.reading.specs.Table.{Due, command, node, test, test_left, test_minus, operand, negative, name_first, first, first_dot, first_dotted, first_minus, close, expression, sel, sel_dot, after_minus, sel_minus, sel_minus_dot, Act, take, refuse, row_for, operands, commands, minuses, arguments, firsts, sides, plain, signed, does}
use Rattle.reading.proofs.Behind.{Rest, token, took, took-bare}

-- what may stand behind: anything (true), or anything but `=` (false)
abbrev pub Ok : Bool → ℕ → Type 0
Ok true k = Unit {0}
Ok false k = eqb k 24 ≡ false

-- with `ds` due an operand is read, and then `es` is due
pub record Begins (X : Type 0) (o : Bool) (ds es : List Due) : Type 0 where
  pub names : (x : ℕ) (r : Rest X) (is : List Item) → Ok o r.kind → (token (name x) r).seen ds is ≡ r.seen es (is ++ (put 5 x ∷ []))
  pub fields : (f : ℕ) (r : Rest X) (is : List Item) → (token (field_name f) r).seen ds is ≡ r.seen es (is ++ (put 1 f ∷ []))
  pub numbers : (n : ℕ) (r : Rest X) (is : List Item) → Plain n → (token (number n) r).seen ds is ≡ r.seen es (is ++ (put 2 n ∷ []))
  pub signs : (n : ℕ) (r : Rest X) (is : List Item)
      → Signed n → (token sign (token (number n) r)).seen ds is ≡ r.seen es (is ++ (put 2 (negated n) ∷ []))
  pub nulls : (r : Rest X) (is : List Item) → (token k_null r).seen ds is ≡ r.seen es (is ++ (put 4 0 ∷ []))
  pub groups : (r : Rest X) (is : List Item) → (token lpar r).seen ds is ≡ r.seen (expression ∷ close ∷ es) is

-- behind a dot and an operand the same is due as before them
pub record Dots (X : Type 0) (o : Bool) (ds : List Due) : Type 0 where
  pub behind_dot : List Due
  pub behind_operand : List Due
  pub dots : (r : Rest X) (is : List Item) → (token dot r).seen ds is ≡ r.seen behind_dot is
  pub begins : Begins X true behind_dot behind_operand
  pub selects : (r : Rest X) (is : List Item) → Ok o r.kind → r.seen behind_operand is ≡ r.seen ds (is ++ (put 6 0 ∷ []))

-- and behind a minus and a selection, once the token that follows is known to be no dot
pub record Spot (X : Type 0) (o : Bool) (ds es : List Due) : Type 0 where
  pub opens : Begins X o ds es
  pub dotted : Dots X o es
  pub behind_minus : List Due
  pub behind_selection : List Due
  pub minuses : {m : Tok} → Minus m → (r : Rest X) (is : List Item) → (token m r).seen es is ≡ r.seen behind_minus is
  pub begins : Begins X true behind_minus behind_selection
  pub dots : Dots X true behind_selection
  pub subtracts : (r : Rest X) (is : List Item) → eqb r.kind 23 ≡ false → r.seen behind_selection is ≡ r.seen es (is ++ (put 3 0 ∷ []))

-- ---- operands

-- a thing due that treats an operand as `operands` does; the kinds 7 to 9 are those for which it may have rows of its own
abbrev pub Leads : Due → List Due → Type 0
Leads d es = (k v : ℕ) → eqb k 7 ≡ false → eqb k 8 ≡ false → eqb k 9 ≡ false → does d k v ≡ row_for k v (operands es) refuse

plain-is : {n : ℕ} (a : Act) → Plain n → plain n a ≡ a
unfolding plain
plain-is {n} a h = rw (lt-ltb n 2147483648 h)

signed_is : {n : ℕ} (a : Act) → Signed n → signed n a ≡ a
unfolding signed
signed_is {n} a h = rw (lt-ltb n 2147483649 (omega arith))

-- a number behind its sign
negative-read : {X : Type 0} (ds : List Due) {n : ℕ} (r : Rest X) (is : List Item)
    → Signed n → (token (number n) r).seen (negative ∷ ds) is ≡ r.seen ds (is ++ (put 2 (negated n) ∷ []))
unfolding does row_for kind_of value_of
negative-read ds {n} r is h = took (number n) r negative ds is (signed_is (take [] (put 2 (negated n) ∷ [])) h)

pub operand-begins : {X : Type 0} (d : Due) (es ds : List Due) → Leads d es → Begins X true (d ∷ ds) (es ++ ds)
unfolding row_for operands kind_of value_of
operand-begins d es ds l =
    record {
      names = λ x r is o. took (name x) r d ds is (l 1 x refl refl refl);
      fields = λ f r is. took (field_name f) r d ds is (l 2 f refl refl refl);
      numbers = λ n r is h. took (number n) r d ds is (l 3 n refl refl refl ∙ plain-is (take es (put 2 n ∷ [])) h);
      signs = λ n r is h. took-bare sign (token (number n) r) d ds is (l 4 0 refl refl refl) ∙ negative-read (es ++ ds) r is h;
      nulls = λ r is. took k_null r d ds is (l 6 0 refl refl refl);
      groups = λ r is. took-bare lpar r d ds is (l 17 0 refl refl refl);
    }

-- ---- the three spots

module _ {X : Type 0} (ds : List Due) where
  pub node-dots : (d : Due) (es : List Due) → does d 23 0 ≡ take es [] → Begins X true (es ++ ds) (node 6 0 ∷ d ∷ ds) → Dots X true (d ∷ ds)
  unfolding does kind_of value_of
  node-dots d es h b =
      record {
        behind_dot = es ++ ds;
        behind_operand = node 6 0 ∷ d ∷ ds;
        dots = λ r is. took-bare dot r d ds is h;
        begins = b;
        selects = λ r is o. r.settles (node 6 0) (d ∷ ds) is (put 6 0 ∷ []) refl;
      }

  pub minus-taken : (d : Due) (es : List Due) → does d 4 0 ≡ take es [] → does d 5 0 ≡ take es []
      → {m : Tok} → Minus m → (r : Rest X) (is : List Item) → (token m r).seen (d ∷ ds) is ≡ r.seen (es ++ ds) is
  unfolding kind_of value_of
  minus-taken d es g h before-digit r is = took-bare sign r d ds is g
  minus-taken d es g h alone r is = took-bare minus r d ds is h

  pub operand-due : (es : List Due) → Begins X true (operand ∷ es) es
  unfolding does
  operand-due es = operand-begins operand [] es (λ k v a b c. refl)

  unfoldable pub in-expression : Spot X true (expression ∷ ds) (sel ∷ ds)
  unfolding does row_for minuses
  in-expression =
      record {
        opens = operand-begins expression (sel ∷ []) ds (λ k v a b c. rw a);
        dotted = node-dots sel (sel_dot ∷ []) refl (operand-begins sel_dot (node 6 0 ∷ sel ∷ []) ds (λ k v a b c. rw a));
        behind_minus = after_minus ∷ ds;
        behind_selection = sel_minus ∷ ds;
        minuses = minus-taken sel (after_minus ∷ []) refl refl;
        begins = operand-begins after_minus (sel_minus ∷ []) ds (λ k v a b c. rw a);
        dots = node-dots sel_minus (sel_minus_dot ∷ []) refl (operand-begins sel_minus_dot (node 6 0 ∷ sel_minus ∷ []) ds (λ k v a b c. rw a));
        subtracts = λ r is h. r.stands sel_minus sel 3 0 ds is (rw h);
      }

  pub in-test : Spot X true (test ∷ ds) (test_left ∷ ds)
  unfolding does row_for minuses sides
  in-test =
      record {
        opens = operand-begins test (test_left ∷ []) ds (λ k v a b c. rw (b, c));
        dotted = node-dots test_left (operand ∷ node 6 0 ∷ test_left ∷ []) refl (operand-due (node 6 0 ∷ test_left ∷ ds));
        behind_minus = operand ∷ test_minus ∷ ds;
        behind_selection = test_minus ∷ ds;
        minuses = minus-taken test_left (operand ∷ test_minus ∷ []) refl refl;
        begins = operand-due (test_minus ∷ ds);
        dots = node-dots test_minus (operand ∷ node 6 0 ∷ test_minus ∷ []) refl (operand-due (node 6 0 ∷ test_minus ∷ ds));
        subtracts = λ r is h. r.stands test_minus test_left 3 0 ds is (rw h);
      }

  -- behind a dot at the beginning of a command stands an operand
  pub first-dot : Begins X true (first_dot ∷ ds) (first_dotted ∷ ds)
  unfolding does row_for
  first-dot = operand-begins first_dot (first_dotted ∷ []) ds (λ k v a b c. rw a)

  pub in-command : Spot X false (command ∷ ds) (first ∷ ds)
  unfolding does row_for minuses firsts arguments commands kind_of value_of
  in-command =
      record {
        opens =
            record {
              names = λ x r is o. took-bare (name x) r command ds is refl ∙ r.stands (name_first x) first 5 x ds is (rw o);
              fields = λ f r is. took (field_name f) r command ds is refl;
              numbers = λ n r is h. took (number n) r command ds is (plain-is (take (first ∷ []) (put 2 n ∷ [])) h);
              signs = λ n r is h. took-bare sign (token (number n) r) command ds is refl ∙ negative-read (first ∷ ds) r is h;
              nulls = λ r is. took k_null r command ds is refl;
              groups = λ r is. took-bare lpar r command ds is refl;
            };
        dotted =
            record {
              behind_dot = first_dot ∷ ds;
              behind_operand = first_dotted ∷ ds;
              dots = λ r is. took-bare dot r first ds is refl;
              begins = first-dot;
              selects = λ r is o. r.stands first_dotted first 6 0 ds is (rw o);
            };
        behind_minus = operand ∷ first_minus ∷ ds;
        behind_selection = first_minus ∷ ds;
        minuses = minus-taken first (operand ∷ first_minus ∷ []) refl refl;
        begins = operand-due (first_minus ∷ ds);
        dots = node-dots first_minus (operand ∷ node 6 0 ∷ first_minus ∷ []) refl (operand-due (node 6 0 ∷ first_minus ∷ ds));
        subtracts = λ r is h. r.stands first_minus first 3 0 ds is (rw h);
      }
