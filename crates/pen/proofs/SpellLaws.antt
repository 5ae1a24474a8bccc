-- A text from its first token on is what `Spell` says, if each of its tokens has a kind; and the tokens of a tree have. Assumes nothing.
use Prim.Native.Nat.{ℕ, zero, suc, ◌-◌, ◌^◌}
use mathlib.Core.Path.{◌≡◌, refl, ap, ◌∙◌}
use mathlib.Core.Bool.{Bool, true, false, cond, ◌||◌}
use mathlib.Core.List.{List, [], ◌∷◌, ◌++◌}
use native.Mathlib.Omega.{arith}
use lib.Dec.{ltb}
use Rattle.rules.specs.Syntax.{Exp, Test, Cmd, no_exp, field, int, diff, null, ref, select, proc, no_test, is_true, is_false, equal, less, no_cmd, var, call, malloc, assign, assign_field, skip, seq, while, if, par, atom}
use Rattle.rules.proofs.TreeKinds.{◌&◌}
use Rattle.grammar.specs.Tokens.{Tok, name, field_name, number, mark, kind_of, sign}
use Rattle.grammar.specs.Grammar.{Ended, no_operand}
use Rattle.writing.specs.WriteTokens.{is_difference, not_dotted, top_of, grouped, opens_left, opens_dot, signed, ended_by, write_int, write_exp, write_test, write_behind, write_cmd}
use Rattle.writing.specs.Spell.{bytes_for, gap, spell}
use Rattle.pen.specs.Behind.{gap_at, behind}

-- ---- tokens that have a kind

abbrev Kind : Tok → Type 0
Kind t = kind_of t ≡ 0 → ⊥

abbrev Kinded : List Tok → Type 0
Kinded [] = Unit {0}
Kinded (t ∷ ts) = Kind t × Kinded ts

kinded-append : (ts us : List Tok) → Kinded ts → Kinded us → Kinded (ts ++ us)
kinded-append [] us h i = i
kinded-append (t ∷ ts) us h i = (h.0 & kinded-append ts us h.1 i)

a-mark : (k : ℕ) → Kind (mark (suc k))
unfolding kind_of
a-mark k e = omega arith

a-name : (x : ℕ) → Kind (name x)
unfolding kind_of
a-name x e = omega arith

a-field : (f : ℕ) → Kind (field_name f)
unfolding kind_of
a-field f e = omega arith

a-number : (n : ℕ) → Kind (number n)
unfolding kind_of
a-number n e = omega arith

kinded-group : (b : Bool) (ts : List Tok) → Kinded ts → Kinded (grouped b ts)
unfolding grouped
kinded-group true ts h = (a-mark 16 & kinded-append ts _ h (a-mark 17 & tt))
kinded-group false ts h = h

kinded-int : (b : ℕ) → Kinded (write_int b)
unfolding write_int
kinded-int b = go (ltb b 2147483648)
  where
    go : (t : Bool) → Kinded (cond t (number b ∷ []) (sign ∷ number (2 ^ 32 - b) ∷ []))
    go true = (a-number b & tt)
    go false = (a-mark 3 & a-number (2 ^ 32 - b) & tt)

mutual
  unfolding write_exp

  exp-kinded : (e : Exp) → Kinded (write_exp e)
  exp-kinded (no_exp n) = tt
  exp-kinded (field n f) = (a-field f & tt)
  exp-kinded (int n b) = kinded-int b
  exp-kinded (diff n a b) =
      kinded-append (grouped (opens_left a) (write_exp a)) _ (kinded-group (opens_left a) (write_exp a) (exp-kinded a))
      (a-mark 4 & kinded-group (is_difference (top_of b)) (write_exp b) (exp-kinded b))
  exp-kinded (null n) = (a-mark 5 & tt)
  exp-kinded (ref n x) = (a-name x & tt)
  exp-kinded (select n a b) =
      kinded-append (grouped (opens_dot a) (write_exp a)) _ (kinded-group (opens_dot a) (write_exp a) (exp-kinded a))
      (a-mark 22 & kinded-group (not_dotted (top_of b)) (write_exp b) (exp-kinded b))
  exp-kinded (proc n y c) = (a-mark 6 & a-name y & a-mark 26 & cmd-kinded c no_operand)

  test-kinded : (t : Test) → Kinded (write_test t)
  test-kinded (no_test n) = tt
  test-kinded (is_true n) = (a-mark 7 & tt)
  test-kinded (is_false n) = (a-mark 8 & tt)
  test-kinded (equal n a b) =
      kinded-append (grouped (opens_left a) (write_exp a)) _ (kinded-group (opens_left a) (write_exp a) (exp-kinded a)) (a-mark 24 & exp-kinded b)
  test-kinded (less n a b) =
      kinded-append (grouped (opens_left a) (write_exp a)) _ (kinded-group (opens_left a) (write_exp a) (exp-kinded a)) (a-mark 25 & exp-kinded b)

  cmd-kinded : (c : Cmd) (f : Ended) → Kinded (write_behind c f)
  cmd-kinded (no_cmd n) f = tt
  cmd-kinded (var n x c) f = (a-mark 9 & a-name x & a-mark 20 & cmd-kinded c no_operand)
  cmd-kinded (call n a b) f =
      kinded-append (grouped (opens_left a || signed f (write_exp a)) (write_exp a)) _ (kinded-group (opens_left a || signed f (write_exp a)) (write_exp a) (exp-kinded a))
      (a-mark 16 & kinded-append (write_exp b) _ (exp-kinded b) (a-mark 17 & tt))
  cmd-kinded (malloc n x) f = (a-mark 10 & a-mark 16 & a-name x & a-mark 17 & tt)
  cmd-kinded (assign n x e) f = (a-name x & a-mark 23 & exp-kinded e)
  cmd-kinded (assign_field n a b c) f =
      kinded-append (grouped (opens_dot a || signed f (write_exp a)) (write_exp a)) _ (kinded-group (opens_dot a || signed f (write_exp a)) (write_exp a) (exp-kinded a))
      (a-mark 22 &
      kinded-append (grouped (not_dotted (top_of b)) (write_exp b)) _ (kinded-group (not_dotted (top_of b)) (write_exp b) (exp-kinded b)) (a-mark 23 & exp-kinded c))
  cmd-kinded (skip n) f = (a-mark 11 & tt)
  cmd-kinded (seq n c d) f =
      (a-mark 18 & kinded-append (write_behind c no_operand) _ (cmd-kinded c no_operand)
      (a-mark 20 & kinded-append (write_behind d no_operand) _ (cmd-kinded d no_operand) (a-mark 19 & tt)))
  cmd-kinded (while n t c) f = (a-mark 12 & kinded-append (write_test t) _ (test-kinded t) (cmd-kinded c (ended_by t)))
  cmd-kinded (if n t c d) f =
      (a-mark 13 & kinded-append (write_test t) _ (test-kinded t)
      (kinded-append (write_behind c (ended_by t)) _ (cmd-kinded c (ended_by t)) (a-mark 14 & cmd-kinded d no_operand)))
  cmd-kinded (par n c d) f =
      (a-mark 18 & kinded-append (write_behind c no_operand) _ (cmd-kinded c no_operand)
      (a-mark 21 & kinded-append (write_behind d no_operand) _ (cmd-kinded d no_operand) (a-mark 19 & tt)))
  cmd-kinded (atom n c) f = (a-mark 15 & a-mark 16 & kinded-append (write_behind c no_operand) _ (cmd-kinded c no_operand) (a-mark 17 & tt))

-- ---- the text

module _ (names fields : List (List ℕ)) where
  gap_is : (t : Tok) → Kind t → (u : Tok) → gap_at (kind_of t) (kind_of u) ≡ gap t (u ∷ [])
  unfolding gap_at gap kind_of
  gap_is (name x) h u = refl
  gap_is (field_name f) h u = refl
  gap_is (number n) h u = refl
  gap_is (mark zero) h u = absurd (h refl)
  gap_is (mark (suc k)) h u = refl

  rest-spells : (t : Tok) (ts : List Tok) → Kinded (t ∷ ts) → bytes_for names fields t ++ behind names fields (kind_of t) ts ≡ spell names fields (t ∷ ts)
  unfolding behind spell gap
  rest-spells t [] h = refl
  rest-spells t (u ∷ us) h =
      ap (λ x. bytes_for names fields t ++ x)
      (ap (λ x. x ++ (bytes_for names fields u ++ behind names fields (kind_of u) us)) (gap_is t h.0 u)
      ∙ ap (λ x. gap t (u ∷ us) ++ x) (rest-spells u us h.1))

  text-spells : (ts : List Tok) → Kinded ts → behind names fields 0 ts ≡ spell names fields ts
  unfolding behind spell gap_at
  text-spells [] h = refl
  text-spells (t ∷ ts) h = rest-spells t ts h

  pub command-spells : (c : Cmd) → behind names fields 0 (write_behind c no_operand) ≡ spell names fields (write_cmd c)
  unfolding write_cmd
  command-spells c = text-spells (write_behind c no_operand) (cmd-kinded c no_operand)
