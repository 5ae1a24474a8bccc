-- What a row of the table has to keep: where it takes a token, whatever is meant by the things due from then on is, with the token before it, meant by
-- what was due; where it passes, no token at all is. Here are the rows that stand under several things due, each proved once.
use Prim.Native.Nat.{ℕ, suc, zero, ◌<◌}
use native.Mathlib.Omega.{arith}
use lib.Dec.{eqb, ltb}
use borrow.Author.Tests.{ltb-true, eqb-true}
use mathlib.Core.Bool.{Bool, true, false, cond}
use mathlib.Core.Path.{◌≡◌, refl, sym, ap, subst, ◌∙◌}
use mathlib.Core.List.{List, [], ◌∷◌, ◌++◌, append_assoc, append-nil}
use Rattle.rules.specs.Syntax.{field, int, diff, null, ref, select}
use Rattle.grammar.specs.Tokens.{Tok, name, field_name, number, mark, kind_of, value_of, sign, k_null, k_proc, minus, dot, lpar, rpar}
use Rattle.grammar.specs.Grammar.{before-digit, alone, Plain, Signed}
use Rattle.reading.specs.Levels.{Level, Written, an_operand, a_selection, a_difference, a_procedure, a-field, a-number, a-null, a-name, a-group, one-operand, dotted, one-selection, less-a-selection}
use Rattle.reading.specs.Items.{Item, put, items_exp}
use Rattle.reading.specs.Marks.{IsMark}
use Rattle.reading.specs.Table.{Due, node, close, operand, negative, expression, proc_name, Act, take, pass, refuse, after, Row, on, row_for, plain, signed, operands, minuses}
use Rattle.reading.proofs.Meanings.{Meaning, ◌⊆◌, items_of, Is, phrase, only, ◌then◌, both, Behind, On, OnMinus, BehindMinus, Out, Means, Meant}

-- ---- what an act keeps

abbrev pub Keeps : Meaning → Tok → Act → Type 0
Keeps P t (take es js) = Meant es ⊆ (λ us is. P (t ∷ us) (js ++ is))
Keeps P t (pass js) = P [] js
Keeps P t refuse = Unit {0}

pub keeps-as : (P Q : Meaning) (t : Tok) (a : Act) → P ⊆ Q → Keeps P t a → Keeps Q t a
keeps-as P Q t (take es js) f h = λ us is m. f (t ∷ us) (js ++ is) (h us is m)
keeps-as P Q t (pass js) f h = f [] js h
keeps-as P Q t refuse f h = tt

pub keeps-after : (P Q : Meaning) (t : Tok) (k v : ℕ) (a : Act) → P ⊆ Out k v Q → Keeps P t a → Keeps Q t (after k v a)
keeps-after P Q t k v (take es js) f h = λ us is m. f (t ∷ us) (js ++ is) (h us is m)
keeps-after P Q t k v (pass js) f h = f [] js h
keeps-after P Q t k v refuse f h = tt

pub keeps-cond : (P : Meaning) (t : Tok) (b : Bool) (a c : Act) → (b ≡ true → Keeps P t a) → Keeps P t c → Keeps P t (cond b a c)
keeps-cond P t true a c f g = f refl
keeps-cond P t false a c f g = g

-- a number that is taken keeps its bound
pub plain-keeps : (P : Meaning) (t : Tok) (n : ℕ) (a : Act) → (Plain n → Keeps P t a) → Keeps P t (plain n a)
unfolding plain
plain-keeps P t n a h = keeps-cond P t (ltb n 2147483648) a refuse (λ e. h (ltb-true n 2147483648 e)) tt

pub signed-keeps : (P : Meaning) (t : Tok) (n : ℕ) (a : Act) → (Signed n → Keeps P t a) → Keeps P t (signed n a)
unfolding signed
signed-keeps P t n a h = keeps-cond P t (ltb n 2147483649) a refuse (λ e. h (omega (arith, ltb-true n 2147483649 e))) tt

-- ---- rows

-- the token of a kind and a value
unfoldable pub token_of : ℕ → ℕ → Tok
token_of zero v = mark 0
token_of (suc zero) v = name v
token_of (suc (suc zero)) v = field_name v
token_of (suc (suc (suc zero))) v = number v
token_of (suc (suc (suc (suc k)))) v = mark (suc (suc (suc (suc k))))

-- its kind and its value say what it is
abbrev pub Told : Tok → Type 0
Told t = t ≡ token_of (kind_of t) (value_of t)

mark-told : (k : ℕ) → 3 < k → Told (mark k)
unfolding token_of kind_of value_of
mark-told zero h = absurd (omega arith)
mark-told (suc zero) h = absurd (omega arith)
mark-told (suc (suc zero)) h = absurd (omega arith)
mark-told (suc (suc (suc zero))) h = absurd (omega arith)
mark-told (suc (suc (suc (suc k)))) h = refl

pub known-told : (t : Tok) → IsMark t → Told t
unfolding token_of kind_of value_of
known-told (name x) h = refl
known-told (field_name f) h = refl
known-told (number n) h = refl
known-told (mark k) h = mark-told k h

abbrev pub RowsKeep : Meaning → List Row → Type 0
RowsKeep P [] = Unit {0}
RowsKeep P (on j f ∷ rs) = ((v : ℕ) → Keeps P (token_of j v) (f v)) × RowsKeep P rs

-- a row, and the rows below it
infixr 10 ◌&◌
abbrev pub ◌&◌ : {A B : Type 0} → A → B → A × B
a & b = (a, b)

pub rows_as : (P Q : Meaning) (rs : List Row) → P ⊆ Q → RowsKeep P rs → RowsKeep Q rs
rows_as P Q [] f h = tt
rows_as P Q (on j g ∷ rs) f h = (λ v. keeps-as P Q (token_of j v) (g v) f (h.0 v)) & rows_as P Q rs f h.1

pub rows_append : (P : Meaning) (rs ss : List Row) → RowsKeep P rs → RowsKeep P ss → RowsKeep P (rs ++ ss)
rows_append P [] ss h k = k
rows_append P (on j g ∷ rs) ss h k = h.0 & rows_append P rs ss h.1 k

pub table-keeps : (P : Meaning) (t : Tok) (rs : List Row) (d : Act) → Told t → RowsKeep P rs → Keeps P t d → Keeps P t (row_for (kind_of t) (value_of t) rs d)
unfolding row_for
table-keeps P t [] d e h k = k
table-keeps P t (on j f ∷ rs) d e h k =
    let v = value_of t in
    keeps-cond P t (eqb (kind_of t) j) (f v) (row_for (kind_of t) v rs d)
    (λ q. subst (λ (u : Tok). Keeps P u (f v)) (ap (λ (i : ℕ). token_of i v) (sym (eqb-true (kind_of t) j q)) ∙ sym e) (h.0 v))
    (table-keeps P t rs d e h.1 k)

-- ---- what is due next: nothing, one thing, or one behind another

pub over : (P : Meaning) → P [] [] → Meant [] ⊆ P
over P h us is only = h

pub one : (P : Meaning) (d : Due) → Means d ⊆ P → Meant (d ∷ []) ⊆ P
one P d f us is (both {us = vs} {is = js} m only) = simp append-nil (f vs js m)

pub two : (P Q : Meaning) (e : Due) → Q then Means e ⊆ P → Q then Meant (e ∷ []) ⊆ P
two P Q e f us is (both {us = vs} {is = js} m (both {us = ws} {is = ks} n only)) = simp append-nil (f (vs ++ ws) (js ++ ks) (both m n))

-- the same is still to come
pub due : (d : Due) → Meant (d ∷ []) ⊆ Means d
due d = one (Means d) d (λ us is m. m)

-- ---- phrases

-- a phrase by its parts, in whatever way the lists are put together
pub so : {A : Type 0} {L : A → Level} (a : A) {us vs : List Tok} {js : List Item} → Written (L a) us → us ≡ vs → items_of (L a) ≡ js → Is L vs js
so {L} a {us} {vs} {js} w e f = subst (λ (x : List Tok). Is L x js) e (subst (λ (x : List Item). Is L us x) f (phrase a w))

pub ruleset flat = (append_assoc, append-nil)

-- a phrase, and what stands behind one
pub joined : {A : Type 0} (L : A → Level) (P : Meaning) → Is L then Behind L P ⊆ P
joined L P us is (both {us = vs} (phrase a w) f) = f a vs w

-- an operand, and what stands behind a selection
pub joined-operand : (P : Meaning) → Is an_operand then Behind a_selection P ⊆ P
joined-operand P us is (both {us = vs} (phrase a w) f) = f a vs (one-operand w)

-- what stands behind a difference stands behind a selection
pub narrower : (P : Meaning) → Behind a_difference P ⊆ Behind a_selection P
narrower P us is f a ws w = f a ws (one-selection w)

-- a selection out of one, a dot and an operand
pub selected : (P : Meaning) → Behind a_selection P ⊆ Out 6 0 (Behind an_operand (On dot (Behind a_selection P)))
unfolding items_exp
selected P us is f b vs v a ws w = simp append_assoc at (f (select 0 a b) (ws ++ (dot ∷ vs)) (dotted w v))

-- a difference out of one, a minus and a selection
pub subtracted : (P : Meaning) → Behind a_difference P ⊆ Out 3 0 (BehindMinus P)
unfolding items_exp
subtracted P us is f b vs v m k a ws w = simp append_assoc at (f (diff 0 a b) (ws ++ (m ∷ vs)) (less-a-selection w k v))

-- behind a dot an operand, and what stands behind a selection
pub dotted-then : (P : Meaning) (d : Due) → Means d ⊆ Behind a_selection P → Meant (operand ∷ node 6 0 ∷ d ∷ []) ⊆ On dot (Behind a_selection P)
dotted-then P d f us is (both {us = vs} {is = js} o (both only (both {us = ws} {is = ks} m only))) =
    simp append-nil (joined an_operand (On dot (Behind a_selection P)) (vs ++ ws) (js ++ (put 6 0 ∷ ks)) (both o (selected P ws ks (f ws ks m))))

-- ---- the rows of operands

module _ (P : Meaning) (ds : List Due) (h : Is an_operand then Meant ds ⊆ P) where
  single-keeps : (t : Tok) (k v : ℕ) → Is an_operand (t ∷ []) (put k v ∷ []) → Keeps P t (take ds (put k v ∷ []))
  single-keeps t k v o us is m = h (t ∷ us) (put k v ∷ is) (both o m)

  pub name-keeps : (v : ℕ) → Keeps P (name v) (take ds (put 5 v ∷ []))
  unfolding items_exp
  name-keeps v = single-keeps (name v) 5 v (phrase (ref 0 v) a-name)

  pub field-keeps : (v : ℕ) → Keeps P (field_name v) (take ds (put 1 v ∷ []))
  unfolding items_exp
  field-keeps v = single-keeps (field_name v) 1 v (phrase (field 0 v) a-field)

  pub number-keeps : (v : ℕ) → Keeps P (number v) (plain v (take ds (put 2 v ∷ [])))
  unfolding items_exp
  number-keeps v = plain-keeps P (number v) v (take ds (put 2 v ∷ [])) (λ p. single-keeps (number v) 2 v (phrase (int 0 v) (a-number p)))

  pub sign-keeps : (v : ℕ) → Keeps P sign (take (negative ∷ ds) [])
  sign-keeps v us is (both {us = ws} {vs} {is = ks} {js} n m) = h (sign ∷ (ws ++ vs)) (ks ++ js) (both n m)

  pub null-keeps : (v : ℕ) → Keeps P k_null (take ds (put 4 0 ∷ []))
  unfolding items_exp
  null-keeps v = single-keeps k_null 4 0 (phrase (null 0) a-null)

  pub group-keeps : (v : ℕ) → Keeps P lpar (take (expression ∷ close ∷ ds) [])
  group-keeps v us is (both {us = ws} (phrase e w) (both {vs} {js} only m)) =
      rw append_assoc at (h (lpar ∷ ((ws ++ (rpar ∷ [])) ++ vs)) (items_exp e ++ js) (both (phrase e (a-group w)) m))

  pub operands-keep : RowsKeep P (operands ds)
  unfolding operands token_of
  operands-keep = name-keeps & field-keeps & number-keeps & sign-keeps & null-keeps & group-keeps & tt

-- ---- the rows of procs and of minuses

pub proc-keeps : (P : Meaning) (ds : List Due) → Is a_procedure then Meant ds ⊆ P → Keeps P k_proc (take (proc_name ∷ ds) [])
proc-keeps P ds h us is (both {us = ws} {vs} {is = ks} {js} n m) = h (k_proc ∷ (ws ++ vs)) (ks ++ js) (both n m)

pub minuses-keep : (P : Meaning) (ds : List Due) → Meant ds ⊆ OnMinus P → RowsKeep P (minuses ds)
unfolding minuses token_of
minuses-keep P ds f = (λ v us is m. f us is m sign before-digit) & (λ v us is m. f us is m minus alone) & tt
