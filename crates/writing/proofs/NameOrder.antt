-- All texts of a tree have the same names in the same order: parentheses, minuses and numbers are no names. So what names appear, and in which order, is
-- the tree's. Assumes nothing.
use Prim.Native.Nat.{ℕ}
use mathlib.Core.Path.{◌≡◌, refl, sym, ap, ◌∙◌}
use mathlib.Core.Bool.{cond}
use mathlib.Core.List.{List, [], ◌∷◌, ◌++◌, append-nil}
use Rattle.rules.specs.Syntax.{Exp, Test, Cmd, no_exp, field, int, diff, null, ref, select, proc, no_test, is_true, is_false, equal, less, no_cmd, var, call, malloc, assign, assign_field, skip, seq, while, if, par, atom}
use Rattle.grammar.specs.Classes.{among}
use Rattle.grammar.specs.Tokens.{Tok, name, field_name, number, mark}
use Rattle.grammar.specs.Grammar.{Minus, before-digit, alone, Phrase, Writes, an_expression, a_test, a_command}
use Rattle.grammar.specs.Grammar as G
use Rattle.writing.specs.Renumber.{with_name, appearing_from, appearing}

-- ---- the names of tokens, and of a tree in the order of its text

unfoldable names_at : Tok → List ℕ → List ℕ
names_at (name x) xs = x ∷ xs
names_at (field_name f) xs = xs
names_at (number n) xs = xs
names_at (mark k) xs = xs

unfoldable name_tokens : List Tok → List ℕ
name_tokens [] = []
name_tokens (t ∷ ts) = names_at t (name_tokens ts)

unfoldable mutual
  names_exp : Exp → List ℕ
  names_exp (no_exp n) = []
  names_exp (field n f) = []
  names_exp (int n b) = []
  names_exp (diff n a b) = names_exp a ++ names_exp b
  names_exp (null n) = []
  names_exp (ref n x) = x ∷ []
  names_exp (select n a b) = names_exp a ++ names_exp b
  names_exp (proc n y c) = y ∷ names_cmd c

  names_test : Test → List ℕ
  names_test (no_test n) = []
  names_test (is_true n) = []
  names_test (is_false n) = []
  names_test (equal n a b) = names_exp a ++ names_exp b
  names_test (less n a b) = names_exp a ++ names_exp b

  names_cmd : Cmd → List ℕ
  names_cmd (no_cmd n) = []
  names_cmd (var n x c) = x ∷ names_cmd c
  names_cmd (call n a b) = names_exp a ++ names_exp b
  names_cmd (malloc n x) = x ∷ []
  names_cmd (assign n x e) = x ∷ names_exp e
  names_cmd (assign_field n a b c) = names_exp a ++ (names_exp b ++ names_exp c)
  names_cmd (skip n) = []
  names_cmd (seq n c d) = names_cmd c ++ names_cmd d
  names_cmd (while n t c) = names_test t ++ names_cmd c
  names_cmd (if n t c d) = names_test t ++ (names_cmd c ++ names_cmd d)
  names_cmd (par n c d) = names_cmd c ++ names_cmd d
  names_cmd (atom n c) = names_cmd c

-- ---- tokens put together

record Names (us : List Tok) (xs : List ℕ) : Type 0 where
  are : name_tokens us ≡ xs

names-append : (us vs : List Tok) → name_tokens (us ++ vs) ≡ name_tokens us ++ name_tokens vs
unfolding name_tokens names_at
names-append [] vs = refl
names-append (name x ∷ us) vs = ap (x ∷◌) (names-append us vs)
names-append (field_name f ∷ us) vs = names-append us vs
names-append (number n ∷ us) vs = names-append us vs
names-append (mark k ∷ us) vs = names-append us vs

both : {us vs : List Tok} {xs ys : List ℕ} → Names us xs → Names vs ys → Names (us ++ vs) (xs ++ ys)
both {us} {vs} g h = record { are = names-append us vs ∙ (let i = g.are in let j = h.are in rw (i, j) refl) }

named : {x : ℕ} {us : List Tok} {xs : List ℕ} → Names us xs → Names (name x ∷ us) (x ∷ xs)
unfolding name_tokens names_at
named {x} g = record { are = ap (x ∷◌) g.are }

past : {k : ℕ} {us : List Tok} {xs : List ℕ} → Names us xs → Names (mark k ∷ us) xs
unfolding name_tokens names_at
past g = record { are = g.are }

ending : (k : ℕ) {us : List Tok} {xs : List ℕ} → Names us xs → Names (us ++ (mark k ∷ [])) xs
unfolding name_tokens names_at
ending k {us} {xs} g = record { are = names-append us (mark k ∷ []) ∙ (append-nil (name_tokens us) ∙ g.are) }

past-minus : {m : Tok} {us : List Tok} {xs : List ℕ} → Minus m → Names us xs → Names (m ∷ us) xs
past-minus before-digit g = past g
past-minus alone g = past g

no_names : Names [] []
unfolding name_tokens
no_names = record { are = refl }

-- ---- phrases

abbrev Ordered : Phrase → List Tok → Type 0
Ordered (an_expression t p e) us = Names us (names_exp e)
Ordered (a_test f t) us = Names us (names_test t)
Ordered (a_command c) us = Names us (names_cmd c)

ordered : {p : Phrase} {us : List Tok} → Writes p us → Ordered p us
unfolding name_tokens names_at names_exp
ordered G.a-field = record { are = refl }
ordered (G.a-number h) = record { are = refl }
ordered (G.a-negative h) = record { are = refl }
ordered (G.a-difference v m w n) = both (ordered v) (past-minus m (ordered w))
ordered G.a-null = past no_names
ordered G.a-name = named no_names
ordered (G.a-selection v k w n s) = both (ordered v) (past (ordered w))
ordered (G.a-proc w) = past (named (past (ordered w)))
ordered (G.a-group w) = past (ending 18 (ordered w))
ordered G.says-true = past no_names
ordered G.says-false = past no_names
ordered (G.are-equal v w) = both (ordered v) (past (ordered w))
ordered (G.is-less v w) = both (ordered v) (past (ordered w))
ordered (G.declares w) = past (named (past (ordered w)))
ordered (G.calls v w) = both (ordered v) (past (ending 18 (ordered w)))
ordered G.allocates = record { are = refl }
ordered (G.assigns w) = named (past (ordered w))
ordered (G.assigns-field v k w n s x) = both (ordered v) (past (both (ordered w) (past (ordered x))))
ordered G.skips = past no_names
ordered (G.in-sequence v w) = past (both (ordered v) (past (ending 20 (ordered w))))
ordered (G.repeats v w n) = past (both (ordered v) (ordered w))
ordered (G.chooses v w n x) = past (both (ordered v) (both (ordered w) (past (ordered x))))
ordered (G.in-parallel v w) = past (both (ordered v) (past (ending 20 (ordered w))))
ordered (G.in-atom w) = past (past (ending 18 (ordered w)))

-- ---- what appears goes by the names alone

unfoldable firsts_from : List ℕ → List ℕ → List ℕ
firsts_from xs [] = xs
firsts_from xs (y ∷ ys) = firsts_from (cond (among y xs) xs (xs ++ (y ∷ []))) ys

appearing-by : (ts : List Tok) (xs : List ℕ) → appearing_from xs ts ≡ firsts_from xs (name_tokens ts)
unfolding appearing_from with_name firsts_from name_tokens names_at
appearing-by [] xs = refl
appearing-by (name x ∷ ts) xs = appearing-by ts (cond (among x xs) xs (xs ++ (x ∷ [])))
appearing-by (field_name f ∷ ts) xs = appearing-by ts xs
appearing-by (number n ∷ ts) xs = appearing-by ts xs
appearing-by (mark k ∷ ts) xs = appearing-by ts xs

pub appear-alike : {c : Cmd} {us vs : List Tok} → Writes (a_command c) us → Writes (a_command c) vs → appearing us ≡ appearing vs
unfolding appearing
appear-alike {c} {us} {vs} v w =
    appearing-by us [] ∙ (ap (firsts_from []) ((ordered v).are ∙ sym (ordered w).are) ∙ sym (appearing-by vs []))
