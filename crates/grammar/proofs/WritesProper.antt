-- What the grammar writes is a proper tree, with the fields and names of its tokens (`writes-proper`), and carries node number 0 throughout
-- (`writes-bare`). Assumes nothing.
use Prim.Native.Nat.{ℕ, ◌^◌, ◌<◌}
use mathlib.Core.Path.{◌≡◌, refl}
use mathlib.Core.List.{List, [], ◌∷◌, ◌++◌}
use native.Mathlib.Omega.{arith}
use Rattle.rules.specs.Syntax.{Cmd, bare_exp, bare_test, bare_cmd}
use Rattle.grammar.specs.Tokens.{Tok, name, field_name, number, mark}
use Rattle.grammar.specs.Grammar.{negated, Phrase, an_expression, a_test, a_command, Writes, a-field, a-number, a-negative, a-difference, a-null, a-name, a-selection, a-proc, a-group, says-true, says-false, are-equal, is-less, declares, calls, allocates, assigns, assigns-field, skips, in-sequence, repeats, chooses, in-parallel, in-atom}
use Rattle.grammar.specs.Proper.{ProperExp, ProperTest, ProperCmd}

negated-small : (n : ℕ) → negated n < 2 ^ 32
unfolding negated
negated-small n = omega arith

-- P of the fields, Q of the names
module _ (P Q : ℕ → Type 0) where
  abbrev pub ProperToken : Tok → Type 0
  ProperToken (name x) = Q x
  ProperToken (field_name f) = P f
  ProperToken (number n) = Unit {0}
  ProperToken (mark k) = Unit {0}

  abbrev pub ProperTokens : List Tok → Type 0
  ProperTokens [] = Unit {0}
  ProperTokens (t ∷ ts) = ProperToken t × ProperTokens ts

  first : (us vs : List Tok) → ProperTokens (us ++ vs) → ProperTokens us
  first [] vs h = tt
  first (t ∷ us) vs h = (h.0, first us vs h.1)

  second : (us vs : List Tok) → ProperTokens (us ++ vs) → ProperTokens vs
  second [] vs h = h
  second (t ∷ us) vs h = second us vs h.1

  abbrev ProperPhrase : Phrase → Type 0
  ProperPhrase (an_expression t p e) = ProperExp P Q e
  ProperPhrase (a_test f t) = ProperTest P Q t
  ProperPhrase (a_command c) = ProperCmd P Q c

  proper : {ph : Phrase} {ts : List Tok} → Writes ph ts → ProperTokens ts → ProperPhrase ph
  proper a-field h = h.0
  proper (a-number p) h = omega arith
  proper (a-negative {n = n} p) h = negated-small n
  proper (a-difference {us = us} {vs = vs} {m = m} x k y d) h = (proper x (first us (m ∷ vs) h), proper y (second us (m ∷ vs) h).1)
  proper a-null h = tt
  proper a-name h = h.0
  proper (a-selection {us = us} {vs = vs} x d y e f) h = (proper x (first us _ h), proper y (second us _ h).1)
  proper (a-proc x) h = (h.1.0, proper x h.1.1.1)
  proper (a-group {us = us} x) h = proper x (first us _ h.1)
  proper says-true h = tt
  proper says-false h = tt
  proper (are-equal {us = us} x y) h = (proper x (first us _ h), proper y (second us _ h).1)
  proper (is-less {us = us} x y) h = (proper x (first us _ h), proper y (second us _ h).1)
  proper (declares x) h = (h.1.0, proper x h.1.1.1)
  proper (calls {us = us} {vs = vs} x y) h = (proper x (first us _ h), proper y (first vs _ (second us _ h).1))
  proper allocates h = h.1.1.0
  proper (assigns x) h = (h.0, proper x h.1.1)
  proper (assigns-field {us = us} {vs = vs} x d y e f z) h =
      let g = (second us _ h).1 in (proper x (first us _ h), proper y (first vs _ g), proper z (second vs _ g).1)
  proper skips h = tt
  proper (in-sequence {us = us} {vs = vs} x y) h = (proper x (first us _ h.1), proper y (first vs _ (second us _ h.1).1))
  proper (repeats {us = us} x y b) h = (proper x (first us _ h.1), proper y (second us _ h.1))
  proper (chooses {us = us} {vs = vs} x y b z) h =
      let g = second us _ h.1 in (proper x (first us _ h.1), proper y (first vs _ g), proper z (second vs _ g).1)
  proper (in-parallel {us = us} {vs = vs} x y) h = (proper x (first us _ h.1), proper y (first vs _ (second us _ h.1).1))
  proper (in-atom {us = us} x) h = proper x (first us _ h.1.1)

  pub writes-proper : (c : Cmd) (ts : List Tok) → Writes (a_command c) ts → ProperTokens ts → ProperCmd P Q c
  writes-proper c ts w h = proper w h

-- ---- node number 0 throughout

abbrev BarePhrase : Phrase → Type 0
BarePhrase (an_expression t p e) = bare_exp e ≡ e
BarePhrase (a_test f t) = bare_test t ≡ t
BarePhrase (a_command c) = bare_cmd c ≡ c

bare : {ph : Phrase} {ts : List Tok} → Writes ph ts → BarePhrase ph
unfolding bare_exp
bare a-field = refl
bare (a-number p) = refl
bare (a-negative p) = refl
bare (a-difference x k y d) = rw (bare x, bare y)
bare a-null = refl
bare a-name = refl
bare (a-selection x d y e f) = rw (bare x, bare y)
bare (a-proc x) = rw (bare x)
bare (a-group x) = bare x
bare says-true = refl
bare says-false = refl
bare (are-equal x y) = rw (bare x, bare y)
bare (is-less x y) = rw (bare x, bare y)
bare (declares x) = rw (bare x)
bare (calls x y) = rw (bare x, bare y)
bare allocates = refl
bare (assigns x) = rw (bare x)
bare (assigns-field x d y e f z) = rw (bare x, bare y, bare z)
bare skips = refl
bare (in-sequence x y) = rw (bare x, bare y)
bare (repeats x y b) = rw (bare x, bare y)
bare (chooses x y b z) = rw (bare x, bare y, bare z)
bare (in-parallel x y) = rw (bare x, bare y)
bare (in-atom x) = rw (bare x)

pub writes-bare : (c : Cmd) (ts : List Tok) → Writes (a_command c) ts → bare_cmd c ≡ c
writes-bare c ts w = bare w
