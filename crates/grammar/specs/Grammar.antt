-- The written form: document 002, section 1, rule by rule, with order 1's sentences as conditions. `Writes (a_command c) ts` says that the
-- tokens ts are a way to write the command c; trees carry node number 0 throughout. The paper's rules are ambiguous: `e - e - e` has two
-- readings by them. The conditions leave one (`reading`, proofs/OneReading). There is no order of reading here. Assumes nothing.
use Rattle.std.specs.Prelude.{ℕ, ◌-◌, ◌^◌, ◌%◌, ◌<◌, ◌≤◌, ◌≡◌, List, [], ◌∷◌, ◌++◌, map}
use Rattle.rules.specs.Syntax.{Exp, Test, Cmd, field, int, diff, null, ref, select, proc, is_true, is_false, equal, less, var, call, malloc, assign, assign_field, skip, seq, while, if, par, atom}
use Rattle.grammar.specs.Tokens.{Tok, name, field_name, number, kind_of, sign, minus, k_null, k_proc, k_true, k_false, k_var, k_malloc, k_skip, k_while, k_if, k_else, k_atom, lpar, rpar, lbrace, rbrace, semi, bars, dot, becomes, equals, below, colon}

-- ---- the conditions

-- what an expression is where it isn't in parentheses; one in parentheses is an operand
pub data Top : Type 0 where
  operand selection difference procedure : Top

-- "Selection binds tightest, then difference, both to the left": no difference stands beside a dot, and right of a minus stands none;
-- right of a dot stands no selection
abbrev pub NoDifference : Top → Type 0
NoDifference operand = Unit {0}
NoDifference selection = Unit {0}
NoDifference difference = ⊥
NoDifference procedure = Unit {0}

abbrev pub NoSelection : Top → Type 0
NoSelection operand = Unit {0}
NoSelection selection = ⊥
NoSelection difference = Unit {0}
NoSelection procedure = Unit {0}

-- an expression by its top, and by how it ends: with a proc that is not in parentheses (`bare`) or otherwise (`closed`). "a proc not in parentheses is followed by
-- no dot, minus, comparison or argument": what stands left of these is `closed`
pub data Ending : Type 0 where
  closed bare : Ending

-- a minus, with a digit directly after it or not
pub data Minus : Tok → Type 0 where
  before-digit : Minus sign
  alone : Minus minus

-- "Integers are decimal with an optional minus directly before, where no operand has just ended": a sign begins no command that
-- stands directly behind an operand. That is the case behind a comparison, and behind true and false it isn't
pub data Ended : Type 0 where
  an_operand no_operand : Ended

abbrev pub NoSign : List Tok → Type 0
NoSign [] = Unit {0}
NoSign (t ∷ ts) = kind_of t ≡ 4 → ⊥

abbrev pub Behind : Ended → List Tok → Type 0
Behind an_operand ts = NoSign ts
Behind no_operand ts = Unit {0}

-- 32 bits: what a number's digits may say, without a sign and with one; and the bits of one with a sign (of -0 they are 0)
abbrev pub Plain : ℕ → Type 0
Plain n = n < 2147483648

abbrev pub Signed : ℕ → Type 0
Signed n = n ≤ 2147483648

unfoldable pub negated : ℕ → ℕ
negated n = (2 ^ 32 - n) % 2 ^ 32

-- ---- the rules

pub data Phrase : Type 0 where
  an_expression : Top → Ending → Exp → Phrase
  a_test : Ended → Test → Phrase
  a_command : Cmd → Phrase

pub data Writes : Phrase → List Tok → Type 0 where
  -- e ::= f | 1 | e - e | null | x | e.e | proc y:C, and parentheses may group expressions
  a-field : {f : ℕ} → Writes (an_expression operand closed (field 0 f)) (field_name f ∷ [])
  a-number : {n : ℕ} → Plain n → Writes (an_expression operand closed (int 0 n)) (number n ∷ [])
  a-negative : {n : ℕ} → Signed n → Writes (an_expression operand closed (int 0 (negated n))) (sign ∷ number n ∷ [])
  a-difference : {t u : Top} {p : Ending} {a b : Exp} {us vs : List Tok} {m : Tok}
      → Writes (an_expression t closed a) us → Minus m → Writes (an_expression u p b) vs → NoDifference u
      → Writes (an_expression difference p (diff 0 a b)) (us ++ (m ∷ vs))
  a-null : Writes (an_expression operand closed (null 0)) (k_null ∷ [])
  a-name : {x : ℕ} → Writes (an_expression operand closed (ref 0 x)) (name x ∷ [])
  a-selection : {t u : Top} {p : Ending} {a b : Exp} {us vs : List Tok}
      → Writes (an_expression t closed a) us → NoDifference t → Writes (an_expression u p b) vs → NoDifference u → NoSelection u
      → Writes (an_expression selection p (select 0 a b)) (us ++ (dot ∷ vs))
  a-proc : {y : ℕ} {c : Cmd} {us : List Tok} → Writes (a_command c) us → Writes (an_expression procedure bare (proc 0 y c)) (k_proc ∷ name y ∷ colon ∷ us)
  a-group : {t : Top} {p : Ending} {e : Exp} {us : List Tok}
      → Writes (an_expression t p e) us → Writes (an_expression operand closed e) (lpar ∷ (us ++ (rpar ∷ [])))
  -- b ::= true | false | e == e | e < e
  says-true : Writes (a_test no_operand (is_true 0)) (k_true ∷ [])
  says-false : Writes (a_test no_operand (is_false 0)) (k_false ∷ [])
  are-equal : {t u : Top} {p : Ending} {a b : Exp} {us vs : List Tok}
      → Writes (an_expression t closed a) us → Writes (an_expression u p b) vs → Writes (a_test an_operand (equal 0 a b)) (us ++ (equals ∷ vs))
  is-less : {t u : Top} {p : Ending} {a b : Exp} {us vs : List Tok}
      → Writes (an_expression t closed a) us → Writes (an_expression u p b) vs → Writes (a_test an_operand (less 0 a b)) (us ++ (below ∷ vs))
  -- C ::= var x;C | e(e) | malloc(x) | x = e | e.e = e | skip | {C;C} | while b C | if b C else C | {C || C} | atom(C)
  declares : {x : ℕ} {c : Cmd} {us : List Tok} → Writes (a_command c) us → Writes (a_command (var 0 x c)) (k_var ∷ name x ∷ semi ∷ us)
  calls : {t u : Top} {p : Ending} {a b : Exp} {us vs : List Tok}
      → Writes (an_expression t closed a) us → Writes (an_expression u p b) vs → Writes (a_command (call 0 a b)) (us ++ (lpar ∷ (vs ++ (rpar ∷ []))))
  allocates : {x : ℕ} → Writes (a_command (malloc 0 x)) (k_malloc ∷ lpar ∷ name x ∷ rpar ∷ [])
  assigns : {t : Top} {p : Ending} {x : ℕ} {e : Exp} {us : List Tok} → Writes (an_expression t p e) us → Writes (a_command (assign 0 x e)) (name x ∷ becomes ∷ us)
  assigns-field : {t u v : Top} {p q : Ending} {a b c : Exp} {us vs ws : List Tok}
      → Writes (an_expression t closed a) us → NoDifference t → Writes (an_expression u p b) vs → NoDifference u → NoSelection u
      → Writes (an_expression v q c) ws
      → Writes (a_command (assign_field 0 a b c)) (us ++ (dot ∷ (vs ++ (becomes ∷ ws))))
  skips : Writes (a_command (skip 0)) (k_skip ∷ [])
  in-sequence : {c d : Cmd} {us vs : List Tok}
      → Writes (a_command c) us → Writes (a_command d) vs → Writes (a_command (seq 0 c d)) (lbrace ∷ (us ++ (semi ∷ (vs ++ (rbrace ∷ [])))))
  repeats : {f : Ended} {t : Test} {c : Cmd} {us vs : List Tok}
      → Writes (a_test f t) us → Writes (a_command c) vs → Behind f vs → Writes (a_command (while 0 t c)) (k_while ∷ (us ++ vs))
  chooses : {f : Ended} {t : Test} {c d : Cmd} {us vs ws : List Tok}
      → Writes (a_test f t) us → Writes (a_command c) vs → Behind f vs → Writes (a_command d) ws
      → Writes (a_command (if 0 t c d)) (k_if ∷ (us ++ (vs ++ (k_else ∷ ws))))
  in-parallel : {c d : Cmd} {us vs : List Tok}
      → Writes (a_command c) us → Writes (a_command d) vs → Writes (a_command (par 0 c d)) (lbrace ∷ (us ++ (bars ∷ (vs ++ (rbrace ∷ [])))))
  in-atom : {c : Cmd} {us : List Tok} → Writes (a_command c) us → Writes (a_command (atom 0 c)) (k_atom ∷ lpar ∷ (us ++ (rpar ∷ [])))

-- ---- texts, and what can be gone on to one

pub record Text (ts : List Tok) : Type 0 where
  pub command : Cmd
  pub writes : Writes (a_command command) ts

-- a text of the grammar begins with these tokens
pub record Begins (us : List Tok) : Type 0 where
  pub rest : List Tok
  pub text : Text (us ++ rest)

-- a text of the grammar begins with tokens of these kinds: the same "whatever its names, fields and numbers"
pub record BeginsAlike (ks : List ℕ) : Type 0 where
  pub tokens : List Tok
  pub alike : map kind_of tokens ≡ ks
  pub begins : Begins tokens
