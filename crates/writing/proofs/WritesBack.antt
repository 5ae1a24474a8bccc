-- The grammar writes every tree as `write_cmd` does: a tree with nothing missing and integers of 32 bits, its node numbers wiped. Assumes nothing.
use Prim.Native.Nat.{ℕ, ◌-◌, ◌^◌, ◌<◌, ◌≤◌}
use mathlib.Core.Path.{◌≡◌, refl, sym, subst, ◌∙◌}
use mathlib.Core.Bool.{Bool, true, false, cond, true≢false, ◌||◌}
use mathlib.Core.List.{List, [], ◌∷◌, ◌++◌}
use native.Mathlib.Omega.{arith}
use lib.Dec.{ltb}
use borrow.Author.Tests.{eq-eqb, ltb-true, ltb-false}
use Rattle.laws.specs.Bools.{or_left, or_right}
use Rattle.rules.specs.Syntax.{Exp, Test, Cmd, no_exp, field, int, diff, null, ref, select, proc, no_test, is_true, is_false, equal, less, no_cmd, var, call, malloc, assign, assign_field, skip, seq, while, if, par, atom, bare_exp, bare_test, bare_cmd}
use Rattle.grammar.specs.Tokens.{Tok, number, kind_of, sign}
use Rattle.grammar.specs.Grammar.{Top, operand, selection, difference, procedure, Ending, closed, bare, Ended, an_operand, no_operand, NoDifference, NoSelection, NoSign, Behind, negated, alone, Writes, an_expression, a_test, a_command}
use Rattle.grammar.specs.Grammar as G
use Rattle.grammar.specs.Proper.{ProperExp, ProperTest, ProperCmd}
use Rattle.writing.specs.WriteTokens.{top_of, is_difference, is_selection, is_bare, not_dotted, end_of, grouped, opens_left, opens_dot, sign_first, signed, write_int, ended_by, write_exp, write_test, write_behind, write_cmd}

-- ---- parentheses where they are needed

group : (k : Bool) {t : Top} {p : Ending} {e : Exp} {us : List Tok}
    → Writes (an_expression t p e) us → Writes (an_expression (cond k operand t) (cond k closed p) e) (grouped k us)
unfolding grouped
group true w = G.a-group w
group false w = w

closing : (k : Bool) (t : Top) (p : Ending) {e : Exp} {us : List Tok}
    → (k ≡ false → is_bare p ≡ false) → Writes (an_expression t p e) us → Writes (an_expression (cond k operand t) closed e) (grouped k us)
unfolding grouped is_bare
closing true t p h w = G.a-group w
closing false t closed h w = w
closing false t bare h w = absurd (true≢false (h refl))

no_difference : (k : Bool) (t : Top) → (k ≡ false → is_difference t ≡ false) → NoDifference (cond k operand t)
unfolding is_difference
no_difference true t h = tt
no_difference false operand h = tt
no_difference false selection h = tt
no_difference false difference h = absurd (true≢false (h refl))
no_difference false procedure h = tt

no-selection : (k : Bool) (t : Top) → (k ≡ false → is_selection t ≡ false) → NoSelection (cond k operand t)
unfolding is_selection
no-selection true t h = tt
no-selection false operand h = tt
no-selection false selection h = absurd (true≢false (h refl))
no-selection false difference h = tt
no-selection false procedure h = tt

-- ---- no sign behind an operand

no_sign : (us : List Tok) → sign_first us ≡ false → NoSign us
unfolding sign_first
no_sign [] h = tt
no_sign (t ∷ us) h = λ e. true≢false (sym (eq-eqb (kind_of t) 4 e) ∙ h)

no-sign-first : (us vs : List Tok) → NoSign us → NoSign vs → NoSign (us ++ vs)
no-sign-first [] vs g h = h
no-sign-first (t ∷ us) vs g h = g

unsigned : (k : Bool) (us vs : List Tok) → NoSign vs → NoSign (grouped (k || sign_first us) us ++ vs)
unfolding grouped kind_of
unsigned true us vs h = λ e. omega arith
unsigned false us vs h = go (sign_first us) refl
  where
    go : (s : Bool) → sign_first us ≡ s → NoSign (grouped s us ++ vs)
    go true e = λ i. omega arith
    go false e = no-sign-first us vs (no_sign us e) h

behind : (c : Cmd) (f : Ended) → Behind f (write_behind c f)
unfolding write_behind signed kind_of
behind c no_operand = tt
behind (no_cmd n) an_operand = tt
behind (var n x c) an_operand = λ e. omega arith
behind (call n a b) an_operand = unsigned (opens_left a) (write_exp a) _ (λ e. omega arith)
behind (malloc n x) an_operand = λ e. omega arith
behind (assign n x e) an_operand = λ i. omega arith
behind (assign_field n a b c) an_operand = unsigned (opens_dot a) (write_exp a) _ (λ e. omega arith)
behind (skip n) an_operand = λ e. omega arith
behind (seq n c d) an_operand = λ e. omega arith
behind (while n t c) an_operand = λ e. omega arith
behind (if n t c d) an_operand = λ e. omega arith
behind (par n c d) an_operand = λ e. omega arith
behind (atom n c) an_operand = λ e. omega arith

-- ---- integers

negated_back : (b : ℕ) → 2147483648 ≤ b → b < 2 ^ 32 → negated (2 ^ 32 - b) ≡ b
unfolding negated
negated_back b l h = omega arith

an-integer : (b : ℕ) → b < 2 ^ 32 → Writes (an_expression operand closed (int 0 b)) (write_int b)
unfolding write_int
an-integer b h = go (ltb b 2147483648) refl
  where
    go : (s : Bool) → ltb b 2147483648 ≡ s → Writes (an_expression operand closed (int 0 b)) (cond s (number b ∷ []) (sign ∷ number (2 ^ 32 - b) ∷ []))
    go true e = G.a-number (ltb-true b 2147483648 e)
    go false e =
        let l = ltb-false b 2147483648 e in
        subst (λ m. Writes (an_expression operand closed (int 0 m)) (sign ∷ number (2 ^ 32 - b) ∷ [])) (negated_back b l h)
        (G.a-negative (omega arith))

-- ---- trees

module _ (P Q : ℕ → Type 0) where
  mutual
    unfolding write_exp bare_exp top_of end_of opens_left opens_dot not_dotted ended_by

    pub writes-exp : (e : Exp) → ProperExp P Q e → Writes (an_expression (top_of e) (end_of e) (bare_exp e)) (write_exp e)
    writes-exp (no_exp n) p = absurd p
    writes-exp (field n f) p = G.a-field
    writes-exp (int n b) p = an-integer b p
    writes-exp (diff n a b) p =
        G.a-difference
        (closing (opens_left a) (top_of a) (end_of a) (λ e. e) (writes-exp a p.0))
        alone
        (group (is_difference (top_of b)) (writes-exp b p.1))
        (no_difference (is_difference (top_of b)) (top_of b) (λ e. e))
    writes-exp (null n) p = G.a-null
    writes-exp (ref n x) p = G.a-name
    writes-exp (select n a b) p =
        G.a-selection
        (closing (opens_dot a) (top_of a) (end_of a) (or_right (is_difference (top_of a)) _) (writes-exp a p.0))
        (no_difference (opens_dot a) (top_of a) (or_left (is_difference (top_of a)) _))
        (group (not_dotted (top_of b)) (writes-exp b p.1))
        (no_difference (not_dotted (top_of b)) (top_of b) (or_left (is_difference (top_of b)) _))
        (no-selection (not_dotted (top_of b)) (top_of b) (or_right (is_difference (top_of b)) _))
    writes-exp (proc n y c) p = G.a-proc (writes-behind c no_operand p.1)

    pub writes-test : (t : Test) → ProperTest P Q t → Writes (a_test (ended_by t) (bare_test t)) (write_test t)
    writes-test (no_test n) p = absurd p
    writes-test (is_true n) p = G.says-true
    writes-test (is_false n) p = G.says-false
    writes-test (equal n a b) p =
        G.are-equal (closing (opens_left a) (top_of a) (end_of a) (λ e. e) (writes-exp a p.0)) (writes-exp b p.1)
    writes-test (less n a b) p =
        G.is-less (closing (opens_left a) (top_of a) (end_of a) (λ e. e) (writes-exp a p.0)) (writes-exp b p.1)

    pub writes-behind : (c : Cmd) (f : Ended) → ProperCmd P Q c → Writes (a_command (bare_cmd c)) (write_behind c f)
    writes-behind (no_cmd n) f p = absurd p
    writes-behind (var n x c) f p = G.declares (writes-behind c no_operand p.1)
    writes-behind (call n a b) f p =
        G.calls
        (closing (opens_left a || signed f (write_exp a)) (top_of a) (end_of a) (or_left (opens_left a) _) (writes-exp a p.0))
        (writes-exp b p.1)
    writes-behind (malloc n x) f p = G.allocates
    writes-behind (assign n x e) f p = G.assigns (writes-exp e p.1)
    writes-behind (assign_field n a b c) f p =
        G.assigns-field
        (closing (opens_dot a || signed f (write_exp a)) (top_of a) (end_of a)
        (λ e. or_right (is_difference (top_of a)) _ (or_left (opens_dot a) _ e)) (writes-exp a p.0))
        (no_difference (opens_dot a || signed f (write_exp a)) (top_of a) (λ e. or_left (is_difference (top_of a)) _ (or_left (opens_dot a) _ e)))
        (group (not_dotted (top_of b)) (writes-exp b p.1))
        (no_difference (not_dotted (top_of b)) (top_of b) (or_left (is_difference (top_of b)) _))
        (no-selection (not_dotted (top_of b)) (top_of b) (or_right (is_difference (top_of b)) _))
        (writes-exp c p.2)
    writes-behind (skip n) f p = G.skips
    writes-behind (seq n c d) f p = G.in-sequence (writes-behind c no_operand p.0) (writes-behind d no_operand p.1)
    writes-behind (while n t c) f p = G.repeats (writes-test t p.0) (writes-behind c (ended_by t) p.1) (behind c (ended_by t))
    writes-behind (if n t c d) f p =
        G.chooses (writes-test t p.0) (writes-behind c (ended_by t) p.1) (behind c (ended_by t)) (writes-behind d no_operand p.2)
    writes-behind (par n c d) f p = G.in-parallel (writes-behind c no_operand p.0) (writes-behind d no_operand p.1)
    writes-behind (atom n c) f p = G.in-atom (writes-behind c no_operand p)

  pub writes-back : (c : Cmd) → ProperCmd P Q c → Writes (a_command (bare_cmd c)) (write_cmd c)
  unfolding write_cmd
  writes-back c p = writes-behind c no_operand p
