-- The tokens of a tree can be spelled, with as many names and fields as it has: each sign stands directly before its number. Assumes nothing.
use Prim.Native.Nat.{ℕ, ◌-◌, ◌^◌}
use mathlib.Core.Path.{◌≡◌, refl, sym, ◌∙◌}
use mathlib.Core.Bool.{Bool, true, false, cond, true≢false, ◌||◌}
use mathlib.Core.List.{List, [], ◌∷◌, ◌++◌}
use native.Mathlib.Omega.{arith}
use lib.Dec.{eqb, ltb}
use borrow.Author.Tests.{eq-eqb}
use Rattle.rules.specs.Syntax.{Exp, Test, Cmd, no_exp, field, int, diff, null, ref, select, proc, no_test, is_true, is_false, equal, less, no_cmd, var, call, malloc, assign, assign_field, skip, seq, while, if, par, atom}
use Rattle.grammar.specs.Tokens.{Tok, name, number, mark, kind_of, sign, reserved, single, double}
use Rattle.grammar.specs.Grammar.{Ended, no_operand}
use Rattle.grammar.specs.Proper.{ProperExp, ProperTest, ProperCmd, Field, Name}
use Rattle.writing.specs.WriteTokens.{top_of, is_difference, not_dotted, grouped, opens_left, opens_dot, signed, write_int, ended_by, write_exp, write_test, write_behind, write_cmd}
use Rattle.writing.specs.Spell.{marks, has_kind, NumberFirst, Spellable}

module _ (N F : ℕ) where
  record Right (ts : List Tok) : Type 0 where
    spells : Spellable N F ts

  -- ---- tokens put together

  number-first : (us vs : List Tok) → NumberFirst us → NumberFirst (us ++ vs)
  number-first [] vs h = absurd h
  number-first (t ∷ us) vs h = h

  joined : (us vs : List Tok) → Spellable N F us → Spellable N F vs → Spellable N F (us ++ vs)
  joined [] vs g h = h
  joined (t ∷ us) vs g h = (g.0, (λ e. number-first us vs (g.1 e)), joined us vs g.2 h)

  both : {us vs : List Tok} → Right us → Right vs → Right (us ++ vs)
  both {us} {vs} g h = record { spells = joined us vs g.spells h.spells }

  nothing : Right []
  nothing = record { spells = tt }

  marked : (k : ℕ) {ts : List Tok} → has_kind k marks ≡ true → eqb k 4 ≡ false → Right ts → Right (mark k ∷ ts)
  unfolding kind_of
  marked k e n h = record { spells = (e, (λ i. absurd (true≢false (sym (eq-eqb k 4 i) ∙ n))), h.spells) }

  named : (x : ℕ) {ts : List Tok} → Name N x → Right ts → Right (name x ∷ ts)
  unfolding kind_of
  named x l h = record { spells = (l, (λ i. absurd (omega arith)), h.spells) }

  group : (k : Bool) {us : List Tok} → Right us → Right (grouped k us)
  unfolding grouped has_kind marks reserved single double
  group true h = marked 17 refl refl (both h (marked 18 refl refl nothing))
  group false h = h

  integer : (b : ℕ) → Right (write_int b)
  unfolding write_int kind_of has_kind marks reserved single double
  integer b = go (ltb b 2147483648)
    where
      go : (t : Bool) → Right (cond t (number b ∷ []) (sign ∷ number (2 ^ 32 - b) ∷ []))
      go true = record { spells = (tt, (λ e. absurd (omega arith)), tt) }
      go false = record { spells = (refl, (λ e. tt), (tt, (λ e. absurd (omega arith)), tt)) }

  -- ---- trees

  mutual
    unfolding write_exp kind_of has_kind marks reserved single double

    exp-spells : (e : Exp) → ProperExp (Field F) (Name N) e → Right (write_exp e)
    exp-spells (no_exp n) p = nothing
    exp-spells (field n f) p = record { spells = (p, (λ e. absurd (omega arith)), tt) }
    exp-spells (int n b) p = integer b
    exp-spells (diff n a b) p =
        both (group (opens_left a) (exp-spells a p.0)) (marked 5 refl refl (group (is_difference (top_of b)) (exp-spells b p.1)))
    exp-spells (null n) p = marked 6 refl refl nothing
    exp-spells (ref n x) p = named x p nothing
    exp-spells (select n a b) p =
        both (group (opens_dot a) (exp-spells a p.0)) (marked 23 refl refl (group (not_dotted (top_of b)) (exp-spells b p.1)))
    exp-spells (proc n y c) p = marked 7 refl refl (named y p.0 (marked 27 refl refl (behind-spells c no_operand p.1)))

    test-spells : (t : Test) → ProperTest (Field F) (Name N) t → Right (write_test t)
    test-spells (no_test n) p = nothing
    test-spells (is_true n) p = marked 8 refl refl nothing
    test-spells (is_false n) p = marked 9 refl refl nothing
    test-spells (equal n a b) p = both (group (opens_left a) (exp-spells a p.0)) (marked 25 refl refl (exp-spells b p.1))
    test-spells (less n a b) p = both (group (opens_left a) (exp-spells a p.0)) (marked 26 refl refl (exp-spells b p.1))

    behind-spells : (c : Cmd) (f : Ended) → ProperCmd (Field F) (Name N) c → Right (write_behind c f)
    behind-spells (no_cmd n) f p = nothing
    behind-spells (var n x c) f p = marked 10 refl refl (named x p.0 (marked 21 refl refl (behind-spells c no_operand p.1)))
    behind-spells (call n a b) f p =
        both
        (group (opens_left a || signed f (write_exp a)) (exp-spells a p.0))
        (marked 17 refl refl (both (exp-spells b p.1) (marked 18 refl refl nothing)))
    behind-spells (malloc n x) f p = marked 11 refl refl (marked 17 refl refl (named x p (marked 18 refl refl nothing)))
    behind-spells (assign n x e) f p = named x p.0 (marked 24 refl refl (exp-spells e p.1))
    behind-spells (assign_field n a b c) f p =
        both
        (group (opens_dot a || signed f (write_exp a)) (exp-spells a p.0))
        (marked 23 refl refl
        (both (group (not_dotted (top_of b)) (exp-spells b p.1)) (marked 24 refl refl (exp-spells c p.2))))
    behind-spells (skip n) f p = marked 12 refl refl nothing
    behind-spells (seq n c d) f p =
        marked 19 refl refl
        (both (behind-spells c no_operand p.0) (marked 21 refl refl (both (behind-spells d no_operand p.1) (marked 20 refl refl nothing))))
    behind-spells (while n t c) f p = marked 13 refl refl (both (test-spells t p.0) (behind-spells c (ended_by t) p.1))
    behind-spells (if n t c d) f p =
        marked 14 refl refl
        (both (test-spells t p.0) (both (behind-spells c (ended_by t) p.1) (marked 15 refl refl (behind-spells d no_operand p.2))))
    behind-spells (par n c d) f p =
        marked 19 refl refl
        (both (behind-spells c no_operand p.0) (marked 22 refl refl (both (behind-spells d no_operand p.1) (marked 20 refl refl nothing))))
    behind-spells (atom n c) f p = marked 16 refl refl (marked 17 refl refl (both (behind-spells c no_operand p) (marked 18 refl refl nothing)))

  pub tree-spells : (c : Cmd) → ProperCmd (Field F) (Name N) c → Spellable N F (write_cmd c)
  unfolding write_cmd
  tree-spells c p = (behind-spells c no_operand p).spells
