-- Where every name below N is visible, a tree that is written down with N names uses none that isn't: so an image that a table of such nodes makes is
-- published with these names visible, whatever the scopes of its tree. Assumes nothing.
use Prim.Native.Nat.{ℕ, zero, suc, ◌<◌}
use mathlib.Core.Path.{◌≡◌, refl}
use mathlib.Core.Bool.{Bool, true, false, ◌||◌}
use mathlib.Core.List.{List, [], ◌∷◌}
use mathlib.Core.Logic.{⊎_elim}
use native.Mathlib.Omega.{arith}
use native.Mathlib.Nat.{eq-or-lt_of_le}
use lib.Dec.{eqb}
use borrow.Author.Tests.{eq-eqb}
use Rattle.rules.specs.Syntax.{Exp, Test, Cmd, no_exp, field, int, diff, null, ref, select, proc, no_test, is_true, is_false, equal, less, no_cmd, var, call, malloc, assign, assign_field, skip, seq, while, if, par, atom}
use Rattle.rules.specs.Scope.{Names, has, stray, strays_exp, strays_test, strays_cmd}
use Rattle.rules.specs.declared.Node.{Node}
use Rattle.rules.proofs.Writing.{WroteExp, WroteTest, WroteCmd}

-- every name below N is visible
abbrev pub Sees : ℕ → Names → Type 0
Sees N visible = (x : ℕ) → x < N → has x visible ≡ true

unfoldable pub all_names : ℕ → Names
all_names zero = []
all_names (suc n) = n ∷ all_names n

or-true : (b : Bool) → (b || true) ≡ true
or-true true = refl
or-true false = refl

pub sees-all : (N : ℕ) → Sees N (all_names N)
unfolding all_names has
sees-all zero x l = absurd (omega arith)
sees-all (suc n) x l =
    ⊎_elim
    (λ (e : x ≡ n). rw (eq-eqb n x (omega arith)))
    (λ (m : x < n). rw (sees-all n x m) (or-true (eqb n x)))
    (eq-or-lt_of_le {n = x} {m = n} (omega arith))

module _ (nodes : List Node) (F N : ℕ) where
  -- and one more
  sees_more : (visible : Names) (y : ℕ) → Sees N visible → Sees N (y ∷ visible)
  unfolding has
  sees_more visible y h x l = rw (h x l) (or-true (eqb y x))

  none-strays : (visible : Names) → Sees N visible → (x n : ℕ) → x < N → stray visible x n ≡ []
  unfolding stray
  none-strays visible h x n l = rw (h x l)

  mutual
    unfolding strays_exp

    exp-strays : (e : Exp) (visible : Names) → Sees N visible → WroteExp nodes F N e → strays_exp visible e ≡ []
    exp-strays (no_exp n) visible h w = absurd w
    exp-strays (field n f) visible h w = refl
    exp-strays (int n b) visible h w = refl
    exp-strays (diff n a b) visible h w = rw (exp-strays a visible h w.3, exp-strays b visible h w.4)
    exp-strays (null n) visible h w = refl
    exp-strays (ref n x) visible h w = none-strays visible h x n w.1
    exp-strays (select n a b) visible h w = rw (exp-strays a visible h w.3, exp-strays b visible h w.4)
    exp-strays (proc n y c) visible h w = cmd-strays c (y ∷ visible) (sees_more visible y h) w.3

    test-strays : (t : Test) (visible : Names) → Sees N visible → WroteTest nodes F N t → strays_test visible t ≡ []
    test-strays (no_test n) visible h w = absurd w
    test-strays (is_true n) visible h w = refl
    test-strays (is_false n) visible h w = refl
    test-strays (equal n a b) visible h w = rw (exp-strays a visible h w.3, exp-strays b visible h w.4)
    test-strays (less n a b) visible h w = rw (exp-strays a visible h w.3, exp-strays b visible h w.4)

    pub cmd-strays : (c : Cmd) (visible : Names) → Sees N visible → WroteCmd nodes F N c → strays_cmd visible c ≡ []
    cmd-strays (no_cmd n) visible h w = absurd w
    cmd-strays (var n x c) visible h w = cmd-strays c (x ∷ visible) (sees_more visible x h) w.3
    cmd-strays (call n a b) visible h w = rw (exp-strays a visible h w.3, exp-strays b visible h w.4)
    cmd-strays (malloc n x) visible h w = none-strays visible h x n w.1
    cmd-strays (assign n x e) visible h w = rw (none-strays visible h x n w.1, exp-strays e visible h w.3)
    cmd-strays (assign_field n a b c) visible h w =
        rw (exp-strays a visible h w.4, exp-strays b visible h w.5, exp-strays c visible h w.6)
    cmd-strays (skip n) visible h w = refl
    cmd-strays (seq n c d) visible h w = rw (cmd-strays c visible h w.3, cmd-strays d visible h w.4)
    cmd-strays (while n t c) visible h w = rw (test-strays t visible h w.3, cmd-strays c visible h w.4)
    cmd-strays (if n t c d) visible h w =
        rw (test-strays t visible h w.4, cmd-strays c visible h w.5, cmd-strays d visible h w.6)
    cmd-strays (par n c d) visible h w = rw (cmd-strays c visible h w.3, cmd-strays d visible h w.4)
    cmd-strays (atom n c) visible h w = cmd-strays c visible h w.2
