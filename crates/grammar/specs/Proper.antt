-- A tree within the limits: nothing is missing in it, its integers have 32 bits, and its field indexes and names are such as is asked. What the grammar writes is of this
-- kind (proofs/WritesProper), and each of them has a text (writing, proofs/ReadsBack). Assumes nothing.
use Rattle.std.specs.Prelude.{ℕ, ◌^◌, ◌<◌, ◌≤◌}
use Rattle.rules.specs.Syntax.{Exp, Test, Cmd, no_exp, field, int, diff, null, ref, select, proc, no_test, is_true, is_false, equal, less, no_cmd, var, call, malloc, assign, assign_field, skip, seq, while, if, par, atom}

-- P of the field indexes, Q of the names
module _ (P Q : ℕ → Type 0) where
  abbrev mutual
    pub ProperExp : Exp → Type 0
    ProperExp (no_exp n) = ⊥
    ProperExp (field n f) = P f
    ProperExp (int n b) = b < 2 ^ 32
    ProperExp (diff n a b) = ProperExp a × ProperExp b
    ProperExp (null n) = Unit {0}
    ProperExp (ref n x) = Q x
    ProperExp (select n a b) = ProperExp a × ProperExp b
    ProperExp (proc n y c) = Q y × ProperCmd c

    pub ProperTest : Test → Type 0
    ProperTest (no_test n) = ⊥
    ProperTest (is_true n) = Unit {0}
    ProperTest (is_false n) = Unit {0}
    ProperTest (equal n a b) = ProperExp a × ProperExp b
    ProperTest (less n a b) = ProperExp a × ProperExp b

    pub ProperCmd : Cmd → Type 0
    ProperCmd (no_cmd n) = ⊥
    ProperCmd (var n x c) = Q x × ProperCmd c
    ProperCmd (call n a b) = ProperExp a × ProperExp b
    ProperCmd (malloc n x) = Q x
    ProperCmd (assign n x e) = Q x × ProperExp e
    ProperCmd (assign_field n a b c) = ProperExp a × ProperExp b × ProperExp c
    ProperCmd (skip n) = Unit {0}
    ProperCmd (seq n c d) = ProperCmd c × ProperCmd d
    ProperCmd (while n t c) = ProperTest t × ProperCmd c
    ProperCmd (if n t c d) = ProperTest t × ProperCmd c × ProperCmd d
    ProperCmd (par n c d) = ProperCmd c × ProperCmd d
    ProperCmd (atom n c) = ProperCmd c

-- a field's index, of F; a name, of N
abbrev pub Field : ℕ → ℕ → Type 0
Field F f = (1 ≤ f) × (f ≤ F)

abbrev pub Name : ℕ → ℕ → Type 0
Name N x = x < N
