-- The place of an operand's fault (document 01, "Steps": "left operand's fault first, then the right's, then the operation's own"): the left one's comes
-- whatever the right one is; the right one's wherever the left one has a value, whatever value that is, so that the operation's own comes last. Of the
-- parts of a command the rules of `Paper` say it. For any store and script. Assumes nothing.
use Prim.Native.Nat.{ℕ}
use mathlib.Core.Path.{◌≡◌}
use Rattle.rules.specs.Syntax.{Exp, diff, select, equal, less}
use Rattle.rules.specs.declared.Chain.{Chain}
use Rattle.rules.specs.declared.Value.{Value}
use Rattle.rules.specs.State.{Store}
use Rattle.rules.specs.Script.{Script}
use Rattle.rules.specs.Eval.{ok, fault, ◌>>=◌, eval_by, eval, test_by, test}

module _ (sc : Script) (s : Store) (ch : Chain) (n : ℕ) (a b : Exp) (k m : ℕ) where
  -- each operation with these operands is that fault
  abbrev pub Faults : Type 0
  Faults =
      (eval s ch (diff n a b) ≡ fault k m)
      × (eval s ch (select n a b) ≡ fault k m)
      × (test sc s ch (equal n a b) ≡ fault k m)
      × (test sc s ch (less n a b) ≡ fault k m)

  pub left-first : eval s ch a ≡ fault k m → Faults
  unfolding eval_by test_by ◌>>=◌
  left-first e = (rw e, rw e, rw e, rw e)

  pub right-next : (v : Value) → eval s ch a ≡ ok v → eval s ch b ≡ fault k m → Faults
  unfolding eval_by test_by ◌>>=◌
  right-next v e f = (rw (e, f), rw (e, f), rw (e, f), rw (e, f))
