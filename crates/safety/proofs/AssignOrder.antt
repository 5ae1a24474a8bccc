-- An assignment looks for its name before its right side is evaluated. In the run of an accepted script the name is always found, so the
-- other order would say the same: nothing that a run shows depends on it. Assumes nothing.
use Prim.Native.Nat.{ℕ}
use mathlib.Core.Path.{◌≡◌, refl}
use mathlib.Core.Option.{some}
use mathlib.Core.List.{List, []}
use lib.ListN.{get_elem?}
use lib.Dec.{eqb, eqb_refl}
use Rattle.rules.specs.declared.Chain.{Chain}
use Rattle.rules.specs.declared.Value.{Value}
use Rattle.rules.specs.declared.Next.TheVariants.{Ended}
use Rattle.rules.specs.declared.Effect.TheVariants.{SetCell}
use Rattle.rules.specs.declared.Verdict.TheVariants.{Accepted}
use Rattle.rules.specs.Syntax.{Exp, assign}
use Rattle.rules.specs.State.{Store, find}
use Rattle.rules.specs.Script.{Script, script_of}
use Rattle.rules.specs.Refusals.{check}
use Rattle.rules.specs.Published.{Bytes}
use Rattle.rules.specs.Eval.{Res, ok, ◌>>=◌, there, eval}
use Rattle.rules.specs.Control.{Control, move, movable}
use Rattle.rules.specs.Step.{Deed, deed, exec_by, exec}
use Rattle.safety.specs.Needs.{needs_exp, needs}
use Rattle.safety.proofs.LinksNeeded.{or-from-left}
use Rattle.safety.proofs.Demand3.{At, needed-name-is-found}

-- the right side first, then the name
unfoldable pub value_first : Store → Chain → ℕ → Exp → Res Deed
value_first s ch x e = do
  v ← eval s ch e
  k ← there (find s.frames x ch)
  ok (deed (SetCell v k) Ended)

found-either-order : (sc : Script) (s : Store) (ch : Chain) (n x k : ℕ) (e : Exp) → find s.frames x ch ≡ some k → exec sc s ch (assign n x e) ≡ value_first s ch x e
unfolding exec_by value_first ◌>>=◌ there
found-either-order sc s ch n x k e h = rw h (go (eval s ch e))
  where
    go : (r : Res Value) → (r >>= (λ v. ok (deed (SetCell v k) Ended))) ≡ (r >>= (λ v. ok (deed (SetCell v k) Ended)))
    go r = refl

module _ (words : ℕ) (img : List ℕ) (are-bytes : Bytes img) (accepted : check [] words img ≡ Accepted) (choices : List ℕ) (s : Store) (t : Control) where
  pub assign-either-order : At words img are-bytes accepted choices s (some t)
      → (i n : ℕ) (ch : Chain) → get_elem? (movable t) i ≡ some (move n ch)
      → (m x : ℕ) (e : Exp) → (script_of img).cmd_at n ≡ assign m x e
      → exec (script_of img) s ch (assign m x e) ≡ value_first s ch x e
  unfolding needs
  assign-either-order a i n ch p m x e is =
      let b = needed-name-is-found words img are-bytes accepted choices s t a i n ch x p (rw is (or-from-left (eqb x x) (needs_exp e x) (eqb_refl x))) in
      found-either-order (script_of img) s ch m x b.at e b.finds
