-- Of Suffice, what follows from its last lemma, in a file of its own: so a must-fail edit that makes that lemma fail is read as refused. Assumes nothing.
use Prim.Native.Nat.{ℕ}
use mathlib.Core.Path.{◌≡◌, subst}
use mathlib.Core.Option.{some}
use lib.ListN.{get_elem?}
use lib.Dec.{T}
use Rattle.rules.specs.Syntax.{Cmd}
use Rattle.rules.specs.Scope.{Names}
use Rattle.rules.specs.declared.Chain.{Chain}
use Rattle.rules.specs.State.{Store}
use Rattle.rules.specs.Script.{Script}
use Rattle.rules.specs.Eval.{stuck}
use Rattle.rules.specs.Control.{opened, move, movable}
use Rattle.rules.specs.Step.{exec}
use Rattle.safety.specs.Safe.{FitCmd, single, RealStore}
use Rattle.safety.specs.Fits.{Fine}
use Rattle.safety.specs.Found.{Borne}
use Rattle.safety.specs.Needs.{needs}
use Rattle.safety.proofs.OpenedParts.{opened-moves}
use Rattle.safety.proofs.Fine.{Any}
use Rattle.safety.proofs.Suffice.{fine-single}

module _ (sc : Script) (s : Store) (good : RealStore sc s) (visible : Names) (ch : Chain) where
  pub needed-names-suffice : (c : Cmd) → T (single c) → FitCmd sc visible c → ((x : ℕ) → T (needs c x) → Borne s ch x) → exec sc s ch c ≡ stuck → ⊥
  needed-names-suffice c t h b e = subst (Fine sc Any) e (fine-single sc s good visible ch c t h b)

  -- .. and for a sequence or parallel, when it is opened
  pub opened-names-suffice : (c : Cmd) → FitCmd sc visible c → ((x : ℕ) → T (needs c x) → Borne s ch x)
      → (i n : ℕ) (dh : Chain) → get_elem? (movable (opened c ch)) i ≡ some (move n dh) → exec sc s dh (sc.cmd_at n) ≡ stuck → ⊥
  opened-names-suffice c h b i n dh p =
      let m = opened-moves sc visible ch c h i n dh p in
      rw m.1.chain (needed-names-suffice (sc.cmd_at n) m.0 m.1.scoped λ x k. b x (m.1.less x k))
