-- Of OpenedNeeds, what follows from its last lemma, in a file of its own: so a must-fail edit that makes that lemma fail is read as refused. Assumes nothing.
use Prim.Native.Nat.{ℕ}
use mathlib.Core.Path.{◌≡◌, subst}
use mathlib.Core.Option.{some}
use lib.ListN.{get_elem?}
use lib.Dec.{T}
use Rattle.rules.specs.Syntax.{Cmd}
use Rattle.rules.specs.Scope.{Names}
use Rattle.rules.specs.declared.Chain.{Chain}
use Rattle.rules.specs.Script.{Script}
use Rattle.rules.specs.Control.{command, opened, move, movable}
use Rattle.safety.specs.Inside.{Waits}
use Rattle.rules.specs.Step.{put}
use Rattle.safety.specs.Safe.{FitCmd, single}
use Rattle.safety.proofs.Focus.{Focus, focus}
use Rattle.safety.proofs.Plug.{nested-opened}
use Rattle.safety.proofs.OpenedNeeds.{Each, each_at, each-waits, Less, opened-less}

module _ (sc : Script) (visible : Names) (ch : Chain) where
  pub opened-waits : (c : Cmd) → FitCmd sc visible c → (n : ℕ) (dh : Chain) → Waits (opened c ch) n dh → Less sc visible ch c n dh
  opened-waits c h n dh w = each-waits sc visible ch (Less sc visible ch c) (opened c ch) n dh (opened-less sc visible ch c h) w

  pub opened-moves : (c : Cmd) → FitCmd sc visible c → (i n : ℕ) (dh : Chain)
      → get_elem? (movable (opened c ch)) i ≡ some (move n dh)
      → T (single (sc.cmd_at n)) × Less sc visible ch c n dh
  opened-moves c h i n dh p =
      let f : Focus sc.cmd_at (opened c ch) n dh (put sc.cmd_at (opened c ch) i) = focus sc.cmd_at (opened c ch) i n dh (nested-opened c ch) p in
      each_at sc visible ch (Less sc visible ch c) f.around (command n dh) (subst (Each sc visible ch (Less sc visible ch c)) f.is (opened-less sc visible ch c h))
