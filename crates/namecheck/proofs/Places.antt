-- The children of a node of a formed script have places in a list with room for each node (`place-a`, `place-b`, `place-c`), which it
-- keeps as names are put there (`place-kept`). Assumes nothing.
use Prim.Native.Nat.{ℕ, ◌<◌, ◌≤◌}
use mathlib.Core.Path.{◌≡◌, sym, subst}
use mathlib.Core.Option.{Option, some}
use mathlib.Core.List.{List}
use native.Mathlib.Omega.{arith}
use lib.ListN.{length}
use Rattle.rules.specs.declared.Kind.{Kind}
use Rattle.rules.specs.declared.Node.{Node}
use Rattle.rules.specs.declared.Role.{Role}
use Rattle.rules.specs.declared.Role.TheVariants.{Unused, Index, Half, Uses, Binds, Child}
use Rattle.rules.specs.declared.Row.{Row}
use Rattle.rules.specs.Image.{row_of, nodes_of, node_at}
use Rattle.rules.proofs.GoodFacts.{Fit, GoodRow}
use Rattle.checklaws.specs.Bits.{given}
use Rattle.checklaws.specs.Hands.{Formed}
use Rattle.checklaws.proofs.Handing.{given-long}
use Rattle.namecheck.specs.Places.{HasPlace}

pub place-child : (p : Role) (k : Kind) (w z : ℕ) → p ≡ Child k → HasPlace p w z → w < z
place-child p k w z e h = subst (λ q. HasPlace q w z) e h

pub place-kept : (p : Role) (w v : ℕ) (q : Role) (u : ℕ) (t t' : List ℕ) → t' ≡ given p w v t → HasPlace q u (length t) → HasPlace q u (length t')
place-kept p w v q u t t' e h = rw (e, given-long p w v t) h

module _ (img : List ℕ) (n : ℕ) (l : n < nodes_of img) (x : Node) (is : x ≡ node_at img n) (r : Row) (e : row_of x.tag ≡ some r) (g : Formed img) (z : ℕ) (room : nodes_of img ≤ z) where
  fits : GoodRow img n (some r) x
  fits =
      let f = subst (λ (y : Node). GoodRow img n (row_of y.tag) y) (sym is) (g.nodes n l) in
      subst (λ (o : Option Row). GoodRow img n o x) e f

  place : (u : Role) (w : ℕ) → Fit img n u w → HasPlace u w z
  place Unused w f = tt
  place Index w f = tt
  place Half w f = tt
  place Uses w f = tt
  place Binds w f = tt
  place (Child k) w f = let m = f.0 in omega arith

  pub place-a : HasPlace r.a x.a z
  place-a = place r.a x.a fits.0

  pub place-b : HasPlace r.b x.b z
  place-b = place r.b x.b fits.1

  pub place-c : HasPlace r.c x.c z
  place-c = place r.c x.c fits.2

pub ruleset places = (place-child, place-kept, place-a, place-b, place-c)
