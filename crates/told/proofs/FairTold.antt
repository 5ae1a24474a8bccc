-- What a caller in C or Rust is told of a fair run: two answers are one, in the numbers, in every byte of the list and in every
-- word. Assumes nothing.
use Prim.Native.Nat.{ℕ}
use mathlib.Core.Path.{◌≡◌, sym, ap, ◌∙◌}
use mathlib.Core.List.{List}
use Rattle.turnwords.specs.declared.Turned.{Turned}
use Rattle.turnwords.proofs.Determined.{fair-one}
use Rattle.told.specs.Told.{Told, Fair, told_of, TellsFair}

same-fair : (f g : Fair) → f.told ≡ g.told → f.picked ≡ g.picked → f ≡ g
same-fair f g e d =
    ap (λ (t : Told). record { told = t; picked = f.picked }) e ∙ ap (λ (k : ℕ). record { told = g.told; picked = k }) d

pub one-fair : {img lent before : List ℕ} {f g : Fair} {l m w v : List ℕ}
    → TellsFair img f lent l before w → TellsFair img g lent m before v → (f ≡ g) × (l ≡ m) × (w ≡ v)
one-fair {f = f} {g = g} a b =
    let same = fair-one a.says b.says in (
      same-fair f g
          (a.told ∙ ap (λ (r : Turned). told_of r.answer) same.0 ∙ sym b.told)
          (a.picked ∙ ap (λ (r : Turned). r.picked) same.0 ∙ sym b.picked),
      same.1,
      same.2,
    )
