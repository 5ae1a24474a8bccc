-- The gap before a token, path by path. Assumes nothing.
use Prim.Native.Nat.{ℕ, zero, suc}
use mathlib.Core.Path.{◌≡◌, refl, sym, ◌∙◌}
use mathlib.Core.Bool.{Bool, true, false}
use mathlib.Core.List.{List, [], ◌∷◌}
use native.Mathlib.Omega.{arith}
use borrow.Author.Tests.{eq-eqb, ne_eqb}
use Rattle.grammar.specs.Classes.{among}
use Rattle.writing.specs.Spell.{tight}
use Rattle.pen.specs.Behind.{gap_at}
use Rattle.pen.specs.Draws.{Drawn, Puts, Gaps}
use Rattle.pen.specs.declared.Place.{Place}
use Rattle.pen.specs.declared.Place.TheVariants.{At, Over}
use Rattle.pen.specs.declared.Pen.{Pen}
use Rattle.pen.proofs.DrawLaws.{keeps-same}

-- ---- kinds in a list

pub among_first : (b c : ℕ) (cs : List ℕ) → b ≡ c → true ≡ among b (c ∷ cs)
unfolding among
among_first b c cs e = rw (eq-eqb b c e) refl

pub among_later : (r : Bool) (b c : ℕ) (cs : List ℕ) → (b ≡ c → ⊥) → r ≡ among b cs → r ≡ among b (c ∷ cs)
unfolding among
among_later r b c cs f e = rw (ne_eqb b c f) e

-- not in the list
abbrev pub Without : ℕ → List ℕ → Type 0
Without b [] = Unit {0}
Without b (c ∷ cs) = (b ≡ c → ⊥) × Without b cs

pub among_none : (b : ℕ) (cs : List ℕ) → Without b cs → false ≡ among b cs
unfolding among
among_none b [] h = refl
among_none b (c ∷ cs) h = rw (ne_eqb b c h.0) (among_none b cs h.1)

pub ruleset listed = (among_first, among_later, among_none)

-- ---- the gap

gap-of-none : (j k : ℕ) → tight j k ≡ true → gap_at j k ≡ []
unfolding gap_at
gap-of-none zero k e = refl
gap-of-none (suc j) k e = rw e refl

gap-of-blank : (j k : ℕ) → (j ≡ 0 → ⊥) → tight j k ≡ false → gap_at j k ≡ 32 ∷ []
unfolding gap_at
gap-of-blank zero k f e = absurd (f refl)
gap-of-blank (suc j) k f e = rw e refl

drawn-nothing : (most at j : ℕ) (xs d : List ℕ) → xs ≡ [] → Drawn most (λ i. xs) (λ i. i) d (At at j) d (At at j)
drawn-nothing most at j xs d e = rw e (refl, omega arith, refl, omega arith)

drawn-blank : (most at j : ℕ) (xs d e : List ℕ) (r : Place) → xs ≡ 32 ∷ [] → Drawn most (λ i. 32 ∷ []) (λ i. i) d (At at j) e r → Drawn most (λ i. xs) (λ i. i) d (At at j) e r
drawn-blank most at j xs d e r i w = rw i w

-- at a pen that stands somewhere only its own kind counts
at_own : (most at j k : ℕ) (d e : List ℕ) (r : Place) → Drawn most (λ i. gap_at j k) (λ i. i) d (At at j) e r → Drawn most (λ i. gap_at i k) (λ i. i) d (At at j) e r
at_own most at j k d e (At c h) w = w
at_own most at j k d e Over w = w

module _ (k at j : ℕ) (p : Pen) (i : p.place ≡ At at j) where
  none : gap_at j k ≡ [] → Gaps k p p
  none e =
      record {
        says = rw i (at_own p.most at j k p.out.now p.out.now (At at j) (drawn-nothing p.most at j (gap_at j k) p.out.now e));
        keeps = keeps-same;
      }

  pub gap_first : j ≡ 0 → Gaps k p p
  unfolding gap_at
  gap_first e = none (rw e refl)

  pub gap_tight : (b : Bool) → b ≡ tight j k → b ≡ true → Gaps k p p
  gap_tight b e t = none (gap-of-none j k (sym e ∙ t))

  pub gap_blank : (b : Bool) (r : Pen) → (j ≡ 0 → ⊥) → b ≡ tight j k → b ≡ false → Puts (32 ∷ []) p r → Gaps k p r
  gap_blank b r f e t w =
      record {
        says =
            rw i
            (at_own p.most at j k p.out.now r.out.now r.place
            (drawn-blank p.most at j (gap_at j k) p.out.now r.out.now r.place (gap-of-blank j k f (sym e ∙ t)) (rw i at w.says)));
        keeps = w.keeps;
      }

pub gap_past : (k : ℕ) (p : Pen) → p.place ≡ Over → Gaps k p p
gap_past k p i = record { says = rw i refl; keeps = keeps-same }
