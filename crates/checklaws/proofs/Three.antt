-- Three tests in a row, each of which ends the row when it fails; and the reason that two such rows give.
-- Assumes nothing.
use Prim.Native.Nat.{ℕ}
use mathlib.Core.Path.{◌≡◌, refl, sym, ap, ◌∙◌}
use mathlib.Core.Bool.{Bool, true, false, cond, not, ◌&&◌}
use borrow.Author.Tests.{not-true, not-false}
use mathlib.Core.List.{List}
use Rattle.rules.specs.declared.Node.{Node}
use Rattle.rules.specs.declared.Row.{Row}
use Rattle.rules.specs.Refusals.{blank, suits}
use Rattle.checklaws.specs.Pieces.{fits_word, words_reason}

module _ (a b c x : Bool) (p : x ≡ a) where
  pub first-fails : not x ≡ true → false ≡ (a && b && c)
  first-fails h = rw (← p, not-true x h)

  module _ (e : not x ≡ false) (y : Bool) (q : y ≡ b) where
    pub second-fails : not y ≡ true → false ≡ (a && b && c)
    second-fails h = rw (← p, ← q, not-false x e, not-true y h)

    pub third-says : not y ≡ false → (z : Bool) → z ≡ c → z ≡ (a && b && c)
    third-says h z r = rw (← p, ← q, ← r, not-false x e, not-false y h)

-- three words that each pass two tests pass the one in all and the other in all
both : (a b c p q s : Bool) → ((a && p) && (b && q) && (c && s)) ≡ ((a && b && c) && (p && q && s))
both false b c p q s = refl
both true false c false q s = refl
both true false c true q s = refl
both true true false false q s = refl
both true true false true false s = refl
both true true false true true s = refl
both true true true p q s = refl

which : (b s : Bool) → ◌≡◌ {A = ℕ} (cond b (cond s 0 7) 6) (cond (b && s) 0 (cond b 7 6))
which false s = refl
which true false = refl
which true true = refl

module _ (img : List ℕ) (n : ℕ) (r : Row) (w : Node) where
  words_are : words_reason img n r w
      ≡ cond (fits_word img n r.a w.a && fits_word img n r.b w.b && fits_word img n r.c w.c) 0 (cond (blank r.a w.a && blank r.b w.b && blank r.c w.c) 7 6)
  unfolding words_reason fits_word
  words_are =
      let z = blank r.a w.a && blank r.b w.b && blank r.c w.c in
      which z (suits img n r.a w.a && suits img n r.b w.b && suits img n r.c w.c)
      ∙ ap (λ (f : Bool). cond f 0 (cond z 7 6))
      (sym (both (blank r.a w.a) (blank r.b w.b) (blank r.c w.c) (suits img n r.a w.a) (suits img n r.b w.b) (suits img n r.c w.c)))

  module _ (f : Bool) (e : f ≡ (fits_word img n r.a w.a && fits_word img n r.b w.b && fits_word img n r.c w.c)) where
    pub all_fit : f ≡ true → 0 ≡ words_reason img n r w
    all_fit h = rw (words_are, ← e, h)

    module _ (h : f ≡ false) (x : Bool) (g : x ≡ (blank r.a w.a && blank r.b w.b && blank r.c w.c)) where
      pub not_right : x ≡ true → 7 ≡ words_reason img n r w
      not_right i = rw (words_are, ← e, h, ← g, i)

      pub not-blank : x ≡ false → 6 ≡ words_reason img n r w
      not-blank i = rw (words_are, ← e, h, ← g, i)

pub ruleset threes = (first-fails, second-fails, third-says)
