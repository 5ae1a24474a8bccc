-- The whole text, counted and written. Assumes nothing.
use Prim.Native.Nat.{ℕ, ◌+◌, ◌≤◌}
use mathlib.Core.Path.{◌≡◌, refl, ap, subst, ◌∙◌}
use mathlib.Core.Bool.{false}
use mathlib.Core.List.{List, ◌++◌}
use native.Mathlib.Omega.{arith}
use lib.ListN.{length, drop}
use lib.Seq.{sets, sets-eq}
use Rattle.rules.specs.Image.{node_at, tree_at, cmd_at}
use Rattle.rules.specs.Script.{root_of}
use Rattle.rules.proofs.GoodFacts.{Good}
use Rattle.pen.specs.Behind.{behind, last_kind}
use Rattle.pen.specs.Draws.{Drawn, end_of}
use Rattle.pen.specs.declared.Pen.{Pen}
use Rattle.pen.specs.declared.Place.{Place}
use Rattle.pen.specs.declared.Place.TheVariants.{At, Over}
use Rattle.pen.proofs.SpellLaws.{command-spells}
use Rattle.std.specs.Prelude.{Option, Some, None, Ok, Err}
use Rattle.writer.specs.declared.WriteError.TheVariants.{TooShort}
use Rattle.writer.specs.Forms.{write_tree}
use Rattle.writer.specs.Walk.{names_for, WritesNode}
use Rattle.writer.specs.Answer.{text_of, Spells, Counts, Counted, DrawsText, WritesText}
use Rattle.writer.proofs.FormLaws.{cmd-tokens}

-- ---- the root's tokens from nothing on are the text

module _ (img : List ℕ) (g : Good img) where
  text-is : (words : List (List ℕ)) → behind (names_for img) words 0 (write_tree (tree_at (node_at img) (root_of img)) false) ≡ text_of img words
  unfolding text_of cmd_at
  text-is words =
      ap (behind (names_for img) words 0) (cmd-tokens (node_at img) (root_of img) g.root false)
      ∙ command-spells (names_for img) words (cmd_at (node_at img) (root_of img))

-- ---- what is drawn from nothing on

drawn-text : (most : ℕ) (text d e : List ℕ) (l : ℕ → ℕ) (f : ℕ → List ℕ) (r : Place) → f 0 ≡ text → Drawn most f l d (At 0 0) e r → DrawsText most text d e r
drawn-text most text d e l f (At k j) i w = let n = ap length i in (w.0 ∙ ap (sets d 0) i, omega (arith, w.1), omega (arith, w.3))
drawn-text most text d e l f Over i w = let n = ap length i in omega (arith, w.1)

pub text_written : {img : List ℕ} {words : List (List ℕ)} {n : ℕ} {p r : Pen} → WritesNode img words n false p r → Good img → n ≡ root_of img → p.place ≡ At 0 0
    → WritesText (text_of img words) p r
text_written {img} {words} {n} {p} {r} w g i s =
    record {
      says =
          drawn-text p.most (text_of img words) p.out.now r.out.now (λ j. last_kind j (write_tree (tree_at (node_at img) (root_of img)) false))
          (λ j. behind (names_for img) words j (write_tree (tree_at (node_at img) (root_of img)) false)) r.place (text-is img g words) (rw (s, i) at w.says.says);
      keeps = w.says.keeps;
    }

count-text : (most : ℕ) (text d e : List ℕ) (r : Place) → DrawsText most text d e r → Counts most text (end_of r)
count-text most text d e (At k j) w = (w.1, omega (arith, w.1, w.2))
count-text most text d e Over w = w

pub count_says : {text : List ℕ} {p r : Pen} {o : Option ℕ} {most : ℕ} → WritesText text p r → o ≡ end_of r.place → p.most ≡ most → Counted most text o
count_says {text} {p} {r} {o} {most} w e i = record { says = rw e (count-text most text p.out.now r.out.now r.place (rw i at w.says)) }

said-text : (text d e : List ℕ) (p : Place) (n : ℕ) → DrawsText n text d e p → n ≡ length text → n ≤ length d → e ≡ text ++ drop n d
said-text text d e (At k j) n w a h =
    let z : 0 + length text ≡ n = omega arith in
    w.0 ∙ (sets-eq text d 0 (omega arith) ∙ ap (λ x. text ++ drop x d) z)
said-text text d e Over n w a h = absurd (omega (arith, w))

-- ---- by what was counted

module _ (img : List ℕ) (words : List (List ℕ)) (d : List ℕ) (o : Option ℕ) (c : Counted (length d) (text_of img words) o) where
  pub text_says : {n : ℕ} {e : List ℕ} {p r : Pen} → WritesText (text_of img words) p r → o ≡ Some n → p.most ≡ n → p.out.now ≡ d → e ≡ r.out.now → Spells img words d (Ok n) e
  text_says {n} {e} {p} {r} w k m i h =
      let s : Counts (length d) (text_of img words) (Some n) = subst (Counts (length d) (text_of img words)) k c.says in
      record { says = (s.0, s.1, h ∙ said-text (text_of img words) d r.out.now r.place n (rw (m, i) at w.says) s.0 s.1) }

  pub over_counted : o ≡ None → Spells img words d (Err TooShort) d
  over_counted k = record { says = (refl, subst (Counts (length d) (text_of img words)) k c.says, refl) }
