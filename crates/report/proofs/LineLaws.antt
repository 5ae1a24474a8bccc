-- What the pieces of a line make: one law for each line of the listing. Assumes nothing.
use Prim.Native.Nat.{ℕ, ◌≤◌}
use mathlib.Core.Path.{◌≡◌, refl}
use mathlib.Core.List.{List, [], ◌++◌}
use native.Mathlib.Omega.{arith}
use Rattle.rules.specs.declared.Value.{Value}
use Rattle.rules.specs.declared.Frame.{Frame}
use Rattle.rules.specs.Image.{code_at}
use Rattle.words.specs.Lent.{row_words}
use Rattle.text.specs.Ascii.{ascii}
use Rattle.text.specs.Text.{decimal, further, line, pair, last}
use Rattle.listed.specs.Listing.{header_line, row_line, refused_line, value_words, cell_line, field_line, no_input, choices_too_long}
use Rattle.text.specs.declared.Page.{Page}
use Rattle.text.specs.Written.{Adds}
use Rattle.text.proofs.WroteLaws.{both-adds, adds_as}

module _ (d o : Page) where
  pub header-wrote : Adds 36 d (ascii "step choice node tag frames objects\n") o → Adds 128 d header_line o
  unfolding header_line line further
  header-wrote w = adds_as 36 128 d o (ascii "step choice node tag frames objects\n") header_line w refl (omega arith)

  pub no-input-wrote : Adds 9 d (ascii "no input\n") o → Adds 128 d no_input o
  unfolding no_input line further
  no-input-wrote w = adds_as 9 128 d o (ascii "no input\n") no_input w refl (omega arith)

  pub too-long-wrote : Adds 17 d (ascii "choices too long\n") o → Adds 128 d choices_too_long o
  unfolding choices_too_long line further
  too-long-wrote w = adds_as 17 128 d o (ascii "choices too long\n") choices_too_long w refl (omega arith)

  pub refused-wrote : (k p a b : ℕ) (e : Page) → a ≡ k → b ≡ p → Adds 28 d (pair (ascii "refused") a) e → Adds 25 e (last (ascii " at") b) o
      → Adds 128 d (refused_line k p) o
  unfolding refused_line line further
  refused-wrote k p a b e i j v w =
      adds_as 53 128 d o (pair (ascii "refused") k ++ last (ascii " at") p) (refused_line k p)
      (both-adds 28 25 d e o (pair (ascii "refused") k) (last (ascii " at") p) (rw i at v) (rw j at w)) refl (omega arith)

  pub row_wrote : (k a b c x y a' b' c' x' y' : ℕ) (o₁ o₂ o₃ o₄ o₅ : Page) → a' ≡ a → b' ≡ b → c' ≡ c → x' ≡ x → y' ≡ y
      → Adds 20 d (decimal k) o₁
      → Adds 21 o₁ (pair [] a') o₂
      → Adds 21 o₂ (pair [] b') o₃
      → Adds 21 o₃ (pair [] c') o₄
      → Adds 21 o₄ (pair [] x') o₅
      → Adds 22 o₅ (last [] y') o
      → Adds 128 d (row_line k (record { choice = a; node = b; tag = c; frames = x; objects = y })) o
  unfolding row_line row_words line further
  row_wrote k a b c x y a' b' c' x' y' o₁ o₂ o₃ o₄ o₅ i₂ i₃ i₄ i₅ i₆ w₁ w₂ w₃ w₄ w₅ w₆ =
      adds_as 126 128 d o (decimal k ++ (pair [] a ++ (pair [] b ++ (pair [] c ++ (pair [] x ++ last [] y)))))
      (row_line k (record { choice = a; node = b; tag = c; frames = x; objects = y }))
      (both-adds 20 106 d o₁ o (decimal k) (pair [] a ++ (pair [] b ++ (pair [] c ++ (pair [] x ++ last [] y)))) w₁
      (both-adds 21 85 o₁ o₂ o (pair [] a) (pair [] b ++ (pair [] c ++ (pair [] x ++ last [] y))) (rw i₂ at w₂)
      (both-adds 21 64 o₂ o₃ o (pair [] b) (pair [] c ++ (pair [] x ++ last [] y)) (rw i₃ at w₃)
      (both-adds 21 43 o₃ o₄ o (pair [] c) (pair [] x ++ last [] y) (rw i₄ at w₄)
      (both-adds 21 22 o₄ o₅ o (pair [] x) (last [] y) (rw i₅ at w₅) (rw i₆ at w₆))))))
      refl (omega arith)

  module _ (img : List ℕ) where
    pub cell-wrote : (k a b : ℕ) (f : Frame) (e u : Page) → a ≡ k → b ≡ f.name → Adds 25 d (pair (ascii "cell") a) e
        → Adds 26 e (pair (ascii " name") b) u
        → Adds 48 u (further (value_words img f.cell)) o
        → Adds 128 d (cell_line img k f) o
    unfolding cell_line line further
    cell-wrote k a b f e u i j v w x =
        adds_as 99 128 d o (pair (ascii "cell") k ++ (pair (ascii " name") f.name ++ further (value_words img f.cell))) (cell_line img k f)
        (both-adds 25 74 d e o (pair (ascii "cell") k) (pair (ascii " name") f.name ++ further (value_words img f.cell)) (rw i at v)
        (both-adds 26 48 e u o (pair (ascii " name") f.name) (further (value_words img f.cell)) (rw j at w) x))
        refl (omega arith)

    pub field-wrote : (n i c m : ℕ) (v : Value) (e u : Page) → c ≡ code_at img i → m ≡ n → Adds 27 d (pair (ascii "object") m) e
        → Adds 27 e (pair (ascii " field") c) u
        → Adds 48 u (further (value_words img v)) o
        → Adds 128 d (field_line img n i v) o
    unfolding field_line line further
    field-wrote n i c m v e u h j a b x =
        adds_as 102 128 d o (pair (ascii "object") n ++ (pair (ascii " field") c ++ further (value_words img v))) (field_line img n i v)
        (both-adds 27 75 d e o (pair (ascii "object") n) (pair (ascii " field") c ++ further (value_words img v)) (rw j at a)
        (both-adds 27 48 e u o (pair (ascii " field") c) (further (value_words img v)) b x))
        (rw h) (omega arith)
