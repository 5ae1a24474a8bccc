-- What the pieces of a refused text's second line make. Assumes nothing.
use Prim.Native.Nat.{ℕ, ◌+◌, ◌<◌, ◌≤◌}
use mathlib.Core.Path.{◌≡◌, refl, ap}
use mathlib.Core.Bool.{Bool}
use mathlib.Core.List.{List, ◌++◌}
use native.Mathlib.Omega.{arith}
use lib.ListN.{length, get_or, take}
use lib.Seq.{length-take-le}
use borrow.Author.Tests.{eq-eqb, ne_eqb, le-leb, lt-leb}
use Rattle.text.specs.Ascii.{ascii}
use Rattle.text.specs.Text.{decimal}
use Rattle.text.specs.declared.Page.{Page}
use Rattle.text.specs.Written.{Adds}
use Rattle.text.proofs.WroteLaws.{both-adds, adds_as}
use Rattle.wording.specs.Lines.{words_of, faults, could_be, shown, stood, place_line, nodes_line, second_line}

-- ---- the bytes of a place

module _ (place : List ℕ) (d o : Page) where
  pub shown-all : length place ≤ 64 → Adds (length place) d place o → Adds 66 d (shown place) o
  unfolding shown
  shown-all h w = rw (le-leb (length place) 64 h) (adds_as (length place) 66 d o place place w refl (omega arith))

  pub shown-cut : (e : Page) → 64 < length place → Adds (length (take 64 place)) d (take 64 place) e → Adds 2 e (ascii "..") o → Adds 66 d (shown place) o
  unfolding shown
  shown-cut e h v w =
      let n : length (take 64 place) ≡ 64 = length-take-le 64 place (omega arith) in
      rw (lt-leb (length place) 64 h)
      (adds_as (length (take 64 place) + 2) 66 d o (take 64 place ++ ascii "..") (take 64 place ++ ascii "..")
      (both-adds (length (take 64 place)) 2 d e o (take 64 place) (ascii "..") v w) refl (omega arith))

-- ---- what stood there

module _ (k kind : ℕ) (place : List ℕ) (d o : Page) where
  pub stood-end : kind ≡ 0 → Adds 9 d (ascii "early end") o → Adds 92 d (stood k kind place) o
  unfolding stood
  stood-end e w = rw e (adds_as 9 92 d o (ascii "early end") (ascii "early end") w refl (omega arith))

  pub stood-byte : (b : ℕ) (e : Page) → (kind ≡ 0 → ⊥) → k ≡ 22 → b ≡ get_or place 0 0 → Adds 9 d (ascii "bad byte ") e
      → Adds 20 e (decimal b) o → Adds 92 d (stood k kind place) o
  unfolding stood
  stood-byte b e f i j v w =
      rw (ne_eqb kind 0 f, eq-eqb k 22 i)
      (adds_as 29 92 d o (ascii "bad byte " ++ decimal b) (ascii "bad byte " ++ decimal (get_or place 0 0))
      (both-adds 9 20 d e o (ascii "bad byte ") (decimal b) v w) (ap (λ (n : ℕ). ascii "bad byte " ++ decimal n) j) (omega arith))

  pub stood-place : (words : List ℕ) (e u : Page) → (kind ≡ 0 → ⊥) → (k ≡ 22 → ⊥) → words ≡ words_of k faults → length words ≤ 24
      → Adds (length words) d words e → Adds 2 e (ascii ": ") u
      → Adds 66 u (shown place) o → Adds 92 d (stood k kind place) o
  unfolding stood
  stood-place words e u f g i l v w x =
      rw (ne_eqb kind 0 f, ne_eqb k 22 g)
      (both-adds 24 68 d e o (words_of k faults) (ascii ": " ++ shown place) (adds_as (length words) 24 d e words (words_of k faults) v i l)
      (both-adds 2 66 e u o (ascii ": ") (shown place) w x))

  module _ (could : List Bool) where
    pub place-wrote : (e u v : Page)
        → Adds 92 d (stood k kind place) e
        → Adds 12 e (ascii "; could be: ") u
        → Adds 280 u (could_be could) v
        → Adds 1 v (ascii "\n") o
        → Adds 385 d (place_line k kind place could) o
    unfolding place_line
    place-wrote e u v w x y z =
        both-adds 92 293 d e o (stood k kind place) (ascii "; could be: " ++ (could_be could ++ ascii "\n")) w
        (both-adds 12 281 e u o (ascii "; could be: ") (could_be could ++ ascii "\n") x
        (both-adds 280 1 u v o (could_be could) (ascii "\n") y z))

    pub second-nodes : k ≡ 27 → Adds 64 d nodes_line o → Adds 385 d (second_line k kind place could) o
    unfolding second_line
    second-nodes e w = rw (eq-eqb k 27 e) (adds_as 64 385 d o nodes_line nodes_line w refl (omega arith))

    pub second-place : (k ≡ 27 → ⊥) → Adds 385 d (place_line k kind place could) o → Adds 385 d (second_line k kind place could) o
    unfolding second_line
    second-place f w = rw (ne_eqb k 27 f) w
