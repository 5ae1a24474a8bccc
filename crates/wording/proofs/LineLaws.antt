-- What the pieces of a line make: one law for each line. Assumes nothing.
use Prim.Native.Nat.{ℕ, ◌+◌, ◌≤◌}
use mathlib.Core.Path.{◌≡◌, refl, sym}
use mathlib.Core.List.{List, ◌∷◌, ◌++◌, append_assoc}
use native.Mathlib.Omega.{arith}
use lib.ListN.{length}
use Rattle.text.specs.Ascii.{ascii}
use Rattle.text.specs.Text.{decimal, further, line, pair, last}
use Rattle.text.specs.declared.Page.{Page}
use Rattle.text.specs.Written.{Adds}
use Rattle.text.proofs.WroteLaws.{both-adds, adds_as}
use Rattle.wording.specs.Lines.{no_input, text_too_long, list_too_long, image_line, refused_line, nodes_line, words_of, row_faults, row_line}

module _ (d o : Page) where
  pub no-input-wrote : Adds 9 d (ascii "no input\n") o → Adds 64 d no_input o
  unfolding no_input line further
  no-input-wrote w = adds_as 9 64 d o (ascii "no input\n") no_input w refl (omega arith)

  pub text-too-long-wrote : Adds 14 d (ascii "text too long\n") o → Adds 64 d text_too_long o
  unfolding text_too_long line further
  text-too-long-wrote w = adds_as 14 64 d o (ascii "text too long\n") text_too_long w refl (omega arith)

  pub list-too-long-wrote : Adds 14 d (ascii "list too long\n") o → Adds 64 d list_too_long o
  unfolding list_too_long line further
  list-too-long-wrote w = adds_as 14 64 d o (ascii "list too long\n") list_too_long w refl (omega arith)

  pub nodes-wrote : Adds 26 d (ascii "too many nodes: over 2048\n") o → Adds 64 d nodes_line o
  unfolding nodes_line line further
  nodes-wrote w = adds_as 26 64 d o (ascii "too many nodes: over 2048\n") nodes_line w refl (omega arith)

  pub image-wrote : (name : List ℕ) (n : ℕ) (e : Page) → Adds (length name + 21) d (pair name n) e → Adds 7 e (ascii " bytes\n") o
      → Adds (length name + 28) d (image_line name n) o
  unfolding image_line line further
  image-wrote name n e v w =
      adds_as (length name + 21 + 7) (length name + 28) d o (pair name n ++ ascii " bytes\n") (image_line name n)
      (both-adds (length name + 21) 7 d e o (pair name n) (ascii " bytes\n") v w)
      (append_assoc name (32 ∷ decimal n) (ascii " bytes\n"))
      (omega arith)

  pub refused-wrote : (k a l : ℕ) (e : Page) → a ≡ k → Adds 28 d (pair (ascii "refused") a) e → Adds 30 e (last (ascii " at line") l) o
      → Adds 64 d (refused_line k l) o
  unfolding refused_line line further
  refused-wrote k a l e i v w =
      adds_as 58 64 d o (pair (ascii "refused") k ++ last (ascii " at line") l) (refused_line k l)
      (both-adds 28 30 d e o (pair (ascii "refused") k) (last (ascii " at line") l) (rw i at v) w) refl (omega arith)

  pub row-line-wrote : (row why : ℕ) (words : List ℕ) (e u v : Page) → words ≡ words_of why row_faults → length words ≤ 32
      → Adds 24 d (pair (ascii "row") row) e
      → Adds 2 e (ascii ": ") u
      → Adds (length words) u words v
      → Adds 1 v (ascii "\n") o
      → Adds 64 d (row_line row why) o
  unfolding row_line
  row-line-wrote row why words e u v i l w x y z =
      adds_as 59 64 d o (pair (ascii "row") row ++ (ascii ": " ++ (words_of why row_faults ++ ascii "\n"))) (row_line row why)
      (both-adds 24 35 d e o (pair (ascii "row") row) (ascii ": " ++ (words_of why row_faults ++ ascii "\n")) w
      (both-adds 2 33 e u o (ascii ": ") (words_of why row_faults ++ ascii "\n") x
      (both-adds 32 1 u v o (words_of why row_faults) (ascii "\n") (adds_as (length words) 32 u v words (words_of why row_faults) y i l) z)))
      refl (omega arith)
