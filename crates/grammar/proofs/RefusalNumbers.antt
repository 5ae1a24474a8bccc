-- The numbers of the refusals, and their lines: 20, 21, 27 and 28 give line 0, which is no line, and 22 to 26 the line of a place, from 1 on. Assumes nothing.
use Prim.Native.Nat.{ℕ, suc, ◌≤◌}
use mathlib.Core.Path.{◌≡◌, refl}
use mathlib.Core.Bool.{Bool, true, false, cond}
use mathlib.Core.Logic.{◌⊎◌, inl, inr}
use mathlib.Core.List.{List, [], ◌∷◌, ◌++◌}
use native.Mathlib.Omega.{arith}
use lib.Dec.{eqb}
use Rattle.grammar.specs.Classes.{among, line_end}
use Rattle.grammar.specs.Places.{Piece, Spot, spot, line_after, Spelled, ends, a-blank, a_word, a-number, a-symbol, a_pair, a-sign, a-minus, a-bad-byte, line_from, last_line}
use Rattle.grammar.specs.Tokens.{Tok}
use Rattle.grammar.specs.FieldList.{Entry}
use Rattle.grammar.specs.Reads.{Wrong, bad-byte, bad-order, unknown-field, outside-32-bits, too-many-names, RefusedText, at-a-place, early-end, too-many-nodes, Refuses, short-output, short-work, bad-list, bad-text}

-- ---- lines only grow

-- every place stands on line l or a later one
abbrev From : ℕ → List Spot → Type 0
From l [] = Unit {0}
From l (spot m p ∷ ps) = (l ≤ m) × From l ps

from-earlier : (l m : ℕ) (ps : List Spot) → l ≤ m → From m ps → From l ps
from-earlier l m [] h f = tt
from-earlier l m (spot k p ∷ ps) h f = (omega (arith, f.0), from-earlier l m ps h f.1)

line-grows : (b l : ℕ) → l ≤ line_after b l
unfolding line_after
line-grows b l = go (eqb b line_end)
  where
    go : (t : Bool) → l ≤ cond t (suc l) l
    go true = omega arith
    go false = omega arith

spelled-from : {s : List ℕ} {l : ℕ} {ps : List Spot} → Spelled s l ps → From l ps
spelled-from ends = tt
spelled-from (a-blank {b} {l} {s} {ps} c h) = from-earlier l (line_after b l) ps (line-grows b l) (spelled-from h)
spelled-from (a_word w c d e h) = (omega arith, spelled-from h)
spelled-from (a-number w c d e h) = (omega arith, spelled-from h)
spelled-from (a-symbol c d h) = (omega arith, spelled-from h)
spelled-from (a_pair c h) = (omega arith, spelled-from h)
spelled-from (a-sign c h) = (omega arith, spelled-from h)
spelled-from (a-minus c h) = (omega arith, spelled-from h)
spelled-from (a-bad-byte c h) = (omega arith, spelled-from h)

place-from : (l m : ℕ) (p : Piece) (before after : List Spot) → From l (before ++ (spot m p ∷ after)) → l ≤ m
place-from l m p [] after f = f.0
place-from l m p (spot k q ∷ before) after f = place-from l m p before after f.1

last-from : (l : ℕ) (s : List ℕ) → l ≤ line_from l s
unfolding line_from
last-from l [] = omega arith
last-from l (b ∷ s) = omega (arith, line-grows b l, last-from (line_after b l) s)

-- ---- numbers

-- no place has a part in it
abbrev pub NoLine : ℕ → ℕ → Type 0
NoLine k l = (among k (20 ∷ 21 ∷ 27 ∷ 28 ∷ []) ≡ true) × (l ≡ 0)

abbrev pub OnLine : ℕ → ℕ → Type 0
OnLine k l = (22 ≤ k) × (k ≤ 26) × (1 ≤ l)

wrong-number : {fields : List Entry} {before : List Spot} {us : List Tok} {p : Piece} {k : ℕ} → Wrong fields before us p k → (22 ≤ k) × (k ≤ 26)
wrong-number bad-byte = (omega arith, omega arith)
wrong-number (bad-order e n) = (omega arith, omega arith)
wrong-number (unknown-field g e) = (omega arith, omega arith)
wrong-number (outside-32-bits g e) = (omega arith, omega arith)
wrong-number (too-many-names g e l) = (omega arith, omega arith)

text-numbers : {fields : List Entry} {text : List ℕ} {k l : ℕ} → RefusedText fields text k l → NoLine k l ⊎ OnLine k l
unfolding among last_line
text-numbers (at-a-place {before} after {l = l} {p = p} s r w) =
    let n = wrong-number w in
    inr (n.0, n.1, place-from 1 l p before after (spelled-from s))
text-numbers {text = text} (early-end s r n) = inr (omega arith, omega arith, last-from 1 text)
text-numbers (too-many-nodes s v t m) = inl (refl, refl)

pub refused-numbers : {out work : ℕ} {list text : List ℕ} {k l : ℕ} → Refuses out work list text k l → NoLine k l ⊎ OnLine k l
unfolding among
refused-numbers (short-output h) = inl (refl, refl)
refused-numbers (short-work g h) = inl (refl, refl)
refused-numbers (bad-list g h) = inl (refl, refl)
refused-numbers (bad-text g h r) = text-numbers r
