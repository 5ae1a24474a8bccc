-- How far a script's file has to be read: 16,427 bytes, one more than the longest image has. A longer file is refused with 2 or 3, both at place 0, for
-- its contents, which are its first ten bytes, or for its length. So whatever is told of a refused script by its number and its place alone is told of the
-- first 16,427 bytes as of the whole file. Assumes nothing.
use Prim.Native.Nat.{ℕ, ◌+◌, ◌*◌, ◌<◌, ◌≤◌}
use mathlib.Core.Path.{◌≡◌, refl, sym, ap, ◌∙◌}
use mathlib.Core.Bool.{Bool, true, false, cond, not}
use mathlib.Core.List.{List, []}
use native.Mathlib.Omega.{arith}
use native.Mathlib.Decide.{dec_lt}
use lib.ListN.{length, take}
use lib.Seq.{take_all, length-take-le, get_or-take}
use lib.Dec.{eqb, ltb}
use borrow.Author.Tests.{le-ltb, ltb-false, ne_eqb}
use Rattle.laws.specs.Bools.{or-neither}
use Rattle.rules.specs.declared.Verdict.TheVariants.{Refused}
use Rattle.rules.specs.Image.{word_at, field_start, fields_of, node_start, nodes_of, names_of}
use Rattle.rules.specs.State.{size}
use Rattle.rules.specs.Refusals.{check, lowest, at_place, or_else, bad_contents, right_length, rule_of, rule}
use Rattle.rules.proofs.Reasons.{check-in-order}

-- ---- a script that is longer than any image

-- right contents say at most 16 fields and at most 2,048 nodes
counts : (img : List ℕ) → bad_contents img ≡ false → (fields_of img ≤ 16) × (nodes_of img ≤ 2048)
unfolding bad_contents
counts img e =
    let f = or-neither _ (ltb 128 (names_of img)) e in
    let g = or-neither _ (ltb 2048 (nodes_of img)) f.0 in
    let h = or-neither _ (eqb (nodes_of img) 0) g.0 in
    let i = or-neither _ (not (eqb (node_start img) (10 + 2 * fields_of img))) h.0 in
    let j = or-neither (not (eqb (field_start img) 10)) (ltb 16 (fields_of img)) i.0 in
    (ltb-false 16 (fields_of img) j.1, ltb-false 2048 (nodes_of img) g.1)

too_long : (img : List ℕ) → 16426 < length img → check [] size img ≡ cond (bad_contents img) (Refused 2 0) (Refused 3 0)
unfolding lowest at_place or_else right_length rule_of rule
too_long img h = go (bad_contents img) refl
  where
    short : ltb (length img) 10 ≡ false
    short = le-ltb (length img) 10 (omega arith)

    go : (b : Bool) → bad_contents img ≡ b → check [] size img ≡ cond b (Refused 2 0) (Refused 3 0)
    go true e = check-in-order [] size img ∙ rw (short, e)
    go false e =
        let c = counts img e in
        let n : eqb (length img) (10 + 2 * fields_of img + 8 * nodes_of img) ≡ false = ne_eqb (length img) (10 + 2 * fields_of img + 8 * nodes_of img) (λ z. omega (arith, c.0, c.1)) in
        check-in-order [] size img ∙ rw (short, e, n)

-- the contents are among the first bytes
same_word_lem : (img : List ℕ) (i : ℕ) → i < 10 → word_at (take 16427 img) i ≡ word_at img i
same_word_lem img i h = rw (get_or-take 16427 img i 0 (omega arith), get_or-take 16427 img (i + 1) 0 (omega arith))

same-contents : (img : List ℕ) → bad_contents (take 16427 img) ≡ bad_contents img
unfolding field_start fields_of node_start nodes_of names_of
same-contents img = go (take 16427 img) (same_word_lem img 0 (omega arith)) (same_word_lem img 2 (omega arith)) (same_word_lem img 4 (omega arith)) (same_word_lem img 6 (omega arith)) (same_word_lem img 8 (omega arith))
  where
    go : (img' : List ℕ) → field_start img' ≡ field_start img → fields_of img' ≡ fields_of img → node_start img' ≡ node_start img → nodes_of img' ≡ nodes_of img → names_of img' ≡ names_of img
        → bad_contents img' ≡ bad_contents img
    go img' a b c d e = unfold bad_contents in rw (a, b, c, d, e)

-- ---- what is told of it

module _ {A : Type 0} (told : List ℕ → A) (refused : ℕ → ℕ → A) (by-refusal : (img : List ℕ) (k p : ℕ) → check [] size img ≡ Refused k p → told img ≡ refused k p) where
  -- two such scripts with the same contents
  told-alike : (img img' : List ℕ) (b : Bool) → check [] size img ≡ cond b (Refused 2 0) (Refused 3 0) → check [] size img' ≡ cond b (Refused 2 0) (Refused 3 0)
      → told img ≡ told img'
  told-alike img img' true e f = by-refusal img 2 0 e ∙ sym (by-refusal img' 2 0 f)
  told-alike img img' false e f = by-refusal img 3 0 e ∙ sym (by-refusal img' 3 0 f)

  pub script-cut : (img : List ℕ) → told (take 16427 img) ≡ told img
  script-cut img = elim (dec_lt 16426 (length img)) [
    | yes l ↦
        let n = length-take-le 16427 img (omega arith) in
        told-alike (take 16427 img) img (bad_contents img)
        (too_long (take 16427 img) (omega arith) ∙ ap (λ (b : Bool). cond b (Refused 2 0) (Refused 3 0)) (same-contents img))
        (too_long img l)
    | no f ↦ ap told (take_all 16427 img (omega arith))
  ]
