-- The line of a text's end, counted from place to place: a piece has no byte 10 in it, so what is counted behind it is what is counted from its front.
-- Assumes nothing.
use Prim.Native.Nat.{ℕ, suc, ◌+◌, ◌<◌, ◌≤◌}
use mathlib.Core.Path.{◌≡◌, refl, sym, ap, ◌∙◌}
use mathlib.Core.Bool.{Bool, true, false, cond, ◌&&◌, true≢false}
use mathlib.Core.Option.{none, some}
use mathlib.Core.List.{List, [], ◌∷◌, ◌++◌}
use native.Mathlib.Omega.{arith}
use native.Mathlib.Numerals.{add-one}
use lib.Dec.{eqb}
use lib.ListN.{length, get_or, take, drop}
use lib.Seq.{drop-cons}
use Rattle.grammar.specs.Classes.{blank, symbol, blanks, among, class_of, is_letter, is_digit, in_word}
use Rattle.grammar.specs.Tokens.{spelled, same_word, double}
use Rattle.grammar.specs.Places.{every, present, paired, line_after, line_from}
use Rattle.letters.specs.declared.places.Place.{Place}
use Rattle.letters.specs.Kinds.{symbol_width}
use Rattle.letters.specs.Pieces.{piece_end}
use Rattle.letters.specs.Runs.{run}
use Rattle.letters.specs.Says.{NextSays}
use Rattle.letters.proofs.RunLaws.{Ran, ran}
use Rattle.letters.proofs.PastLaws.{line_stays, passed}
use Rattle.letters.proofs.PieceLaws.{cut-whole}

-- ---- bytes that pass a test which byte 10 doesn't

module _ (q : ℕ → Bool) (no : q 10 ≡ false) where
  lines-over : (w s : List ℕ) (l : ℕ) → every q w ≡ true → line_from l (w ++ s) ≡ line_from l s
  unfolding line_from every
  lines-over [] s l e = refl
  lines-over (b ∷ w) s l e = go (q b) refl e (λ g. lines-over w s l g)
    where
      go : (t : Bool) → q b ≡ t → (t && every q w) ≡ true → (every q w ≡ true → line_from l (w ++ s) ≡ line_from l s)
          → line_from (line_after b l) (w ++ s) ≡ line_from l s
      go true f g r = rw (← line_stays b l (λ i. true≢false (sym f ∙ ap q i ∙ no))) (r g)
      go false f g r = absurd (true≢false (sym g))

  -- a byte that is no blank, and such bytes behind it
  lines-piece : (s : List ℕ) (at n to l : ℕ) → at < length s → (get_or s at 0 ≡ 10 → ⊥) → to ≡ at + 1 + n → to ≤ length s
      → every q (take n (drop (suc at) s)) ≡ true → line_from l (drop to s) ≡ line_from l (drop at s)
  unfolding line_from
  lines-piece s at n to l h b e i w =
      let w' = take n (drop (suc at) s) in
      sym
      (ap (line_from l) (cut-whole s at n to h e i)
      ∙ ap (λ m. line_from m (w' ++ drop to s)) (sym (line_stays (get_or s at 0) l b))
      ∙ lines-over w' (drop to s) l w)

-- ---- a piece

no-line-end : (b : ℕ) → (class_of b ≡ blank → ⊥) → b ≡ 10 → ⊥
unfolding class_of among blanks
no-line-end b n e = n (ap class_of e)

no_digit : is_digit 10 ≡ false
unfolding is_digit class_of among blanks
no_digit = refl

no-letter : in_word 10 ≡ false
unfolding in_word is_letter is_digit class_of among blanks
no-letter = refl

never-paired : (b : ℕ) → paired b 10 ≡ false
unfolding paired spelled double same_word present
never-paired b = go (eqb b 124) (eqb b 61)
  where
    go : (t u : Bool) → present (cond (t && false) (some 22) (cond (u && false) (some 25) none)) ≡ false
    go true true = refl
    go true false = refl
    go false true = refl
    go false false = refl

module _ (s : List ℕ) (at l : ℕ) (h : at < length s) (n : class_of (get_or s at 0) ≡ blank → ⊥) where
  ten : get_or s at 0 ≡ 10 → ⊥
  ten = no-line-end (get_or s at 0) n

  -- a run behind the first byte
  lines-run : (q : ℕ → Bool) → q 10 ≡ false → (to : ℕ) → to ≡ at + 1 + run q (drop (at + 1) s) → to ≤ length s
      → line_from l (drop to s) ≡ line_from l (drop at s)
  lines-run q fails to e i =
      let m = run q (drop (at + 1) s) in
      let r : Ran q (drop (suc at) s) m = rw (← add-one at) (ran q (drop (at + 1) s)) in
      lines-piece q fails s at m to l h ten e i r.passes

  -- nothing behind it
  lines-byte : (to : ℕ) → to ≡ at + 1 → to ≤ length s → line_from l (drop to s) ≡ line_from l (drop at s)
  unfolding every
  lines-byte to e i = lines-piece is_digit no_digit s at 0 to l h ten (omega arith) i refl

  lines-symbol : (to : ℕ) → to ≡ at + symbol_width (get_or s at 0) (get_or s (at + 1) 0) → to ≤ length s → line_from l (drop to s) ≡ line_from l (drop at s)
  unfolding symbol_width every
  lines-symbol to e i = go (paired (get_or s at 0) (get_or s (at + 1) 0)) refl e
    where
      go : (t : Bool) → paired (get_or s at 0) (get_or s (at + 1) 0) ≡ t → to ≡ at + cond t 2 1 → line_from l (drop to s) ≡ line_from l (drop at s)
      go true f g =
          let second : drop (suc at) s ≡ get_or s (suc at) 0 ∷ drop (suc (suc at)) s = drop-cons s (suc at) 0 (omega arith) in
          lines-piece (paired (get_or s at 0)) (never-paired (get_or s at 0)) s at 1 to l h ten (omega arith) i (rw second (rw (← add-one at) (rw f)))
      go false f g = lines-byte to (omega arith) i

  lines-to : (to : ℕ) → to ≡ piece_end s at → to ≤ length s → line_from l (drop to s) ≡ line_from l (drop at s)
  unfolding piece_end
  lines-to to e i = go (is_letter (get_or s at 0)) (is_digit (get_or s at 0)) (eqb (class_of (get_or s at 0)) symbol) e
    where
      go : (t u v : Bool)
          → to
          ≡ cond t (at + 1 + run in_word (drop (at + 1) s))
          (cond u (at + 1 + run is_digit (drop (at + 1) s)) (cond v (at + symbol_width (get_or s at 0) (get_or s (at + 1) 0)) (at + 1)))
          → line_from l (drop to s) ≡ line_from l (drop at s)
      go true u v f = lines-run in_word no-letter to f i
      go false true v f = lines-run is_digit no_digit to f i
      go false false true f = lines-symbol to f i
      go false false false f = lines-byte to f i

-- ---- the next place

pub next-lines : (s : List ℕ) (at line : ℕ) (r : Place) → at ≤ length s → NextSays s at line r → (r.kind ≡ 0 → ⊥)
    → line_from r.line (drop r.to s) ≡ line_from line (drop at s)
next-lines s at line r h x n =
    let f = x.found n in
    let w = passed s at line h in
    let from = x.past-blanks.0 in
    let on = x.past-blanks.1 in
    let a : r.from < length s = omega (arith, f.not-empty, f.within) in
    lines-to s r.from r.line a (rw from (w.stops (rw (← from) a))) r.to f.is-to f.within
    ∙ rw (from, on) w.lines
