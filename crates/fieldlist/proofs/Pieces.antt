-- The parts of a row: a piece of a list that runs as far as a test passes, what stands at the front of the rest, and the tests in their order. Assumes nothing.
use Prim.Native.Nat.{ℕ, zero, suc, ◌+◌, ◌<◌, ◌≤◌}
use mathlib.Core.Path.{◌≡◌, refl, sym, ap, ◌∙◌}
use mathlib.Core.Bool.{Bool, true, false, true≢false, false≢true}
use mathlib.Core.Option.{Option, none, some}
use mathlib.Core.List.{List, [], ◌∷◌, ◌++◌}
use native.Mathlib.Omega.{arith}
use native.Mathlib.Nat.{zero-add, suc-add}
use lib.Dec.{eqb}
use lib.ListN.{length, get_or, take, drop, length-drop, take-append-drop, drop_of_length-le}
use lib.Seq.{slice, slice-cons, drop-cons, drop-drop, take-nil, take_at, drop_at}
use borrow.Author.Tests.{eqb-true}
use Rattle.laws.specs.Bools.{and_both}
use Rattle.grammar.specs.Places.{every, begins, present}
use Rattle.letters.specs.Runs.{run}
use Rattle.letters.proofs.RunLaws.{ran}
use Rattle.fieldlist.specs.Judged.{first_of, unless}

-- ---- the front of a rest

pub begins-at : (p : ℕ → Bool) (s : List ℕ) (i : ℕ) → i < length s → begins p (drop i s) ≡ p (get_or s i 0)
unfolding begins
begins-at p s i h = rw (drop-cons s i 0 h)

pub begins-end : (p : ℕ → Bool) (s : List ℕ) (i : ℕ) → length s ≤ i → begins p (drop i s) ≡ false
unfolding begins
begins-end p s i h = rw (drop_of_length-le s h)

pub begins-in : (p : ℕ → Bool) (s : List ℕ) (i : ℕ) → begins p (drop i s) ≡ true → i < length s
unfolding begins
begins-in p [] zero e = absurd (false≢true e)
begins-in p [] (suc i) e = absurd (false≢true e)
begins-in p (b ∷ s) zero e = omega arith
begins-in p (b ∷ s) (suc i) e = omega (arith, begins-in p s i e)

pub front : (b : ℕ) (s : List ℕ) (i : ℕ) → begins (eqb b) (drop i s) ≡ true → drop i s ≡ b ∷ drop (suc i) s
front b s i e =
    let h = begins-in (eqb b) s i e in
    let f = eqb-true b (get_or s i 0) (sym (begins-at (eqb b) s i h) ∙ e) in
    drop-cons s i 0 h ∙ rw f

-- ---- a piece and the rest

pub piece : (s : List ℕ) (f n : ℕ) → slice f (f + n) s ≡ take n (drop f s)
piece s zero n = rw (zero-add n)
piece [] (suc f) n = rw (suc-add f n) (sym (take-nil n))
piece (b ∷ s) (suc f) n = rw (suc-add f n) (piece s f n)

pub in_two : (s : List ℕ) (f n : ℕ) → drop f s ≡ slice f (f + n) s ++ drop (f + n) s
in_two s f n = rw (piece s f n, ← drop-drop n f s) (sym (take-append-drop n (drop f s)))

module _ (p : ℕ → Bool) where
  pub run-passes : (s : List ℕ) (f : ℕ) → every p (slice f (f + run p (drop f s)) s) ≡ true
  run-passes s f = rw (piece s f (run p (drop f s))) (ran p (drop f s)).passes

  pub run-within : (s : List ℕ) (f : ℕ) → f ≤ length s → f + run p (drop f s) ≤ length s
  run-within s f h = omega (arith, (ran p (drop f s)).within, length-drop f s)

  pub run-first : (s : List ℕ) (f : ℕ) → begins p (drop f s) ≡ true
      → slice f (f + run p (drop f s)) s ≡ get_or s f 0 ∷ slice (suc f) (f + run p (drop f s)) s
  unfolding run
  run-first s f e =
      let h = begins-in p s f e in
      let m : 0 < run p (drop f s) = some-run h (sym (begins-at p s f h) ∙ e) in
      slice-cons f (f + run p (drop f s)) s 0 (omega arith) (run-within s f (omega arith))
    where
      some-run : f < length s → p (get_or s f 0) ≡ true → 0 < run p (drop f s)
      some-run h t = rw (drop-cons s f 0 h, t) (omega arith)

  run-count : (w s : List ℕ) → every p w ≡ true → begins p s ≡ false → run p (w ++ s) ≡ length w
  unfolding run every begins
  run-count [] [] h e = refl
  run-count [] (b ∷ s) h e = rw e
  run-count (b ∷ w) s h e = let k = and_both (p b) (every p w) h in rw k.0 (ap suc (run-count w s k.1 e))

  pub record Run (list : List ℕ) (at : ℕ) (w s : List ℕ) : Type 0 where
    pub is : slice at (at + run p (drop at list)) list ≡ w
    pub rest : drop (at + run p (drop at list)) list ≡ s

  pub run_is : (list : List ℕ) (at : ℕ) (w s : List ℕ) → drop at list ≡ w ++ s → every p w ≡ true → begins p s ≡ false → Run list at w s
  run_is list at w s e h f =
      let l : run p (drop at list) ≡ length w = rw e (run-count w s h f) in
      record {
        is = piece list at (run p (drop at list)) ∙ rw (l, e) (take_at w s (length w) refl);
        rest = sym (drop-drop (run p (drop at list)) at list) ∙ rw (l, e) (drop_at w s (length w) refl);
      }

-- ---- tests in their order

pub first-none : (n : ℕ) (t : Bool) (ts : List Bool) → first_of (suc n) (t ∷ ts) ≡ 0 → (t ≡ false) × (first_of (suc (suc n)) ts ≡ 0)
unfolding first_of
first-none n true ts e = absurd (omega arith)
first-none n false ts e = (refl, e)

pub absent : (o : Option ℕ) → present o ≡ false → o ≡ none
unfolding present
absent none e = refl
absent (some k) e = absurd (true≢false e)

pub unless-none : (i j : ℕ) → unless i j ≡ 0 → (i ≡ 0) × (j ≡ 0)
unfolding unless
unless-none zero j e = (refl, e)
unless-none (suc i) j e = absurd (omega arith)
