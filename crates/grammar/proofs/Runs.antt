-- "Words and numbers run as far as they can": the longest beginning of a list whose bytes pass a test, and what is left. A list has just one
-- split into bytes that pass and a rest that doesn't begin with such a byte. Assumes nothing.
use Prim.Native.Nat.{ℕ, ◌≤◌}
use mathlib.Core.Path.{◌≡◌, refl, sym, ap, ◌∙◌}
use mathlib.Core.Bool.{Bool, true, false, cond}
use mathlib.Core.List.{List, [], ◌∷◌, ◌++◌}
use native.Mathlib.Omega.{arith}
use lib.ListN.{length}
use Rattle.laws.specs.Bools.{and_both}
use Rattle.grammar.specs.Places.{every, begins}

unfoldable pub run : (ℕ → Bool) → List ℕ → List ℕ
run p [] = []
run p (b ∷ s) = cond (p b) (b ∷ run p s) []

unfoldable pub after : (ℕ → Bool) → List ℕ → List ℕ
after p [] = []
after p (b ∷ s) = cond (p b) (after p s) (b ∷ s)

module _ (p : ℕ → Bool) where
  pub run-after : (s : List ℕ) → run p s ++ after p s ≡ s
  unfolding run after
  run-after [] = refl
  run-after (b ∷ s) = go (p b) (run-after s)
    where
      go : (t : Bool) → run p s ++ after p s ≡ s → cond t (b ∷ run p s) [] ++ cond t (after p s) (b ∷ s) ≡ b ∷ s
      go true e = ap (b ∷◌) e
      go false e = refl

  pub every-run : (s : List ℕ) → every p (run p s) ≡ true
  unfolding run every
  every-run [] = refl
  every-run (b ∷ s) = go (p b) refl (every-run s)
    where
      go : (t : Bool) → p b ≡ t → every p (run p s) ≡ true → every p (cond t (b ∷ run p s) []) ≡ true
      go true e h = rw e h
      go false e h = refl

  pub begins-after : (s : List ℕ) → begins p (after p s) ≡ false
  unfolding after begins
  begins-after [] = refl
  begins-after (b ∷ s) = go (p b) refl (begins-after s)
    where
      go : (t : Bool) → p b ≡ t → begins p (after p s) ≡ false → begins p (cond t (after p s) (b ∷ s)) ≡ false
      go true e h = h
      go false e h = e

  pub after-short : (s : List ℕ) → length (after p s) ≤ length s
  unfolding after
  after-short [] = omega arith
  after-short (b ∷ s) = go (p b) (after-short s)
    where
      go : (t : Bool) → length (after p s) ≤ length s → length (cond t (after p s) (b ∷ s)) ≤ length (b ∷ s)
      go true h = omega arith
      go false h = omega arith

  -- ---- the only such split

  run_none : (s : List ℕ) → begins p s ≡ false → run p s ≡ []
  unfolding run begins
  run_none [] h = refl
  run_none (b ∷ s) h = rw h refl

  after_none : (s : List ℕ) → begins p s ≡ false → after p s ≡ s
  unfolding after begins
  after_none [] h = refl
  after_none (b ∷ s) h = rw h refl

  pub run_is : (w s : List ℕ) → every p w ≡ true → begins p s ≡ false → run p (w ++ s) ≡ w
  unfolding run every
  run_is [] s h e = run_none s e
  run_is (b ∷ w) s h e =
      let k = and_both (p b) (every p w) h in
      rw k.0 (ap (b ∷◌) (run_is w s k.1 e))

  pub after_is : (w s : List ℕ) → every p w ≡ true → begins p s ≡ false → after p (w ++ s) ≡ s
  unfolding after every
  after_is [] s h e = after_none s e
  after_is (b ∷ w) s h e =
      let k = and_both (p b) (every p w) h in
      rw k.0 (after_is w s k.1 e)

  pub one-run : {w v s t : List ℕ}
      → every p w ≡ true → begins p s ≡ false → every p v ≡ true → begins p t ≡ false → w ++ s ≡ v ++ t → (w ≡ v) × (s ≡ t)
  one-run {w} {v} {s} {t} hw hs hv ht e = (
    sym (run_is w s hw hs) ∙ (ap (run p) e ∙ run_is v t hv ht),
    sym (after_is w s hw hs) ∙ (ap (after p) e ∙ after_is v t hv ht),
  )
