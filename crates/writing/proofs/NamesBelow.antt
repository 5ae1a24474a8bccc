-- The names that appear in a text stand in their list once, so that there are no more of them than there are names. Assumes nothing.
use Prim.Native.Nat.{ℕ, zero, suc, ◌+◌, ◌<◌, ◌≤◌}
use mathlib.Core.Path.{◌≡◌, refl, sym, subst, ◌∙◌}
use mathlib.Core.Bool.{Bool, true, false, cond, true≢false}
use mathlib.Core.List.{List, [], ◌∷◌, ◌++◌}
use native.Mathlib.Omega.{arith}
use lib.ListN.{length}
use lib.Dec.{eqb}
use borrow.Author.Tests.{eqb-true, eq-eqb, ne_eqb}
use Rattle.laws.specs.Bools.{or-neither}
use Rattle.rules.proofs.Writing.{one}
use Rattle.rules.proofs.Sums.{sum, sum-add, sum_one}
use Rattle.grammar.specs.Classes.{among}
use Rattle.grammar.specs.Tokens.{Tok, name, field_name, number, mark}
use Rattle.writing.specs.Spell.{Spells, Spellable}
use Rattle.writing.specs.Renumber.{with_name, appearing_from, appearing}
use Rattle.writing.proofs.Words.{AllBelow}

-- ---- below the number of names

module _ (N F : ℕ) where
  below_more : (xs : List ℕ) (x : ℕ) → AllBelow N xs → x < N → AllBelow N (xs ++ (x ∷ []))
  below_more [] x h l = (l, tt)
  below_more (y ∷ ys) x h l = (h.0, below_more ys x h.1 l)

  pub below-with : (xs : List ℕ) (t : Tok) → AllBelow N xs → Spells N F t → AllBelow N (with_name xs t)
  unfolding with_name
  below-with xs (name x) h l = go (among x xs)
    where
      go : (b : Bool) → AllBelow N (cond b xs (xs ++ (x ∷ [])))
      go true = h
      go false = below_more xs x h l
  below-with xs (field_name f) h l = h
  below-with xs (number n) h l = h
  below-with xs (mark k) h l = h

  below-from : (ts : List Tok) (xs : List ℕ) → AllBelow N xs → Spellable N F ts → AllBelow N (appearing_from xs ts)
  unfolding appearing_from
  below-from [] xs h s = h
  below-from (t ∷ ts) xs h s = below-from ts (with_name xs t) (below-with xs t h s.0) s.2

  pub below-appearing : (ts : List Tok) → Spellable N F ts → AllBelow N (appearing ts)
  unfolding appearing
  below-appearing ts s = below-from ts [] tt s

-- ---- each once

abbrev EachOnce : List ℕ → Type 0
EachOnce [] = Unit {0}
EachOnce (x ∷ xs) = (among x xs ≡ false) × EachOnce xs

not-among : (y x : ℕ) (ys : List ℕ) → among y ys ≡ false → (y ≡ x → ⊥) → among y (ys ++ (x ∷ [])) ≡ false
unfolding among
not-among y x [] h n = rw (ne_eqb y x n) refl
not-among y x (z ∷ zs) h n = let k = or-neither (eqb y z) (among y zs) h in rw k.0 (not-among y x zs k.1 n)

once_more : (xs : List ℕ) (x : ℕ) → EachOnce xs → among x xs ≡ false → EachOnce (xs ++ (x ∷ []))
unfolding among
once_more [] x h e = (refl, tt)
once_more (y ∷ ys) x h e =
    let k = or-neither (eqb x y) (among x ys) e in
    (not-among y x ys h.0 (λ i. true≢false (sym (eq-eqb x y (sym i)) ∙ k.0)), once_more ys x h.1 k.1)

once-with : (xs : List ℕ) (t : Tok) → EachOnce xs → EachOnce (with_name xs t)
unfolding with_name
once-with xs (name x) h = go (among x xs) refl
  where
    go : (b : Bool) → among x xs ≡ b → EachOnce (cond b xs (xs ++ (x ∷ [])))
    go true e = h
    go false e = once_more xs x h e
once-with xs (field_name f) h = h
once-with xs (number n) h = h
once-with xs (mark k) h = h

once-from : (ts : List Tok) (xs : List ℕ) → EachOnce xs → EachOnce (appearing_from xs ts)
unfolding appearing_from
once-from [] xs h = h
once-from (t ∷ ts) xs h = once-from ts (with_name xs t) (once-with xs t h)

-- ---- so many numbers below n

-- how often k stands in a list
unfoldable times : ℕ → List ℕ → ℕ
times k [] = 0
times k (x ∷ xs) = one k x + times k xs

times_none : (k : ℕ) (xs : List ℕ) → among k xs ≡ false → times k xs ≡ 0
unfolding times among one
times_none k [] h = refl
times_none k (x ∷ xs) h = let i = or-neither (eqb k x) (among k xs) h in rw (i.0, times_none k xs i.1) refl

times-once : (k : ℕ) (xs : List ℕ) → EachOnce xs → times k xs ≤ 1
unfolding times one
times-once k [] h = omega arith
times-once k (x ∷ xs) h = go (eqb k x) refl (times-once k xs h.1)
  where
    go : (b : Bool) → eqb k x ≡ b → times k xs ≤ 1 → cond b 1 0 + times k xs ≤ 1
    go true e l = let z = times_none k xs (subst (λ y. among y xs ≡ false) (sym (eqb-true k x e)) h.0) in omega arith
    go false e l = omega arith

-- each number below n counted once
abbrev added : (ℕ → ℕ) → ℕ → ℕ
added f n = sum (λ i. 1) f n

added_none : (n : ℕ) → added (λ k. 0) n ≡ 0
unfolding sum
added_none zero = refl
added_none (suc n) = rw (added_none n) refl

added-times : (n : ℕ) (xs : List ℕ) → AllBelow n xs → added (λ k. times k xs) n ≡ length xs
unfolding times
added-times n [] h = added_none n
added-times n (x ∷ xs) h =
    sum-add (λ i. 1) (λ k. one k x) (λ k. times k xs) n
    ∙ omega (arith, sum_one (λ i. 1) x n h.0, added-times n xs h.1)

added-few : (f : ℕ → ℕ) (n : ℕ) → ((k : ℕ) → f k ≤ 1) → added f n ≤ n
unfolding sum
added-few f zero h = omega arith
added-few f (suc n) h = omega (arith, h n, added-few f n h)

few-below : (n : ℕ) (xs : List ℕ) → EachOnce xs → AllBelow n xs → length xs ≤ n
few-below n xs h l = omega (arith, added-times n xs l, added-few (λ k. times k xs) n (λ k. times-once k xs h))

pub few-appearing : (N F : ℕ) (ts : List Tok) → Spellable N F ts → length (appearing ts) ≤ N
unfolding appearing
few-appearing N F ts s = few-below N (appearing ts) (once-from ts [] tt) (below-appearing N F ts s)
