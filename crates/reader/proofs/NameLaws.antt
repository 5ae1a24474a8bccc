-- One name more: where it stands is stored behind the others. Assumes nothing.
use Prim.Native.Nat.{ℕ, zero, suc, ◌+◌, ◌<◌, ◌≤◌}
use mathlib.Core.Path.{◌≡◌, refl, sym, ap, subst, ◌∙◌}
use mathlib.Core.List.{List, [], ◌∷◌, ◌++◌}
use native.Mathlib.Omega.{arith}
use native.Mathlib.Decide.{ℕ_discrete}
use native.Mathlib.Nat.{suc-add}
use lib.ListN.{length, get_or, set}
use lib.Seq.{get_or-set_same, get_or-set_other}
use Rattle.laws.specs.UpTo.{up_to, up_to-same}
use Rattle.fieldlist.specs.declared.names.Span.{Span}
use Rattle.fieldlist.specs.Names.{nowhere, word_at, Spans, words}

one_more : {A : Type 0} (f : ℕ → A) (n : ℕ) → up_to f (n + 1) ≡ up_to f n ++ (f n ∷ [])
unfolding up_to
one_more f zero = refl
one_more f (suc n) = rw (suc-add n 1) (ap (λ (l : List _). f 0 ∷ l) (one_more (λ k. f (suc k)) n))

module _ (text : List ℕ) (spans : List Span) (n : ℕ) (s : Span) (room : n < length spans) where
  there : get_or (set spans n s) n nowhere ≡ s
  there = get_or-set_same spans n s nowhere room

  before : (k : ℕ) → k < n → get_or (set spans n s) k nowhere ≡ get_or spans k nowhere
  before k h = get_or-set_other spans n k s nowhere (λ e. omega (arith, e))

  pub named_more : words text (set spans n s) (n + 1) ≡ words text spans n ++ (word_at text s ∷ [])
  unfolding words
  named_more =
      one_more (λ i. word_at text (get_or (set spans n s) i nowhere)) n
      ∙ rw there
      (ap (λ (l : List (List ℕ)). l ++ (word_at text s ∷ [])) (up_to-same _ _ n (λ k l. ap (word_at text) (before k l))))

  -- what holds of each of them
  each : (P : Span → Type 0) → ((i : ℕ) → i < n → P (get_or spans i nowhere)) → P s → (i : ℕ) → i < n + 1 → P (get_or (set spans n s) i nowhere)
  each P h p i l =
      elim (ℕ_discrete i n) [
        | yes e ↦ rw e (subst P (sym there) p)
        | no d ↦ let k : i < n = omega (arith, d) in subst P (sym (before i k)) (h i k)
      ]

  pub spans-more : Spans text spans n → s.from ≤ s.to → s.to ≤ length text → Spans text (set spans n s) (n + 1)
  spans-more h f w =
      record {
        forward = each (λ x. x.from ≤ x.to) h.forward f;
        within = each (λ x. x.to ≤ length text) h.within w;
      }
