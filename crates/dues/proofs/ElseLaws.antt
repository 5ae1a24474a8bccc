-- What a thing due does with a token of any other kind than its own: a shared row's, once its node is out. Assumes nothing.
use Prim.Native.Nat.{ℕ}
use mathlib.Core.Path.{◌≡◌, ◌∙◌}
use mathlib.Core.List.{[], ◌∷◌, ◌++◌}
use borrow.Author.Tests.{ne_eqb}
use Rattle.std.specs.Prelude.{Option}
use Rattle.reading.specs.Items.{put}
use Rattle.reading.specs.Table.{refuse, row_for, minuses, arguments, firsts, sides, does, operand, test_minus, name_first, first_dotted, first_minus}
use Rattle.dues.specs.declared.Made.{Made}
use Rattle.dues.specs.declared.Deed.{Deed}
use Rattle.dues.specs.Words.{made_items, deed_of, in_words, with_items}
use Rattle.dues.proofs.DeedLaws.{after-in-words}

module _ (k : ℕ) (r : Deed) (m : Option Made) where
  pub else-test-minus : (k ≡ 23 → ⊥) → made_items m ≡ put 3 0 ∷ [] → ((v : ℕ) → deed_of r ≡ with_items (made_items m) (in_words (row_for k v sides refuse))) → (v : ℕ) → deed_of r ≡ in_words (does test_minus k v)
  unfolding does row_for
  else-test-minus n e h v = h v ∙ rw (e, ne_eqb k 23 n) (after-in-words 3 0 (row_for k v sides refuse))

  pub else-name-first : (x : ℕ) → (k ≡ 24 → ⊥) → made_items m ≡ put 5 x ∷ [] → ((v : ℕ) → deed_of r ≡ with_items (made_items m) (in_words (row_for k v firsts refuse))) → (v : ℕ) → deed_of r ≡ in_words (does (name_first x) k v)
  unfolding does row_for
  else-name-first x n e h v = h v ∙ rw (e, ne_eqb k 24 n) (after-in-words 5 x (row_for k v firsts refuse))

  pub else-first-dotted : (k ≡ 24 → ⊥) → made_items m ≡ put 6 0 ∷ [] → ((v : ℕ) → deed_of r ≡ with_items (made_items m) (in_words (row_for k v firsts refuse))) → (v : ℕ) → deed_of r ≡ in_words (does first_dotted k v)
  unfolding does row_for
  else-first-dotted n e h v = h v ∙ rw (e, ne_eqb k 24 n) (after-in-words 6 0 (row_for k v firsts refuse))

  pub else-first-minus : (k ≡ 23 → ⊥) → made_items m ≡ put 3 0 ∷ [] → ((v : ℕ) → deed_of r ≡ with_items (made_items m) (in_words (row_for k v firsts refuse))) → (v : ℕ) → deed_of r ≡ in_words (does first_minus k v)
  unfolding does row_for firsts
  else-first-minus n e h v =
      h v ∙ rw (e, ne_eqb k 23 n) (after-in-words 3 0 (row_for k v (minuses (operand ∷ first_minus ∷ []) ++ arguments) refuse))
