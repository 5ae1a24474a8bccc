-- The entries of a list, read with an answer that may be missing; a list with one more entry at its end, or with one
-- put in place of another: where its entries are, and what is true of each of them; and one of three ways in which two
-- numbers stand to each other. Assumes nothing.
use Rattle.std.specs.Prelude.{ℕ, zero, suc, ◌<◌, ◌≡◌, refl, List, [], ◌∷◌, ◌++◌, ◌≢◌, length, set, replicate}
use Rattle.std.proofs.Common.{sym, ap, subst, ◌∙◌, arith, length-append}
use Rattle.std.proofs.Math.Option.{some}
use Rattle.std.proofs.Math.Decide.{dec_lt}
use Rattle.std.proofs.Math.ListN.{get_elem?}
use Rattle.laws.specs.Elems.{elem-lt, elem-first}

-- below, equal or above
pub three : {C : Type 0} (a b : ℕ) → (a < b → C) → (a ≡ b → C) → (b < a → C) → C
three a b f g h =
    elim (dec_lt a b) [
      | yes l ↦ f l
      | no m ↦ elim (dec_lt b a) [ yes l ↦ h l | no n ↦ g (omega arith) ]
    ]

module _ {A : Type 0} where
  -- an entry that is there stands below the length
  pub entry-below : (l : List A) (i : ℕ) (a : A) → get_elem? l i ≡ some a → i < length l
  entry-below l i a e = elem-lt l i e

  -- below the length there is one
  pub entry-there : (l : List A) (i : ℕ) → i < length l → (a : A) × (get_elem? l i ≡ some a)
  entry-there [] i h = absurd (omega arith)
  entry-there (b ∷ l) zero h = (b, refl)
  entry-there (b ∷ l) (suc i) h = entry-there l i (omega arith)

  pub length-snoc : (l : List A) (a : A) → length (l ++ (a ∷ [])) ≡ suc (length l)
  length-snoc l a = length-append l (a ∷ []) ∙ omega arith

  -- one more entry: the old ones stay, the new one stands at the old length
  pub entry_old : (l : List A) (a : A) (i : ℕ) → i < length l → get_elem? (l ++ (a ∷ [])) i ≡ get_elem? l i
  entry_old l a i h = elem-first l (a ∷ []) i h

  pub entry_new : (l : List A) (a : A) → get_elem? (l ++ (a ∷ [])) (length l) ≡ some a
  entry_new [] a = refl
  entry_new (b ∷ l) a = entry_new l a

  -- an entry of the longer list is an old one, or the new one
  pub data Entry (l : List A) (a : A) (i : ℕ) (b : A) : Type 0 where
    old : i < length l → get_elem? l i ≡ some b → Entry l a i b
    new : i ≡ length l → b ≡ a → Entry l a i b

  pub entry-snoc : (l : List A) (a : A) (i : ℕ) (b : A) → get_elem? (l ++ (a ∷ [])) i ≡ some b → Entry l a i b
  entry-snoc l a i b e =
      three i (length l)
      (λ h. old h (sym (entry_old l a i h) ∙ e))
      (λ d. new d (let h : get_elem? (l ++ (a ∷ [])) i ≡ some a = rw d (entry_new l a) in cc))
      (λ h. let m = entry-below (l ++ (a ∷ [])) i b e in let n = length-snoc l a in absurd (omega arith))

  -- an entry put in place of another
  pub entry_set : (l : List A) (i : ℕ) (a b : A) → get_elem? l i ≡ some b → get_elem? (set l i a) i ≡ some a
  entry_set [] i a b e = let z : ◌≡◌ {A = ℕ} 0 1 = cc in absurd (omega arith)
  entry_set (c ∷ l) zero a b e = refl
  entry_set (c ∷ l) (suc i) a b e = entry_set l i a b e

  pub entry_set_other : (l : List A) (i j : ℕ) (a : A) → i ≢ j → get_elem? (set l i a) j ≡ get_elem? l j
  entry_set_other [] i j a h = refl
  entry_set_other (c ∷ l) zero zero a h = absurd (h refl)
  entry_set_other (c ∷ l) zero (suc j) a h = refl
  entry_set_other (c ∷ l) (suc i) zero a h = refl
  entry_set_other (c ∷ l) (suc i) (suc j) a h = entry_set_other l i j a (λ e. h (ap suc e))

  -- ---- what holds of every entry, each with its number

  -- .. holds after one more
  pub each-push : (P : ℕ → A → Type 0) (l : List A) (a : A)
      → ((k : ℕ) (x : A) → get_elem? l k ≡ some x → P k x)
      → P (length l) a
      → (k : ℕ) (x : A) → get_elem? (l ++ (a ∷ [])) k ≡ some x → P k x
  each-push P [] a h p zero x e = subst (λ y. P zero y) (let z : a ≡ x = cc in z) p
  each-push P [] a h p (suc k) x e = let z : ◌≡◌ {A = ℕ} 0 1 = cc in absurd (omega arith)
  each-push P (y ∷ l) a h p zero x e = h zero x e
  each-push P (y ∷ l) a h p (suc k) x e = each-push (λ n. P (suc n)) l a (λ n z d. h (suc n) z d) p k x e

  -- .. after one is put in place of another
  pub each_set : (P : A → Type 0) (l : List A) (i : ℕ) (a : A)
      → ((k : ℕ) (x : A) → get_elem? l k ≡ some x → P x)
      → P a
      → (k : ℕ) (x : A) → get_elem? (set l i a) k ≡ some x → P x
  each_set P [] i a h p k x e = h k x e
  each_set P (y ∷ l) zero a h p zero x e = let z : a ≡ x = cc in subst P z p
  each_set P (y ∷ l) zero a h p (suc k) x e = h (suc k) x e
  each_set P (y ∷ l) (suc i) a h p zero x e = h zero x e
  each_set P (y ∷ l) (suc i) a h p (suc k) x e = each_set P l i a (λ n. h (suc n)) p k x e

  -- .. and of one entry many times
  pub each-replicate : (P : A → Type 0) (n : ℕ) (a : A)
      → P a
      → (k : ℕ) (x : A) → get_elem? (replicate n a) k ≡ some x → P x
  each-replicate P zero a p k x e = let z : ◌≡◌ {A = ℕ} 0 1 = cc in absurd (omega arith)
  each-replicate P (suc n) a p zero x e = let z : a ≡ x = cc in subst P z p
  each-replicate P (suc n) a p (suc k) x e = each-replicate P n a p k x e
