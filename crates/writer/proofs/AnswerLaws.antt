-- The answer, path by path. Assumes nothing.
use Prim.Native.Nat.{ℕ, zero, suc, ◌<◌, ◌≤◌}
use mathlib.Core.Path.{◌≡◌, refl, sym, ap, subst, ◌∙◌}
use mathlib.Core.Bool.{Bool, true, false, ◌&&◌}
use mathlib.Core.List.{List, [], ◌∷◌, map}
use native.Mathlib.Omega.{arith}
use native.Mathlib.Decide.{ℕ_discrete}
use lib.ListN.{length, get_or}
use Rattle.laws.specs.Bools.{and_both, TrueIff}
use Rattle.laws.specs.UpTo.{up_to}
use Rattle.rules.specs.Image.{most_fields, fields_of}
use Rattle.rules.specs.Scope.{Names, has}
use Rattle.rules.specs.Refusals.{check}
use Rattle.image.specs.declared.refusals.Refusal.{Refusal}
use Rattle.image.specs.Refusals.{verdict_of}
use Rattle.rules.specs.declared.Verdict.TheVariants.{Accepted}
use Rattle.checklaws.specs.Bits.{bit, Shows}
use Rattle.grammar.specs.FieldList.{entry, word_of}
use Rattle.writing.specs.Spell.{made_up_field}
use Rattle.fieldlist.specs.Answer.{entries_of, RightRows, Says}
use Rattle.fieldlist.specs.Names.{nowhere, word_at, words, Spans}
use Rattle.fieldlist.specs.Answer as fieldlist
use Rattle.fieldlist.specs.declared.FieldRows.{FieldRows}
use Rattle.fieldlist.specs.declared.BadRow.{BadRow}
use Rattle.fieldlist.proofs.Uses.{codes-of}
use Rattle.writer.specs.declared.WriteError.{WriteError}
use Rattle.std.specs.Prelude.{Result, Ok, Err}
use Rattle.writer.specs.declared.WriteError.TheVariants.{BadImage, BadList, OtherCodes}
use Rattle.writer.specs.declared.fields.Fields.{Fields}
use Rattle.writer.specs.declared.fields.Fields.TheVariants.{MadeUp}
use Rattle.writer.specs.Fields.{words_for}
use Rattle.writer.specs.Answer.{every_name, verdict, codes_of, Words, made-up, listed, Answers, written, bad-image, bad-list, other-codes, too-short, Said, Spells, SameCodes, FieldsSay}
use Rattle.writer.proofs.CodeLaws.{same_count}

-- ---- every name is visible

all : (ℕ → Bool) → ℕ → Bool
all f zero = true
all f (suc n) = f n && all f n

all-at : (f : ℕ → Bool) (n x : ℕ) → all f n ≡ true → x < n → f x ≡ true
unfolding all
all-at f zero x e l = absurd (omega arith)
all-at f (suc n) x e l =
    let b = and_both (f n) (all f n) e in
    elim (ℕ_discrete x n) [ yes i ↦ rw i b.0 | no k ↦ all-at f n x b.1 (omega arith) ]

all-bits : all (λ x. bit 340282366920938463463374607431768211455 x) 128 ≡ true
unfolding all bit
all-bits = refl

all-names : all (λ x. has x every_name) 128 ≡ true
unfolding all has every_name up_to
all-names = refl

pub sees-every : (x : ℕ) → x < 128 → has x every_name ≡ true
sees-every x l = all-at _ 128 x all-names l

pub shows-every : Shows 340282366920938463463374607431768211455 every_name
shows-every = record { shows = λ x l. all-at _ 128 x all-bits l ∙ sym (sees-every x l) }

-- ---- the answer with these words

said-answers : (img list d e : List ℕ) (ws : List (List ℕ)) (r : Result ℕ WriteError) → verdict img ≡ Accepted → Words img list ws → Said img ws d r e → Answers img list d r e
said-answers img list d e ws (Ok n) a w s = written a w s.0 s.1 s.2
said-answers img list d e ws (Err k) a w s = rw (s.0, s.2) (too-short a w s.1)

no-list : (list : List ℕ) → length list ≡ 0 → list ≡ []
no-list [] e = refl
no-list (b ∷ list) e = absurd (omega arith)

pub made_answers : (img list d e : List ℕ) (r : Result ℕ WriteError) (fields : Fields) → length list ≡ 0 → fields ≡ MadeUp → Spells img (words_for img fields) d r e
    → FieldsSay img list d r e
made_answers img list d e r fields z m s =
    record {
      says = λ a.
          said-answers img list d e (up_to made_up_field (fields_of img)) r a (made-up (no-list list z)) (subst (λ fs. Said img (words_for img fs) d r e) m s.says);
    }

-- ---- with a list

names_of : (list : List ℕ) (r : FieldRows) → map word_of (entries_of list r) ≡ words list r.names r.count
unfolding entries_of words up_to word_of
names_of list r = go (λ i. word_at list (get_or r.names i nowhere)) (λ i. get_or r.codes i 0) r.count
  where
    go : (g : ℕ → List ℕ) (h : ℕ → ℕ) (n : ℕ) → map word_of (up_to (λ i. entry (g i) (h i)) n) ≡ up_to g n
    go g h zero = refl
    go g h (suc n) = ap (g zero ∷◌) (go (λ i. g (suc i)) (λ i. h (suc i)) n)

module _ (list : List ℕ) (o : Result FieldRows BadRow) (a : fieldlist.Answers list o) where
  is_right : (r : FieldRows) → o ≡ Ok r → RightRows list r
  is_right r e = subst (Says list) e a.says

  pub rows_few : (r : FieldRows) → o ≡ Ok r → r.count ≤ most_fields
  rows_few r e = (is_right r e).few

  pub list_wrong : (img d : List ℕ) (b : BadRow) → o ≡ Err b → FieldsSay img list d (Err BadList) d
  list_wrong img d b e = let s : Says list (Err b) = subst (Says list) e a.says in record { says = λ v. bad-list v s.1 }

  module _ (img : List ℕ) (r : FieldRows) (e : o ≡ Ok r) (b : Bool) (s : SameCodes img r.codes r.count b) where
    pub codes_other : (d : List ℕ) → (list ≡ [] → ⊥) → b ≡ false → FieldsSay img list d (Err OtherCodes) d
    codes_other d n i =
        let f : up_to (λ k. get_or r.codes k 0) r.count ≡ codes_of img → ⊥ = subst (λ t. TrueIff t (up_to (λ k. get_or r.codes k 0) r.count ≡ codes_of img)) i s.says in
        record { says = λ v. other-codes v n (is_right r e).listed (λ q. f (sym (codes-of list r) ∙ q)) }

    module _ (i : b ≡ true) where
      same : up_to (λ k. get_or r.codes k 0) r.count ≡ codes_of img
      same = subst (λ t. TrueIff t (up_to (λ k. get_or r.codes k 0) r.count ≡ codes_of img)) i s.says

      as_many : r.count ≡ fields_of img
      as_many = same_count img r.codes r.count same

      pub list_stands : Spans list r.names (fields_of img) × (fields_of img ≤ most_fields)
      list_stands = rw (← as_many) ((is_right r e).spans, (is_right r e).few)

      pub list_answers : (d o : List ℕ) (t : Result ℕ WriteError) → Spells img (words list r.names (fields_of img)) d t o → FieldsSay img list d t o
      list_answers d o t w =
          let q : words list r.names (fields_of img) ≡ map word_of (entries_of list r) = rw (← as_many) (sym (names_of list r)) in
          record {
            says = λ v.
                said-answers img list d o (map word_of (entries_of list r)) t v (listed (is_right r e).listed (codes-of list r ∙ same))
                (subst (λ ws. Said img ws d t o) q w.says);
          }

-- ---- the check

module _ (img : List ℕ) (o : Result (List ℕ) Refusal) (s : (visible : Names) → Shows 340282366920938463463374607431768211455 visible → verdict_of o ≡ check visible 5378 img) where
  pub refused_image : (list d : List ℕ) (r : Refusal) → o ≡ Err r → Answers img list d (Err BadImage) d
  refused_image list d r e = bad-image (sym (s every_name shows-every) ∙ ap verdict_of e)

  pub accepted_image : (script list d e : List ℕ) (t : Result ℕ WriteError) → o ≡ Ok script → script ≡ img → FieldsSay script list d t e → Answers img list d t e
  accepted_image script list d e t i h f = (subst (λ b. FieldsSay b list d t e) h f).says (sym (s every_name shows-every) ∙ ap verdict_of i)
