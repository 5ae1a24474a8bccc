-- `write` has one answer, and leaves one thing in what is lent. Assumes nothing.
use Prim.Native.Nat.{ℕ, ◌<◌, ◌≤◌}
use mathlib.Core.Path.{◌≡◌, refl, sym, ap, ap₂, subst, ◌∙◌}
use mathlib.Core.List.{List, [], ◌++◌, map}
use native.Mathlib.Omega.{arith}
use lib.ListN.{length, drop}
use Rattle.laws.specs.UpTo.{up_to, length-up_to}
use Rattle.rules.specs.Image.{fields_of, code_at}
use Rattle.rules.specs.declared.Verdict.{Verdict}
use Rattle.rules.specs.declared.Verdict.TheVariants.{Accepted, Refused as RefusedBy}
use Rattle.grammar.specs.FieldList.{Entry, word_of, code_of, Listed, no_row}
use Rattle.grammar.proofs.Listing.{listed-one}
use Rattle.writing.specs.Spell.{made_up_field}
use Rattle.writer.specs.declared.WriteError.{WriteError}
use Rattle.std.specs.Prelude.{Result, Ok}
use Rattle.writer.specs.Answer.{codes_of, Words, made-up, listed, text_of, Answers, written, bad-image, bad-list, other-codes, too-short}

-- ---- the fields' words

pub empty-listed : Listed [] []
empty-listed = record { rows = no_row; few = omega arith; different = tt; increasing = tt }

no_fields : (img : List ℕ) → [] ≡ codes_of img → fields_of img ≡ 0
no_fields img e = let l = ap length e in let n = length-up_to (code_at img) (fields_of img) in omega arith

made-listed : (img list : List ℕ) {fs : List Entry} → list ≡ [] → Listed list fs → map code_of fs ≡ codes_of img → up_to made_up_field (fields_of img) ≡ map word_of fs
unfolding up_to code_of word_of
made-listed img list {fs} z l e =
    let f : fs ≡ [] = listed-one l (subst (λ s. Listed s []) (sym z) empty-listed) in
    let n : fields_of img ≡ 0 = no_fields img (ap (map code_of) (sym f) ∙ e) in
    rw (n, f) refl

pub words-one : {img list : List ℕ} {ws vs : List (List ℕ)} → Words img list ws → Words img list vs → ws ≡ vs
words-one (made-up z) (made-up y) = refl
words-one {img} {list} (made-up z) (listed l e) = made-listed img list z l e
words-one {img} {list} (listed l e) (made-up z) = sym (made-listed img list z l e)
words-one (listed l e) (listed k d) = ap (map word_of) (listed-one l k)

-- ---- answers that exclude each other

not-both : {A : Type 0} {v : Verdict} {k p : ℕ} → v ≡ Accepted → v ≡ RefusedBy k p → A
not-both e f = let z : ◌≡◌ {A = ℕ} 0 1 = cc in absurd (omega arith)

not-bad : {A : Type 0} {img list : List ℕ} {ws : List (List ℕ)} → ((fs : List Entry) → Listed list fs → ⊥) → Words img list ws → A
not-bad n (made-up z) = absurd (n [] (subst (λ s. Listed s []) (sym z) empty-listed))
not-bad n (listed l e) = absurd (n _ l)

not-other : {A : Type 0} {img list : List ℕ} {ws : List (List ℕ)} {fs : List Entry} → (list ≡ [] → ⊥) → Listed list fs → (map code_of fs ≡ codes_of img → ⊥)
    → Words img list ws → A
not-other n l d (made-up z) = absurd (n z)
not-other {A} {img} n l d (listed k e) = absurd (d (ap (map code_of) (listed-one l k) ∙ e))

not_short : {A : Type 0} {img list : List ℕ} (lent : List ℕ) {ws vs : List (List ℕ)} {n : ℕ} → Words img list ws → n ≡ length (text_of img ws) → n ≤ length lent
    → Words img list vs → length lent < length (text_of img vs) → A
not_short {A} {img} lent v e h w l = let i = ap (λ s. length (text_of img s)) (words-one v w) in absurd (omega arith)

-- ---- one answer

pub answers_one : {img list lent out o : List ℕ} {r s : Result ℕ WriteError} → Answers img list lent r out → Answers img list lent s o → (r ≡ s) × (out ≡ o)
answers_one {img} {list} {lent} (written a v e h i) (written b w f k j) =
    let t = ap (text_of img) (words-one v w) in
    let l = e ∙ (ap length t ∙ sym f) in
    (ap Ok l, i ∙ (ap₂ (λ x y. x ++ drop y lent) t l ∙ sym j))
answers_one (written a v e h i) (bad-image b) = not-both a b
answers_one (written a v e h i) (bad-list b n) = not-bad n v
answers_one (written a v e h i) (other-codes b n l d) = not-other n l d v
answers_one {img} {list} {lent} (written a v e h i) (too-short b w l) = not_short lent v e h w l
answers_one (bad-image a) (written b w f k j) = not-both b a
answers_one (bad-image a) (bad-image b) = (refl, refl)
answers_one (bad-image a) (bad-list b n) = not-both b a
answers_one (bad-image a) (other-codes b n l d) = not-both b a
answers_one (bad-image a) (too-short b w l) = not-both b a
answers_one (bad-list a n) (written b w f k j) = not-bad n w
answers_one (bad-list a n) (bad-image b) = not-both a b
answers_one (bad-list a n) (bad-list b m) = (refl, refl)
answers_one (bad-list a n) (other-codes b m l d) = absurd (n _ l)
answers_one (bad-list a n) (too-short b w l) = not-bad n w
answers_one (other-codes a n l d) (written b w f k j) = not-other n l d w
answers_one (other-codes a n l d) (bad-image b) = not-both a b
answers_one (other-codes a n l d) (bad-list b m) = absurd (m _ l)
answers_one (other-codes a n l d) (other-codes b m k c) = (refl, refl)
answers_one (other-codes a n l d) (too-short b w k) = not-other n l d w
answers_one {img} {list} {lent} (too-short a v l) (written b w f k j) = not_short lent w f k v l
answers_one (too-short a v l) (bad-image b) = not-both a b
answers_one (too-short a v l) (bad-list b n) = not-bad n v
answers_one (too-short a v l) (other-codes b n k d) = not-other n k d v
answers_one (too-short a v l) (too-short b w k) = (refl, refl)
