-- Two files have just one answer: the lines that are printed, and the image or none. So the contract of `answer` decides every byte that is printed and
-- every byte of the image. Assumes nothing.
use Prim.Native.Nat.{ℕ, ◌≤◌}
use mathlib.Core.Path.{◌≡◌, refl, sym, ap, subst, ◌∙◌}
use mathlib.Core.Option.{Option, some}
use mathlib.Core.List.{List}
use native.Mathlib.Omega.{arith}
use lib.ListN.{length}
use Rattle.grammar.specs.FieldList.{Entry, Listed}
use Rattle.grammar.specs.Reads.{Lent, Reads, RefusedText}
use Rattle.grammar.specs.Reads as R
use Rattle.grammar.proofs.Listing.{listed-one}
use Rattle.grammar.proofs.Answers.{refused-one}
use Rattle.reading.proofs.Answered.{one-image, image-or-refusal}
use Rattle.letters.specs.declared.places.Place.{Place}
use Rattle.fieldlist.specs.Judged.{Judged, wrong}
use Rattle.fieldlist.proofs.Complete.{not_listed}
use Rattle.reader.specs.declared.why.Why.{Why}
use Rattle.reader.specs.Why.{Stops}
use Rattle.reader.proofs.WhyOne.{place-one, flags-one}
use Rattle.wording.specs.Lines.{image_line}
use Rattle.encoder.specs.Encodes.{lent_bytes, lent_words, bad_list_lines, bad_text_lines, Encodes, text-missing, list-missing, text-too-long, list-too-long, an-image, bad-list, bad-text}

-- ---- the lines of a refusal

same_rows : {row why row' why' : ℕ} {j : Judged} → j ≡ wrong row why → j ≡ wrong row' why' → bad_list_lines row why ≡ bad_list_lines row' why'
same_rows {row} {why} {row'} {why'} e f =
    let g : wrong row why ≡ wrong row' why' = sym e ∙ f in
    let r : row ≡ row' = cc in
    let w : why ≡ why' = cc in
    rw (r, w)

enough : (text : List ℕ) → length text ≤ 262144 → Lent lent_bytes lent_words text
enough text h = (omega arith, omega arith)

same_text : (text list : List ℕ) (fields : List Entry) (w v : Why) → length text ≤ 262144 → Listed list fields
    → RefusedText fields text w.why w.line
    → RefusedText fields text v.why v.line
    → Stops fields text w
    → Stops fields text v
    → bad_text_lines text w ≡ bad_text_lines text v
unfolding bad_text_lines
same_text text list fields w v h listed r q a b =
    let n = refused-one {out = lent_bytes} {work = lent_words} (R.bad-text (enough text h) listed r) (R.bad-text (enough text h) listed q) in
    let p = place-one fields text w v a b in
    let x = a.is in
    let y = b.is in
    let k : w.kind ≡ v.kind = x.0 ∙ ap (λ (z : Place). z.kind) p ∙ sym y.0 in
    let f : w.from ≡ v.from = x.1 ∙ ap (λ (z : Place). z.from) p ∙ sym y.1 in
    let t : w.to ≡ v.to = x.2 ∙ ap (λ (z : Place). z.to) p ∙ sym y.2 in
    let c = flags-one fields text w v a b in
    rw (n.0, n.1, k, f, t, c)

-- ---- all of it

-- the list has one reading
refusals-one : (text list : List ℕ) (fields gs : List Entry) (w v : Why) → length text ≤ 262144
    → Listed list fields → RefusedText fields text w.why w.line → Stops fields text w
    → Listed list gs → RefusedText gs text v.why v.line → Stops gs text v
    → bad_text_lines text w ≡ bad_text_lines text v
refusals-one text list fields gs w v h l r a m q b =
    let e = listed-one m l in
    same_text text list fields w v h l r
    (subst (λ fs. RefusedText fs text v.why v.line) e q)
    a
    (subst (λ fs. Stops fs text v) e b)

no-image : (text list : List ℕ) {img : List ℕ} {fields : List Entry} {k l : ℕ} → length text ≤ 262144 → Reads lent_bytes lent_words list text img → Listed list fields
    → RefusedText fields text k l → ⊥
no-image text list h r l q = image-or-refusal r (R.bad-text (enough text h) l q)

module _ {name : List ℕ} where
  pub encodes_one : {text list : Option (List ℕ)} {p q : List ℕ} {i j : Option (List ℕ)} → Encodes name text list p i → Encodes name text list q j → (p ≡ q) × (i ≡ j)
  encodes_one text-missing text-missing = (refl, refl)
  encodes_one list-missing list-missing = (refl, refl)
  encodes_one (text-too-long h) (text-too-long l) = (refl, refl)
  encodes_one (text-too-long h) (list-too-long l m) = absurd (omega arith)
  encodes_one (text-too-long h) (an-image s r) = absurd (omega (arith, s.0))
  encodes_one (text-too-long h) (bad-list s e) = absurd (omega (arith, s.0))
  encodes_one (text-too-long h) (bad-text s l r a) = absurd (omega (arith, s.0))
  encodes_one (list-too-long h g) (text-too-long l) = absurd (omega arith)
  encodes_one (list-too-long h g) (list-too-long l m) = (refl, refl)
  encodes_one (list-too-long h g) (an-image s r) = absurd (omega (arith, s.1))
  encodes_one (list-too-long h g) (bad-list s e) = absurd (omega (arith, s.1))
  encodes_one (list-too-long h g) (bad-text s l r a) = absurd (omega (arith, s.1))
  encodes_one (an-image s r) (text-too-long l) = absurd (omega (arith, s.0))
  encodes_one (an-image s r) (list-too-long l m) = absurd (omega (arith, s.1))
  encodes_one (an-image s r) (an-image t q) = let e = one-image r q in (ap (λ (z : List ℕ). image_line name (length z)) e, ap some e)
  encodes_one (an-image s r) (bad-list {list = list} t e) = absurd (not_listed list e r.fields r.listed)
  encodes_one (an-image {text} {list} s r) (bad-text t l q b) = absurd (no-image text list s.0 r l q)
  encodes_one (bad-list s e) (text-too-long l) = absurd (omega (arith, s.0))
  encodes_one (bad-list s e) (list-too-long l m) = absurd (omega (arith, s.1))
  encodes_one (bad-list {list = list} s e) (an-image t q) = absurd (not_listed list e q.fields q.listed)
  encodes_one (bad-list s e) (bad-list t f) = (same_rows e f, refl)
  encodes_one (bad-list {list = list} s e) (bad-text {fields = fields} t l q b) = absurd (not_listed list e fields l)
  encodes_one (bad-text s l r a) (text-too-long h) = absurd (omega (arith, s.0))
  encodes_one (bad-text s l r a) (list-too-long h m) = absurd (omega (arith, s.1))
  encodes_one (bad-text {text} {list} s l r a) (an-image t q) = absurd (no-image text list s.0 q l r)
  encodes_one (bad-text {fields = fields} s l r a) (bad-list {list = list} t f) = absurd (not_listed list f fields l)
  encodes_one (bad-text {text} {list} {fields} {w} s l r a) (bad-text {fields = gs} {w = v} t m q b) = (refusals-one text list fields gs w v s.0 l r a m q b, refl)
