-- What is told of where a reading ended determines it: two answers that meet the contract of `why_refused` are one, in every word. Assumes nothing.
use Prim.Native.Nat.{ℕ, zero, suc, ◌<◌}
use mathlib.Core.Path.{◌≡◌, refl, sym, ap, subst, subst₂, ◌∙◌}
use mathlib.Core.Bool.{Bool, true, false}
use mathlib.Core.List.{List, [], ◌∷◌, ◌++◌}
use native.Mathlib.Omega.{arith}
use lib.ListN.{length, get_or, length-append}
use lib.Seq.{ext_get_or}
use Rattle.grammar.specs.Tokens.{Tok}
use Rattle.grammar.specs.Places.{Spot, spot}
use Rattle.grammar.specs.FieldList.{Entry, Listed}
use Rattle.grammar.specs.Grammar.{Text}
use Rattle.grammar.specs.Reads.{Right, Valued, GoesOn, Lent, most_bytes, words_for, bad-text}
use Rattle.grammar.proofs.Spelling.{spelled-one}
use Rattle.grammar.proofs.Splits.{Apart, earlier, same, later, apart}
use Rattle.grammar.proofs.Numbering.{valued_one}
use Rattle.grammar.proofs.Answers.{right-or-wrong, refused-one}
use Rattle.reading.proofs.Answered.{image-or-refusal}
use Rattle.letters.specs.declared.places.Place.{Place}
use Rattle.letters.specs.Says.{NextSays}
use Rattle.letters.proofs.Determined.{next_one}
use Rattle.fieldlist.specs.declared.FieldRows.{FieldRows}
use Rattle.fieldlist.specs.Answer.{entries_of, RightRows}
use Rattle.reader.specs.declared.why.Why.{Why}
use Rattle.letters.specs.Upto.{piece_at, Upto, none_yet, one_more}
use Rattle.reader.specs.Why.{Answers, There, Tells, Could, Stops, WhySays}

-- ---- the byte behind the same places

snoc-one : (xs ys : List Spot) (x y : Spot) → xs ++ (x ∷ []) ≡ ys ++ (y ∷ []) → xs ≡ ys
snoc-one xs ys x y e = go (apart xs ys x y [] [] e)
  where
    long : length xs ≡ length ys
    long = omega (arith, ap length e, length-append xs (x ∷ []), length-append ys (y ∷ []))

    go : Apart xs x ys y → xs ≡ ys
    go (earlier zs f) = absurd (omega (arith, long, ap length f, length-append xs (x ∷ zs)))
    go (same f g) = f
    go (later zs f) = absurd (omega (arith, long, ap length f, length-append ys (y ∷ zs)))

upto-one : {text : List ℕ} {at line at' line' : ℕ} {before before' : List Spot}
    → Upto text at line before → Upto text at' line' before' → before ≡ before' → (at ≡ at') × (line ≡ line')
upto-one none_yet none_yet e = (refl, refl)
upto-one {text} none_yet (one_more {before = b} {p = p} u n k) e =
    absurd (omega (arith, ap length e, length-append b (spot p.line (piece_at text p) ∷ [])))
upto-one {text} (one_more {before = b} {p = p} u n k) none_yet e =
    absurd (omega (arith, ap length e, length-append b (spot p.line (piece_at text p) ∷ [])))
upto-one {text} (one_more {before = b} {p = p} u n k) (one_more {at = at'} {line = line'} {before = b'} {p = p'} u' n' k') e =
    let i = upto-one u u' (snoc-one b b' _ _ e) in
    let q : p ≡ p' = next_one text at' line' p p' (subst₂ (λ (a l : ℕ). NextSays text a l p) i.0 i.1 n) n' in
    (ap (λ (r : Place). r.to) q, ap (λ (r : Place). r.line) q)

-- ---- what could stand there

flag_one : (A : Type 0) (b c : Bool) → Tells b A → Tells c A → b ≡ c
flag_one A true true x y = refl
flag_one A true false x y = absurd (y x)
flag_one A false true x y = absurd (x y)
flag_one A false false x y = refl

could-one : (us : List Tok) (xs ys : List Bool) → Could us xs → Could us ys → xs ≡ ys
could-one us xs ys a b = ext_get_or false xs ys (a.long ∙ sym b.long) (λ i h. at i h)
  where
    at : (i : ℕ) → i < length xs → get_or xs i false ≡ get_or ys i false
    at zero h = flag_one (Text us) (get_or xs 0 false) (get_or ys 0 false) a.ends b.ends
    at (suc i) h =
        let p : 0 < suc i = omega arith in
        let q : suc i < 29 = omega (arith, a.long) in
        flag_one (GoesOn us (suc i)) (get_or xs (suc i) false) (get_or ys (suc i) false) (a.goes_on (suc i) p q) (b.goes_on (suc i) p q)

-- ---- the number and the line

module _ (list text : List ℕ) (fields : List Entry) (listed : Listed list fields) where
  lent : Lent most_bytes (words_for (length text)) text
  lent = (omega arith, omega arith)

  answers_one : (k j l m : ℕ) → Answers k fields text l → Answers j fields text m → (k ≡ j) × (l ≡ m)
  answers_one zero zero l m a b = (refl, a.last ∙ sym b.last)
  answers_one zero (suc j) l m a b = absurd (image-or-refusal (record { lent = lent; fields = fields; listed = listed; read = a.read }) (bad-text lent listed b))
  answers_one (suc k) zero l m a b = absurd (image-or-refusal (record { lent = lent; fields = fields; listed = listed; read = b.read }) (bad-text lent listed a))
  answers_one (suc k) (suc j) l m a b = refused-one (bad-text lent listed a) (bad-text lent listed b)

-- ---- the place

module _ (fields : List Entry) (text : List ℕ) where
  module _
      (before before' : List Spot) (us us' : List Tok) (p p' : Place) (why why' line line' : ℕ) (r : Right fields before us) (r' : Right fields before' us')
    where
      there-one : (k j : ℕ) → There k fields text before us p why line → There j fields text before' us' p' why' line' → before ≡ before'
      there-one zero zero t t' = spelled-one t.0 t'.0
      there-one zero (suc j) t t' =
          absurd (right-or-wrong before' line' t'.after r' t'.wrong (subst (λ z. Right fields z us) (spelled-one t.0 t'.spelled) r))
      there-one (suc k) zero t t' =
          absurd (right-or-wrong before line t.after r t.wrong (subst (λ z. Right fields z us') (spelled-one t'.0 t.spelled) r'))
      there-one (suc k) (suc j) t t' = go (apart before before' _ _ t.after t'.after (spelled-one t.spelled t'.spelled))
        where
          go : Apart before (spot line (piece_at text p)) before' (spot line' (piece_at text p')) → before ≡ before'
          go (earlier zs f) = absurd (right-or-wrong before line zs r t.wrong (subst (λ z. Right fields z us') f r'))
          go (same f g) = f
          go (later zs f) = absurd (right-or-wrong before' line' zs r' t'.wrong (subst (λ z. Right fields z us) f r))

  module _ (r q : Why) (a : Stops fields text r) (b : Stops fields text q) where
    before-one : a.before ≡ b.before
    before-one =
        there-one a.before b.before a.tokens b.tokens a.place b.place r.why q.why r.line q.line a.right b.right
        a.place.kind b.place.kind a.there b.there

    tokens-one : a.tokens ≡ b.tokens
    tokens-one = valued_one (subst (λ z. Valued fields z a.tokens) before-one a.right.valued) b.right.valued

    pub place-one : a.place ≡ b.place
    place-one =
        let i = upto-one a.upto b.upto before-one in
        next_one text b.at b.line a.place b.place (subst₂ (λ (x l : ℕ). NextSays text x l a.place) i.0 i.1 a.next) b.next

    pub flags-one : r.could ≡ q.could
    flags-one = could-one b.tokens r.could q.could (subst (λ us. Could us r.could) tokens-one a.could) b.could

-- ---- all of it

same-why : (r q : Why) → r.why ≡ q.why → r.line ≡ q.line → r.kind ≡ q.kind → r.from ≡ q.from → r.to ≡ q.to → r.could ≡ q.could → r ≡ q
same-why r q a b c d e f = λ i. record { why = a i; line = b i; kind = c i; from = d i; to = e i; could = f i }

pub why-one : (list text : List ℕ) (rows : FieldRows) (r q : Why) (ws ws₁ ws₂ : List ℕ)
    → RightRows list rows → WhySays list text rows r ws ws₁ → WhySays list text rows q ws ws₂ → (r ≡ q) × (ws₁ ≡ ws₂)
why-one list text rows r q ws ws₁ ws₂ right a b =
    let n = answers_one list text (entries_of list rows) right.listed r.why q.why r.line q.line a.answers b.answers in
    let p = place-one (entries_of list rows) text r q a.stops b.stops in
    let x = a.stops.is in
    let y = b.stops.is in (
      same-why r q n.0 n.1
          (x.0 ∙ ap (λ (z : Place). z.kind) p ∙ sym y.0)
          (x.1 ∙ ap (λ (z : Place). z.from) p ∙ sym y.1)
          (x.2 ∙ ap (λ (z : Place). z.to) p ∙ sym y.2)
          (flags-one (entries_of list rows) text r q a.stops b.stops),
      a.words ∙ sym b.words,
    )
