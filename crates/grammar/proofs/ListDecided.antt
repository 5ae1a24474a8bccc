-- A list of fields is right or it isn't, and which of the two is decided: by its rows, their names, their number and their codes. So 21 is given or it isn't, and
-- nothing stands between. Assumes nothing.
use Prim.Native.Nat.{ℕ, zero, suc, ◌<◌}
use mathlib.Core.Path.{◌≡◌, refl, sym, ap, subst, ◌∙◌}
use mathlib.Core.Bool.{Bool, true, false, true≢false}
use mathlib.Core.Option.{Option, none, some}
use mathlib.Core.List.{List, [], ◌∷◌, ◌++◌, map}
use native.Mathlib.Omega.{arith}
use lib.ListN.{length, length-append}
use lib.Dec.{eqb, ltb}
use borrow.Author.Tests.{eqb-true, eq-eqb, ltb-true, ltb-false}
use Rattle.rules.specs.Image.{most_fields}
use Rattle.rules.specs.Published.{Increasing}
use Rattle.grammar.specs.Classes.{lower, line_end, class_of, is_digit, in_word}
use Rattle.grammar.specs.Tokens.{reserved, spelled}
use Rattle.grammar.specs.Places.{every, decimal}
use Rattle.grammar.specs.FieldList.{Entry, entry, word_of, code_of, FieldName, Rows, no_row, a-row, position_of, Different, Listed}
use Rattle.grammar.proofs.Runs.{run, after, run-after, every-run, run_is, after_is, one-run}
use Rattle.grammar.proofs.Numbering.{no-some}
use Rattle.grammar.proofs.Listing.{rows-one, name-in-word, comma-ends, line-ends}

empty : (b : ℕ) (s : List ℕ) → [] ≡ b ∷ s → ⊥
empty b s e = omega (arith, ap length e)

-- ---- a name

name-decided : (w : List ℕ) → Dec (FieldName w)
name-decided [] = no (λ m. empty m.first m.rest m.is)
name-decided (b ∷ w) = go (eqb (class_of b) lower) refl (every in_word w) refl (spelled (b ∷ w) reserved) refl
  where
    parts : FieldName (b ∷ w) → (class_of b ≡ lower) × (every in_word w ≡ true)
    parts m =
        let i : m.first ≡ b = cc m.is in
        let j : m.rest ≡ w = cc m.is in
        (ap class_of (sym i) ∙ m.low, ap (every in_word) (sym j) ∙ m.follow)

    go : (p : Bool) → eqb (class_of b) lower ≡ p → (q : Bool) → every in_word w ≡ q → (o : Option ℕ) → spelled (b ∷ w) reserved ≡ o → Dec (FieldName (b ∷ w))
    go false e q f o g = no (λ m. true≢false (sym (eq-eqb (class_of b) lower (parts m).0) ∙ e))
    go true e false f o g = no (λ m. true≢false (sym (parts m).1 ∙ f))
    go true e true f (some k) g = no (λ m. no-some (sym m.free ∙ g))
    go true e true f none g = yes (record { first = b; rest = w; is = refl; low = eqb-true (class_of b) lower e; follow = f; free = g })

-- ---- rows

record SomeRows (s : List ℕ) : Type 0 where
  entries : List Entry
  rows : Rows s entries

-- what a list with a row in front begins with
record Front (s : List ℕ) : Type 0 where
  word : List ℕ
  first : ℕ
  more : List ℕ
  rest : List ℕ
  is : s ≡ word ++ (44 ∷ ((first ∷ more) ++ (line_end ∷ rest)))
  named : FieldName word
  digits : every is_digit (first ∷ more) ≡ true

front : (b : ℕ) (s : List ℕ) → Dec (Front (b ∷ s))
front b s = comma (run in_word (b ∷ s)) refl (after in_word (b ∷ s)) refl
  where
    -- of any front, the word and what follows it
    word-is : (x : Front (b ∷ s)) → run in_word (b ∷ s) ≡ x.word
    word-is x = ap (run in_word) x.is ∙ run_is in_word x.word _ (name-in-word x.named) (comma-ends _)

    after-word : (x : Front (b ∷ s)) → after in_word (b ∷ s) ≡ 44 ∷ ((x.first ∷ x.more) ++ (line_end ∷ x.rest))
    after-word x = ap (after in_word) x.is ∙ after_is in_word x.word _ (name-in-word x.named) (comma-ends _)

    digits_are : (x : Front (b ∷ s)) (t : List ℕ) → t ≡ (x.first ∷ x.more) ++ (line_end ∷ x.rest) → run is_digit t ≡ x.first ∷ x.more
    digits_are x t e = ap (run is_digit) e ∙ run_is is_digit (x.first ∷ x.more) _ x.digits (line-ends _)

    after-digits : (x : Front (b ∷ s)) (t : List ℕ) → t ≡ (x.first ∷ x.more) ++ (line_end ∷ x.rest) → after is_digit t ≡ line_end ∷ x.rest
    after-digits x t e = ap (after is_digit) e ∙ after_is is_digit (x.first ∷ x.more) _ x.digits (line-ends _)

    line : (w : List ℕ) → run in_word (b ∷ s) ≡ w → (t : List ℕ) → after in_word (b ∷ s) ≡ 44 ∷ t → (ds : List ℕ) → run is_digit t ≡ ds → (r : List ℕ) → after is_digit t ≡ r
        → Dec (Front (b ∷ s))
    line w e t f [] g r h = no (λ x. let i : t ≡ (x.first ∷ x.more) ++ (line_end ∷ x.rest) = cc (f, after-word x) in empty x.first x.more (sym g ∙ digits_are x t i))
    line w e t f (d ∷ ds) g [] h = no (λ x. let i : t ≡ (x.first ∷ x.more) ++ (line_end ∷ x.rest) = cc (f, after-word x) in empty line_end x.rest (sym h ∙ after-digits x t i))
    line w e t f (d ∷ ds) g (c ∷ r) h = ends (eqb c line_end) refl (name-decided w)
      where
        ends : (p : Bool) → eqb c line_end ≡ p → Dec (FieldName w) → Dec (Front (b ∷ s))
        ends false i m =
            no
            (λ x.
            let u : t ≡ (x.first ∷ x.more) ++ (line_end ∷ x.rest) = cc (f, after-word x) in
            let v = after-digits x t u in
            let z : c ≡ line_end = cc (h, v) in
            true≢false (sym (eq-eqb c line_end z) ∙ i))
        ends true i (no never) = no (λ x. never (subst FieldName (sym (word-is x) ∙ e) x.named))
        ends true i (yes m) =
            let z : c ≡ line_end = eqb-true c line_end i in
            let u : b ∷ s ≡ w ++ (44 ∷ t) = sym (run-after in_word (b ∷ s)) ∙ cc (e, f) in
            let v : t ≡ (d ∷ ds) ++ (line_end ∷ r) = sym (run-after is_digit t) ∙ cc (g, h, z) in
            yes
            (record {
              word = w;
              first = d;
              more = ds;
              rest = r;
              is = u ∙ ap (λ q. w ++ (44 ∷ q)) v;
              named = m;
              digits = subst (λ q. every is_digit q ≡ true) g (every-run is_digit t);
            })

    comma : (w : List ℕ) → run in_word (b ∷ s) ≡ w → (t : List ℕ) → after in_word (b ∷ s) ≡ t → Dec (Front (b ∷ s))
    comma w e [] f = no (λ x. empty 44 ((x.first ∷ x.more) ++ (line_end ∷ x.rest)) (sym f ∙ after-word x))
    comma w e (c ∷ t) f = go (eqb c 44) refl
      where
        go : (p : Bool) → eqb c 44 ≡ p → Dec (Front (b ∷ s))
        go false i = no (λ x. let j = after-word x in let z : c ≡ 44 = cc (f, j) in true≢false (sym (eq-eqb c 44 z) ∙ i))
        go true i = let z : c ≡ 44 = eqb-true c 44 i in line w e t (f ∙ ap (λ q. q ∷ t) z) (run is_digit t) refl (after is_digit t) refl

-- a list by its bytes; the number is above their count, so that the recursion ends
rows-decided : (n : ℕ) (s : List ℕ) → length s < n → Dec (SomeRows s)
rows-decided zero s h = absurd (omega arith)
rows-decided (suc n) [] h = yes (record { entries = []; rows = no_row })
rows-decided (suc n) (b ∷ s) h = go (front b s) (λ r i. rows-decided n r i)
  where
    go : Dec (Front (b ∷ s)) → ((r : List ℕ) → length r < n → Dec (SomeRows r)) → Dec (SomeRows (b ∷ s))
    go (no never) on = no (λ x. never (opened x.rows refl))
      where
        opened : {t : List ℕ} {fs : List Entry} → Rows t fs → t ≡ b ∷ s → Front (b ∷ s)
        opened no_row e = absurd (empty b s e)
        opened (a-row {w} {s = r} d ds m hd q) e = record { word = w; first = d; more = ds; rest = r; is = sym e; named = m; digits = hd }
    go (yes x) on =
        let w = x.word in
        let t = (x.first ∷ x.more) ++ (line_end ∷ x.rest) in
        let long = ap length x.is in
        below (on x.rest (omega (arith, h, long, length-append w (44 ∷ t), length-append (x.first ∷ x.more) (line_end ∷ x.rest))))
      where
        below : Dec (SomeRows x.rest) → Dec (SomeRows (b ∷ s))
        below (yes y) =
            yes
            (record {
              entries = entry x.word (decimal (x.first ∷ x.more)) ∷ y.entries;
              rows = subst (λ v. Rows v (entry x.word (decimal (x.first ∷ x.more)) ∷ y.entries)) (sym x.is) (a-row x.first x.more x.named x.digits y.rows);
            })
        below (no never) = no (λ z. never (opened z.rows refl))
          where
            opened : {t : List ℕ} {fs : List Entry} → Rows t fs → t ≡ b ∷ s → SomeRows x.rest
            opened no_row e = absurd (empty b s e)
            opened (a-row {w} {s = r} d ds {fs} m hd q) e =
                let i = one-run in_word (name-in-word m) (comma-ends _) (name-in-word x.named) (comma-ends _) (e ∙ x.is) in
                let j : (d ∷ ds) ++ (line_end ∷ r) ≡ (x.first ∷ x.more) ++ (line_end ∷ x.rest) = cc i.1 in
                let k = one-run is_digit {w = d ∷ ds} {v = x.first ∷ x.more} hd (line-ends r) x.digits (line-ends x.rest) j in
                let f : r ≡ x.rest = cc k.1 in
                record { entries = fs; rows = subst (λ v. Rows v fs) f q }

-- ---- what is asked of the rows

different-decided : (ws : List (List ℕ)) → Dec (Different ws)
different-decided [] = yes tt
different-decided (w ∷ ws) = go (position_of w ws) refl (different-decided ws)
  where
    go : (o : Option ℕ) → position_of w ws ≡ o → Dec (Different ws) → Dec (Different (w ∷ ws))
    go (some k) e d = no (λ x. no-some (sym x.0 ∙ e))
    go none e (no never) = no (λ x. never x.1)
    go none e (yes d) = yes (e, d)

increasing-decided : (before : ℕ) (ks : List ℕ) → Dec (Increasing before ks)
increasing-decided before [] = yes tt
increasing-decided before (k ∷ ks) = go (ltb before k) refl (ltb k 65536) refl (increasing-decided k ks)
  where
    go : (p : Bool) → ltb before k ≡ p → (q : Bool) → ltb k 65536 ≡ q → Dec (Increasing k ks) → Dec (Increasing before (k ∷ ks))
    go false e q f d = no (λ x. let i = ltb-false before k e in omega (arith, i, x.0))
    go true e false f d = no (λ x. let i = ltb-false k 65536 f in omega (arith, i, x.1))
    go true e true f (no never) = no (λ x. never x.2)
    go true e true f (yes d) = yes (ltb-true before k e, ltb-true k 65536 f, d)

-- ---- a list

-- 21 is given, or the list is right
pub data ListAnswer (list : List ℕ) : Type 0 where
  is-listed : {fields : List Entry} → Listed list fields → ListAnswer list
  is-bad : ((fields : List Entry) → Listed list fields → ⊥) → ListAnswer list

pub list-answer : (list : List ℕ) → ListAnswer list
list-answer list = go (rows-decided (suc (length list)) list (omega arith))
  where
    rest : (fs : List Entry) → Rows list fs → (p : Bool) → ltb most_fields (length fs) ≡ p → Dec (Different (map word_of fs)) → Dec (Increasing 0 (map code_of fs))
        → ListAnswer list
    rest fs r true e d i =
        is-bad (λ gs h. let same = rows-one h.rows r in let few = h.few in omega (arith, ltb-true most_fields (length fs) e, few, ap length same))
    rest fs r false e (no never) i = is-bad (λ gs h. never (subst (λ xs. Different (map word_of xs)) (rows-one h.rows r) h.different))
    rest fs r false e (yes d) (no never) = is-bad (λ gs h. never (subst (λ xs. Increasing 0 (map code_of xs)) (rows-one h.rows r) h.increasing))
    rest fs r false e (yes d) (yes i) = is-listed (record { rows = r; few = ltb-false most_fields (length fs) e; different = d; increasing = i })

    go : Dec (SomeRows list) → ListAnswer list
    go (no never) = is-bad (λ fs h. never (record { entries = fs; rows = h.rows }))
    go (yes x) =
        let fs = x.entries in
        rest fs x.rows (ltb most_fields (length fs)) refl (different-decided (map word_of fs)) (increasing-decided 0 (map code_of fs))
