-- What stands at the front of a text, as a function: a blank, or one piece and the bytes after it. Each constructor of `Spelled` says what `cut` gives, and
-- what `cut` gives is spelled so: the classes of bytes exclude each other, and every byte has one. Assumes nothing.
use Prim.Native.Nat.{ℕ, ◌≤◌}
use mathlib.Core.Path.{◌≡◌, refl, sym, ap, subst, ◌∙◌}
use mathlib.Core.Bool.{Bool, true, false, cond, not, true≢false, false≢true, ◌&&◌, ◌||◌}
use mathlib.Core.Option.{Option, none, some}
use mathlib.Core.List.{List, [], ◌∷◌, ◌++◌}
use native.Mathlib.Omega.{arith}
use lib.ListN.{length}
use lib.Dec.{eqb, leb}
use borrow.Author.Tests.{eqb-true, ne_eqb, not-true}
use Rattle.laws.specs.Bools.{and_both}
use Rattle.grammar.specs.Classes.{no_class, blank, upper, lower, digit, symbol, blanks, symbols, among, class_of, is_letter, is_digit, in_word}
use Rattle.grammar.specs.Tokens.{Spelling, spelling, single, double, same_word, spelled}
use Rattle.grammar.specs.Places.{Piece, digits, marked, bad_byte, Spot, spot, word_piece, decimal, every, begins, present, paired, Spelled, a_word, a-number, a-symbol, a_pair, a-sign, a-minus, a-bad-byte}
use Rattle.grammar.proofs.Runs.{run, after, run-after, every-run, begins-after, after-short, run_is, after_is}

pub data Cut : Type 0 where
  skip : Cut  -- a blank
  take : Piece → List ℕ → Cut  -- a piece, and the bytes after it

-- the kind of the two bytes at the front, if they are one symbol
unfoldable pub pair_of : ℕ → List ℕ → Option ℕ
pair_of b [] = none
pair_of b (c ∷ s) = spelled (b ∷ c ∷ []) double

unfoldable pub after_one : List ℕ → List ℕ
after_one [] = []
after_one (c ∷ s) = s

-- of the two bytes' kind, and of the byte's
unfoldable pub cut_symbol : ℕ → List ℕ → Option ℕ → Option ℕ → Cut
cut_symbol b s (some k) o = take (marked k) (after_one s)
cut_symbol b s none (some k) = take (marked k) s
cut_symbol b s none none = take (bad_byte b) s

unfoldable pub cut : ℕ → List ℕ → Cut
cut b s =
    cond (eqb (class_of b) blank)
    skip
    (cond (is_letter b)
    (take (word_piece b (run in_word s)) (after in_word s))
    (cond (is_digit b)
    (take (digits (decimal (b ∷ run is_digit s))) (after is_digit s))
    (cond (eqb b 45) (take (marked (cond (begins is_digit s) 4 5)) s) (cut_symbol b s (pair_of b s) (spelled (b ∷ []) single)))))

-- ---- the bytes of the tables

unfoldable firsts : (ℕ → Bool) → List Spelling → Bool  -- each spelling begins with such a byte
firsts p [] = true
firsts p (spelling [] k ∷ t) = false
firsts p (spelling (c ∷ v) k ∷ t) = p c && firsts p t

first_of : (p : ℕ → Bool) (t : List Spelling) (b : ℕ) (w : List ℕ) {k : ℕ} → firsts p t ≡ true → spelled (b ∷ w) t ≡ some k → p b ≡ true
unfolding firsts spelled same_word
first_of p [] b w h e = cc
first_of p (spelling [] j ∷ t) b w h e = absurd (false≢true h)
first_of p (spelling (c ∷ v) j ∷ t) b w {k} h e =
    let both = and_both (p c) (firsts p t) h in
    go (eqb b c) refl both.0 (first_of p t b w both.1) e
  where
    go : (q : Bool) → eqb b c ≡ q → p c ≡ true → (spelled (b ∷ w) t ≡ some k → p b ≡ true)
        → cond (q && same_word w v) (some j) (spelled (b ∷ w) t) ≡ some k → p b ≡ true
    go true i now later f = ap p (eqb-true b c i) ∙ now
    go false i now later f = later f

every-among : (p : ℕ → Bool) (cs : List ℕ) (b : ℕ) → every p cs ≡ true → among b cs ≡ true → p b ≡ true
unfolding every among
every-among p [] b h e = absurd (false≢true e)
every-among p (c ∷ cs) b h e =
    let both = and_both (p c) (every p cs) h in
    go (eqb b c) refl both.0 (every-among p cs b both.1) e
  where
    go : (q : Bool) → eqb b c ≡ q → p c ≡ true → (among b cs ≡ true → p b ≡ true) → (q || among b cs) ≡ true → p b ≡ true
    go true i now later f = ap p (eqb-true b c i) ∙ now
    go false i now later f = later f

-- symbols other than the minus
unfoldable plain : ℕ → Bool
plain b = eqb (class_of b) symbol && not (eqb b 45)

single-plain : firsts plain single ≡ true
unfolding firsts plain single class_of blanks symbols among
single-plain = refl

double-plain : firsts plain double ≡ true
unfolding firsts plain double class_of blanks symbols among
double-plain = refl

-- the minus, or a symbol of one byte
unfoldable known : ℕ → Bool
known b = eqb b 45 || present (spelled (b ∷ []) single)

symbols-known : every known symbols ≡ true
unfolding every known symbols spelled single same_word present
symbols-known = refl

-- ---- a byte of one class is of no other

plain-is : (b : ℕ) → plain b ≡ true → (class_of b ≡ symbol) × (eqb b 45 ≡ false)
unfolding plain
plain-is b h =
    let both = and_both (eqb (class_of b) symbol) (not (eqb b 45)) h in
    (eqb-true (class_of b) symbol both.0, not-true (eqb b 45) both.1)

letter-unblank : (c : ℕ) → (eqb c upper || eqb c lower) ≡ true → eqb c blank ≡ false
letter-unblank c h = go (eqb c upper) refl h
  where
    go : (t : Bool) → eqb c upper ≡ t → (t || eqb c lower) ≡ true → eqb c blank ≡ false
    go true i j = rw (eqb-true c upper i) refl
    go false i j = rw (eqb-true c lower j) refl

absent : (t : List Spelling) (b : ℕ) (w : List ℕ) → firsts plain t ≡ true → class_of b ≡ no_class → spelled (b ∷ w) t ≡ none
absent t b w h e = go (spelled (b ∷ w) t) refl
  where
    go : (o : Option ℕ) → spelled (b ∷ w) t ≡ o → o ≡ none
    go none i = refl
    go (some k) i =
        let s : class_of b ≡ symbol = (plain-is b (first_of plain t b w h i)).0 in
        absurd (omega arith)

bad-no-minus : (b : ℕ) → class_of b ≡ no_class → eqb b 45 ≡ false
unfolding class_of blanks symbols among
bad-no-minus b e = ne_eqb b 45 λ i. let f = sym e ∙ ap class_of i in omega (arith, f)

-- ---- what the constructors of `Spelled` say of `cut`

pub cut-blank : (b : ℕ) (s : List ℕ) → class_of b ≡ blank → cut b s ≡ skip
unfolding cut
cut-blank b s h = rw h refl

pub cut_word : (b : ℕ) (w s : List ℕ) → is_letter b ≡ true → every in_word w ≡ true → begins in_word s ≡ false → cut b (w ++ s) ≡ take (word_piece b w) s
unfolding cut
cut_word b w s h hw hs =
    rw (letter-unblank (class_of b) (unfold is_letter in h), h, run_is in_word w s hw hs, after_is in_word w s hw hs) refl

pub cut-number : (b : ℕ) (w s : List ℕ)
    → is_digit b ≡ true → every is_digit w ≡ true → begins is_digit s ≡ false → cut b (w ++ s) ≡ take (digits (decimal (b ∷ w))) s
unfolding cut is_letter is_digit
cut-number b w s h hw hs = rw (eqb-true (class_of b) digit h, run_is is_digit w s hw hs, after_is is_digit w s hw hs) refl

cut-plain : (b : ℕ) (s : List ℕ) → plain b ≡ true → cut b s ≡ cut_symbol b s (pair_of b s) (spelled (b ∷ []) single)
unfolding cut is_letter is_digit
cut-plain b s h = let i = plain-is b h in rw (i.0, i.1) refl

unpaired : (b : ℕ) (s : List ℕ) → begins (paired b) s ≡ false → pair_of b s ≡ none
unfolding pair_of begins paired present
unpaired b [] h = refl
unpaired b (c ∷ s) h = go (spelled (b ∷ c ∷ []) double) h
  where
    go : (o : Option ℕ) → present o ≡ false → o ≡ none
    go none e = refl
    go (some k) e = absurd (true≢false e)

pub cut-symbol : (b : ℕ) {k : ℕ} (s : List ℕ) → spelled (b ∷ []) single ≡ some k → begins (paired b) s ≡ false → cut b s ≡ take (marked k) s
unfolding cut_symbol
cut-symbol b s h hs = cut-plain b s (first_of plain single b [] single-plain h) ∙ rw (unpaired b s hs, h) refl

pub cut-pair : (b c : ℕ) {k : ℕ} (s : List ℕ) → spelled (b ∷ c ∷ []) double ≡ some k → cut b (c ∷ s) ≡ take (marked k) s
unfolding cut_symbol pair_of after_one
cut-pair b c s h = cut-plain b (c ∷ s) (first_of plain double b (c ∷ []) double-plain h) ∙ rw h refl

pub cut-minus : (s : List ℕ) (t : Bool) → begins is_digit s ≡ t → cut 45 s ≡ take (marked (cond t 4 5)) s
unfolding cut class_of is_letter is_digit blanks symbols among
cut-minus s t h = ap (λ q. take (marked (cond q 4 5)) s) h

pub cut-bad : (b : ℕ) (s : List ℕ) → class_of b ≡ no_class → cut b s ≡ take (bad_byte b) s
unfolding cut cut_symbol pair_of is_letter is_digit
cut-bad b s h = rw (h, bad-no-minus b h, no-pair s, absent single b [] single-plain h) refl
  where
    no-pair : (s : List ℕ) → pair_of b s ≡ none
    no-pair [] = refl
    no-pair (c ∷ s) = absent double b (c ∷ []) double-plain h

-- ---- what `cut` gives is spelled so

abbrev pub Leads : ℕ → List ℕ → Cut → Type 0
Leads b s skip = class_of b ≡ blank
Leads b s (take p r) = (length r ≤ length s) × ((l : ℕ) (ps : List Spot) → Spelled r l ps → Spelled (b ∷ s) l (spot l p ∷ ps))

-- a class by its five tests
unclassed : (p q r s t : Bool)
    → let c : ℕ = cond p blank (cond q upper (cond r lower (cond s digit (cond t symbol no_class)))) in
    eqb c blank ≡ false → (eqb c upper || eqb c lower) ≡ false → eqb c digit ≡ false → t ≡ false → c ≡ no_class
unclassed true q r s t hb hl hd ht = absurd (true≢false hb)
unclassed false true r s t hb hl hd ht = absurd (true≢false hl)
unclassed false false true s t hb hl hd ht = absurd (true≢false hl)
unclassed false false false true t hb hl hd ht = absurd (true≢false hd)
unclassed false false false false true hb hl hd ht = absurd (true≢false ht)
unclassed false false false false false hb hl hd ht = refl

no_symbol : (b : ℕ) → eqb b 45 ≡ false → spelled (b ∷ []) single ≡ none → among b symbols ≡ false
unfolding known present
no_symbol b hm hs = go (among b symbols) refl
  where
    go : (t : Bool) → among b symbols ≡ t → t ≡ false
    go true e =
        let i : (eqb b 45 || present (spelled (b ∷ []) single)) ≡ true = every-among known symbols b symbols-known e in
        let j : false ≡ true = rw (hm, hs) at i in
        absurd (false≢true j)
    go false e = refl

no-class : (b : ℕ) → eqb (class_of b) blank ≡ false → is_letter b ≡ false → is_digit b ≡ false → among b symbols ≡ false → class_of b ≡ no_class
unfolding class_of is_letter is_digit
no-class b hb hl hd hs =
    unclassed (among b blanks) (leb 65 b && leb b 90) (leb 97 b && leb b 122) (leb 48 b && leb b 57) (among b symbols) hb hl hd hs

leads-symbol : (b : ℕ) (s : List ℕ) (o q : Option ℕ)
    → eqb (class_of b) blank ≡ false → is_letter b ≡ false → is_digit b ≡ false → eqb b 45 ≡ false
    → pair_of b s ≡ o → spelled (b ∷ []) single ≡ q → Leads b s (cut_symbol b s o q)
unfolding cut_symbol pair_of after_one begins paired present
leads-symbol b [] (some k) q hb hl hd hm ho hq = absurd (false≢true (ap present ho))
leads-symbol b (c ∷ s) (some k) q hb hl hd hm ho hq = (omega arith, λ l ps d. a_pair ho d)
leads-symbol b [] none (some k) hb hl hd hm ho hq = (omega arith, λ l ps d. a-symbol hq refl d)
leads-symbol b (c ∷ s) none (some k) hb hl hd hm ho hq = (omega arith, λ l ps d. a-symbol hq (ap present ho) d)
leads-symbol b [] none none hb hl hd hm ho hq = (omega arith, λ l ps d. a-bad-byte (no-class b hb hl hd (no_symbol b hm hq)) d)
leads-symbol b (c ∷ s) none none hb hl hd hm ho hq = (omega arith, λ l ps d. a-bad-byte (no-class b hb hl hd (no_symbol b hm hq)) d)

leads-minus : (s : List ℕ) (t : Bool) → begins is_digit s ≡ t → Leads 45 s (take (marked (cond t 4 5)) s)
leads-minus s true h = (omega arith, λ l ps d. a-sign h d)
leads-minus s false h = (omega arith, λ l ps d. a-minus h d)

pub leads : (b : ℕ) (s : List ℕ) → Leads b s (cut b s)
unfolding cut
leads b s = go (eqb (class_of b) blank) (is_letter b) (is_digit b) (eqb b 45) refl refl refl refl
  where
    go : (t u v w : Bool) → eqb (class_of b) blank ≡ t → is_letter b ≡ u → is_digit b ≡ v → eqb b 45 ≡ w
        → Leads b s
        (cond t skip (cond u (take (word_piece b (run in_word s)) (after in_word s))
        (cond v (take (digits (decimal (b ∷ run is_digit s))) (after is_digit s))
        (cond w (take (marked (cond (begins is_digit s) 4 5)) s) (cut_symbol b s (pair_of b s) (spelled (b ∷ []) single))))))
    go true u v w ht hu hv hw = eqb-true (class_of b) blank ht
    go false true v w ht hu hv hw = (
      after-short in_word s,
      λ l ps d.
          subst
          (λ z. Spelled (b ∷ z) l (spot l (word_piece b (run in_word s)) ∷ ps))
          (run-after in_word s)
          (a_word (run in_word s) hu (every-run in_word s) (begins-after in_word s) d),
    )
    go false false true w ht hu hv hw = (
      after-short is_digit s,
      λ l ps d.
          subst
          (λ z. Spelled (b ∷ z) l (spot l (digits (decimal (b ∷ run is_digit s))) ∷ ps))
          (run-after is_digit s)
          (a-number (run is_digit s) hv (every-run is_digit s) (begins-after is_digit s) d),
    )
    go false false false true ht hu hv hw =
        subst (λ c. Leads c s (take (marked (cond (begins is_digit s) 4 5)) s)) (sym (eqb-true b 45 hw)) (leads-minus s (begins is_digit s) refl)
    go false false false false ht hu hv hw = leads-symbol b s (pair_of b s) (spelled (b ∷ []) single) ht hu hv hw refl refl
