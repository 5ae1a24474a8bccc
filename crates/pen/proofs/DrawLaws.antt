-- Drawing piece by piece: what is drawn in two goes is drawn in one. Assumes nothing.
use Prim.Native.Nat.{ℕ, zero, suc, ◌+◌, ◌-◌, ◌≤◌, ◌<◌}
use mathlib.Core.Path.{◌≡◌, refl, sym, ap, subst, ◌∙◌}
use mathlib.Core.List.{List, [], ◌∷◌, ◌++◌, append_assoc, append-nil}
use native.Mathlib.Omega.{arith}
use native.Mathlib.Nat.{add-zero, add-suc, suc-add}
use lib.ListN.{length, take, set, length-append}
use lib.Seq.{sets, take-append-le}
use Rattle.grammar.specs.Tokens.{Tok, kind_of}
use Rattle.writing.specs.Spell.{bytes_for}
use Rattle.pen.specs.Behind.{gap_at, behind, last_kind}
use Rattle.pen.specs.Draws.{Drawn, Keeps, Draws, Puts, Gaps, Token, Writes, Turns, kinded}
use Rattle.pen.specs.declared.Place.{Place}
use Rattle.pen.specs.declared.Place.TheVariants.{At, Over}
use Rattle.pen.specs.declared.Pen.{Pen}

pub sets-append : (xs ys d : List ℕ) (i : ℕ) → sets (sets d i xs) (i + length xs) ys ≡ sets d i (xs ++ ys)
sets-append [] ys d i = rw (add-zero i)
sets-append (x ∷ xs) ys d i = rw (add-suc i (length xs), ← suc-add i (length xs)) (sets-append xs ys (set d i x) (suc i))

-- more than a list is that list and some of what follows
take_past : (xs ys : List ℕ) (n : ℕ) → length xs ≤ n → take n (xs ++ ys) ≡ xs ++ take (n - length xs) ys
take_past [] ys n h = let e : n ≡ n - 0 = omega arith in ap (λ (k : ℕ). take k ys) e
take_past (x ∷ xs) ys zero h = absurd (omega arith)
take_past (x ∷ xs) ys (suc n) h =
    let e : suc n - suc (length xs) ≡ n - length xs = omega arith in
    rw e (ap (λ (l : List ℕ). x ∷ l) (take_past xs ys n (omega arith)))

-- ---- of any bytes

pub drawn-then : (most : ℕ) (f g : ℕ → List ℕ) (k l : ℕ → ℕ) (d e o : List ℕ) (p q r : Place) → Drawn most f k d p e q → Drawn most g l e q o r
    → Drawn most (λ j. f j ++ g (k j)) (λ j. l (k j)) d p o r
drawn-then most f g k l d e o (At at j) (At b i) (At c h) v w =
    let n : length (f j ++ g (k j)) ≡ length (f j) + length (g (k j)) = length-append (f j) (g (k j)) in
    let m : length (g i) ≡ length (g (k j)) = ap (λ x. length (g x)) v.2 in (
      w.0 ∙ rw (v.0, v.1, v.2) (sets-append (f j) (g (k j)) d at),
      omega (arith, v.1, w.1),
      w.2 ∙ ap l v.2,
      omega (arith, v.1, v.3, w.3),
    )
drawn-then most f g k l d e o (At at j) (At b i) Over v w =
    let n : length (f j ++ g (k j)) ≡ length (f j) + length (g (k j)) = length-append (f j) (g (k j)) in
    let m : length (g i) ≡ length (g (k j)) = ap (λ x. length (g x)) v.2 in
    let z : most - (at + length (f j)) ≡ most - at - length (f j) = omega arith in (
      w.0
          ∙ rw (v.0, v.1, v.2)
          (sets-append (f j) (take (most - (at + length (f j))) (g (k j))) d at
          ∙ ap (sets d at) (ap (λ x. f j ++ take x (g (k j))) z ∙ sym (take_past (f j) (g (k j)) (most - at) v.3))),
      omega (arith, v.1, v.3, w.1),
    )
drawn-then most f g k l d e o (At at j) Over (At c h) v w = absurd w
drawn-then most f g k l d e o (At at j) Over Over v w =
    let n : length (f j ++ g (k j)) ≡ length (f j) + length (g (k j)) = length-append (f j) (g (k j)) in
    let u = v.1 in (
      w ∙ (v.0 ∙ ap (sets d at) (sym (take-append-le (most - at) (f j) (g (k j)) (omega arith)))),
      omega arith,
    )
drawn-then most f g k l d e o Over (At b i) r v w = absurd v
drawn-then most f g k l d e o Over Over (At c h) v w = absurd w
drawn-then most f g k l d e o Over Over Over v w = w ∙ v

-- the same bytes by another name
pub drawn-as : (most : ℕ) (f g : ℕ → List ℕ) (k l : ℕ → ℕ) (d e : List ℕ) (p r : Place) → ((j : ℕ) → f j ≡ g j) → ((j : ℕ) → k j ≡ l j)
    → Drawn most f k d p e r → Drawn most g l d p e r
drawn-as most f g k l d e (At at j) (At c h) s t w = (rw (← s j) w.0, rw (← s j) w.1, w.2 ∙ t j, rw (← s j) w.3)
drawn-as most f g k l d e (At at j) Over s t w = (rw (← s j) w.0, rw (← s j) w.1)
drawn-as most f g k l d e Over (At c h) s t w = w
drawn-as most f g k l d e Over Over s t w = w

pub drawn-none : (most : ℕ) (d : List ℕ) (p : Place) → Drawn most (λ j. []) (λ j. j) d p d p
drawn-none most d (At at j) = (refl, omega arith, refl, omega arith)
drawn-none most d Over = refl

-- another kind behind it
pub drawn-kinded : (most k : ℕ) (f : ℕ → List ℕ) (l : ℕ → ℕ) (d e : List ℕ) (p r s : Place) → Drawn most f l d p e r → s ≡ kinded k r
    → Drawn most f (λ j. k) d p e s
drawn-kinded most k f l d e (At at j) (At c h) s w i = rw i (w.0, w.1, refl, w.3)
drawn-kinded most k f l d e (At at j) Over s w i = rw i w
drawn-kinded most k f l d e Over (At c h) s w i = absurd w
drawn-kinded most k f l d e Over Over s w i = rw i w

-- one answer
pub drawn-one : (most : ℕ) (f : ℕ → List ℕ) (k : ℕ → ℕ) (d e o : List ℕ) (p r s : Place) → Drawn most f k d p e r → Drawn most f k d p o s → (e ≡ o) × (r ≡ s)
drawn-one most f k d e o (At at j) (At a h) (At b i) v w =
    let x : a ≡ b = v.1 ∙ sym w.1 in
    let y : h ≡ i = v.2 ∙ sym w.2 in
    (v.0 ∙ sym w.0, rw (x, y) refl)
drawn-one most f k d e o (At at j) (At a h) Over v w = absurd (omega (arith, v.3, w.1))
drawn-one most f k d e o (At at j) Over (At b i) v w = absurd (omega (arith, v.1, w.3))
drawn-one most f k d e o (At at j) Over Over v w = (v.0 ∙ sym w.0, refl)
drawn-one most f k d e o Over (At a h) s v w = absurd v
drawn-one most f k d e o Over Over (At b i) v w = absurd w
drawn-one most f k d e o Over Over Over v w = (v ∙ sym w, refl)

-- ---- pens

pub keeps-same : {p : Pen} → Keeps p p
keeps-same = record { same_bytes = refl; same_most = refl }

pub keeps-then : {p q r : Pen} → Keeps p q → Keeps q r → Keeps p r
keeps-then k l = record { same_bytes = l.same_bytes ∙ k.same_bytes; same_most = l.same_most ∙ k.same_most }

draws-then : (f g : ℕ → List ℕ) (k l : ℕ → ℕ) (p q r : Pen) → Keeps p q → Draws f k p q → Draws g l q r → Draws (λ j. f j ++ g (k j)) (λ j. l (k j)) p r
draws-then f g k l p q r h v w =
    drawn-then p.most f g k l p.out.now q.out.now r.out.now p.place q.place r.place v
    (subst (λ m. Drawn m g l q.out.now q.place r.out.now r.place) h.same_most w)

-- ---- bytes

pub puts_none : (p : Pen) → Puts [] p p
puts_none p = record { says = drawn-none p.most p.out.now p.place; keeps = keeps-same }

pub puts-as : {xs ys : List ℕ} {p r : Pen} → Puts xs p r → xs ≡ ys → Puts ys p r
puts-as v i = rw (← i) v

pub puts_then : {xs ys zs : List ℕ} {p q r : Pen} → Puts xs p q → Puts ys q r → xs ++ ys ≡ zs → Puts zs p r
puts_then {xs} {ys} {zs} {p} {q} {r} v w i =
    rw (← i)
    (record { says = draws-then (λ j. xs) (λ j. ys) (λ j. j) (λ j. j) p q r v.keeps v.says w.says; keeps = keeps-then v.keeps w.keeps })

-- a byte, and none for it
pub drawn-byte : (most at j b : ℕ) (d e : List ℕ) → at < most → e ≡ set d at b → Drawn most (λ i. b ∷ []) (λ i. i) d (At at j) e (At (at + 1) j)
drawn-byte most at j b d e l s = (s, omega arith, refl, omega arith)

pub drawn-over : (most at j b : ℕ) (d : List ℕ) → most ≤ at → Drawn most (λ i. b ∷ []) (λ i. i) d (At at j) d Over
drawn-over most at j b d l = let z : most - at ≡ 0 = omega arith in (rw z refl, omega arith)

pub puts_one : {b at j : ℕ} (p r : Pen) → p.place ≡ At at j → at < p.most → r.place ≡ At (at + 1) j → r.out.now ≡ set p.out.now at b → Keeps p r → Puts (b ∷ []) p r
puts_one {b} {at} {j} p r i l h s k = record { says = rw (i, h) (drawn-byte p.most at j b p.out.now r.out.now l s); keeps = k }

pub puts_over : {b at j : ℕ} (p r : Pen) → p.place ≡ At at j → p.most ≤ at → r.place ≡ Over → r.out.now ≡ p.out.now → Keeps p r → Puts (b ∷ []) p r
puts_over {b} {at} {j} p r i l h s k = record { says = rw (i, h, s) (drawn-over p.most at j b p.out.now l); keeps = k }

pub puts_past : {bs : List ℕ} (p : Pen) → p.place ≡ Over → Puts bs p p
puts_past {bs} p i = record { says = rw i refl; keeps = keeps-same }

-- ---- a token

pub token_of : {k : ℕ} {bs : List ℕ} {p q r s : Pen} → Gaps k p q → Puts bs q r → Turns k r s → Token k bs p s
token_of {k} {bs} {p} {q} {r} {s} v w t =
    record {
      says =
          drawn-kinded p.most k (λ j. gap_at j k ++ bs) (λ j. j) p.out.now s.out.now p.place r.place s.place
          (rw t.bytes (draws-then (λ j. gap_at j k) (λ j. bs) (λ j. j) (λ j. j) p q r v.keeps v.says w.says)) t.place;
      keeps = keeps-then v.keeps (keeps-then w.keeps t.keeps);
    }

-- by a letter and what follows it
pub lettered : {k b : ℕ} {bs : List ℕ} {p q r s t : Pen} → Gaps k p q → Puts (b ∷ []) q r → Puts bs r s → Turns k s t → Token k (b ∷ bs) p t
lettered v w x t = token_of v (puts_then w x refl) t

module _ (names fields : List (List ℕ)) where
  pub token-writes : {k : ℕ} {bs : List ℕ} {p r : Pen} (t : Tok) → Token k bs p r → k ≡ kind_of t → bs ≡ bytes_for names fields t
      → Writes names fields (t ∷ []) p r
  unfolding behind last_kind
  token-writes {k} {bs} {p} {r} t v i h =
      record {
        says =
            drawn-as p.most (λ j. gap_at j k ++ bs) (λ j. behind names fields j (t ∷ [])) (λ j. k) (λ j. last_kind j (t ∷ [])) p.out.now r.out.now p.place r.place
            (λ j. rw (i, h) (ap (λ x. gap_at j (kind_of t) ++ x) (sym (append-nil (bytes_for names fields t)))))
            (λ j. i)
            v.says;
        keeps = v.keeps;
      }

  pub writes-none : (p : Pen) → Writes names fields [] p p
  unfolding behind last_kind
  writes-none p = record { says = drawn-none p.most p.out.now p.place; keeps = keeps-same }

  pub writes_as : {ts us : List Tok} {p r : Pen} → Writes names fields ts p r → ts ≡ us → Writes names fields us p r
  writes_as v i = rw (← i) v

-- ---- tokens in a row

module _ (names fields : List (List ℕ)) where
  pub behind-append : (ts us : List Tok) (j : ℕ) → behind names fields j ts ++ behind names fields (last_kind j ts) us ≡ behind names fields j (ts ++ us)
  unfolding behind last_kind
  behind-append [] us j = refl
  behind-append (t ∷ ts) us j =
      append_assoc (gap_at j (kind_of t)) (bytes_for names fields t ++ behind names fields (kind_of t) ts) _
      ∙ ap (λ x. gap_at j (kind_of t) ++ x)
      (append_assoc (bytes_for names fields t) (behind names fields (kind_of t) ts) _ ∙ ap (λ x. bytes_for names fields t ++ x) (behind-append ts us (kind_of t)))

  last-append : (ts us : List Tok) (j : ℕ) → last_kind (last_kind j ts) us ≡ last_kind j (ts ++ us)
  unfolding last_kind
  last-append [] us j = refl
  last-append (t ∷ ts) us j = last-append ts us (kind_of t)

  pub writes_then : {ts us : List Tok} {p q r : Pen} → Writes names fields ts p q → Writes names fields us q r → Writes names fields (ts ++ us) p r
  writes_then {ts} {us} {p} {q} {r} v w =
      record {
        says =
            drawn-as p.most _ (λ j. behind names fields j (ts ++ us)) _ (λ j. last_kind j (ts ++ us)) p.out.now r.out.now p.place r.place
            (behind-append ts us) (last-append ts us)
            (draws-then (λ j. behind names fields j ts) (λ j. behind names fields j us) (λ j. last_kind j ts) (λ j. last_kind j us) p q r v.keeps v.says w.says);
        keeps = keeps-then v.keeps w.keeps;
      }
