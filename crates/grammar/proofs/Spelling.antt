-- Every text has just one list of places. `places` gives it: what `cut` gives at the front, then the places of the rest; the number is a bound of the text's
-- length, so that the recursion ends. Assumes nothing.
use Prim.Native.Nat.{ℕ, zero, suc, ◌≤◌}
use mathlib.Core.Path.{◌≡◌, refl, sym, ap, subst, ◌∙◌}
use mathlib.Core.Bool.{true, false}
use mathlib.Core.List.{List, [], ◌∷◌, ◌++◌}
use native.Mathlib.Omega.{arith}
use lib.ListN.{length, length-append}
use Rattle.grammar.specs.Places.{Piece, Spot, spot, line_after, Spelled, ends, a-blank, a_word, a-number, a-symbol, a_pair, a-sign, a-minus, a-bad-byte}
use Rattle.grammar.proofs.Cuts.{Cut, skip, take, cut, cut-blank, cut_word, cut-number, cut-symbol, cut-pair, cut-minus, cut-bad, Leads, leads}

-- what follows a cut, by the places of what is left
unfoldable pub onward : (List ℕ → ℕ → List Spot) → ℕ → List ℕ → ℕ → Cut → List Spot
onward f b s l skip = f s (line_after b l)
onward f b s l (take p r) = spot l p ∷ f r l

unfoldable pub places : ℕ → List ℕ → ℕ → List Spot
places zero s l = []
places (suc n) [] l = []
places (suc n) (b ∷ s) l = onward (places n) b s l (cut b s)

-- ---- there is one

pub places-spelled : (n : ℕ) (s : List ℕ) (l : ℕ) → length s ≤ n → Spelled s l (places n s l)
unfolding places onward
places-spelled zero [] l h = ends
places-spelled zero (b ∷ s) l h = absurd (omega arith)
places-spelled (suc n) [] l h = ends
places-spelled (suc n) (b ∷ s) l h = go (cut b s) (leads b s) (λ r m i. places-spelled n r m i)
  where
    go : (c : Cut) → Leads b s c → ((r : List ℕ) (m : ℕ) → length r ≤ n → Spelled r m (places n r m)) → Spelled (b ∷ s) l (onward (places n) b s l c)
    go skip e f = a-blank e (f s (line_after b l) (omega arith))
    go (take p r) e f = e.1 l (places n r l) (f r l (let i = e.0 in omega arith))

pub spelled-some : (s : List ℕ) (l : ℕ) → (ps : List Spot) × Spelled s l ps
spelled-some s l = (places (length s) s l, places-spelled (length s) s l (omega arith))

-- ---- there is no other

-- one turn of `places`, of any bound that is large enough: past a blank, past a piece
past-blank : (n b : ℕ) (s : List ℕ) (l : ℕ) {ps : List Spot}
    → cut b s ≡ skip → suc (length s) ≤ n → ((m : ℕ) → length s ≤ m → places m s (line_after b l) ≡ ps) → places n (b ∷ s) l ≡ ps
unfolding places onward
past-blank zero b s l e h f = absurd (omega arith)
past-blank (suc m) b s l e h f = rw e (f m (omega arith))

past-piece : (n b : ℕ) (s : List ℕ) (l : ℕ) {p : Piece} (r : List ℕ) {ps : List Spot}
    → cut b s ≡ take p r → suc (length s) ≤ n → length r ≤ length s → ((m : ℕ) → length r ≤ m → places m r l ≡ ps) → places n (b ∷ s) l ≡ spot l p ∷ ps
unfolding places onward
past-piece zero b s l r e h i f = absurd (omega arith)
past-piece (suc m) b s l {p} r e h i f = rw e (ap (spot l p ∷◌) (f m (omega arith)))

places-end : (n l : ℕ) → places n [] l ≡ []
unfolding places
places-end zero l = refl
places-end (suc n) l = refl

pub spelled-places : {s : List ℕ} {l : ℕ} {ps : List Spot} → Spelled s l ps → (n : ℕ) → length s ≤ n → places n s l ≡ ps
spelled-places (ends {l}) n h = places-end n l
spelled-places (a-blank {b} {l} {s} e d) n h = past-blank n b s l (cut-blank b s e) h (λ m i. spelled-places d m i)
spelled-places (a_word {b} {l} w {s} hb hw hs d) n h =
    past-piece n b (w ++ s) l s (cut_word b w s hb hw hs) h (omega (arith, length-append w s)) (λ m i. spelled-places d m i)
spelled-places (a-number {b} {l} w {s} hb hw hs d) n h =
    past-piece n b (w ++ s) l s (cut-number b w s hb hw hs) h (omega (arith, length-append w s)) (λ m i. spelled-places d m i)
spelled-places (a-symbol {b} {l} {k} {s} hb hs d) n h = past-piece n b s l s (cut-symbol b s hb hs) h (omega arith) (λ m i. spelled-places d m i)
spelled-places (a_pair {b} {c} {l} {k} {s} hb d) n h = past-piece n b (c ∷ s) l s (cut-pair b c s hb) h (omega arith) (λ m i. spelled-places d m i)
spelled-places (a-sign {l} {s} hs d) n h = past-piece n 45 s l s (cut-minus s true hs) h (omega arith) (λ m i. spelled-places d m i)
spelled-places (a-minus {l} {s} hs d) n h = past-piece n 45 s l s (cut-minus s false hs) h (omega arith) (λ m i. spelled-places d m i)
spelled-places (a-bad-byte {b} {l} {s} e d) n h = past-piece n b s l s (cut-bad b s e) h (omega arith) (λ m i. spelled-places d m i)

pub spelled-one : {s : List ℕ} {l : ℕ} {ps qs : List Spot} → Spelled s l ps → Spelled s l qs → ps ≡ qs
spelled-one {s} d e = sym (spelled-places d (length s) (omega arith)) ∙ spelled-places e (length s) (omega arith)

-- ---- a text taken apart by what stands at its front

pub spelled-skip : (b : ℕ) {s : List ℕ} {l : ℕ} {qs : List Spot} → cut b s ≡ skip → Spelled (b ∷ s) l qs → Spelled s (line_after b l) qs
spelled-skip b {s} {l} e d =
    let i = spelled-some s (line_after b l) in
    subst (Spelled s (line_after b l)) (spelled-one (a-blank (subst (Leads b s) e (leads b s)) i.1) d) i.1

pub spelled-take : (b : ℕ) {s r : List ℕ} {p : Piece} {l : ℕ} {qs : List Spot}
    → cut b s ≡ take p r → Spelled (b ∷ s) l qs → (ps : List Spot) × (qs ≡ spot l p ∷ ps) × Spelled r l ps
spelled-take b {s} {r} {p} {l} e d =
    let i = spelled-some r l in
    let j = subst (Leads b s) e (leads b s) in
    (i.0, spelled-one d (j.1 l i.0 i.1), i.1)
