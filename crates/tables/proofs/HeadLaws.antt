-- The head of an image, word by word. Assumes nothing.
use Prim.Native.Nat.{ℕ, suc, ◌+◌, ◌*◌, ◌<◌}
use mathlib.Core.Path.{◌≡◌, refl, ap, ◌∙◌}
use mathlib.Core.List.{List, [], ◌∷◌, ◌++◌, flatten, append-nil}
use native.Mathlib.Omega.{arith}
use lib.ListN.{length, get_or, take}
use lib.Seq.{sets, take-suc, length-take-le}
use Rattle.rules.specs.Published.{bytes_of}
use Rattle.rules.proofs.Table.{laid, laid-append}
use Rattle.tables.specs.Tabled.{head_bytes}
use Rattle.tables.proofs.Tabling.{words_long}

-- stores behind stores
sets_more : (xs ys l : List ℕ) (at k : ℕ) → k ≡ at + length xs → sets (sets l at xs) k ys ≡ sets l at (xs ++ ys)
sets_more [] ys l at k e = let z : k ≡ at = omega arith in rw z
sets_more (x ∷ xs) ys l at k e = sets_more xs ys _ (suc at) k (omega arith)

pub contents : (f m n : ℕ) (i j k l p q : List ℕ)
    → j ≡ sets i 0 (bytes_of 10)
    → k ≡ sets j 2 (bytes_of f)
    → l ≡ sets k 4 (bytes_of (10 + 2 * f))
    → p ≡ sets l 6 (bytes_of m)
    → q ≡ sets p 8 (bytes_of n)
    → q ≡ sets i 0 (laid bytes_of (10 ∷ f ∷ (10 + 2 * f) ∷ m ∷ n ∷ []))
unfolding bytes_of flatten
contents f m n i j k l p q a b c d e = rw (e, d, c, b, a)

-- ---- codes

pub code-none : (img codes : List ℕ) → img ≡ sets img 10 (laid bytes_of (take 0 codes))
unfolding flatten
code-none img codes = refl

pub code-more : (img₀ img img' codes : List ℕ) (i w : ℕ) → i < length codes
    → img ≡ sets img₀ 10 (laid bytes_of (take i codes))
    → w ≡ get_or codes i 0
    → img' ≡ sets img (10 + 2 * i) (bytes_of w)
    → img' ≡ sets img₀ 10 (laid bytes_of (take (i + 1) codes))
unfolding flatten
code-more img₀ img img' codes i w h a b c =
    let s : i + 1 ≡ suc i = omega arith in
    let ws = take i codes in
    let n = words_long ws in
    let m = length-take-le i codes (omega arith) in
    let t : laid bytes_of (take (suc i) codes) ≡ laid bytes_of ws ++ bytes_of (get_or codes i 0) =
    ap (laid bytes_of) (take-suc codes i 0 h) ∙ laid-append bytes_of ws (get_or codes i 0 ∷ []) ∙ ap (λ (x : List ℕ). laid bytes_of ws ++ x) (append-nil (bytes_of (get_or codes i 0))) in
    c ∙ rw (a, b, s, t) (sets_more (laid bytes_of ws) (bytes_of (get_or codes i 0)) img₀ 10 (10 + 2 * i) (omega arith))

-- ---- both

pub head-is : (img img' img'' codes : List ℕ) (m n : ℕ)
    → img' ≡ sets img 0 (laid bytes_of (10 ∷ length codes ∷ (10 + 2 * length codes) ∷ m ∷ n ∷ []))
    → img'' ≡ sets img' 10 (laid bytes_of codes)
    → img'' ≡ sets img 0 (head_bytes codes m n)
unfolding head_bytes flatten bytes_of
head-is img img' img'' codes m n a b = rw (b, a)
