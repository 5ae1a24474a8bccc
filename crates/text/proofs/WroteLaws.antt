-- Text written piece by piece: `Wrote` of two pieces in a row is `Wrote` of both. And the same of a page.
-- Assumes nothing.
use Prim.Native.Nat.{ℕ, suc, ◌+◌, ◌≤◌}
use mathlib.Core.Path.{◌≡◌, refl, sym, ap, ◌∙◌}
use mathlib.Core.List.{List, [], ◌∷◌, ◌++◌, append_assoc}
use native.Mathlib.Omega.{arith}
use native.Mathlib.Nat.{add-zero, add-suc, suc-add}
use lib.ListN.{length, take, drop, set, length-append}
use lib.Seq.{sets, sets-eq, length-sets, drop-drop}
use borrow.Rule.Slice.PartMut.{put_mid}
use Rattle.text.specs.Text.{decimal, pair, last}
use Rattle.text.specs.declared.Page.{Page}
use Rattle.text.specs.Written.{Wrote, Adds}

pub sets-append : (xs ys d : List ℕ) (i : ℕ) → sets (sets d i xs) (i + length xs) ys ≡ sets d i (xs ++ ys)
sets-append [] ys d i = rw (add-zero i)
sets-append (x ∷ xs) ys d i =
    rw (add-suc i (length xs), ← suc-add i (length xs)) (sets-append xs ys (set d i x) (suc i))

-- one piece after the other
pub both-wrote : (m n at q r : ℕ) (xs ys d e o : List ℕ) → Wrote m d at xs q e → Wrote n e q ys r o → Wrote (m + n) d at (xs ++ ys) r o
both-wrote m n at q r xs ys d e o v w =
    let l : length (xs ++ ys) ≡ length xs + length ys = length-append xs ys in
    record {
      is = w.is ∙ rw (v.is, v.next) (sets-append xs ys d at);
      next = omega (arith, v.next, w.next);
      few = omega (arith, v.few, w.few);
    }

-- the same bytes by another name, and more room
pub wrote_as : (m n at r : ℕ) (xs ys d o : List ℕ) → Wrote m d at xs r o → xs ≡ ys → m ≤ n → Wrote n d at ys r o
wrote_as m n at r xs ys d o w e l =
    record {
      is = w.is ∙ ap (sets d at) e;
      next = w.next ∙ ap (λ (t : List ℕ). at + length t) e;
      few = omega (arith, w.few, ap length e);
    }

-- nothing yet
pub none-wrote : (at : ℕ) (d : List ℕ) → Wrote 0 d at [] at d
none-wrote at d = record { is = refl; next = omega arith; few = omega arith }

-- ---- the same of a page

-- what a slice is where a part of it is copied over
pub copied-in : (at k : ℕ) (d ys s : List ℕ) → ys ≡ s → k ≡ length s → at + length s ≤ length d → put_mid at k d ys ≡ sets d at s
copied-in at k d ys s e l h =
    rw (e, l, drop-drop (length s) at d) (sym (sets-eq s d at h ∙ append_assoc (take at d) s (drop (at + length s) d)))

pub page-adds : (m : ℕ) (p q : Page) (s : List ℕ) → Wrote m p.bytes.now p.used s q.used q.bytes.now → q.bytes.ghost_name ≡ p.bytes.ghost_name → Adds m p s q
page-adds m p q s w e = record { wrote = w; long = ap length w.is ∙ length-sets p.bytes.now p.used s; lent = e }

pub both-adds : (m n : ℕ) (p q r : Page) (xs ys : List ℕ) → Adds m p xs q → Adds n q ys r → Adds (m + n) p (xs ++ ys) r
both-adds m n p q r xs ys v w =
    page-adds (m + n) p r (xs ++ ys)
    (both-wrote m n p.used q.used r.used xs ys p.bytes.now q.bytes.now r.bytes.now v.wrote w.wrote)
    (w.lent ∙ v.lent)

-- the same bytes by another name, and more room
pub adds_as : (m n : ℕ) (p q : Page) (xs ys : List ℕ) → Adds m p xs q → xs ≡ ys → m ≤ n → Adds n p ys q
adds_as m n p q xs ys w e l =
    record { wrote = wrote_as m n p.used q.used xs ys p.bytes.now q.bytes.now w.wrote e l; long = w.long; lent = w.lent }

-- nothing yet
pub none-adds : (p : Page) → Adds 0 p [] p
none-adds p = page-adds 0 p p [] (none-wrote p.used p.bytes.now) refl

-- one more piece of a text that grows
pub more-adds : (m n k : ℕ) (p q r : Page) (xs ys zs : List ℕ) → Adds m p xs q → Adds n q ys r → zs ≡ xs ++ ys → m + n ≤ k → Adds k p zs r
more-adds m n k p q r xs ys zs v w i l = adds_as (m + n) k p r (xs ++ ys) zs (both-adds m n p q r xs ys v w) (sym i) l

pub pair-adds : (n : ℕ) (s : List ℕ) (p q r u : Page) → Adds (length s) p s q → Adds 1 q (32 ∷ []) r → Adds 20 r (decimal n) u
    → Adds (length s + 21) p (pair s n) u
pair-adds n s p q r u v w x =
    both-adds (length s) 21 p q u s (32 ∷ decimal n) v
    (both-adds 1 20 q r u (32 ∷ []) (decimal n) w x)

pub last-adds : (n : ℕ) (s : List ℕ) (p q r : Page) → Adds (length s + 21) p (pair s n) q → Adds 1 q (10 ∷ []) r
    → Adds (length s + 22) p (last s n) r
last-adds n s p q r v w =
    adds_as (length s + 21 + 1) (length s + 22) p r (pair s n ++ (10 ∷ [])) (last s n)
    (both-adds (length s + 21) 1 p q r (pair s n) (10 ∷ []) v w)
    (append_assoc s (32 ∷ decimal n) (10 ∷ []))
    (omega arith)
