-- A run of bytes, all at once: those that are stored, and the pen behind them. Assumes nothing.
use Prim.Native.Nat.{ℕ, zero, suc, ◌+◌, ◌-◌, ◌≤◌, ◌<◌}
use Rattle.std.specs.Prelude.{min}
use mathlib.Core.Path.{◌≡◌, refl, sym, ap, ◌∙◌}
use mathlib.Core.List.{List, [], ◌∷◌, ◌++◌}
use native.Mathlib.Omega.{arith}
use native.Mathlib.Numerals.{add-one}
use lib.ListN.{length, get_or, take, set}
use Rattle.std.proofs.lemmas.List.{set_past, length-set, length-take-le}
use lib.Seq.{sets, length-sets, take-suc}
use Rattle.pen.specs.declared.Pen.{Pen}
use Rattle.pen.specs.declared.Place.TheVariants.{At, Over}
use Rattle.pen.specs.Draws.{Keeps, Puts}
use Rattle.pen.proofs.DrawLaws.{sets-append, puts_past}

-- bytes that begin past the end fall away
pub sets-past : (bs d : List ℕ) (at : ℕ) → length d ≤ at → sets d at bs ≡ d
sets-past [] d at h = refl
sets-past (b ∷ bs) d at h =
    let e : set d at b ≡ d = set_past d at b h in
    rw e (sets-past bs d (suc at) (omega arith))

-- and of others those that would stand there
pub sets-front : (bs d : List ℕ) (at n : ℕ) → min (length bs) (length d - at) ≤ n → sets d at (take n bs) ≡ sets d at bs
sets-front [] d at zero h = refl
sets-front [] d at (suc n) h = refl
sets-front (b ∷ bs) d at zero h = sym (sets-past (b ∷ bs) d at (omega arith))
sets-front (b ∷ bs) d at (suc n) h =
    let l : length (set d at b) ≡ length d = length-set d at b in
    sets-front bs (set d at b) (suc at) n (omega arith)

-- those up to the index are stored
pub record Stored (d bs : List ℕ) (at k : ℕ) (o : List ℕ) : Type 0 where
  pub is : o ≡ sets d at (take k bs)

pub stored-none : {d bs : List ℕ} {at : ℕ} → Stored d bs at 0 d
stored-none = record { is = refl }

one-more : (d bs : List ℕ) (at k : ℕ) → k < length bs → set (sets d at (take k bs)) (at + k) (get_or bs k 0) ≡ sets d at (take (k + 1) bs)
one-more d bs at k h =
    let l : length (take k bs) ≡ k = length-take-le k bs (omega arith) in
    let b : List ℕ = get_or bs k 0 ∷ [] in
    let e : take k bs ++ b ≡ take (k + 1) bs = rw (add-one k) (sym (take-suc bs k 0 h)) in
    rw (l, e) at (sets-append (take k bs) b d at)

module _ {d bs : List ℕ} {at k : ℕ} {o : List ℕ} (s : Stored d bs at k o) where
  pub stored-room : {n : ℕ} → n ≡ min (length bs) (length d - at) → k < n → at + k < length o
  stored-room e h = let l : length o ≡ length d = ap length s.is ∙ length-sets d at (take k bs) in omega (arith, e)

  pub stored-more : k < length bs → Stored d bs at (k + 1) (set o (at + k) (get_or bs k 0))
  stored-more h = record { is = ap (λ (x : List ℕ). set x (at + k) (get_or bs k 0)) s.is ∙ one-more d bs at k h }

  pub stored-all : {n : ℕ} → n ≡ min (length bs) (length d - at) → n ≤ k → o ≡ sets d at bs
  stored-all e h = s.is ∙ sets-front bs d at k (omega (arith, e))

pub ruleset storing = (stored-none, stored-room, stored-more, stored-all)

-- ---- the pen behind them

pub run-fits : {bs : List ℕ} {at j room : ℕ} (p r : Pen) → p.place ≡ At at j → room ≡ p.most - at → length bs ≤ room → r.place ≡ At (at + length bs) j
    → r.out.now ≡ sets p.out.now at bs → Keeps p r → Puts bs p r
run-fits p r i e l h s k = record { says = rw (i, h) (s, refl, refl, rw (← e) l); keeps = k }

pub run-over : {bs : List ℕ} {at j room : ℕ} (p r : Pen) → p.place ≡ At at j → room ≡ p.most - at → room < length bs → r.place ≡ Over
    → r.out.now ≡ sets p.out.now at (take room bs) → Keeps p r → Puts bs p r
run-over p r i e l h s k = record { says = rw (i, h, ← e) (s, l); keeps = k }

pub ruleset runs = (puts_past, run-fits, run-over)
