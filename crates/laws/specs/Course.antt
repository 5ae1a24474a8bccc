-- Recursion on numbers that fall, with no fuel: what is at n is made from what is at the numbers below n.
-- `tab f d n` has the answers below n, and the nothing d everywhere else; `cov f d n` is the answer at n.
-- `below` is the equation that a reader expects. Assumes nothing.
use Rattle.std.specs.Prelude.{ℕ, zero, suc, ◌<◌, ◌≡◌, cond, eqb}
use Rattle.std.proofs.Common.{sym, ap, ⊎_elim, arith, eq-or-lt_of_le, eq-eqb, ne_eqb}

unfoldable pub tab : {X : Type 0} → ((ℕ → X) → ℕ → X) → X → ℕ → ℕ → X
tab f d zero m = d
tab f d (suc k) m = cond (eqb m k) (f (tab f d k) k) (tab f d k m)

unfoldable pub cov : {X : Type 0} → ((ℕ → X) → ℕ → X) → X → ℕ → X
cov f d n = f (tab f d n) n

pub below : {X : Type 0} (f : (ℕ → X) → ℕ → X) (d : X) (n m : ℕ) → m < n → tab f d n m ≡ cov f d m
unfolding tab cov
below f d zero m h = absurd (omega arith)
below f d (suc k) m h =
    ⊎_elim
    (λ e. rw (eq-eqb m k e) (ap (λ j. f (tab f d j) j) (sym e)))
    (λ l. rw (ne_eqb m k (λ e. omega arith)) (below f d k m l))
    (eq-or-lt_of_le {n = m} {m = k} (omega arith))
