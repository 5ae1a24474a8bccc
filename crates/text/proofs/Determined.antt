-- The contracts of the writers decide every answer and every byte: two results that meet the same `Wrote` or the same
-- `Line` are equal, and two pages that meet the same `Adds` have the same bytes and as many of them used. So it is for every function of
-- text, report, show and lister that writes. Assumes nothing.
use Prim.Native.Nat.{ℕ}
use mathlib.Core.Path.{◌≡◌, sym, ap, ◌∙◌}
use mathlib.Core.List.{List, ◌++◌}
use lib.ListN.{drop}
use Rattle.text.specs.declared.Page.{Page}
use Rattle.text.specs.Written.{Wrote, Line, Adds}

pub wrote_one : (most at r q : ℕ) (before text a b : List ℕ) → Wrote most before at text r a → Wrote most before at text q b → (r ≡ q) × (a ≡ b)
wrote_one most at r q before text a b w v = (w.next ∙ sym v.next, w.is ∙ sym v.is)

pub line-one : (most r q : ℕ) (before text a b : List ℕ) → Line most text before r a → Line most text before q b → (r ≡ q) × (a ≡ b)
line-one most r q before text a b w v =
    let e : r ≡ q = w.long ∙ sym v.long in
    (e, w.is ∙ ap (λ (n : ℕ). text ++ drop n before) e ∙ sym v.is)

pub adds-one : (most : ℕ) (old a b : Page) (text : List ℕ) → Adds most old text a → Adds most old text b → (a.used ≡ b.used) × (a.bytes.now ≡ b.bytes.now)
adds-one most old a b text w v = wrote_one most old.used a.used b.used old.bytes.now text a.bytes.now b.bytes.now w.wrote v.wrote
