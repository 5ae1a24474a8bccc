-- From pieces at any index to a text from the start of a buffer: what is written from index 0 on, as on a page that was empty, is the first
-- bytes of the buffer. Assumes nothing.
use Prim.Native.Nat.{ℕ, ◌+◌, ◌≤◌}
use mathlib.Core.Path.{◌≡◌, sym, ap, ◌∙◌}
use mathlib.Core.List.{List, ◌++◌}
use native.Mathlib.Omega.{arith}
use lib.ListN.{length, take, drop}
use lib.Seq.{sets, sets-eq, length-sets, take_at}
use Rattle.text.specs.declared.Page.{Page}
use Rattle.text.specs.Written.{Wrote, Line, Adds}

-- what is written from the start of a buffer that has room is a line of it
pub line_of : (m r : ℕ) (text d o : List ℕ) → Wrote m d 0 text r o → m ≤ length d → Line m text d r o
line_of m r text d o w h =
    let n : r ≡ length text = omega (arith, w.next) in
    let i : sets d 0 text ≡ text ++ drop (0 + length text) d = sets-eq text d 0 (omega (arith, w.few)) in
    let z : 0 + length text ≡ r = omega arith in
    let e : o ≡ text ++ drop r d = w.is ∙ i ∙ ap (λ (k : ℕ). text ++ drop k d) z in
    let f : take r o ≡ text = ap (take r) e ∙ take_at text (drop r d) r (sym n) in
    let l : length o ≡ length d = ap length w.is ∙ length-sets d 0 text in
    record { is = e; long = n; few = w.few; front = f; counts = (omega (arith, w.few), n ∙ ap length (sym f)) }

-- the same of a page that was empty
pub line-of-page : (m : ℕ) (p q : Page) (text : List ℕ) → Adds m p text q → p.used ≡ 0 → m ≤ length p.bytes.now → Line m text p.bytes.now q.used q.bytes.now
line-of-page m p q text a e h =
    line_of m q.used text p.bytes.now q.bytes.now (rw e at a.wrote) h
