-- What stands in the table of classes at a byte is the byte's class: one test that is computed over its 256 entries. Assumes nothing.
use Rattle.std.specs.Prelude.{ℕ, zero, suc, ◌≡◌, ◌<◌, List, refl}
use Rattle.std.proofs.Common.{arith, ap, ◌∙◌, get_or}
use Rattle.laws.specs.UpTo.{up_to}
use Rattle.grammar.specs.Classes.{class_of, blanks, symbols, among}
use Rattle.letters.specs.Table.{classes}
use Rattle.letters.specs.declared.classes.TheConstants.{CLASSES}

up_to-get : (f : ℕ → ℕ) (n k : ℕ) → k < n → get_or (up_to f n) k 0 ≡ f k
unfolding up_to
up_to-get f zero k h = absurd (omega arith)
up_to-get f (suc n) zero h = refl
up_to-get f (suc n) (suc k) h = up_to-get (λ j. f (suc j)) n k (omega arith)

is_table : CLASSES ≡ classes
unfolding classes up_to class_of among blanks symbols
is_table = refl

pub class-at : (b : ℕ) → b < 256 → get_or CLASSES b 0 ≡ class_of b
unfolding classes
class-at b h = ap (λ (l : List ℕ). get_or l b 0) is_table ∙ up_to-get class_of 256 b h
