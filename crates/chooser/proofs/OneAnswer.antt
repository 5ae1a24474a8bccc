-- The contract of `answer` decides every byte that is printed, whether a choice file is made, and every byte of it and of what is lent: two results that
-- meet it are equal. Assumes nothing.
use mathlib.Core.Path.{◌≡◌, sym, ◌∙◌}
use mathlib.Core.Option.{Option, none, some}
use mathlib.Core.List.{List}
use Prim.Native.Nat.{ℕ}
use Rattle.std.specs.Prelude.{Option as Answered}
use Rattle.text.specs.declared.Page.{Page}
use Rattle.text.proofs.Determined.{adds-one}
use Rattle.chooser.specs.Makes.{makes}
use Rattle.chooser.specs.Says.{most_printed, FileIs, AnswerSays}

file-one : (o : Option (List ℕ)) (f g : Answered ℕ) (before a b : List ℕ) → FileIs o f before a → FileIs o g before b → (f ≡ g) × (a ≡ b)
file-one none f g before a b h k = (h.0 ∙ sym k.0, h.1 ∙ sym k.1)
file-one (some cs) f g before a b h k = (h.0 ∙ sym k.0, h.1 ∙ sym k.1)

pub answer-one : (script : Option (List ℕ)) (r q : Answered ℕ) (lent a b : List ℕ) (out x y : Page) → AnswerSays script r lent out a x → AnswerSays script q lent out b y
    → (r ≡ q) × (a ≡ b) × ((x.used ≡ y.used) × (x.bytes.now ≡ y.bytes.now))
answer-one script r q lent a b out x y m n =
    let f = file-one (makes script).file r q lent a b m.file n.file in
    (f.0, f.1, adds-one most_printed out x y (makes script).printed m.printed n.printed)
