-- The names in a text by where they begin and end. Assumes nothing.
use Rattle.std.specs.Prelude.{ℕ, ◌<◌, ◌≤◌, List, length, get_or}
use Rattle.std.proofs.Math.Seq.{slice}
use Rattle.laws.specs.UpTo.{up_to}
use Rattle.fieldlist.specs.declared.names.Span.{Span}

abbrev pub nowhere : Span
nowhere = record { from = 0; to = 0 }

abbrev pub word_at : List ℕ → Span → List ℕ
word_at text s = slice s.from s.to text

-- the first n of them
unfoldable pub words : List ℕ → List Span → ℕ → List (List ℕ)
words text names n = up_to (λ i. word_at text (get_or names i nowhere)) n

pub record Spans (text : List ℕ) (names : List Span) (n : ℕ) : Type 0 where
  pub forward : (i : ℕ) → i < n → (get_or names i nowhere).from ≤ (get_or names i nowhere).to
  pub within : (i : ℕ) → i < n → (get_or names i nowhere).to ≤ length text
