-- What a caller in C or Rust is told of an image as text: the writer's answer as numbers. A text has no number, a refusal no length: each is 0 there, which means
-- nothing, and zeros alone are no answer. Assumes nothing.
use Rattle.std.specs.Prelude.{ℕ, ◌≡◌, Result, Ok, Err, List}
use Rattle.writer.specs.declared.WriteError.{WriteError}
use Rattle.writer.specs.Answer.{Answers, number_of}
pub use Rattle.told.specs.declared.Spelt.{Spelt}

unfoldable pub spelt_of : Result ℕ WriteError → Spelt
spelt_of (Ok n) = record { verdict = 1; number = 0; length = n }
spelt_of (Err e) = record { verdict = 2; number = number_of e; length = 0 }

-- the answer and every byte of the output are the writer's
pub record TellsText (img list : List ℕ) (told : Spelt) (lent out : List ℕ) : Type 0 where
  pub answer : Result ℕ WriteError
  pub is : told ≡ spelt_of answer
  pub says : Answers img list lent answer out
