-- What `image::operands` answers for a tag: that it has no row, or the row. Assumes nothing.
use mathlib.Core.Path.{◌≡◌, sym, ap, ◌∙◌}
use mathlib.Core.Option.{Option as Maybe, none, some}
use Rattle.std.specs.Prelude.{Option, None, Some}
use Rattle.laws.specs.Options.{math_option}
use Rattle.rules.specs.declared.Row.{Row}

pub row-none : (s : Option Row) (o : Maybe Row) → math_option s ≡ o → s ≡ None → o ≡ none
row-none s o e d = sym e ∙ ap math_option d

pub row-some : (s : Option Row) (o : Maybe Row) (r : Row) → math_option s ≡ o → s ≡ Some r → o ≡ some r
row-some s o r e d = sym e ∙ ap math_option d

pub ruleset shapes = (row-none, row-some)
