-- Rules 6 and 7 at one node, by the row of its tag: do all its words fit? Assumes nothing.
use Rattle.std.specs.Prelude.{ℕ, Bool, false, ◌&&◌, List}
use Rattle.std.proofs.Math.Option.{Option, none, some}
use Rattle.rules.specs.declared.Node.{Node}
use Rattle.rules.specs.declared.Row.{Row}
use Rattle.checklaws.specs.Pieces.{fits_word}

-- a number without a row is no tag, and no words fit it
unfoldable pub row_fits : List ℕ → ℕ → Option Row → Node → Bool
row_fits img n none x = false
row_fits img n (some r) x = fits_word img n r.a x.a && fits_word img n r.b x.b && fits_word img n r.c x.c
