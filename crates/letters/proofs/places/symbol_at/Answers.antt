-- `letters::places::symbol_at` meets its contract. Assumes nothing.
use Rattle.letters.proofs.SymbolLaws.{symbol-stands}
use Rattle.std.proofs.Common.{◌∙◌}
use Rattle.letters.proofs.places.symbol_at.Goals as goal

pub returns : goal.returns
returns c = symbol-stands _ _ _ c.requires.0 c.requires.1 _ _ _ c.byte_at-after.ensures (c.from.ensures ∙ c.kind_of_symbol.ensures) c.width_of_symbol.ensures.0
