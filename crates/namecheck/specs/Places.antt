-- A word that is a child has a place in a list of so many. Assumes nothing.
use Rattle.std.specs.Prelude.{ℕ, ◌<◌}
use Rattle.rules.specs.declared.Role.{Role}
use Rattle.rules.specs.declared.Role.TheVariants.{Unused, Index, Half, Uses, Binds, Child}

abbrev pub HasPlace : Role → ℕ → ℕ → Type 0
HasPlace Unused w length = Unit {0}
HasPlace Index w length = Unit {0}
HasPlace Half w length = Unit {0}
HasPlace Uses w length = Unit {0}
HasPlace Binds w length = Unit {0}
HasPlace (Child k) w length = w < length
