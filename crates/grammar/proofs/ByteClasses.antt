-- The classes of all 256 bytes, listed: which bytes are blanks, upper-case and lower-case letters, digits and symbols, and that the other 179 have no class. So a byte more or
-- less in a class is seen here. Assumes nothing.
use Prim.Native.Nat.{ℕ, ◌+◌}
use mathlib.Core.Path.{◌≡◌, refl}
use mathlib.Core.Bool.{cond}
use mathlib.Core.List.{List, [], ◌∷◌}
use lib.ListN.{length}
use lib.Dec.{eqb}
use Rattle.laws.specs.UpTo.{up_to}
use Rattle.grammar.specs.Classes.{no_class, blank, upper, lower, digit, symbol, blanks, symbols, among, class_of}

-- the bytes of a list that have a class
unfoldable pub of_class : ℕ → List ℕ → List ℕ
of_class c [] = []
of_class c (b ∷ bs) = cond (eqb (class_of b) c) (b ∷ of_class c bs) (of_class c bs)

unfoldable pub bytes : List ℕ
bytes = up_to (λ b. b) 256

abbrev pub from : ℕ → ℕ → List ℕ
from b n = up_to (λ i. b + i) n

pub the-blanks : of_class blank bytes ≡ 9 ∷ 10 ∷ 13 ∷ 32 ∷ []
unfolding of_class bytes up_to class_of blanks symbols among
the-blanks = refl

pub upper-case : of_class upper bytes ≡ from 65 26
unfolding of_class bytes up_to class_of blanks symbols among
upper-case = refl

pub lower-case : of_class lower bytes ≡ from 97 26
unfolding of_class bytes up_to class_of blanks symbols among
lower-case = refl

pub the-digits : of_class digit bytes ≡ from 48 10
unfolding of_class bytes up_to class_of blanks symbols among
the-digits = refl

pub the-symbols : of_class symbol bytes ≡ 40 ∷ 41 ∷ 45 ∷ 46 ∷ 58 ∷ 59 ∷ 60 ∷ 61 ∷ 123 ∷ 124 ∷ 125 ∷ []
unfolding of_class bytes up_to class_of blanks symbols among
the-symbols = refl

pub the_others : length (of_class no_class bytes) ≡ 179
unfolding of_class bytes up_to class_of blanks symbols among
the_others = refl
