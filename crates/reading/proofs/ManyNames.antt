-- Names at their limit, computed from the bytes: a text with 128 names is read, and one with 129 is refused with 26 at the last of them, on its own line. Assumes nothing.
use Prim.Native.String.{String}
use mathlib.Core.Path.{refl}
use mathlib.Core.List.{List}
use native.Mathlib.Omega.{arith}
use Rattle.rules.specs.declared.Node.{Node}
use Rattle.grammar.proofs.Cases.{Accepts, Refused}
use Rattle.reading.proofs.Worked.{steps, accepted, full}

-- var A0; to var A127; and skip
abbrev pub names128 : String
names128 = "var A0;\nvar A1;\nvar A2;\nvar A3;\nvar A4;\nvar A5;\nvar A6;\nvar A7;\nvar A8;\nvar A9;\nvar A10;\nvar A11;\nvar A12;\nvar A13;\nvar A14;\nvar A15;\nvar A16;\nvar A17;\nvar A18;\nvar A19;\nvar A20;\nvar A21;\nvar A22;\nvar A23;\nvar A24;\nvar A25;\nvar A26;\nvar A27;\nvar A28;\nvar A29;\nvar A30;\nvar A31;\nvar A32;\nvar A33;\nvar A34;\nvar A35;\nvar A36;\nvar A37;\nvar A38;\nvar A39;\nvar A40;\nvar A41;\nvar A42;\nvar A43;\nvar A44;\nvar A45;\nvar A46;\nvar A47;\nvar A48;\nvar A49;\nvar A50;\nvar A51;\nvar A52;\nvar A53;\nvar A54;\nvar A55;\nvar A56;\nvar A57;\nvar A58;\nvar A59;\nvar A60;\nvar A61;\nvar A62;\nvar A63;\nvar A64;\nvar A65;\nvar A66;\nvar A67;\nvar A68;\nvar A69;\nvar A70;\nvar A71;\nvar A72;\nvar A73;\nvar A74;\nvar A75;\nvar A76;\nvar A77;\nvar A78;\nvar A79;\nvar A80;\nvar A81;\nvar A82;\nvar A83;\nvar A84;\nvar A85;\nvar A86;\nvar A87;\nvar A88;\nvar A89;\nvar A90;\nvar A91;\nvar A92;\nvar A93;\nvar A94;\nvar A95;\nvar A96;\nvar A97;\nvar A98;\nvar A99;\nvar A100;\nvar A101;\nvar A102;\nvar A103;\nvar A104;\nvar A105;\nvar A106;\nvar A107;\nvar A108;\nvar A109;\nvar A110;\nvar A111;\nvar A112;\nvar A113;\nvar A114;\nvar A115;\nvar A116;\nvar A117;\nvar A118;\nvar A119;\nvar A120;\nvar A121;\nvar A122;\nvar A123;\nvar A124;\nvar A125;\nvar A126;\nvar A127;\nskip"

-- and one more
abbrev pub names129 : String
names129 = "var A0;\nvar A1;\nvar A2;\nvar A3;\nvar A4;\nvar A5;\nvar A6;\nvar A7;\nvar A8;\nvar A9;\nvar A10;\nvar A11;\nvar A12;\nvar A13;\nvar A14;\nvar A15;\nvar A16;\nvar A17;\nvar A18;\nvar A19;\nvar A20;\nvar A21;\nvar A22;\nvar A23;\nvar A24;\nvar A25;\nvar A26;\nvar A27;\nvar A28;\nvar A29;\nvar A30;\nvar A31;\nvar A32;\nvar A33;\nvar A34;\nvar A35;\nvar A36;\nvar A37;\nvar A38;\nvar A39;\nvar A40;\nvar A41;\nvar A42;\nvar A43;\nvar A44;\nvar A45;\nvar A46;\nvar A47;\nvar A48;\nvar A49;\nvar A50;\nvar A51;\nvar A52;\nvar A53;\nvar A54;\nvar A55;\nvar A56;\nvar A57;\nvar A58;\nvar A59;\nvar A60;\nvar A61;\nvar A62;\nvar A63;\nvar A64;\nvar A65;\nvar A66;\nvar A67;\nvar A68;\nvar A69;\nvar A70;\nvar A71;\nvar A72;\nvar A73;\nvar A74;\nvar A75;\nvar A76;\nvar A77;\nvar A78;\nvar A79;\nvar A80;\nvar A81;\nvar A82;\nvar A83;\nvar A84;\nvar A85;\nvar A86;\nvar A87;\nvar A88;\nvar A89;\nvar A90;\nvar A91;\nvar A92;\nvar A93;\nvar A94;\nvar A95;\nvar A96;\nvar A97;\nvar A98;\nvar A99;\nvar A100;\nvar A101;\nvar A102;\nvar A103;\nvar A104;\nvar A105;\nvar A106;\nvar A107;\nvar A108;\nvar A109;\nvar A110;\nvar A111;\nvar A112;\nvar A113;\nvar A114;\nvar A115;\nvar A116;\nvar A117;\nvar A118;\nvar A119;\nvar A120;\nvar A121;\nvar A122;\nvar A123;\nvar A124;\nvar A125;\nvar A126;\nvar A127;\nvar A128;\nskip"

pub all-names : (nodes : List Node) × Accepts names128 128 nodes
unfolding steps
all-names = (_, accepted names128 _ _ refl (omega arith) refl refl (omega arith))

pub one-name-more : Refused names129 26 129
unfolding steps
one-name-more = full names129 385 (record { tokens = refl; few = omega arith; marks = refl; fed = refl }) refl refl refl refl
