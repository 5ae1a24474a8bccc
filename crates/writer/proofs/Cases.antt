-- Worked images: document 01's example; and one with a field, a sign behind a comparison and a name that isn't declared, which is written all the same.
-- Assumes nothing.
use Prim.Native.Nat.{ℕ}
use mathlib.Core.Path.{◌≡◌, refl}
use mathlib.Core.List.{List, [], ◌∷◌}
use Rattle.laws.specs.UpTo.{up_to}
use Rattle.rules.specs.Image.{fields_of}
use Rattle.rules.specs.State.{size}
use Rattle.rules.specs.Refusals.{check}
use Rattle.rules.specs.declared.Verdict.TheVariants.{Accepted, Refused}
use Rattle.rules.proofs.Opens.{opens}
use Rattle.grammar.specs.Classes.{among}
use Rattle.grammar.specs.Tokens.{kind_of, reserved, single, double}
use Rattle.writing.specs.WriteTokens.{top_of, is_difference, is_selection, is_bare, not_dotted, end_of, grouped, opens_left, opens_dot, sign_first, signed, write_int, ended_by, write_exp, write_cmd}
use Rattle.writing.specs.Spell.{last_digit, decimal_before, decimal_of, marks, spelled_as, bytes_for, opening, closing, called, tight, gap, spell, made_up, made_up_field}
use Rattle.writer.specs.Answer.{every_name, verdict, text_of}

-- names every definition that a text computes by, once
unfoldable spells : Unit {0}
unfolding opens up_to top_of is_difference is_selection is_bare not_dotted end_of grouped opens_left opens_dot sign_first signed write_int ended_by write_exp write_cmd kind_of among reserved single double last_digit decimal_before decimal_of marks spelled_as bytes_for opening closing called tight gap spell made_up made_up_field every_name text_of
spells = tt

-- var x; x = 1
unfoldable pub example : List ℕ
example = 10 ∷ 0 ∷ 0 ∷ 0 ∷ 10 ∷ 0 ∷ 3 ∷ 0 ∷ 1 ∷ 0 ∷ 2 ∷ 0 ∷ 1 ∷ 0 ∷ 0 ∷ 0 ∷ 0 ∷ 0 ∷ 35 ∷ 0 ∷ 0 ∷ 0 ∷ 0 ∷ 0 ∷ 0 ∷ 0 ∷ 32 ∷ 0 ∷ 0 ∷ 0 ∷ 1 ∷ 0 ∷ 0 ∷ 0 ∷ []

pub example-accepted : verdict example ≡ Accepted
unfolding spells example
example-accepted = refl

-- var A0; A0 = 1
pub example-text : text_of example (up_to made_up_field (fields_of example)) ≡ 118 ∷ 97 ∷ 114 ∷ 32 ∷ 65 ∷ 48 ∷ 59 ∷ 32 ∷ 65 ∷ 48 ∷ 32 ∷ 61 ∷ 32 ∷ 49 ∷ []
unfolding spells example
example-text = refl

-- name 0 is declared nowhere
unfoldable pub undeclared : List ℕ
undeclared = 10 ∷ 0 ∷ 1 ∷ 0 ∷ 12 ∷ 0 ∷ 11 ∷ 0 ∷ 1 ∷ 0 ∷ 7 ∷ 0 ∷ 5 ∷ 0 ∷ 0 ∷ 0 ∷ 0 ∷ 0 ∷ 0 ∷ 0 ∷ 2 ∷ 0 ∷ 1 ∷ 0 ∷ 0 ∷ 0 ∷ 0 ∷ 0 ∷ 19 ∷ 0 ∷ 0 ∷ 0 ∷ 1 ∷ 0 ∷ 0 ∷ 0 ∷ 2 ∷ 0 ∷ 255 ∷ 255 ∷ 255 ∷ 255 ∷ 0 ∷ 0 ∷ 5 ∷ 0 ∷ 0 ∷ 0 ∷ 0 ∷ 0 ∷ 0 ∷ 0 ∷ 3 ∷ 0 ∷ 3 ∷ 0 ∷ 4 ∷ 0 ∷ 0 ∷ 0 ∷ 5 ∷ 0 ∷ 0 ∷ 0 ∷ 0 ∷ 0 ∷ 0 ∷ 0 ∷ 1 ∷ 0 ∷ 1 ∷ 0 ∷ 0 ∷ 0 ∷ 0 ∷ 0 ∷ 6 ∷ 0 ∷ 6 ∷ 0 ∷ 7 ∷ 0 ∷ 0 ∷ 0 ∷ 33 ∷ 0 ∷ 5 ∷ 0 ∷ 8 ∷ 0 ∷ 0 ∷ 0 ∷ 39 ∷ 0 ∷ 2 ∷ 0 ∷ 9 ∷ 0 ∷ 0 ∷ 0 ∷ []

pub undeclared-refused : check [] size undeclared ≡ Refused 9 0
unfolding spells undeclared
undeclared-refused = refl

pub undeclared-accepted : verdict undeclared ≡ Accepted
unfolding spells undeclared
undeclared-accepted = refl

-- while A0 < 1 (-1 - A0)(A0.a0)
pub undeclared-text : text_of undeclared (up_to made_up_field (fields_of undeclared)) ≡ 119 ∷ 104 ∷ 105 ∷ 108 ∷ 101 ∷ 32 ∷ 65 ∷ 48 ∷ 32 ∷ 60 ∷ 32 ∷ 49 ∷ 32 ∷ 40 ∷ 45 ∷ 49 ∷ 32 ∷ 45 ∷ 32 ∷ 65 ∷ 48 ∷ 41 ∷ 40 ∷ 65 ∷ 48 ∷ 46 ∷ 97 ∷ 48 ∷ 41 ∷ []
unfolding spells undeclared
undeclared-text = refl

-- while A0 < 1 (-1 - A0)(A0.height)
pub listed-text : text_of undeclared ((104 ∷ 101 ∷ 105 ∷ 103 ∷ 104 ∷ 116 ∷ []) ∷ []) ≡ 119 ∷ 104 ∷ 105 ∷ 108 ∷ 101 ∷ 32 ∷ 65 ∷ 48 ∷ 32 ∷ 60 ∷ 32 ∷ 49 ∷ 32 ∷ 40 ∷ 45 ∷ 49 ∷ 32 ∷ 45 ∷ 32 ∷ 65 ∷ 48 ∷ 41 ∷ 40 ∷ 65 ∷ 48 ∷ 46 ∷ 104 ∷ 101 ∷ 105 ∷ 103 ∷ 104 ∷ 116 ∷ 41 ∷ []
unfolding spells undeclared
listed-text = refl
