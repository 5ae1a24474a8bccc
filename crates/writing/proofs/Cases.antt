-- Worked trees, each with its text, names and fields made up: differences and selections to the left and in parentheses, a proc left of a minus and one
-- at the end, a sign behind a comparison and one behind `true`. Assumes nothing.
use Prim.Native.Nat.{ℕ}
use mathlib.Core.Path.{◌≡◌, refl}
use mathlib.Core.List.{List, [], ◌∷◌, map}
use Rattle.laws.specs.UpTo.{up_to}
use Rattle.rules.specs.Syntax.{Cmd, field, int, diff, null, ref, select, proc, is_true, less, var, call, malloc, assign, assign_field, skip, seq, while, if, par, atom}
use Rattle.grammar.specs.Classes.{among}
use Rattle.grammar.specs.Tokens.{kind_of, reserved, single, double}
use Rattle.writing.specs.WriteTokens.{top_of, is_difference, is_selection, is_bare, not_dotted, end_of, grouped, opens_left, opens_dot, sign_first, signed, write_int, ended_by, write_exp, write_cmd}
use Rattle.writing.specs.Spell.{last_digit, decimal_before, decimal_of, marks, spelled_as, bytes_for, opening, closing, called, tight, gap, spell, made_up, made_up_field}

unfoldable pub trees : List Cmd
trees =
    seq 0 (assign 0 0 (int 0 1)) (assign 0 1 (int 0 2))  -- {A0 = 1; A1 = 2}
    ∷ call 0 (ref 0 0) (diff 0 (ref 0 1) (int 0 1))  -- A0(A1 - 1)
    ∷ assign 0 0 (diff 0 (diff 0 (ref 0 1) (int 0 1)) (diff 0 (int 0 2) (int 0 4294967293)))  -- A0 = A1 - 1 - (2 - -3)
    ∷ assign_field 0 (select 0 (ref 0 0) (field 0 1)) (field 0 2) (select 0 (diff 0 (ref 0 1) (int 0 1)) (select 0 (ref 0 0) (field 0 1)))  -- A0.a0.a1 = (A1 - 1).(A0.a0)
    ∷ assign 0 0 (diff 0 (proc 0 1 (skip 0)) (proc 0 1 (assign 0 0 (int 0 2147483648))))  -- A0 = (proc A1: skip) - proc A1: A0 = -2147483648
    ∷ while 0 (less 0 (ref 0 0) (int 0 1)) (call 0 (diff 0 (int 0 4294967295) (ref 0 0)) (null 0))  -- while A0 < 1 (-1 - A0)(null)
    ∷ if 0 (is_true 0) (call 0 (int 0 4294967295) (null 0)) (atom 0 (par 0 (malloc 0 0) (var 0 1 (skip 0))))  -- if true -1 (null) else atom({malloc(A0) || var A1; skip})
    ∷ []

unfoldable pub texts : List (List ℕ)
texts =
    (123 ∷ 65 ∷ 48 ∷ 32 ∷ 61 ∷ 32 ∷ 49 ∷ 59 ∷ 32 ∷ 65 ∷ 49 ∷ 32 ∷ 61 ∷ 32 ∷ 50 ∷ 125 ∷ [])
    ∷ (65 ∷ 48 ∷ 40 ∷ 65 ∷ 49 ∷ 32 ∷ 45 ∷ 32 ∷ 49 ∷ 41 ∷ [])
    ∷ (65 ∷ 48 ∷ 32 ∷ 61 ∷ 32 ∷ 65 ∷ 49 ∷ 32 ∷ 45 ∷ 32 ∷ 49 ∷ 32 ∷ 45 ∷ 32 ∷ 40 ∷ 50 ∷ 32 ∷ 45 ∷ 32 ∷ 45 ∷ 51 ∷ 41 ∷ [])
    ∷ (65 ∷ 48 ∷ 46 ∷ 97 ∷ 48 ∷ 46 ∷ 97 ∷ 49 ∷ 32 ∷ 61 ∷ 32 ∷ 40 ∷ 65 ∷ 49 ∷ 32 ∷ 45 ∷ 32 ∷ 49 ∷ 41 ∷ 46 ∷ 40 ∷ 65 ∷ 48 ∷ 46 ∷ 97 ∷ 48 ∷ 41 ∷ [])
    ∷ (65 ∷ 48 ∷ 32 ∷ 61 ∷ 32 ∷ 40 ∷ 112 ∷ 114 ∷ 111 ∷ 99 ∷ 32 ∷ 65 ∷ 49 ∷ 58 ∷ 32 ∷ 115 ∷ 107 ∷ 105 ∷ 112 ∷ 41 ∷ 32 ∷ 45 ∷ 32 ∷ 112 ∷ 114 ∷ 111 ∷ 99 ∷ 32 ∷ 65 ∷ 49 ∷ 58 ∷ 32 ∷ 65 ∷ 48 ∷ 32 ∷ 61 ∷ 32 ∷ 45 ∷ 50 ∷ 49 ∷ 52 ∷ 55 ∷ 52 ∷ 56 ∷ 51 ∷ 54 ∷ 52 ∷ 56 ∷ [])
    ∷ (119 ∷ 104 ∷ 105 ∷ 108 ∷ 101 ∷ 32 ∷ 65 ∷ 48 ∷ 32 ∷ 60 ∷ 32 ∷ 49 ∷ 32 ∷ 40 ∷ 45 ∷ 49 ∷ 32 ∷ 45 ∷ 32 ∷ 65 ∷ 48 ∷ 41 ∷ 40 ∷ 110 ∷ 117 ∷ 108 ∷ 108 ∷ 41 ∷ [])
    ∷ (105 ∷ 102 ∷ 32 ∷ 116 ∷ 114 ∷ 117 ∷ 101 ∷ 32 ∷ 45 ∷ 49 ∷ 32 ∷ 40 ∷ 110 ∷ 117 ∷ 108 ∷ 108 ∷ 41 ∷ 32 ∷ 101 ∷ 108 ∷ 115 ∷ 101 ∷ 32 ∷ 97 ∷ 116 ∷ 111 ∷ 109 ∷ 40 ∷ 123 ∷ 109 ∷ 97 ∷ 108 ∷ 108 ∷ 111 ∷ 99 ∷ 40 ∷ 65 ∷ 48 ∷ 41 ∷ 32 ∷ 124 ∷ 124 ∷ 32 ∷ 118 ∷ 97 ∷ 114 ∷ 32 ∷ 65 ∷ 49 ∷ 59 ∷ 32 ∷ 115 ∷ 107 ∷ 105 ∷ 112 ∷ 125 ∷ 41 ∷ [])
    ∷ []

pub trees-written : map (λ c. spell (up_to made_up 2) (up_to made_up_field 2) (write_cmd c)) trees ≡ texts
unfolding trees texts up_to top_of is_difference is_selection is_bare not_dotted end_of grouped opens_left opens_dot sign_first signed write_int ended_by write_exp write_cmd kind_of among reserved single double last_digit decimal_before decimal_of marks spelled_as bytes_for opening closing called tight gap spell made_up made_up_field
trees-written = refl
