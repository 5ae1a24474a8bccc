-- Lists, and what is wrong with them: one for each number, and for what comes first. Assumes nothing.
use Prim.Native.Nat.{ℕ, zero, suc, ◌+◌, ◌*◌, ◌/◌, ◌%◌}
use mathlib.Core.Path.{◌≡◌, refl}
use mathlib.Core.List.{List, [], ◌∷◌, ◌++◌, map}
use Rattle.laws.specs.UpTo.{up_to}
use Rattle.grammar.specs.Classes.{class_of, blanks, symbols, among, is_letter, is_digit, in_word}
use Rattle.grammar.specs.Tokens.{reserved, same_word, spelled}
use Rattle.grammar.specs.Places.{begins, present, decimal, decimal_from}
use Rattle.grammar.specs.FieldList.{position_of, next}
use Rattle.letters.specs.Runs.{run}
use Rattle.fieldlist.specs.Judged.{name_end, code_end, code_at, first_of, name_fault, code_fault, unless, line, start_of, end_of, number_of, name_of, last_code, fault, Judged, right, wrong, told, judge, judged}

-- names every definition of the judgement, once
unfoldable opens : Unit {0}
unfolding judged judge told fault unless name_fault code_fault first_of name_end code_end code_at name_of start_of end_of number_of last_code run begins present decimal decimal_from position_of next spelled same_word reserved in_word is_letter is_digit class_of among blanks symbols
opens = tt

-- n rows, with the names a, b, .. and the codes 10, 11, ..
unfoldable many : ℕ → List ℕ
many zero = []
many (suc n) = many n ++ ((97 + n) ∷ 44 ∷ (49 + n / 10) ∷ (48 + n % 10) ∷ 10 ∷ [])

unfoldable lists : List (List ℕ)
lists =
    ([])  -- nothing at all is right
    ∷ (97 ∷ 44 ∷ 49 ∷ 10 ∷ 98 ∷ 50 ∷ 44 ∷ 54 ∷ 53 ∷ 53 ∷ 51 ∷ 53 ∷ 10 ∷ [])  -- two rows
    ∷ (97 ∷ 44 ∷ 48 ∷ 48 ∷ 55 ∷ 10 ∷ [])  -- zeros in front of a code
    ∷ (65 ∷ 44 ∷ 49 ∷ 10 ∷ [])  -- no lower-case letter
    ∷ (97 ∷ 44 ∷ 49 ∷ 10 ∷ 10 ∷ [])  -- an empty line
    ∷ (118 ∷ 97 ∷ 108 ∷ 44 ∷ 49 ∷ 10 ∷ [])  -- val
    ∷ (97 ∷ 44 ∷ 49 ∷ 10 ∷ 97 ∷ 44 ∷ 50 ∷ 10 ∷ [])  -- a name again
    ∷ (97 ∷ 32 ∷ 49 ∷ 10 ∷ [])  -- no comma
    ∷ (97 ∷ [])  -- a name and nothing behind it
    ∷ (97 ∷ 44 ∷ 10 ∷ [])  -- no digit
    ∷ (97 ∷ 44 ∷ 49 ∷ [])  -- no byte 10 behind the last row
    ∷ (97 ∷ 44 ∷ 49 ∷ 32 ∷ 10 ∷ [])  -- no byte 10 directly behind the digits
    ∷ (97 ∷ 44 ∷ 48 ∷ 10 ∷ [])  -- code 0
    ∷ (97 ∷ 44 ∷ 54 ∷ 53 ∷ 53 ∷ 51 ∷ 54 ∷ 10 ∷ [])  -- code 65,536
    ∷ (97 ∷ 44 ∷ 50 ∷ 10 ∷ 98 ∷ 44 ∷ 50 ∷ 10 ∷ [])  -- codes that are equal
    ∷ (105 ∷ 102 ∷ [])  -- a reserved word comes before a comma that is missing
    ∷ (97 ∷ 44 ∷ 48 ∷ 10 ∷ 98 ∷ 10 ∷ [])  -- the first of two bad rows
    ∷ []

unfoldable judgements : List Judged
judgements =
    right []
    ∷ right (line 0 1 1 ∷ line 4 6 65535 ∷ [])
    ∷ right (line 0 1 7 ∷ [])
    ∷ wrong 1 2
    ∷ wrong 2 2
    ∷ wrong 1 3
    ∷ wrong 2 4
    ∷ wrong 1 5
    ∷ wrong 1 5
    ∷ wrong 1 6
    ∷ wrong 1 7
    ∷ wrong 1 7
    ∷ wrong 1 8
    ∷ wrong 1 8
    ∷ wrong 2 9
    ∷ wrong 1 3
    ∷ wrong 1 8
    ∷ []

cases-hold : map judged lists ≡ judgements
unfolding lists judgements opens
cases-hold = refl

seventeen-rows : judged (many 17) ≡ wrong 17 1
unfolding many opens
seventeen-rows = refl

sixteen-rows : judged (many 16) ≡ right (up_to (λ n. line (5 * n) (5 * n + 1) (10 + n)) 16)
unfolding many up_to opens
sixteen-rows = refl
