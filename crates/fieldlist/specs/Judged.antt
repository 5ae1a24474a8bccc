-- The first thing that is wrong with a list of fields. The rows are looked at from the first on, and each row from its first byte on: the order is
-- that of the numbers, 1 to 9. That a list in which nothing is wrong is right, and no other, is proofs/Sound and proofs/Complete. Assumes nothing.
use Rattle.std.specs.Prelude.{ℕ, zero, suc, ◌+◌, Bool, cond, not, ◌&&◌, List, [], ◌∷◌, ◌++◌, map, length, drop, eqb, ltb, leb}
use Rattle.std.proofs.Math.Seq.{slice}
use Rattle.rules.specs.Image.{most_fields}
use Rattle.grammar.specs.Classes.{lower, line_end, class_of, is_digit, in_word}
use Rattle.grammar.specs.Tokens.{reserved, spelled}
use Rattle.grammar.specs.Places.{begins, present, decimal}
use Rattle.grammar.specs.FieldList.{Entry, entry, position_of}
use Rattle.letters.specs.Runs.{run}

-- ---- a row's parts: where its name ends, and where its digits end, which begin behind the byte after the name

unfoldable pub name_end : List ℕ → ℕ → ℕ
name_end list at = at + run in_word (drop at list)

unfoldable pub code_end : List ℕ → ℕ → ℕ
code_end list end = suc end + run is_digit (drop (suc end) list)

unfoldable pub code_at : List ℕ → ℕ → ℕ
code_at list end = decimal (slice (suc end) (code_end list end) list)

-- ---- what is wrong with it

-- the number of the first that is true, counted from n; 0 where none is
unfoldable pub first_of : ℕ → List Bool → ℕ
first_of n [] = 0
first_of n (t ∷ ts) = cond t n (first_of (suc n) ts)

-- 2 no field name stands there, 3 the name is reserved, 4 it stands in a row before
unfoldable pub name_fault : List ℕ → List (List ℕ) → ℕ → ℕ
name_fault list names at =
    first_of 2
    (not (begins (λ b. eqb (class_of b) lower) (drop at list))
    ∷ present (spelled (slice at (name_end list at) list) reserved)
    ∷ present (position_of (slice at (name_end list at) list) names)
    ∷ [])

-- 5 no comma behind the name, 6 no digit behind it, 7 no byte 10 behind the digits, 8 the code is out of range, 9 it isn't above the one before
unfoldable pub code_fault : List ℕ → ℕ → ℕ → ℕ
code_fault list last end =
    first_of 5
    (not (begins (eqb 44) (drop end list))
    ∷ not (begins is_digit (drop (suc end) list))
    ∷ not (begins (eqb line_end) (drop (code_end list end) list))
    ∷ not (ltb 0 (code_at list end) && ltb (code_at list end) 65536)
    ∷ leb (code_at list end) last
    ∷ [])

unfoldable pub unless : ℕ → ℕ → ℕ  -- the first, unless it is 0
unless zero j = j
unless (suc i) j = suc i

-- ---- the rows

pub data Line : Type 0 where
  line : ℕ → ℕ → ℕ → Line  -- where the name begins and ends, the code

unfoldable pub start_of : Line → ℕ
start_of (line f t k) = f

unfoldable pub end_of : Line → ℕ
end_of (line f t k) = t

unfoldable pub number_of : Line → ℕ
number_of (line f t k) = k

unfoldable pub name_of : List ℕ → Line → List ℕ
name_of list l = slice (start_of l) (end_of l) list

unfoldable pub last_code : ℕ → List Line → ℕ  -- the last row's code, or k where there is no row
last_code k [] = k
last_code k (l ∷ ls) = last_code (number_of l) ls

unfoldable pub fault : List ℕ → List Line → ℕ → ℕ
fault list before at = unless (name_fault list (map (name_of list) before) at) (code_fault list (last_code 0 before) (name_end list at))

pub data Judged : Type 0 where
  right : List Line → Judged
  wrong : ℕ → ℕ → Judged  -- the row, from 1, and what is wrong with it

unfoldable pub told : ℕ → ℕ → Judged → Judged
told zero row rest = rest
told (suc k) row rest = wrong row (suc k)

-- of the room for further rows, the rows before and where the next one begins; 1 is a row for which there is no room
unfoldable pub judge : List ℕ → ℕ → List Line → ℕ → Judged
judge list zero before at = cond (ltb at (length list)) (wrong (suc (length before)) 1) (right before)
judge list (suc room) before at =
    cond (ltb at (length list))
    (told (fault list before at) (suc (length before))
    (judge list room
    (before ++ (line at (name_end list at) (code_at list (name_end list at)) ∷ []))
    (suc (code_end list (name_end list at)))))
    (right before)

unfoldable pub judged : List ℕ → Judged
judged list = judge list most_fields [] 0

unfoldable pub entry_of : List ℕ → Line → Entry
entry_of list l = entry (name_of list l) (number_of l)
