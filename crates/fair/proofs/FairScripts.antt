-- The scripts of FairCases, from their nodes to their bytes; x is name 0. Assumes nothing.
use Prim.Native.Nat.{ℕ}
use mathlib.Core.List.{List, [], ◌∷◌}
use Rattle.rules.specs.Published.{image}
use Rattle.rules.proofs.Writing.{four}

-- `{{var x; skip || var x; skip} || var x; skip}`
abbrev pub three_abreast : List ℕ
three_abreast =
    image []
    (four 37 0 0 0  -- 0: skip
    ∷ four 32 0 0 0  -- 1: var x; skip
    ∷ four 37 0 0 0  -- 2: skip
    ∷ four 32 0 2 0  -- 3: var x; skip
    ∷ four 41 1 3 0  -- 4: {var x; skip || var x; skip}
    ∷ four 37 0 0 0  -- 5: skip
    ∷ four 32 0 5 0  -- 6: var x; skip
    ∷ four 41 4 6 0  -- 7: {{var x; skip || var x; skip} || var x; skip}
    ∷ [])
    1

-- `{var x; {skip || skip} || {skip || skip}}`
abbrev pub two_from_one : List ℕ
two_from_one =
    image []
    (four 37 0 0 0  -- 0: skip
    ∷ four 37 0 0 0  -- 1: skip
    ∷ four 41 0 1 0  -- 2: {skip || skip}
    ∷ four 32 0 2 0  -- 3: var x; {skip || skip}
    ∷ four 37 0 0 0  -- 4: skip
    ∷ four 37 0 0 0  -- 5: skip
    ∷ four 41 4 5 0  -- 6: {skip || skip}
    ∷ four 41 3 6 0  -- 7: {var x; {skip || skip} || {skip || skip}}
    ∷ [])
    1

-- `{skip || {var x; skip || var x; skip}}`
abbrev pub first_ends : List ℕ
first_ends =
    image []
    (four 37 0 0 0  -- 0: skip
    ∷ four 37 0 0 0  -- 1: skip
    ∷ four 32 0 1 0  -- 2: var x; skip
    ∷ four 37 0 0 0  -- 3: skip
    ∷ four 32 0 3 0  -- 4: var x; skip
    ∷ four 41 2 4 0  -- 5: {var x; skip || var x; skip}
    ∷ four 41 0 5 0  -- 6: {skip || {var x; skip || var x; skip}}
    ∷ [])
    1

-- `{while true skip || var x; {skip; skip}}`
abbrev pub loop_beside : List ℕ
loop_beside =
    image []
    (four 16 0 0 0  -- 0: true
    ∷ four 37 0 0 0  -- 1: skip
    ∷ four 39 0 1 0  -- 2: while true skip
    ∷ four 37 0 0 0  -- 3: skip
    ∷ four 37 0 0 0  -- 4: skip
    ∷ four 38 3 4 0  -- 5: {skip; skip}
    ∷ four 32 0 5 0  -- 6: var x; {skip; skip}
    ∷ four 41 2 6 0  -- 7: {while true skip || var x; {skip; skip}}
    ∷ [])
    1

-- `{{{skip || skip}; {skip || skip}} || var x; {skip; skip}}`
abbrev pub after_parallel : List ℕ
after_parallel =
    image []
    (four 37 0 0 0  -- 0: skip
    ∷ four 37 0 0 0  -- 1: skip
    ∷ four 41 0 1 0  -- 2: {skip || skip}
    ∷ four 37 0 0 0  -- 3: skip
    ∷ four 37 0 0 0  -- 4: skip
    ∷ four 41 3 4 0  -- 5: {skip || skip}
    ∷ four 38 2 5 0  -- 6: {{skip || skip}; {skip || skip}}
    ∷ four 37 0 0 0  -- 7: skip
    ∷ four 37 0 0 0  -- 8: skip
    ∷ four 38 7 8 0  -- 9: {skip; skip}
    ∷ four 32 0 9 0  -- 10: var x; {skip; skip}
    ∷ four 41 6 10 0  -- 11: {{{skip || skip}; {skip || skip}} || var x; {skip; skip}}
    ∷ [])
    1

-- `{while true atom({skip; skip}) || while true skip}`
abbrev pub atom_in_loop : List ℕ
atom_in_loop =
    image []
    (four 16 0 0 0  -- 0: true
    ∷ four 37 0 0 0  -- 1: skip
    ∷ four 37 0 0 0  -- 2: skip
    ∷ four 38 1 2 0  -- 3: {skip; skip}
    ∷ four 42 3 0 0  -- 4: atom({skip; skip})
    ∷ four 39 0 4 0  -- 5: while true atom({skip; skip})
    ∷ four 16 0 0 0  -- 6: true
    ∷ four 37 0 0 0  -- 7: skip
    ∷ four 39 6 7 0  -- 8: while true skip
    ∷ four 41 5 8 0  -- 9: {while true atom({skip; skip}) || while true skip}
    ∷ [])
    0

-- `{while true skip || while true atom({skip || skip})}`
abbrev pub loop_beside_atoms : List ℕ
loop_beside_atoms =
    image []
    (four 16 0 0 0  -- 0: true
    ∷ four 37 0 0 0  -- 1: skip
    ∷ four 39 0 1 0  -- 2: while true skip
    ∷ four 16 0 0 0  -- 3: true
    ∷ four 37 0 0 0  -- 4: skip
    ∷ four 37 0 0 0  -- 5: skip
    ∷ four 41 4 5 0  -- 6: {skip || skip}
    ∷ four 42 6 0 0  -- 7: atom({skip || skip})
    ∷ four 39 3 7 0  -- 8: while true atom({skip || skip})
    ∷ four 41 2 8 0  -- 9: {while true skip || while true atom({skip || skip})}
    ∷ [])
    0

-- `{{var x; skip || atom(skip)} || var x; skip}`
abbrev pub atom_between : List ℕ
atom_between =
    image []
    (four 37 0 0 0  -- 0: skip
    ∷ four 32 0 0 0  -- 1: var x; skip
    ∷ four 37 0 0 0  -- 2: skip
    ∷ four 42 2 0 0  -- 3: atom(skip)
    ∷ four 41 1 3 0  -- 4: {var x; skip || atom(skip)}
    ∷ four 37 0 0 0  -- 5: skip
    ∷ four 32 0 5 0  -- 6: var x; skip
    ∷ four 41 4 6 0  -- 7: {{var x; skip || atom(skip)} || var x; skip}
    ∷ [])
    1

-- `var x; {{skip; skip} || x = null - 1}`
abbrev pub fault_beside : List ℕ
fault_beside =
    image []
    (four 37 0 0 0  -- 0: skip
    ∷ four 37 0 0 0  -- 1: skip
    ∷ four 38 0 1 0  -- 2: {skip; skip}
    ∷ four 4 0 0 0  -- 3: null
    ∷ four 2 1 0 0  -- 4: 1
    ∷ four 3 3 4 0  -- 5: null - 1
    ∷ four 35 0 5 0  -- 6: x = null - 1
    ∷ four 41 2 6 0  -- 7: {{skip; skip} || x = null - 1}
    ∷ four 32 0 7 0  -- 8: var x; {{skip; skip} || x = null - 1}
    ∷ [])
    1
