-- The scripts of OldCases and Firsts, from their nodes to their bytes. Assumes nothing.
use Prim.Native.Nat.{ℕ}
use mathlib.Core.List.{List, [], ◌∷◌}
use Rattle.rules.specs.Published.{image}
use Rattle.rules.proofs.Writing.{four}

-- `var x; {malloc(x); {x.f = null - 1; {x.g = x.f; x = x.g}}}`; x is name 0, f and g are fields 1 and 2
abbrev pub stored_twice : List ℕ
stored_twice =
    image (7 ∷ 12 ∷ [])
    (four 34 0 0 0  -- 0: malloc(x)
    ∷ four 5 0 0 0  -- 1: x
    ∷ four 1 1 0 0  -- 2: f
    ∷ four 4 0 0 0  -- 3: null
    ∷ four 2 1 0 0  -- 4: 1
    ∷ four 3 3 4 0  -- 5: null - 1
    ∷ four 36 1 2 5  -- 6: x.f = null - 1
    ∷ four 5 0 0 0  -- 7: x
    ∷ four 1 2 0 0  -- 8: g
    ∷ four 5 0 0 0  -- 9: x
    ∷ four 1 1 0 0  -- 10: f
    ∷ four 6 9 10 0  -- 11: x.f
    ∷ four 36 7 8 11  -- 12: x.g = x.f
    ∷ four 5 0 0 0  -- 13: x
    ∷ four 1 2 0 0  -- 14: g
    ∷ four 6 13 14 0  -- 15: x.g
    ∷ four 35 0 15 0  -- 16: x = x.g
    ∷ four 38 12 16 0  -- 17: {x.g = x.f; x = x.g}
    ∷ four 38 6 17 0  -- 18: {x.f = null - 1; {x.g = x.f; x = x.g}}
    ∷ four 38 0 18 0  -- 19: {malloc(x); {x.f = null - 1; {x.g = x.f; x = x.g}}}
    ∷ four 32 0 19 0  -- 20: var x; {malloc(x); {x.f = null - 1; {x.g = x.f; x = x.g}}}
    ∷ [])
    1

-- `var x; {malloc(x); {x.f = null - 1; {x.k = -2147483648 - 1; x = x.h}}}`, k and h fields by their index;
-- x is name 0, f is field 1 of two
abbrev pub two_faults : ℕ → ℕ → List ℕ
two_faults k h =
    image (7 ∷ 12 ∷ [])
    (four 34 0 0 0  -- 0: malloc(x)
    ∷ four 5 0 0 0  -- 1: x
    ∷ four 1 1 0 0  -- 2: f
    ∷ four 4 0 0 0  -- 3: null
    ∷ four 2 1 0 0  -- 4: 1
    ∷ four 3 3 4 0  -- 5: null - 1
    ∷ four 36 1 2 5  -- 6: x.f = null - 1
    ∷ four 5 0 0 0  -- 7: x
    ∷ four 1 k 0 0  -- 8: the field of index k
    ∷ four 2 0 32768 0  -- 9: -2147483648
    ∷ four 2 1 0 0  -- 10: 1
    ∷ four 3 9 10 0  -- 11: -2147483648 - 1
    ∷ four 36 7 8 11  -- 12: x.k = -2147483648 - 1
    ∷ four 5 0 0 0  -- 13: x
    ∷ four 1 h 0 0  -- 14: the field of index h
    ∷ four 6 13 14 0  -- 15: x.h
    ∷ four 35 0 15 0  -- 16: x = x.h
    ∷ four 38 12 16 0  -- 17: {x.k = -2147483648 - 1; x = x.h}
    ∷ four 38 6 17 0  -- 18: {x.f = null - 1; {x.k = -2147483648 - 1; x = x.h}}
    ∷ four 38 0 18 0  -- 19: {malloc(x); {x.f = null - 1; {x.k = -2147483648 - 1; x = x.h}}}
    ∷ four 32 0 19 0  -- 20: var x; {malloc(x); {x.f = null - 1; {x.k = -2147483648 - 1; x = ..
    ∷ [])
    1

-- `var x; {malloc(x); {x.f = null - 1; {x.f = 5; x = x.f}}}`; x is name 0, f is field 1
abbrev pub mended : List ℕ
mended =
    image (7 ∷ [])
    (four 34 0 0 0  -- 0: malloc(x)
    ∷ four 5 0 0 0  -- 1: x
    ∷ four 1 1 0 0  -- 2: f
    ∷ four 4 0 0 0  -- 3: null
    ∷ four 2 1 0 0  -- 4: 1
    ∷ four 3 3 4 0  -- 5: null - 1
    ∷ four 36 1 2 5  -- 6: x.f = null - 1
    ∷ four 5 0 0 0  -- 7: x
    ∷ four 1 1 0 0  -- 8: f
    ∷ four 2 5 0 0  -- 9: 5
    ∷ four 36 7 8 9  -- 10: x.f = 5
    ∷ four 5 0 0 0  -- 11: x
    ∷ four 1 1 0 0  -- 12: f
    ∷ four 6 11 12 0  -- 13: x.f
    ∷ four 35 0 13 0  -- 14: x = x.f
    ∷ four 38 10 14 0  -- 15: {x.f = 5; x = x.f}
    ∷ four 38 6 15 0  -- 16: {x.f = null - 1; {x.f = 5; x = x.f}}
    ∷ four 38 0 16 0  -- 17: {malloc(x); {x.f = null - 1; {x.f = 5; x = x.f}}}
    ∷ four 32 0 17 0  -- 18: var x; {malloc(x); {x.f = null - 1; {x.f = 5; x = x.f}}}
    ∷ [])
    1

-- `var x; (proc y: (proc z: x = READ)(2147483647 - -1))(null - 1)`, READ is the name n; x, y, z are names 0, 1, 2
abbrev pub two_arguments : ℕ → List ℕ
two_arguments n =
    image []
    (four 5 n 0 0  -- 0: y, or z
    ∷ four 35 0 0 0  -- 1: x = ..
    ∷ four 7 2 1 0  -- 2: proc z: x = ..
    ∷ four 2 65535 32767 0  -- 3: 2147483647
    ∷ four 2 65535 65535 0  -- 4: -1
    ∷ four 3 3 4 0  -- 5: 2147483647 - -1
    ∷ four 33 2 5 0  -- 6: (proc z: x = ..)(2147483647 - -1)
    ∷ four 7 1 6 0  -- 7: proc y: ..
    ∷ four 4 0 0 0  -- 8: null
    ∷ four 2 1 0 0  -- 9: 1
    ∷ four 3 8 9 0  -- 10: null - 1
    ∷ four 33 7 10 0  -- 11: (proc y: ..)(null - 1)
    ∷ four 32 0 11 0  -- 12: var x; ..
    ∷ [])
    3

-- `var x; (proc y: {y = 5; x = y})(null - 1)`
abbrev pub mended_cell : List ℕ
mended_cell =
    image []
    (four 2 5 0 0
    ∷ four 35 1 0 0
    ∷ four 5 1 0 0
    ∷ four 35 0 2 0
    ∷ four 38 1 3 0
    ∷ four 7 1 4 0
    ∷ four 4 0 0 0
    ∷ four 2 1 0 0
    ∷ four 3 6 7 0
    ∷ four 33 5 8 0
    ∷ four 32 0 9 0
    ∷ [])
    2

-- `(proc y: var w; {malloc(w); {w.f = 2147483647 - -1; w = y}})(null - 1)`; y and w are names 0 and 1
abbrev pub cell_and_field : List ℕ
cell_and_field =
    image (7 ∷ [])
    (four 34 1 0 0
    ∷ four 5 1 0 0
    ∷ four 1 1 0 0
    ∷ four 2 65535 32767 0
    ∷ four 2 65535 65535 0
    ∷ four 3 3 4 0
    ∷ four 36 1 2 5
    ∷ four 5 0 0 0
    ∷ four 35 1 7 0
    ∷ four 38 6 8 0
    ∷ four 38 0 9 0
    ∷ four 32 1 10 0
    ∷ four 7 0 11 0
    ∷ four 4 0 0 0
    ∷ four 2 1 0 0
    ∷ four 3 13 14 0
    ∷ four 33 12 15 0
    ∷ [])
    2

-- `var x; {malloc(x); {x.f = null - 1; var w; {malloc(w); {w.f = 2147483647 - -1; x = x.f}}}}`
abbrev pub two_objects : List ℕ
two_objects =
    image (7 ∷ [])
    (four 34 0 0 0
    ∷ four 5 0 0 0
    ∷ four 1 1 0 0
    ∷ four 4 0 0 0
    ∷ four 2 1 0 0
    ∷ four 3 3 4 0
    ∷ four 36 1 2 5
    ∷ four 34 1 0 0  -- 7
    ∷ four 5 1 0 0
    ∷ four 1 1 0 0
    ∷ four 2 65535 32767 0
    ∷ four 2 65535 65535 0
    ∷ four 3 10 11 0  -- 12
    ∷ four 36 8 9 12
    ∷ four 5 0 0 0
    ∷ four 1 1 0 0
    ∷ four 6 14 15 0  -- 16
    ∷ four 35 0 16 0
    ∷ four 38 13 17 0
    ∷ four 38 7 18 0
    ∷ four 32 1 19 0  -- 20
    ∷ four 38 6 20 0
    ∷ four 38 0 21 0
    ∷ four 32 0 22 0
    ∷ [])
    2
