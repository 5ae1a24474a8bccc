-- Worked cases of order 5: a variable that was declared and not set. Reading it is fault 8 at the variable's node, in the place of
-- the read; nothing else of it is a fault. The scripts are those of the module CasesValues, where x is declared and not set, or
-- stand here. Assumes nothing.
use Prim.Native.Nat.{ℕ}
use mathlib.Core.Path.{◌≡◌, refl}
use mathlib.Core.List.{List, [], ◌∷◌, map, ◌++◌}
use lib.ListN.{replicate}
use Rattle.rules.proofs.Writing.{four}
use Rattle.rules.specs.State.{frame}
use Rattle.rules.specs.declared.Chain.TheVariants.{Empty, From}
use Rattle.rules.specs.declared.Value.TheVariants.{Null, Int, Object, Proc, Unset}
use Rattle.rules.proofs.Opens.{opens, told-so, all_told, ◌also◌}
use Rattle.cases.proofs.Cases.{Tried, tried, shown, show, parts_of, got, want}
use Rattle.cases.proofs.CasesValues.{script, valued, faulty, unfit, refusing, on_object, fresh, null_minus1}

-- ---- the scripts

-- `var x; {x = 1 || x = x}`: one branch sets what the other reads
abbrev pub read_beside : List ℕ
read_beside =
    script
    (four 2 1 0 0  -- 0: 1
    ∷ four 35 0 0 0  -- 1: x = 1
    ∷ four 5 0 0 0  -- 2: x
    ∷ four 35 0 2 0  -- 3: x = x
    ∷ four 41 1 3 0  -- 4: {x = 1 || x = x}
    ∷ four 32 0 4 0  -- 5: var x; {x = 1 || x = x}
    ∷ [])

-- `var x; (proc y: {x = 5 || x = x - y})(1)`, the closure made while x is unset: its branches set x and read it
abbrev pub closure_reads : List ℕ
closure_reads =
    script
    (four 2 5 0 0  -- 0: 5
    ∷ four 35 0 0 0  -- 1: x = 5
    ∷ four 5 0 0 0  -- 2: x
    ∷ four 5 1 0 0  -- 3: y
    ∷ four 3 2 3 0  -- 4: x - y
    ∷ four 35 0 4 0  -- 5: x = x - y
    ∷ four 41 1 5 0  -- 6: {x = 5 || x = x - y}
    ∷ four 7 1 6 0  -- 7: proc y: {x = 5 || x = x - y}
    ∷ four 2 1 0 0  -- 8: 1
    ∷ four 33 7 8 0  -- 9: (proc y: {x = 5 || x = x - y})(1)
    ∷ four 32 0 9 0  -- 10: var x; (proc y: {x = 5 || x = x - y})(1)
    ∷ [])

-- `var x; var y; {y = proc y: x = x - y; {y(1); x = 5}}` and `.. {x = 5; y(1)}}`, by the order of the last two: a closure made before
-- its variable is set, called before it is set, and after
abbrev pub called : ℕ → ℕ → List ℕ
called a b =
    script
    (four 5 0 0 0  -- 0: x
    ∷ four 5 1 0 0  -- 1: y
    ∷ four 3 0 1 0  -- 2: x - y
    ∷ four 35 0 2 0  -- 3: x = x - y
    ∷ four 7 1 3 0  -- 4: proc y: x = x - y
    ∷ four 35 1 4 0  -- 5: y = proc y: x = x - y
    ∷ four 5 1 0 0  -- 6: y
    ∷ four 2 1 0 0  -- 7: 1
    ∷ four 33 6 7 0  -- 8: y(1)
    ∷ four 2 5 0 0  -- 9: 5
    ∷ four 35 0 9 0  -- 10: x = 5
    ∷ four 38 a b 0  -- 11: {y(1); x = 5}, or turned round
    ∷ four 38 5 11 0  -- 12: {y = proc y: x = x - y; ..}
    ∷ four 32 1 12 0  -- 13: var y; ..
    ∷ four 32 0 13 0  -- 14: var x; var y; ..
    ∷ [])

-- `var x; var y; {y = proc x: skip; {y(x); x = 1}}` and `.. {x = 1; y(x)}}`, by the order of the last two: x is an argument
-- before it is set, and after
abbrev pub called_with : ℕ → ℕ → List ℕ
called_with a b =
    script
    (four 37 0 0 0  -- 0: skip
    ∷ four 7 0 0 0  -- 1: proc x: skip
    ∷ four 35 1 1 0  -- 2: y = proc x: skip
    ∷ four 5 1 0 0  -- 3: y
    ∷ four 5 0 0 0  -- 4: x
    ∷ four 33 3 4 0  -- 5: y(x)
    ∷ four 2 1 0 0  -- 6: 1
    ∷ four 35 0 6 0  -- 7: x = 1
    ∷ four 38 a b 0  -- 8: {y(x); x = 1}, or turned round
    ∷ four 38 2 8 0  -- 9: {y = proc x: skip; ..}
    ∷ four 32 1 9 0  -- 10: var y; ..
    ∷ four 32 0 10 0  -- 11: var x; var y; ..
    ∷ [])

-- `var x; {x = 1; var x; x = x}`: declared again, it is another variable
abbrev pub declared_again : List ℕ
declared_again =
    script
    (four 2 1 0 0  -- 0: 1
    ∷ four 35 0 0 0  -- 1: x = 1
    ∷ four 5 0 0 0  -- 2: x
    ∷ four 35 0 2 0  -- 3: x = x
    ∷ four 32 0 3 0  -- 4: var x; x = x
    ∷ four 38 1 4 0  -- 5: {x = 1; var x; x = x}
    ∷ four 32 0 5 0  -- 6: var x; {x = 1; var x; x = x}
    ∷ [])

-- ---- the entries

unfoldable pub unset : List (List Tried)
unset =
    -- each kind of use: an expression's operands, a test's
    (faulty (four 5 0 0 0 ∷ []) 8 0  -- `x`
    ∷ faulty (four 5 0 0 0 ∷ four 2 1 0 0 ∷ four 3 0 1 0 ∷ []) 8 0  -- `x - 1`
    ∷ faulty (four 2 1 0 0 ∷ four 5 0 0 0 ∷ four 3 0 1 0 ∷ []) 8 1  -- `1 - x`
    ∷ faulty (four 5 0 0 0 ∷ four 1 1 0 0 ∷ four 6 0 1 0 ∷ []) 8 0  -- `x.f`
    ∷ unfit (four 5 0 0 0 ∷ four 4 0 0 0 ∷ four 18 0 1 0 ∷ []) 8 0  -- `x == null`
    ∷ unfit (four 4 0 0 0 ∷ four 5 0 0 0 ∷ four 18 0 1 0 ∷ []) 8 1  -- `null == x`
    ∷ unfit (four 5 0 0 0 ∷ four 5 0 0 0 ∷ four 18 0 1 0 ∷ []) 8 0  -- `x == x`
    ∷ unfit (four 5 0 0 0 ∷ four 2 1 0 0 ∷ four 19 0 1 0 ∷ []) 8 0  -- `x < 1`
    ∷ unfit (four 2 1 0 0 ∷ four 5 0 0 0 ∷ four 19 0 1 0 ∷ []) 8 1  -- `1 < x`
    ∷ [])
    -- a command's: the test of a while, the callee, the argument, the parts of a field assignment
    ∷ (refusing (four 5 0 0 0 ∷ four 4 0 0 0 ∷ four 18 0 1 0 ∷ four 37 0 0 0 ∷ four 39 2 3 0 ∷ []) 8 0  -- `while x == null skip`
    ∷ refusing (four 5 0 0 0 ∷ four 2 1 0 0 ∷ four 33 0 1 0 ∷ []) 8 0  -- `x(1)`
    ∷ refusing (four 37 0 0 0 ∷ four 7 1 0 0 ∷ four 5 0 0 0 ∷ four 33 1 2 0 ∷ []) 8 2  -- `(proc y: skip)(x)`
    ∷ refusing (four 5 0 0 0 ∷ four 1 1 0 0 ∷ four 2 1 0 0 ∷ four 36 0 1 2 ∷ []) 8 0  -- `x.f = 1`
    ∷ on_object (four 5 0 0 0 ∷ four 1 1 0 0 ∷ four 5 1 0 0 ∷ four 36 0 1 2 ∷ four 32 1 3 0 ∷ [])  -- `var y; x.f = y`
    (shown (2 ∷ 8 ∷ 2 ∷ 3 ∷ []) 1 (frame 0 Empty (Object 0) ∷ frame 1 (From 0) Unset ∷ []) fresh)
    ∷ on_object (four 5 0 0 0 ∷ four 5 1 0 0 ∷ four 2 1 0 0 ∷ four 36 0 1 2 ∷ four 32 1 3 0 ∷ [])  -- `var y; x.y = 1`
    (shown (2 ∷ 8 ∷ 1 ∷ 3 ∷ []) 1 (frame 0 Empty (Object 0) ∷ frame 1 (From 0) Unset ∷ []) fresh)
    ∷ [])
    -- after the left operand's fault, before the operation's own
    ∷ (faulty (null_minus1 0 ++ (four 5 0 0 0 ∷ four 3 2 3 0 ∷ [])) 1 2  -- `(null - 1) - x`
    ∷ faulty (four 5 0 0 0 ∷ (null_minus1 1 ++ (four 3 0 3 0 ∷ []))) 8 0  -- `x - (null - 1)`
    ∷ faulty (four 4 0 0 0 ∷ four 5 0 0 0 ∷ four 3 0 1 0 ∷ []) 8 1  -- `null - x`
    ∷ faulty (four 4 0 0 0 ∷ four 5 0 0 0 ∷ four 6 0 1 0 ∷ []) 8 1  -- `null.x`
    ∷ unfit (four 1 1 0 0 ∷ four 5 0 0 0 ∷ four 18 0 1 0 ∷ []) 8 1  -- `f == x`
    ∷ unfit (four 4 0 0 0 ∷ four 5 0 0 0 ∷ four 19 0 1 0 ∷ []) 8 1  -- `null < x`
    ∷ [])
    -- an argument's and a right side's after 7, 3 and 4
    ∷ (refusing (four 4 0 0 0 ∷ four 5 0 0 0 ∷ four 33 0 1 0 ∷ []) 7 2  -- `null(x)`
    ∷ refusing (four 4 0 0 0 ∷ four 1 1 0 0 ∷ four 5 0 0 0 ∷ four 36 0 1 2 ∷ []) 3 3  -- `null.f = x`
    ∷ refusing (four 4 0 0 0 ∷ four 5 0 0 0 ∷ four 2 1 0 0 ∷ four 36 0 1 2 ∷ []) 8 1  -- `null.x = 1`
    ∷ on_object (four 5 0 0 0 ∷ four 4 0 0 0 ∷ four 5 1 0 0 ∷ four 36 0 1 2 ∷ four 32 1 3 0 ∷ [])  -- `var y; x.null = y`
    (shown (2 ∷ 4 ∷ 3 ∷ 3 ∷ []) 1 (frame 0 Empty (Object 0) ∷ frame 1 (From 0) Unset ∷ []) fresh)
    ∷ [])
    -- no reads: the name of an assignment and of a malloc, a proc that mentions the variable; and a variable may stay unset
    ∷ (valued (four 2 1 0 0 ∷ []) (Int 1)  -- `x = 1`
    ∷ on_object (four 37 0 0 0 ∷ []) (shown (1 ∷ 3 ∷ []) 0 (frame 0 Empty (Object 0) ∷ []) fresh)  -- `malloc(x)`
    ∷ valued (four 5 0 0 0 ∷ four 35 0 0 0 ∷ four 7 1 1 0 ∷ []) (Proc 2 (From 0))  -- `x = proc y: x = x`
    ∷ tried (script (four 37 0 0 0 ∷ four 32 0 0 0 ∷ [])) (replicate 2 0) (shown (1 ∷ 2 ∷ []) 0 (frame 0 Empty Unset ∷ []) [])  -- `var x; skip`
    ∷ [])
    -- null is not unset: a field of a new object is null, and a variable that holds null is set
    ∷ (on_object (four 5 0 0 0 ∷ four 1 1 0 0 ∷ four 6 0 1 0 ∷ four 35 0 2 0 ∷ four 5 0 0 0 ∷ four 35 0 4 0 ∷ four 38 3 5 0 ∷ [])  -- `{x = x.f; x = x}`
    (shown (1 ∷ 4 ∷ []) 0 (frame 0 Empty Null ∷ []) fresh)
    ∷ [])
    -- a branch that reads after the other has set, and before
    ∷ (tried read_beside (replicate 3 0) (shown (1 ∷ 3 ∷ []) 0 (frame 0 Empty (Int 1) ∷ []) [])
    ∷ tried read_beside (0 ∷ 1 ∷ 0 ∷ []) (shown (2 ∷ 8 ∷ 2 ∷ 1 ∷ []) 3 (frame 0 Empty Unset ∷ []) [])
    ∷ [])
    -- a closure whose branches set its variable and read it; the formal holds its argument
    ∷ (tried closure_reads (replicate 4 0) (shown (1 ∷ 4 ∷ []) 0 (frame 0 Empty (Int 4) ∷ frame 1 (From 0) (Int 1) ∷ []) [])
    ∷ tried closure_reads (0 ∷ 0 ∷ 1 ∷ []) (shown (2 ∷ 8 ∷ 2 ∷ 2 ∷ []) 3 (frame 0 Empty Unset ∷ frame 1 (From 0) (Int 1) ∷ []) [])
    ∷ [])
    -- .. called before its variable is set, and after
    ∷ (tried (called 8 10) (replicate 9 0)
    (shown (2 ∷ 8 ∷ 0 ∷ 4 ∷ []) 2 (frame 0 Empty Unset ∷ frame 1 (From 0) (Proc 4 (From 1)) ∷ frame 1 (From 1) (Int 1) ∷ []) [])
    ∷ tried (called 10 8) (replicate 9 0)
    (shown (1 ∷ 6 ∷ []) 0 (frame 0 Empty (Int 4) ∷ frame 1 (From 0) (Proc 4 (From 1)) ∷ frame 1 (From 1) (Int 1) ∷ []) [])
    ∷ [])
    -- an argument before it is set, and after
    ∷ (tried (called_with 5 7) (replicate 9 0)
    (shown (2 ∷ 8 ∷ 4 ∷ 3 ∷ []) 2 (frame 0 Empty Unset ∷ frame 1 (From 0) (Proc 1 (From 1)) ∷ []) [])
    ∷ tried (called_with 7 5) (replicate 9 0)
    (shown (1 ∷ 6 ∷ []) 0 (frame 0 Empty (Int 1) ∷ frame 1 (From 0) (Proc 1 (From 1)) ∷ frame 0 (From 1) (Int 1) ∷ []) [])
    ∷ [])
    -- declared again
    ∷ (tried declared_again (replicate 9 0)
    (shown (2 ∷ 8 ∷ 2 ∷ 3 ∷ []) 1 (frame 0 Empty (Int 1) ∷ frame 0 (From 0) Unset ∷ []) [])
    ∷ [])
    ∷ []

pub unset-hold : map (map got) unset ≡ map (map want) unset
unfolding unset got want show parts_of opens
unset-hold =
    told-so got want unset
    (refl  -- expressions and tests
    also refl  -- commands
    also refl  -- its order
    also refl  -- after 7, 3 and 4
    also refl  -- no reads
    also refl  -- null
    also refl  -- beside
    also refl  -- a closure
    also refl  -- called before and after
    also refl  -- an argument
    also refl  -- declared again
    also all_told)
