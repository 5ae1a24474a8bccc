-- Worked cases of the rules before order 5, each beside the same script and choices by the rules: where no unset variable is read, null
-- stood in the cell that is unset; where one is read, it was null that was read. So the comparison
-- (SetRuns) is with those rules. Computed by hand from document 002, 4.3.2, where a variable begins with null. Assumes nothing.
use Prim.Native.Nat.{ℕ}
use mathlib.Core.Path.{◌≡◌, refl}
use mathlib.Core.List.{List, [], ◌∷◌, map}
use lib.ListN.{replicate}
use Rattle.rules.proofs.Writing.{four}
use Rattle.rules.proofs.Opens.{opens, told-so, all_told, ◌also◌}
use Rattle.rules.specs.State.{frame}
use Rattle.rules.specs.declared.Chain.TheVariants.{Empty, From}
use Rattle.rules.specs.declared.Value.TheVariants.{Null, Int, Object, Proc, Unset}
use Rattle.cases.proofs.Cases.{Tried, tried, begun, Shown, shown, show, parts_of, got, want}
use Rattle.cases.proofs.CasesValues.{script}
use Rattle.cases.proofs.CasesUnset.{read_beside, called_with, declared_again}
use Rattle.oldrules.specs.BeforeOrder5.{null_exec, null_machine, null_run}

-- ---- the scripts

-- `var x; var y; x = 1`: one is set, the other stays unset
abbrev pub one_set : List ℕ
one_set =
    script
    (four 2 1 0 0  -- 0: 1
    ∷ four 35 0 0 0  -- 1: x = 1
    ∷ four 32 1 1 0  -- 2: var y; x = 1
    ∷ four 32 0 2 0  -- 3: var x; var y; x = 1
    ∷ [])

-- `var x; malloc(x)`
abbrev pub allocated : List ℕ
allocated =
    script
    (four 34 0 0 0  -- 0: malloc(x)
    ∷ four 32 0 0 0  -- 1: var x; malloc(x)
    ∷ [])

-- `var x; if x == null x = 1 else skip`: what asked for null to know whether x is set
abbrev pub asks_null : List ℕ
asks_null =
    script
    (four 5 0 0 0  -- 0: x
    ∷ four 4 0 0 0  -- 1: null
    ∷ four 18 0 1 0  -- 2: x == null
    ∷ four 2 1 0 0  -- 3: 1
    ∷ four 35 0 3 0  -- 4: x = 1
    ∷ four 37 0 0 0  -- 5: skip
    ∷ four 40 2 4 5  -- 6: if x == null x = 1 else skip
    ∷ four 32 0 6 0  -- 7: var x; if x == null x = 1 else skip
    ∷ [])

-- `var x; x = x - 1`: a difference of null
abbrev pub less_one : List ℕ
less_one =
    script
    (four 5 0 0 0  -- 0: x
    ∷ four 2 1 0 0  -- 1: 1
    ∷ four 3 0 1 0  -- 2: x - 1
    ∷ four 35 0 2 0  -- 3: x = x - 1
    ∷ four 32 0 3 0  -- 4: var x; x = x - 1
    ∷ [])

-- ---- the entries

-- these bytes and choices: what is told now, and what was told before
abbrev pub both : List ℕ → List ℕ → Shown → Shown → List Tried → List Tried
both img cs now old rest = tried img cs now ∷ begun (null_run img cs) old ∷ rest

unfoldable pub set_entries : List (List Tried)
set_entries =
    -- what stays unset was null, whatever else is set
    both one_set (replicate 3 0)
    (shown (1 ∷ 3 ∷ []) 0 (frame 0 Empty (Int 1) ∷ frame 1 (From 0) Unset ∷ []) [])
    (shown (1 ∷ 3 ∷ []) 0 (frame 0 Empty (Int 1) ∷ frame 1 (From 0) Null ∷ []) [])
    (both one_set (0 ∷ 0 ∷ [])
    (shown (4 ∷ 2 ∷ []) 1 (frame 0 Empty Unset ∷ frame 1 (From 0) Unset ∷ []) [])
    (shown (4 ∷ 2 ∷ []) 1 (frame 0 Empty Null ∷ frame 1 (From 0) Null ∷ []) [])
    [])
    -- a field of a new object is null, as it was
    ∷ both allocated (0 ∷ 0 ∷ [])
    (shown (1 ∷ 2 ∷ []) 0 (frame 0 Empty (Object 0) ∷ []) ((Null ∷ Null ∷ []) ∷ []))
    (shown (1 ∷ 2 ∷ []) 0 (frame 0 Empty (Object 0) ∷ []) ((Null ∷ Null ∷ []) ∷ []))
    []
    -- set before it is read, the runs are one; read before it is set, it was null, up to there they are one
    ∷ both read_beside (replicate 3 0)
    (shown (1 ∷ 3 ∷ []) 0 (frame 0 Empty (Int 1) ∷ []) [])
    (shown (1 ∷ 3 ∷ []) 0 (frame 0 Empty (Int 1) ∷ []) [])
    (both read_beside (0 ∷ 1 ∷ [])
    (shown (2 ∷ 8 ∷ 2 ∷ 1 ∷ []) 3 (frame 0 Empty Unset ∷ []) [])
    (shown (4 ∷ 2 ∷ []) 1 (frame 0 Empty Null ∷ []) [])
    (both read_beside (0 ∷ 1 ∷ 0 ∷ [])
    (shown (2 ∷ 8 ∷ 2 ∷ 1 ∷ []) 3 (frame 0 Empty Unset ∷ []) [])
    (shown (1 ∷ 3 ∷ []) 0 (frame 0 Empty (Int 1) ∷ []) [])
    (both read_beside (0 ∷ [])
    (shown (4 ∷ 1 ∷ []) 3 (frame 0 Empty Unset ∷ []) [])
    (shown (4 ∷ 1 ∷ []) 3 (frame 0 Empty Null ∷ []) [])
    [])))
    -- null was what a test found
    ∷ both asks_null (replicate 3 0)
    (shown (2 ∷ 8 ∷ 0 ∷ 1 ∷ []) 1 (frame 0 Empty Unset ∷ []) [])
    (shown (1 ∷ 3 ∷ []) 0 (frame 0 Empty (Int 1) ∷ []) [])
    []
    -- and what a callee got
    ∷ both (called_with 5 7) (replicate 6 0)
    (shown (2 ∷ 8 ∷ 4 ∷ 3 ∷ []) 2 (frame 0 Empty Unset ∷ frame 1 (From 0) (Proc 1 (From 1)) ∷ []) [])
    (shown (1 ∷ 6 ∷ []) 0 (frame 0 Empty (Int 1) ∷ frame 1 (From 0) (Proc 1 (From 1)) ∷ frame 0 (From 1) Null ∷ []) [])
    []
    -- declared again, it was null again
    ∷ both declared_again (replicate 4 0)
    (shown (2 ∷ 8 ∷ 2 ∷ 3 ∷ []) 1 (frame 0 Empty (Int 1) ∷ frame 0 (From 0) Unset ∷ []) [])
    (shown (1 ∷ 4 ∷ []) 0 (frame 0 Empty (Int 1) ∷ frame 0 (From 0) Null ∷ []) [])
    []
    -- a fault of null was the operation's, at its node
    ∷ both less_one (replicate 2 0)
    (shown (2 ∷ 8 ∷ 0 ∷ 1 ∷ []) 1 (frame 0 Empty Unset ∷ []) [])
    (shown (2 ∷ 1 ∷ 2 ∷ 1 ∷ []) 1 (frame 0 Empty Null ∷ []) [])
    []
    ∷ []

pub set-entries-hold : map (map got) set_entries ≡ map (map want) set_entries
unfolding set_entries got want show parts_of opens null_exec null_machine null_run
set-entries-hold =
    told-so got want set_entries
    (refl  -- stays unset
    also refl  -- a new object
    also refl  -- beside
    also refl  -- a test
    also refl  -- an argument
    also refl  -- declared again
    also refl  -- a difference
    also all_told)
