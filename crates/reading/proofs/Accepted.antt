-- Texts that are accepted, each computed from its bytes: the number of names, and the nodes. A number in a comment is the row of the worked texts in tests/tests/written.rs. A line of
-- nodes has a tag and three words. Assumes nothing.
use mathlib.Core.Path.{refl}
use mathlib.Core.List.{[], ◌∷◌}
use native.Mathlib.Omega.{arith}
use Rattle.grammar.specs.Nodes.{words}
use Rattle.grammar.proofs.Cases.{Accepts}
use Rattle.reading.proofs.Worked.{steps, accepted}

-- 7
pub two-in-parallel : Accepts "{skip || skip}" 0 (words 37 0 0 0 ∷ words 37 0 0 0 ∷ words 41 0 1 0 ∷ [])
unfolding steps
two-in-parallel = accepted "{skip || skip}" _ _ refl (omega arith) refl refl (omega arith)

-- 13: the body of var is one command
pub var-in-sequence : Accepts "{var X; X = 1; X = 2}" 1 (words 2 1 0 0 ∷ words 35 0 0 0 ∷ words 32 0 1 0 ∷ words 2 2 0 0 ∷ words 35 0 3 0 ∷ words 38 2 4 0 ∷ [])
unfolding steps
var-in-sequence = accepted "{var X; X = 1; X = 2}" _ _ refl (omega arith) refl refl (omega arith)

-- 17
pub grouped-right : Accepts "X = 1 - (2 - 3)" 1 (words 2 1 0 0 ∷ words 2 2 0 0 ∷ words 2 3 0 0 ∷ words 3 1 2 0 ∷ words 3 0 3 0 ∷ words 35 0 4 0 ∷ [])
unfolding steps
grouped-right = accepted "X = 1 - (2 - 3)" _ _ refl (omega arith) refl refl (omega arith)

-- 19
pub dot-first : Accepts "X = Y - Z.f" 3 (words 5 1 0 0 ∷ words 5 2 0 0 ∷ words 1 1 0 0 ∷ words 6 1 2 0 ∷ words 3 0 3 0 ∷ words 35 0 4 0 ∷ [])
unfolding steps
dot-first = accepted "X = Y - Z.f" _ _ refl (omega arith) refl refl (omega arith)

-- 28
pub minus-zero : Accepts "X = -0" 1 (words 2 0 0 0 ∷ words 35 0 0 0 ∷ [])
unfolding steps
minus-zero = accepted "X = -0" _ _ refl (omega arith) refl refl (omega arith)

-- 30
pub largest : Accepts "X = 2147483647" 1 (words 2 65535 32767 0 ∷ words 35 0 0 0 ∷ [])
unfolding steps
largest = accepted "X = 2147483647" _ _ refl (omega arith) refl refl (omega arith)

-- 32
pub smallest : Accepts "X = -2147483648" 1 (words 2 0 32768 0 ∷ words 35 0 0 0 ∷ [])
unfolding steps
smallest = accepted "X = -2147483648" _ _ refl (omega arith) refl refl (omega arith)

-- 36
pub two-dots : Accepts "X.f.g = 1" 1 (words 5 0 0 0 ∷ words 1 1 0 0 ∷ words 6 0 1 0 ∷ words 1 2 0 0 ∷ words 2 1 0 0 ∷ words 36 2 3 4 ∷ [])
unfolding steps
two-dots = accepted "X.f.g = 1" _ _ refl (omega arith) refl refl (omega arith)

-- 49: the whole difference is called
pub called-difference : Accepts "X - 1(3)" 1 (words 5 0 0 0 ∷ words 2 1 0 0 ∷ words 3 0 1 0 ∷ words 2 3 0 0 ∷ words 33 2 3 0 ∷ [])
unfolding steps
called-difference = accepted "X - 1(3)" _ _ refl (omega arith) refl refl (omega arith)

-- 53: the body reaches as far as it can
pub long-body : Accepts "P = proc Y: X = 1 - 2" 3 (words 2 1 0 0 ∷ words 2 2 0 0 ∷ words 3 0 1 0 ∷ words 35 2 2 0 ∷ words 7 1 3 0 ∷ words 35 0 4 0 ∷ [])
unfolding steps
long-body = accepted "P = proc Y: X = 1 - 2" _ _ refl (omega arith) refl refl (omega arith)

-- 58
pub proc-at-the-end : Accepts "P = 1 - X.proc Y: skip" 3 (words 2 1 0 0 ∷ words 5 1 0 0 ∷ words 37 0 0 0 ∷ words 7 2 2 0 ∷ words 6 1 3 0 ∷ words 3 0 4 0 ∷ words 35 0 5 0 ∷ [])
unfolding steps
proc-at-the-end = accepted "P = 1 - X.proc Y: skip" _ _ refl (omega arith) refl refl (omega arith)

-- 59: `=` may follow a bare proc
pub proc-for-field : Accepts "X.proc Y: skip = 3" 2 (words 5 0 0 0 ∷ words 37 0 0 0 ∷ words 7 1 1 0 ∷ words 2 3 0 0 ∷ words 36 0 2 3 ∷ [])
unfolding steps
proc-for-field = accepted "X.proc Y: skip = 3" _ _ refl (omega arith) refl refl (omega arith)

-- 63: a group behind a bare proc begins the command
pub group-behind-proc : Accepts "while X == proc Y: skip (P)(1)" 3 (words 5 0 0 0 ∷ words 37 0 0 0 ∷ words 7 1 1 0 ∷ words 18 0 2 0 ∷ words 5 2 0 0 ∷ words 2 1 0 0 ∷ words 33 4 5 0 ∷ words 39 3 6 0 ∷ [])
unfolding steps
group-behind-proc = accepted "while X == proc Y: skip (P)(1)" _ _ refl (omega arith) refl refl (omega arith)

-- 66: no operand has ended
pub sign-behind-true : Accepts "while true -1(2)" 0 (words 16 0 0 0 ∷ words 2 65535 65535 0 ∷ words 2 2 0 0 ∷ words 33 1 2 0 ∷ words 39 0 3 0 ∷ [])
unfolding steps
sign-behind-true = accepted "while true -1(2)" _ _ refl (omega arith) refl refl (omega arith)

-- 67 with its argument
pub difference-behind-comparison : Accepts "while X == Y -1(2)(3)" 2 (words 5 0 0 0 ∷ words 5 1 0 0 ∷ words 2 1 0 0 ∷ words 3 1 2 0 ∷ words 18 0 3 0 ∷ words 2 2 0 0 ∷ words 2 3 0 0 ∷ words 33 5 6 0 ∷ words 39 4 7 0 ∷ [])
unfolding steps
difference-behind-comparison = accepted "while X == Y -1(2)(3)" _ _ refl (omega arith) refl refl (omega arith)

-- 71
pub else-if : Accepts "if X < 1 skip else if true skip else skip" 1 (words 5 0 0 0 ∷ words 2 1 0 0 ∷ words 19 0 1 0 ∷ words 37 0 0 0 ∷ words 16 0 0 0 ∷ words 37 0 0 0 ∷ words 37 0 0 0 ∷ words 40 4 5 6 ∷ words 40 2 3 7 ∷ [])
unfolding steps
else-if = accepted "if X < 1 skip else if true skip else skip" _ _ refl (omega arith) refl refl (omega arith)

-- 95: names by first appearance, not by declaration
pub names-in-order : Accepts "{X = 1; {Y = X || Z = Y}}" 3 (words 2 1 0 0 ∷ words 35 0 0 0 ∷ words 5 0 0 0 ∷ words 35 1 2 0 ∷ words 5 1 0 0 ∷ words 35 2 4 0 ∷ words 41 3 5 0 ∷ words 38 1 6 0 ∷ [])
unfolding steps
names-in-order = accepted "{X = 1; {Y = X || Z = Y}}" _ _ refl (omega arith) refl refl (omega arith)

-- all four blanks
pub four-blanks : Accepts "\tmalloc\r\n(Z9z) " 1 (words 34 0 0 0 ∷ [])
unfolding steps
four-blanks = accepted "\tmalloc\r\n(Z9z) " _ _ refl (omega arith) refl refl (omega arith)

-- the other reserved words
pub other-words : Accepts "atom(if false X = null else skip)" 1 (words 17 0 0 0 ∷ words 4 0 0 0 ∷ words 35 0 1 0 ∷ words 37 0 0 0 ∷ words 40 0 2 3 ∷ words 42 4 0 0 ∷ [])
unfolding steps
other-words = accepted "atom(if false X = null else skip)" _ _ refl (omega arith) refl refl (omega arith)
