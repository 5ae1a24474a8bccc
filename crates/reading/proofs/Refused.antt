-- Texts that are refused, each computed from its bytes: number and line. A number in a comment is the row of the worked texts in tests/tests/written.rs. The number behind a text is how many places
-- stand before the wrong one. Assumes nothing.
use mathlib.Core.Path.{refl}
use native.Mathlib.Omega.{arith}
use Rattle.grammar.proofs.Cases.{Refused}
use Rattle.reading.proofs.Worked.{steps, bad, order, unknown, large, early}

-- ---- 23: what can't stand there

-- 8: braces hold two parts
pub braces-of-one : Refused "{skip}" 23 1
unfolding steps
braces-of-one = order "{skip}" 2 (record { tokens = refl; few = omega arith; marks = refl; fed = refl }) refl refl refl

-- 9
pub braces-of-three : Refused "{skip; skip; skip}" 23 1
unfolding steps
braces-of-three = order "{skip; skip; skip}" 4 (record { tokens = refl; few = omega arith; marks = refl; fed = refl }) refl refl refl

-- 11: on the line of the place
pub mixed-braces : Refused "{skip;\nskip || skip}" 23 2
unfolding steps
mixed-braces = order "{skip;\nskip || skip}" 4 (record { tokens = refl; few = omega arith; marks = refl; fed = refl }) refl refl refl

-- 25: a sign belongs to digits
pub two-signs : Refused "X = --1" 23 1
unfolding steps
two-signs = order "X = --1" 2 (record { tokens = refl; few = omega arith; marks = refl; fed = refl }) refl refl refl

-- 26: and stands directly before them
pub sign-and-blank : Refused "X = - 1" 23 1
unfolding steps
sign-and-blank = order "X = - 1" 2 (record { tokens = refl; few = omega arith; marks = refl; fed = refl }) refl refl refl

-- 39: the dot of a left side is bare
pub grouped-left-side : Refused "(X.f) = 1" 23 1
unfolding steps
grouped-left-side = order "(X.f) = 1" 5 (record { tokens = refl; few = omega arith; marks = refl; fed = refl }) refl refl refl

-- 41
pub difference-left-side : Refused "X - Y.f = 1" 23 1
unfolding steps
difference-left-side = order "X - Y.f = 1" 5 (record { tokens = refl; few = omega arith; marks = refl; fed = refl }) refl refl refl

-- 54: a minus behind a bare proc
pub minus-behind-proc : Refused "P = proc Y: skip - 1" 23 1
unfolding steps
minus-behind-proc = order "P = proc Y: skip - 1" 6 (record { tokens = refl; few = omega arith; marks = refl; fed = refl }) refl refl refl

-- 60: an argument behind one
pub argument-behind-proc : Refused "proc Y: skip(1)" 23 1
unfolding steps
argument-behind-proc = order "proc Y: skip(1)" 0 (record { tokens = refl; few = omega arith; marks = refl; fed = refl }) refl refl refl

-- 64: a sign behind one, where a command may begin
pub sign-behind-proc : Refused "while X == proc Y: skip -1(2)" 23 1
unfolding steps
sign-behind-proc = order "while X == proc Y: skip -1(2)" 7 (record { tokens = refl; few = omega arith; marks = refl; fed = refl }) refl refl refl

-- 65: a comparison behind one
pub comparison-behind-proc : Refused "while proc Y: skip == X skip" 23 1
unfolding steps
comparison-behind-proc = order "while proc Y: skip == X skip" 1 (record { tokens = refl; few = omega arith; marks = refl; fed = refl }) refl refl refl

-- a dot behind one
pub dot-behind-proc : Refused "P = proc Y: skip.f" 23 1
unfolding steps
dot-behind-proc = order "P = proc Y: skip.f" 6 (record { tokens = refl; few = omega arith; marks = refl; fed = refl }) refl refl refl

-- a minus behind the outer of two
pub minus-behind-two-procs : Refused "P = proc Y: Q = proc Z: skip - 1" 23 1
unfolding steps
minus-behind-two-procs = order "P = proc Y: Q = proc Z: skip - 1" 11 (record { tokens = refl; few = omega arith; marks = refl; fed = refl }) refl refl refl

-- 70: a test in parentheses
pub grouped-test : Refused "while (true) skip" 23 1
unfolding steps
grouped-test = order "while (true) skip" 2 (record { tokens = refl; few = omega arith; marks = refl; fed = refl }) refl refl refl

-- 82: a word that is reserved and stands nowhere
pub val-nowhere : Refused "X = val" 23 1
unfolding steps
val-nowhere = order "X = val" 2 (record { tokens = refl; few = omega arith; marks = refl; fed = refl }) refl refl refl

-- 85
pub one-bar : Refused "{skip | skip}" 23 1
unfolding steps
one-bar = order "{skip | skip}" 2 (record { tokens = refl; few = omega arith; marks = refl; fed = refl }) refl refl refl

-- 91
pub comparison-for-assignment : Refused "X == 1" 23 1
unfolding steps
comparison-for-assignment = order "X == 1" 1 (record { tokens = refl; few = omega arith; marks = refl; fed = refl }) refl refl refl

-- with a byte 10 between its bytes, `==` is two symbols
pub torn-comparison : Refused "X =\n= 1" 23 2
unfolding steps
torn-comparison = order "X =\n= 1" 2 (record { tokens = refl; few = omega arith; marks = refl; fed = refl }) refl refl refl

-- a field that is not in the list, where no field may stand: 23 before 24
pub field-for-name : Refused "malloc(h)" 23 1
unfolding steps
field-for-name = order "malloc(h)" 2 (record { tokens = refl; few = omega arith; marks = refl; fed = refl }) refl refl refl

-- ---- 23: the end, on the line of the end

-- 2
pub nothing : Refused "" 23 1
unfolding steps
nothing = early "" _ refl (omega arith) refl refl refl

-- 3
pub only-blanks : Refused " \n\n " 23 3
unfolding steps
only-blanks = early " \n\n " _ refl (omega arith) refl refl refl

-- 67: behind a comparison the sign is a difference, and `(2)` begins the command
pub sign-behind-comparison : Refused "while X == Y -1(2)" 23 1
unfolding steps
sign-behind-comparison = early "while X == Y -1(2)" _ refl (omega arith) refl refl refl

-- 72
pub no-else : Refused "if true skip" 23 1
unfolding steps
no-else = early "if true skip" _ refl (omega arith) refl refl refl

-- 90
pub open-brace : Refused "{skip;\n\n" 23 3
unfolding steps
open-brace = early "{skip;\n\n" _ refl (omega arith) refl refl refl

-- ---- 25

-- 31
pub above-32-bits : Refused "X = 2147483648" 25 1
unfolding steps
above-32-bits = large "X = 2147483648" 2 (record { tokens = refl; few = omega arith; marks = refl; fed = refl }) refl refl refl

-- 33
pub below-32-bits : Refused "X = -2147483649" 25 1
unfolding steps
below-32-bits = large "X = -2147483649" 3 (record { tokens = refl; few = omega arith; marks = refl; fed = refl }) refl refl refl

-- 34: behind an operand the minus is no sign of the number
pub not-its-sign : Refused "X = 0 -2147483648" 25 1
unfolding steps
not-its-sign = large "X = 0 -2147483648" 4 (record { tokens = refl; few = omega arith; marks = refl; fed = refl }) refl refl refl

-- a bad byte behind it is not looked at
pub large-before-bad : Refused "X =\n99999999999 #" 25 2
unfolding steps
large-before-bad = large "X =\n99999999999 #" 2 (record { tokens = refl; few = omega arith; marks = refl; fed = refl }) refl refl refl

-- ---- 22

-- 87: a byte that no word goes on with
pub underscore : Refused "X = Y_" 22 1
unfolding steps
underscore = bad "X = Y_" 3 (record { tokens = refl; few = omega arith; marks = refl; fed = refl }) refl

-- 88: a comma is no symbol of a text
pub comma : Refused "X = 1, 2" 22 1
unfolding steps
comma = bad "X = 1, 2" 3 (record { tokens = refl; few = omega arith; marks = refl; fed = refl }) refl

-- a bad byte at its own place, whatever follows
pub bad-before-order : Refused "X = #)" 22 1
unfolding steps
bad-before-order = bad "X = #)" 2 (record { tokens = refl; few = omega arith; marks = refl; fed = refl }) refl

-- ---- 24

-- 45
pub unknown-first : Refused "h = 1" 24 1
unfolding steps
unknown-first = unknown "h = 1" 0 (record { tokens = refl; few = omega arith; marks = refl; fed = refl }) refl refl refl

-- 93: a word runs as far as it can, and is no reserved word then
pub longer-word : Refused "skip1" 24 1
unfolding steps
longer-word = unknown "skip1" 0 (record { tokens = refl; few = omega arith; marks = refl; fed = refl }) refl refl refl

-- 94: `then` is not reserved
pub then-is-a-field : Refused "then.f = 1" 24 1
unfolding steps
then-is-a-field = unknown "then.f = 1" 0 (record { tokens = refl; few = omega arith; marks = refl; fed = refl }) refl refl refl

-- what is behind it is not looked at
pub unknown-before-order : Refused "X =\nh )" 24 2
unfolding steps
unknown-before-order = unknown "X =\nh )" 2 (record { tokens = refl; few = omega arith; marks = refl; fed = refl }) refl refl refl
