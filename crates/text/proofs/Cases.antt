-- The definitions of text, computed: numbers, lines, pieces of a line; and what each field of `Wrote` and of `Line` says,
-- on a buffer of four bytes, and what `Adds` says of a page. So none of them can change with the code that writes. Assumes nothing.
use Prim.Native.Nat.{ℕ, ◌+◌, ◌≤◌}
use mathlib.Core.Path.{◌≡◌, refl, ap, ◌∙◌}
use mathlib.Core.List.{List, [], ◌∷◌}
use native.Mathlib.Omega.{arith}
use lib.IntN.{pos, negsuc}
use lib.ListN.{length, take, drop}
use lib.Seq.{sets}
use Rattle.text.specs.Ascii.{ascii}
use Rattle.text.specs.Text.{digit_count_by, digit_count, decimal, signed, further, line, pair, last}
use Rattle.text.specs.declared.Page.{Page}
use Rattle.text.specs.Written.{Wrote, Line, HasRoom, Adds}

-- ---- numbers

pub ascii-bytes : ascii "a 0-\n" ≡ (97 ∷ 32 ∷ 48 ∷ 45 ∷ 10 ∷ [])
ascii-bytes = refl

pub digit-counts : (digit_count 0 ∷ digit_count 9 ∷ digit_count 10 ∷ digit_count 99 ∷ digit_count 100 ∷ digit_count 4294967295 ∷ []) ≡ (1 ∷ 1 ∷ 2 ∷ 2 ∷ 3 ∷ 10 ∷ [])
unfolding digit_count_by digit_count
digit-counts = refl

pub decimals
    : (decimal 0 ∷ decimal 9 ∷ decimal 10 ∷ decimal 102 ∷ decimal 4294967295 ∷ decimal 18446744073709551615 ∷ decimal 1000000000000000000000000 ∷ [])
    ≡ (ascii "0"
    ∷ ascii "9"
    ∷ ascii "10"
    ∷ ascii "102"
    ∷ ascii "4294967295"
    ∷ ascii "18446744073709551615"
    ∷ ascii "1000000000000000000000000"
    ∷ [])
unfolding digit_count_by digit_count decimal
decimals = refl

pub signed-decimals
    : (signed (pos 0) ∷ signed (pos 2147483647) ∷ signed (negsuc 0) ∷ signed (negsuc 2147483647) ∷ [])
    ≡ (ascii "0" ∷ ascii "2147483647" ∷ ascii "-1" ∷ ascii "-2147483648" ∷ [])
unfolding digit_count_by digit_count decimal signed
signed-decimals = refl

-- ---- lines and their pieces

pub lines
    : (line [] ∷ line (ascii "a" ∷ []) ∷ line (ascii "a" ∷ ascii "bc" ∷ ascii "d" ∷ []) ∷ further [] ∷ further (ascii "a" ∷ ascii "b" ∷ []) ∷ [])
    ≡ (ascii "\n" ∷ ascii "a\n" ∷ ascii "a bc d\n" ∷ ascii "\n" ∷ ascii " a b\n" ∷ [])
unfolding further line
lines = refl

pub pieces : (pair (ascii "node") 12 ∷ pair [] 7 ∷ last (ascii "steps") 40 ∷ []) ≡ (ascii "node 12" ∷ ascii " 7" ∷ ascii "steps 40\n" ∷ [])
unfolding digit_count_by digit_count decimal
pieces = refl

-- ---- what is written

abbrev four : List ℕ
four = 1 ∷ 2 ∷ 3 ∷ 4 ∷ []

-- 8 and 9 from index 1 on: two bytes, and room for two is enough
pub wrote-is : (most r : ℕ) (after : List ℕ) → Wrote most four 1 (8 ∷ 9 ∷ []) r after → (after ≡ (1 ∷ 8 ∷ 9 ∷ 4 ∷ [])) × (r ≡ 3) × (2 ≤ most)
wrote-is most r after w = (w.is, w.next, w.few)

pub wrote-there : Wrote 2 four 1 (8 ∷ 9 ∷ []) 3 (1 ∷ 8 ∷ 9 ∷ 4 ∷ [])
wrote-there = record { is = refl; next = refl; few = omega arith }

-- the same from the start; what stood behind stands
pub line-is : (most r : ℕ) (after : List ℕ) → Line most (8 ∷ 9 ∷ []) four r after → (after ≡ (8 ∷ 9 ∷ 3 ∷ 4 ∷ [])) × (r ≡ 2) × (2 ≤ most)
line-is most r after w = (w.is ∙ ap (λ (n : ℕ). 8 ∷ 9 ∷ drop n four) w.long, w.long, w.few)

pub line-there : Line 2 (8 ∷ 9 ∷ []) four 2 (8 ∷ 9 ∷ 3 ∷ 4 ∷ [])
line-there = record { is = refl; long = refl; few = omega arith; front = refl; counts = (omega arith, refl) }

-- the front of the buffer, as it is written out, is the text and lies within it
pub line-front : (most r : ℕ) (text before after : List ℕ) → Line most text before r after → (take r after ≡ text) × (r ≤ length after) × (r ≡ length (take r after))
line-front most r text before after w = (w.front, w.counts.0, w.counts.1)

-- a page gains the text behind what it had, and stands in the same bytes
pub adds-is : (most : ℕ) (text : List ℕ) (p q : Page) → Adds most p text q
    → (q.bytes.now ≡ sets p.bytes.now p.used text) × (q.used ≡ p.used + length text) × (length text ≤ most) × (q.bytes.ghost_name ≡ p.bytes.ghost_name)
adds-is most text p q a = (a.wrote.is, a.wrote.next, a.wrote.few, a.lent)

pub room-is : (most : ℕ) (p : Page) → HasRoom most p → p.used + most ≤ length p.bytes.now
room-is most p h = h
