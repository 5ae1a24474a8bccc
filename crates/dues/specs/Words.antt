-- What is due, in words: each thing due has a number, with its tag and its name above it, and zero is none of them. What a token does, as the
-- code answers it, is read back from its answer and compared with the table of `reading`. Assumes nothing.
use Rattle.std.specs.Prelude.{ℕ, ◌+◌, ◌*◌, ◌/◌, ◌%◌, ◌<◌, ◌≡◌, List, [], ◌∷◌, ◌++◌, map, get_or, take as first_of, Option, Some, None}
use Rattle.std.proofs.Math.Option.{Option as Maybe, none, some}
use Rattle.reading.specs.Items.{Item, put}
use Rattle.reading.specs.Table.{Due, command, body, var_name, var_semi, malloc_open, malloc_name, atom_open, middle, shut, otherwise, close, close_node, node, test, test_left, test_minus, operand, negative, name_first, first, first_dot, first_dotted, first_minus, becomes_due, expression, sel, sel_dot, after_minus, sel_minus, sel_minus_dot, proc_name, proc_colon, Act, take, pass, refuse, does}
use Rattle.dues.specs.declared.Made.{Made}
use Rattle.dues.specs.declared.Dues.{Dues}
use Rattle.dues.specs.declared.Deed.{Deed}
use Rattle.dues.specs.declared.Deed.TheVariants.{Take, Pass, Refuse}

-- ---- the word of a thing due: number + 64 * tag + 4096 * name

unfoldable pub due_word : Due → ℕ
due_word command = 1
due_word body = 2
due_word var_name = 3
due_word (var_semi x) = 4 + 4096 * x
due_word malloc_open = 5
due_word malloc_name = 6
due_word atom_open = 7
due_word middle = 8
due_word (shut t) = 9 + 64 * t
due_word otherwise = 10
due_word close = 11
due_word (close_node t x) = 12 + 64 * t + 4096 * x
due_word (node t x) = 13 + 64 * t + 4096 * x
due_word test = 14
due_word test_left = 15
due_word test_minus = 16
due_word operand = 17
due_word negative = 18
due_word (name_first x) = 19 + 4096 * x
due_word first = 20
due_word first_dot = 21
due_word first_dotted = 22
due_word first_minus = 23
due_word becomes_due = 24
due_word expression = 25
due_word sel = 26
due_word sel_dot = 27
due_word after_minus = 28
due_word sel_minus = 29
due_word sel_minus_dot = 30
due_word proc_name = 31
due_word (proc_colon x) = 32 + 4096 * x

-- ---- and back: of its number, tag and name

pub data Maker : Type 0 where
  nothing : Maker
  makes : (ℕ → ℕ → Due) → Maker

-- number 0 is nothing; the others in order
unfoldable pub things : List Maker
things =
    nothing
    ∷ makes (λ t x. command)
    ∷ makes (λ t x. body)
    ∷ makes (λ t x. var_name)
    ∷ makes (λ t x. var_semi x)
    ∷ makes (λ t x. malloc_open)
    ∷ makes (λ t x. malloc_name)
    ∷ makes (λ t x. atom_open)
    ∷ makes (λ t x. middle)
    ∷ makes (λ t x. shut t)
    ∷ makes (λ t x. otherwise)
    ∷ makes (λ t x. close)
    ∷ makes (λ t x. close_node t x)
    ∷ makes (λ t x. node t x)
    ∷ makes (λ t x. test)
    ∷ makes (λ t x. test_left)
    ∷ makes (λ t x. test_minus)
    ∷ makes (λ t x. operand)
    ∷ makes (λ t x. negative)
    ∷ makes (λ t x. name_first x)
    ∷ makes (λ t x. first)
    ∷ makes (λ t x. first_dot)
    ∷ makes (λ t x. first_dotted)
    ∷ makes (λ t x. first_minus)
    ∷ makes (λ t x. becomes_due)
    ∷ makes (λ t x. expression)
    ∷ makes (λ t x. sel)
    ∷ makes (λ t x. sel_dot)
    ∷ makes (λ t x. after_minus)
    ∷ makes (λ t x. sel_minus)
    ∷ makes (λ t x. sel_minus_dot)
    ∷ makes (λ t x. proc_name)
    ∷ makes (λ t x. proc_colon x)
    ∷ []

abbrev pub made_by : Maker → ℕ → ℕ → Maybe Due
made_by nothing t x = none
made_by (makes f) t x = some (f t x)

unfoldable pub due_by : ℕ → ℕ → ℕ → Maybe Due
due_by n t x = made_by (get_or things n nothing) t x

unfoldable pub due_of : ℕ → Maybe Due
due_of w = due_by (w % 64) (w / 64 % 64) (w / 4096)

-- ---- an answer of the code

abbrev pub made_items : Option Made → List Item
made_items None = []
made_items (Some m) = put m.tag m.value ∷ []

abbrev pub due_words : Dues → List ℕ
due_words d = first_of d.count (d.a ∷ d.b ∷ d.c ∷ d.d ∷ [])

-- what a token does, with what is due in words
pub data WordAct : Type 0 where
  taken : List ℕ → List Item → WordAct
  passed : List Item → WordAct
  refused : WordAct

abbrev pub deed_of : Deed → WordAct
deed_of (Take d m) = taken (due_words d) (made_items m)
deed_of (Pass m) = passed (made_items m)
deed_of Refuse = refused

abbrev pub in_words : Act → WordAct
in_words (take ds is) = taken (map due_word ds) is
in_words (pass is) = passed is
in_words refuse = refused

-- what a token does to a thing due that is given by its number, tag and name; nothing takes a token
abbrev pub done_to : Maybe Due → ℕ → ℕ → WordAct
done_to none k v = refused
done_to (some d) k v = in_words (does d k v)

-- a node comes out first
abbrev pub with_items : List Item → WordAct → WordAct
with_items is (taken ds js) = taken ds (is ++ js)
with_items is (passed js) = passed (is ++ js)
with_items is refused = refused

-- the value of a name is small enough for its place in a word
abbrev pub NameFits : ℕ → ℕ → Type 0
NameFits k v = k ≡ 1 → v < 128
