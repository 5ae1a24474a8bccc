-- The stack of what is due, in the first words of a lent list: the top is the last of them. Assumes nothing.
use Rattle.std.specs.Prelude.{ℕ, zero, suc, ◌+◌, ◌<◌, ◌≤◌, ◌≡◌, List, [], ◌∷◌, ◌++◌, map, length, get_or, drop}
use Rattle.reading.specs.Items.{Item, put}
use Rattle.reading.specs.Table.{Due, command, body, var_name, var_semi, malloc_open, malloc_name, atom_open, middle, shut, otherwise, close, close_node, node, test, test_left, test_minus, operand, negative, name_first, first, first_dot, first_dotted, first_minus, becomes_due, expression, sel, sel_dot, after_minus, sel_minus, sel_minus_dot, proc_name, proc_colon, take, pass, does, feed, stuck}
use Rattle.std.specs.Prelude.{Option, Some, None}
use Rattle.dues.specs.Words.{due_word}

-- a tag from 1 on, and a name, that have room in a word
abbrev pub TagFits : ℕ → Type 0
TagFits t = (0 < t) × (t < 64)

abbrev pub DueFits : Due → Type 0
DueFits command = Unit {0}
DueFits body = Unit {0}
DueFits var_name = Unit {0}
DueFits (var_semi x) = x < 128
DueFits malloc_open = Unit {0}
DueFits malloc_name = Unit {0}
DueFits atom_open = Unit {0}
DueFits middle = Unit {0}
DueFits (shut t) = TagFits t
DueFits otherwise = Unit {0}
DueFits close = Unit {0}
DueFits (close_node t x) = TagFits t × (x < 128)
DueFits (node t x) = TagFits t × (x < 128)
DueFits test = Unit {0}
DueFits test_left = Unit {0}
DueFits test_minus = Unit {0}
DueFits operand = Unit {0}
DueFits negative = Unit {0}
DueFits (name_first x) = x < 128
DueFits first = Unit {0}
DueFits first_dot = Unit {0}
DueFits first_dotted = Unit {0}
DueFits first_minus = Unit {0}
DueFits becomes_due = Unit {0}
DueFits expression = Unit {0}
DueFits sel = Unit {0}
DueFits sel_dot = Unit {0}
DueFits after_minus = Unit {0}
DueFits sel_minus = Unit {0}
DueFits sel_minus_dot = Unit {0}
DueFits proc_name = Unit {0}
DueFits (proc_colon x) = x < 128

abbrev pub AllFit : List Due → Type 0
AllFit [] = Unit {0}
AllFit (d ∷ ds) = DueFits d × AllFit ds

-- a word that stands for a thing due
pub record IsDue (w : ℕ) : Type 0 where
  pub due : Due
  pub fits : DueFits due
  pub is : w ≡ due_word due

-- the words of the stack, top first
unfoldable pub stack_of : ℕ → List ℕ → List ℕ
stack_of zero ws = []
stack_of (suc n) ws = get_or ws n 0 ∷ stack_of n ws

pub record Stacked (ds : List Due) (depth : ℕ) (ws : List ℕ) : Type 0 where
  pub is : stack_of depth ws ≡ map due_word ds
  pub fit : AllFit ds
  pub inside : depth ≤ length ws

-- some things are due
pub record Standing (depth : ℕ) (ws : List ℕ) : Type 0 where
  pub dues : List Due
  pub stacked : Stacked dues depth ws

-- ---- what a token passes

-- the node that comes out where nothing is due here any more
unfoldable pub passing : Due → List Item
passing command = []
passing body = []
passing var_name = []
passing (var_semi x) = []
passing malloc_open = []
passing malloc_name = []
passing atom_open = []
passing middle = []
passing (shut t) = []
passing otherwise = []
passing close = []
passing (close_node t x) = []
passing (node t x) = put t x ∷ []
passing test = []
passing test_left = []
passing test_minus = []
passing operand = []
passing negative = []
passing (name_first x) = []
passing first = []
passing first_dot = []
passing first_dotted = []
passing first_minus = []
passing becomes_due = []
passing expression = []
passing sel = []
passing sel_dot = []
passing after_minus = []
passing sel_minus = put 3 0 ∷ []
passing sel_minus_dot = []
passing proc_name = []
passing (proc_colon x) = []

-- a token of kind k passes these, whatever its value
abbrev pub PassesAll : List Due → ℕ → Type 0
PassesAll [] k = Unit {0}
PassesAll (d ∷ ds) k = ((v : ℕ) → does d k v ≡ pass (passing d)) × PassesAll ds k

unfoldable pub passed_items : List Due → List Item
passed_items [] = []
passed_items (d ∷ ds) = passing d ++ passed_items ds

-- the token of kind k gets as far as the last n things due
pub record Reaches (ds : List Due) (k n : ℕ) : Type 0 where
  pub above : List Due
  pub left : List Due
  pub split : ds ≡ above ++ left
  pub count : length left ≡ n
  pub passes : PassesAll above k

-- and is taken there, by d
pub record TakenBy (ds : List Due) (k n : ℕ) : Type 0 where
  pub above : List Due
  pub taker : Due
  pub left : List Due
  pub split : ds ≡ above ++ (taker ∷ left)
  pub count : length left ≡ n
  pub passes : PassesAll above k
  pub instead : List Due
  pub nodes : List Item
  pub takes : does taker k 0 ≡ take instead nodes

-- what the code answers: the place in the stack of what takes a token of kind k; or nothing takes it
abbrev pub TakerSays : List Due → ℕ → Option ℕ → Type 0
TakerSays ds k (Some n) = TakenBy ds k n
TakerSays ds k None = (is : List Item) → feed ds k 0 is ≡ stuck

-- ---- things put on the stack: vs, top first, on the n that were there; what is past them stays
pub record Piled (vs : List ℕ) (n m : ℕ) (entry exit : List ℕ) : Type 0 where
  pub stack : stack_of m exit ≡ vs ++ stack_of n entry
  pub count : m ≡ length vs + n
  pub same_length : length exit ≡ length entry
  pub past : drop m exit ≡ drop m entry
