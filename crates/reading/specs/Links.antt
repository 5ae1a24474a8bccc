-- From items to nodes with no stack: items come children first, so the last child of a node stands directly before it, and the child before a
-- child directly before that child's first node. So it is enough to know the first node of every node so far. The words of a tag are the base's rows,
-- filled from the last to the first. That linking the items of a tree gives its table is shown in proofs/Links. Assumes nothing.
use Rattle.std.specs.Prelude.{ℕ, ◌-◌, ◌/◌, ◌%◌, List, [], ◌∷◌, ◌++◌, length, get_or}
use Rattle.std.proofs.Math.Option.{Option, none, some}
use Rattle.rules.specs.declared.Node.{Node}
use Rattle.rules.specs.declared.Role.{Role}
use Rattle.rules.specs.declared.Role.TheVariants.{Unused, Index, Half, Uses, Binds, Child}
use Rattle.rules.specs.declared.Row.{Row}
use Rattle.rules.specs.Image.{row_of}
use Rattle.grammar.specs.Nodes.{words}
use Rattle.reading.specs.Items.{Item, put}

-- ---- a word, with its half of the value and the end of the nodes that are not yet a child of this one

abbrev pub word_by : Role → ℕ → ℕ → ℕ
word_by Unused v e = 0
word_by Index v e = v
word_by Half v e = v
word_by Uses v e = v
word_by Binds v e = v
word_by (Child k) v e = e - 1

-- where they end once this word is filled: a child takes the nodes from its first one on
abbrev pub back : List ℕ → Role → ℕ → ℕ
back firsts Unused e = e
back firsts Index e = e
back firsts Half e = e
back firsts Uses e = e
back firsts Binds e = e
back firsts (Child k) e = get_or firsts (e - 1) 0

-- ---- a node: m nodes stand before it

unfoldable pub linked_by : ℕ → List ℕ → ℕ → ℕ → Option Row → Node
linked_by m firsts t v none = words t 0 0 0
linked_by m firsts t v (some r) =
    words t
    (word_by r.a (v % 65536) (back firsts r.b (back firsts r.c m)))
    (word_by r.b (v / 65536) (back firsts r.c m))
    (word_by r.c 0 m)

unfoldable pub linked : ℕ → List ℕ → Item → Node
linked m firsts (put t v) = linked_by m firsts t v (row_of t)

-- and the first node of its tree
unfoldable pub first_by : ℕ → List ℕ → Option Row → ℕ
first_by m firsts none = m
first_by m firsts (some r) = back firsts r.a (back firsts r.b (back firsts r.c m))

unfoldable pub first_of : ℕ → List ℕ → Item → ℕ
first_of m firsts (put t v) = first_by m firsts (row_of t)

-- ---- the items one after the other

pub data Chained : Type 0 where
  chained : List Node → List ℕ → Chained  -- the nodes, and the first node of each one's tree

abbrev pub nodes_in : Chained → List Node
nodes_in (chained nodes firsts) = nodes

abbrev pub firsts_in : Chained → List ℕ
firsts_in (chained nodes firsts) = firsts

unfoldable pub link_on : Item → Chained → Chained
link_on i (chained nodes firsts) =
    chained
    (nodes ++ (linked (length nodes) firsts i ∷ []))
    (firsts ++ (first_of (length nodes) firsts i ∷ []))

unfoldable pub link_from : List Item → Chained → Chained
link_from [] s = s
link_from (i ∷ is) s = link_from is (link_on i s)

unfoldable pub link : List Item → Chained
link is = link_from is (chained [] [])
