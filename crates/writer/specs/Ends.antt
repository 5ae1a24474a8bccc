-- What parentheses ask of an expression, for each node: whether it ends in a bare proc, and whether it begins with a sign. The code asks its
-- children once, from node 0 upward. That a question to these and a tag is one to the tree is shown in proofs/EndLaws. Assumes nothing.
use Rattle.std.specs.Prelude.{ℕ, ◌<◌, ◌≤◌, ◌≡◌, Bool, false, not, ◌&&◌, ◌||◌, List, eqb, length, get_or}
use Rattle.rules.specs.Image.{Tree, is_none, is_exp, is_test, is_cmd, nodes_of, node_at, tree_at}
use Rattle.writing.specs.WriteTokens.{opens_left}
use Rattle.writing.proofs.SignFirst.{sign_of}
use Rattle.writer.specs.declared.ends.Edges.{Edges}
use Rattle.writer.specs.declared.forms.How.{How}
use Rattle.writer.specs.declared.forms.How.TheVariants.{Nothing, Name, Field, Whole, Left, LeftOfDot, Right, RightOfDot, Callee, Target, Behind}

abbrev pub edges : Bool → Bool → Edges
edges b s = record { bare = b; signed = s }

unfoldable pub ends_of : Tree → Edges
ends_of is_none = edges false false
ends_of (is_exp e) = edges (opens_left e) (sign_of e)
ends_of (is_test t) = edges false false
ends_of (is_cmd c) = edges false false

-- those of the nodes below m
pub record EndsTo (img : List ℕ) (m : ℕ) (ends : List Edges) : Type 0 where
  pub long : nodes_of img ≤ length ends
  pub is : (k : ℕ) → k < m → get_or ends k (edges false false) ≡ ends_of (tree_at (node_at img) k)

abbrev pub Ends : List ℕ → List Edges → Type 0
Ends img ends = EndsTo img (nodes_of img) ends

-- ---- questions to these and a tag; 3 is a difference, 6 a selection

abbrev pub asks_by : How → ℕ → Edges → Bool → Bool
asks_by Nothing tag v f = false
asks_by Name tag v f = false
asks_by Field tag v f = false
asks_by Whole tag v f = false
asks_by Left tag v f = v.bare
asks_by LeftOfDot tag v f = eqb tag 3 || v.bare
asks_by Right tag v f = eqb tag 3
asks_by RightOfDot tag v f = eqb tag 3 || eqb tag 6
asks_by Callee tag v f = v.bare || (f && v.signed)
asks_by Target tag v f = (eqb tag 3 || v.bare) || (f && v.signed)
asks_by Behind tag v f = false

-- ---- a difference or a selection, of the parentheses and edges of its two sides

abbrev pub joins : Bool → Edges → Bool → Edges → Edges
joins p v q u = edges (not q && u.bare) (not p && v.signed)
