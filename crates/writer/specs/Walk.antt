-- What the way through the nodes writes: the tokens of a node's tree, with names made up by their numbers, and with these words for the fields. Assumes nothing.
use Rattle.std.specs.Prelude.{ℕ, ◌+◌, ◌*◌, ◌<◌, ◌≤◌, ◌≡◌, Bool, List, [], ◌∷◌}
use Rattle.std.proofs.Math.Option.{some}
use Rattle.laws.specs.UpTo.{up_to}
use Rattle.rules.specs.declared.Node.{Node}
use Rattle.rules.specs.declared.Kind.TheVariants.{Exp as an_exp, Test as a_test}
use Rattle.rules.specs.Image.{nodes_of, names_of, fields_of, node_at, tree_at, kind_of}
use Rattle.grammar.specs.Tokens.{field_name}
use Rattle.writing.specs.WriteTokens.{write_int}
use Rattle.writing.specs.Spell.{made_up}
use Rattle.pen.specs.Draws.{Writes}
use Rattle.pen.specs.declared.Pen.{Pen}
use Rattle.writer.specs.declared.forms.How.{How}
use Rattle.writer.specs.declared.forms.How.TheVariants.{Nothing, Name, Field, Whole, Left, LeftOfDot, Right, RightOfDot, Callee, Target, Behind}
use Rattle.writer.specs.Forms.{write_tree, word_tokens, child}

-- an integer has neither names nor fields
pub record WritesInt (b : ℕ) (p r : Pen) : Type 0 where
  pub says : (names fields : List (List ℕ)) → Writes names fields (write_int b) p r

-- a field has no names
pub record WritesField (words : List (List ℕ)) (f : ℕ) (p r : Pen) : Type 0 where
  pub says : (names : List (List ℕ)) → Writes names words (field_name f ∷ []) p r

-- ---- a node, and its words

abbrev pub names_for : List ℕ → List (List ℕ)
names_for img = up_to made_up (names_of img)

module _ (img : List ℕ) (words : List (List ℕ)) where
  pub record WritesNode (n : ℕ) (f : Bool) (p r : Pen) : Type 0 where
    pub says : Writes (names_for img) words (write_tree (tree_at (node_at img) n) f) p r

  pub record WritesChild (how : How) (w : ℕ) (f : Bool) (p r : Pen) : Type 0 where
    pub says : Writes (names_for img) words (child (tree_at (node_at img)) how w f) p r

  pub record WritesWord (how : How) (w : ℕ) (f : Bool) (p r : Pen) : Type 0 where
    pub says : Writes (names_for img) words (word_tokens (tree_at (node_at img)) how w f) p r

-- ---- what a word has to be to be written so

abbrev pub IsExp : List ℕ → ℕ → Type 0
IsExp img w = (w < nodes_of img) × (kind_of (node_at img w).tag ≡ some an_exp)

abbrev pub WordFits : List ℕ → How → ℕ → Type 0
WordFits img Nothing w = Unit {0}
WordFits img Name w = w < names_of img
WordFits img Field w = (1 ≤ w) × (w ≤ fields_of img)
WordFits img Whole w = w < nodes_of img
WordFits img Left w = IsExp img w
WordFits img LeftOfDot w = IsExp img w
WordFits img Right w = IsExp img w
WordFits img RightOfDot w = IsExp img w
WordFits img Callee w = IsExp img w
WordFits img Target w = IsExp img w
WordFits img Behind w = w < nodes_of img

abbrev pub ChildFits : List ℕ → How → ℕ → Type 0
ChildFits img Nothing w = w < nodes_of img
ChildFits img Name w = w < nodes_of img
ChildFits img Field w = w < nodes_of img
ChildFits img Whole w = w < nodes_of img
ChildFits img Left w = IsExp img w
ChildFits img LeftOfDot w = IsExp img w
ChildFits img Right w = IsExp img w
ChildFits img RightOfDot w = IsExp img w
ChildFits img Callee w = IsExp img w
ChildFits img Target w = IsExp img w
ChildFits img Behind w = w < nodes_of img

-- what a while or an if tests is a test
pub record HasTest (img : List ℕ) (x : Node) : Type 0 where
  pub inside : 39 ≤ x.tag → x.tag < 41 → x.a < nodes_of img
  pub kind : 39 ≤ x.tag → x.tag < 41 → kind_of (node_at img x.a).tag ≡ some a_test

-- ---- the measures of the way down: a node's words, their children, the child's node

abbrev pub word_weight : How → ℕ → ℕ
word_weight Nothing w = 0
word_weight Name w = 0
word_weight Field w = 0
word_weight Whole w = 3 * w + 3
word_weight Left w = 3 * w + 3
word_weight LeftOfDot w = 3 * w + 3
word_weight Right w = 3 * w + 3
word_weight RightOfDot w = 3 * w + 3
word_weight Callee w = 3 * w + 3
word_weight Target w = 3 * w + 3
word_weight Behind w = 3 * w + 3
