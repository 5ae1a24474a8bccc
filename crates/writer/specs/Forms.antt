-- How a node is written, by its tag: the clauses of `write_exp`, `write_test` and `write_behind` as a table. That the table writes what they do is shown in
-- proofs/FormLaws. Assumes nothing.
use Rattle.std.specs.Prelude.{ℕ, zero, suc, Option, Some, None, Bool, true, false, cond, ◌||◌, List, [], ◌∷◌, ◌++◌, eqb}
use Rattle.rules.specs.Syntax.{Exp}
use Rattle.rules.specs.Image.{Tree, is_none, is_exp, is_test, is_cmd, exp_in}
use Rattle.rules.specs.declared.Node.{Node}
use Rattle.grammar.specs.Tokens.{Tok, name, field_name}
use Rattle.grammar.specs.Grammar.{Ended, an_operand, no_operand}
use Rattle.writing.specs.WriteTokens.{top_of, is_difference, not_dotted, grouped, opens_left, opens_dot, signed, ended_by, write_exp, write_test, write_behind}
use Rattle.pen.specs.Behind.{mark_of}
use Rattle.writer.specs.declared.forms.How.{How}
use Rattle.writer.specs.declared.forms.How.TheVariants.{Nothing, Name, Field, Whole, Left, LeftOfDot, Right, RightOfDot, Callee, Target, Behind}
use Rattle.writer.specs.declared.forms.Form.{Form}

-- ---- the table

-- a mark's kind, as the lines below write it: 0 is none
abbrev pub a_mark : ℕ → Option ℕ
a_mark zero = None
a_mark (suc k) = Some (suc k)

abbrev pub shaped : ℕ → ℕ → How → ℕ → How → ℕ → How → ℕ → Form
shaped f g a h b i c l = record { first = a_mark f; second = a_mark g; a = a; third = a_mark h; b = b; fourth = a_mark i; c = c; last = a_mark l }

pub data FormLine : Type 0 where
  line : ℕ → Form → FormLine

unfoldable pub forms : List FormLine
forms =
    line 1 (shaped 0 0 Field 0 Nothing 0 Nothing 0)  -- field
    ∷ line 3 (shaped 0 0 Left 5 Right 0 Nothing 0)  -- difference
    ∷ line 4 (shaped 6 0 Nothing 0 Nothing 0 Nothing 0)  -- null
    ∷ line 5 (shaped 0 0 Name 0 Nothing 0 Nothing 0)  -- variable
    ∷ line 6 (shaped 0 0 LeftOfDot 23 RightOfDot 0 Nothing 0)  -- selection
    ∷ line 7 (shaped 7 0 Name 27 Whole 0 Nothing 0)  -- proc
    ∷ line 16 (shaped 8 0 Nothing 0 Nothing 0 Nothing 0)  -- true
    ∷ line 17 (shaped 9 0 Nothing 0 Nothing 0 Nothing 0)  -- false
    ∷ line 18 (shaped 0 0 Left 25 Whole 0 Nothing 0)  -- equal
    ∷ line 19 (shaped 0 0 Left 26 Whole 0 Nothing 0)  -- less
    ∷ line 32 (shaped 10 0 Name 21 Whole 0 Nothing 0)  -- var
    ∷ line 33 (shaped 0 0 Callee 17 Whole 0 Nothing 18)  -- call
    ∷ line 34 (shaped 11 17 Name 0 Nothing 0 Nothing 18)  -- malloc
    ∷ line 35 (shaped 0 0 Name 24 Whole 0 Nothing 0)  -- assign
    ∷ line 36 (shaped 0 0 Target 23 RightOfDot 24 Whole 0)  -- field assign
    ∷ line 37 (shaped 12 0 Nothing 0 Nothing 0 Nothing 0)  -- skip
    ∷ line 38 (shaped 19 0 Whole 21 Whole 0 Nothing 20)  -- sequence
    ∷ line 39 (shaped 13 0 Whole 0 Behind 0 Nothing 0)  -- while
    ∷ line 40 (shaped 14 0 Whole 0 Behind 15 Whole 0)  -- if
    ∷ line 41 (shaped 19 0 Whole 22 Whole 0 Nothing 20)  -- parallel
    ∷ line 42 (shaped 16 17 Whole 0 Nothing 0 Nothing 18)  -- atom
    ∷ []

unfoldable pub form_in : ℕ → List FormLine → Form
form_in n [] = shaped 0 0 Nothing 0 Nothing 0 Nothing 0
form_in n (line k f ∷ ls) = cond (eqb n k) f (form_in n ls)

unfoldable pub form_of : ℕ → Form
form_of n = form_in n forms

-- ---- the tokens of a tree, behind an operand of a comparison or not

abbrev pub before : Bool → Ended
before true = an_operand
before false = no_operand

unfoldable pub write_tree : Tree → Bool → List Tok
write_tree is_none f = []
write_tree (is_exp e) f = write_exp e
write_tree (is_test t) f = write_test t
write_tree (is_cmd c) f = write_behind c (before f)

-- does the test end with an operand?
unfoldable pub operand_ends : Ended → Bool
operand_ends an_operand = true
operand_ends no_operand = false

unfoldable pub test_ends : Tree → Bool
test_ends is_none = false
test_ends (is_exp e) = false
test_ends (is_test t) = operand_ends (ended_by t)
test_ends (is_cmd c) = false

-- ---- the tokens of a word

-- are parentheses asked for?
unfoldable pub asked : How → Exp → Bool → Bool
asked Nothing e f = false
asked Name e f = false
asked Field e f = false
asked Whole e f = false
asked Left e f = opens_left e
asked LeftOfDot e f = opens_dot e
asked Right e f = is_difference (top_of e)
asked RightOfDot e f = not_dotted (top_of e)
asked Callee e f = opens_left e || signed (before f) (write_exp e)
asked Target e f = opens_dot e || signed (before f) (write_exp e)
asked Behind e f = false

-- what stands before a node that is written so
unfoldable pub passed : How → Bool → Bool
passed Nothing f = false
passed Name f = false
passed Field f = false
passed Whole f = false
passed Left f = false
passed LeftOfDot f = false
passed Right f = false
passed RightOfDot f = false
passed Callee f = false
passed Target f = false
passed Behind f = f

module _ (at : ℕ → Tree) where
  unfoldable pub child : How → ℕ → Bool → List Tok
  child h w f = grouped (asked h (exp_in at w) f) (write_tree (at w) (passed h f))

  unfoldable pub word_tokens : How → ℕ → Bool → List Tok
  word_tokens Nothing w f = []
  word_tokens Name w f = name w ∷ []
  word_tokens Field w f = field_name w ∷ []
  word_tokens Whole w f = child Whole w f
  word_tokens Left w f = child Left w f
  word_tokens LeftOfDot w f = child LeftOfDot w f
  word_tokens Right w f = child Right w f
  word_tokens RightOfDot w f = child RightOfDot w f
  word_tokens Callee w f = child Callee w f
  word_tokens Target w f = child Target w f
  word_tokens Behind w f = child Behind w f

  -- a node of this form; f is for word a, g for word b
  unfoldable pub form_tokens : Form → Node → Bool → Bool → List Tok
  form_tokens k x f g =
      mark_of k.first ++ mark_of k.second ++ word_tokens k.a x.a f ++ mark_of k.third ++ word_tokens k.b x.b g ++ mark_of k.fourth
      ++ word_tokens k.c x.c false ++ mark_of k.last

  -- only what stands behind a test asks for it
  unfoldable pub test_before : ℕ → ℕ → Bool
  test_before tag a = cond (eqb tag 39 || eqb tag 40) (test_ends (at a)) false
