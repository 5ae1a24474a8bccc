-- The pieces of the check (document 01, "Refused scripts"): what each answers, in the words of rules/specs/Refusals.
-- A reason is its number; 0 is none. The rules after 10 don't look at the workspace, so their pieces are stated for one
-- of the full size; only 9 looks at the names visible at the root, so those of the others are stated for none. That the pieces make the check is shown in proofs/Whole. Assumes nothing.
use Rattle.std.specs.Prelude.{ℕ, Bool, cond, not, ◌&&◌, List, [], ◌∷◌, length, eqb, ltb, leb}
use Rattle.rules.specs.declared.Node.{Node}
use Rattle.rules.specs.declared.Verdict.{Verdict}
use Rattle.rules.specs.declared.Verdict.TheVariants.{Accepted, Refused}
use Rattle.rules.specs.declared.Role.{Role}
use Rattle.rules.specs.declared.Row.{Row}
use Rattle.rules.specs.Image.{fields_of, names_of}
use Rattle.rules.specs.Refusals.{Reason, wrong_code, no_such_tag, unused_word, wrong_operand, not_once, undeclared, bad_contents, right_length, blank, suits, at_place, lowest}
use Rattle.rules.specs.State.{size}
use Rattle.rules.specs.Scope.{Names}
use Rattle.rules.proofs.ReasonTable.{broken}

-- the verdict of a reason at a place
unfoldable pub refusal : ℕ → ℕ → Verdict
refusal k p = cond (eqb k 0) Accepted (Refused k p)

-- 10, 1, 2 and 3, whose place is 0
unfoldable pub head_reason : ℕ → List ℕ → ℕ
head_reason words img =
    cond (ltb words size)
    10
    (cond (ltb (length img) 10) 1 (cond (bad_contents img) 2 (cond (not (eqb (length img) (right_length img))) 3 0)))

-- the rules that are tested together
abbrev pub code_rules : List Reason
code_rules = wrong_code ∷ []

abbrev pub node_rules : List Reason
node_rules = no_such_tag ∷ unused_word ∷ wrong_operand ∷ []

abbrev pub use_rules : List Reason
use_rules = not_once ∷ []

abbrev pub name_rules : List Reason
name_rules = undeclared ∷ []

-- what rules say at one place, and at the places below n
unfoldable pub place_says : List ℕ → List Reason → ℕ → Verdict
place_says img rs p = at_place (broken [] size img) rs p

unfoldable pub rules_say : List ℕ → List Reason → ℕ → Verdict
rules_say img rs n = lowest (broken [] size img) rs n

-- 9, with these names visible at the root
unfoldable pub names_say : Names → List ℕ → ℕ → Verdict
names_say visible img n = lowest (broken visible size img) name_rules n

-- 6 and 7, of one word and its role, and of a node's words and their roles
unfoldable pub fits_word : List ℕ → ℕ → Role → ℕ → Bool
fits_word img n p w = blank p w && suits img n p w

unfoldable pub words_reason : List ℕ → ℕ → Row → Node → ℕ
words_reason img n r x =
    cond (blank r.a x.a && blank r.b x.b && blank r.c x.c)
    (cond (suits img n r.a x.a && suits img n r.b x.b && suits img n r.c x.c) 0 7)
    6

-- a field index, a name in range
abbrev pub index_right : List ℕ → ℕ → Bool
index_right img w = leb 1 w && leb w (fields_of img)

abbrev pub name_right : List ℕ → ℕ → Bool
name_right img w = ltb w (names_of img)
