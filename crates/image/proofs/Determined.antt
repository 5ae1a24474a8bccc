-- The contracts of this crate decide every answer: two answers that meet the same contract are equal. Those of `wide`,
-- `word`, `fields`, `nodes`, `names`, `code` and `tag_of`, and of the methods of their names, are equations `r ≡ f ..`, and their bounds follow; for the others it is
-- shown here. Assumes nothing.
use Prim.Native.Nat.{ℕ}
use mathlib.Core.Path.{◌≡◌, sym, ◌∙◌}
use mathlib.Core.List.{List}
use lib.Dec.{eqb}
use mathlib.Core.Bool.{cond}
use mathlib.Core.Path.{refl}
use Rattle.std.specs.Prelude.{Option, Result, Ok, Err}
use Rattle.laws.specs.Backs.{one-back}
use Rattle.laws.specs.Options.{math_option, std_option, back-option}
use Rattle.rules.specs.declared.Node.{Node}
use Rattle.rules.specs.declared.Kind.{Kind}
use Rattle.rules.specs.declared.Row.{Row}
use Rattle.rules.specs.Image.{kind_of, row_of}
use Rattle.rules.specs.declared.Verdict.{Verdict}
use Rattle.rules.specs.declared.Verdict.TheVariants.{Accepted, Refused}
use Rattle.image.specs.declared.refusals.Refusal.{Refusal}
use Rattle.image.specs.declared.refusals.Refusal.TheVariants.{Workspace, Short, Contents, Length, Code, Tag, Unused, Operand, Uses, Name}
use Rattle.image.specs.Read.{NodeRead}
use Rattle.image.specs.Refusals.{verdict_of}

pub read_one : (img : List ℕ) (n : ℕ) (x y : Node) → NodeRead img n x → NodeRead img n y → x ≡ y
read_one img n x y p q = p.is ∙ sym q.is

-- the kind of a tag
pub kind-one : (t : ℕ) (r q : Option Kind) → math_option r ≡ kind_of t → math_option q ≡ kind_of t → r ≡ q
kind-one t r q a b = one-back math_option std_option back-option r q (a ∙ sym b)

-- the roles of a tag's words
pub operands-one : (t : ℕ) (r q : Option Row) → math_option r ≡ row_of t → math_option q ≡ row_of t → r ≡ q
operands-one t r q a b = one-back math_option std_option back-option r q (a ∙ sym b)

-- ---- an answer of the check, by its verdict

refusal_in : ℕ → ℕ → Refusal
refusal_in k p =
    cond (eqb k 10) Workspace
    (cond (eqb k 1) Short
    (cond (eqb k 2) Contents
    (cond (eqb k 3) Length
    (cond (eqb k 4) (Code p)
    (cond (eqb k 5) (Tag p) (cond (eqb k 6) (Unused p) (cond (eqb k 7) (Operand p) (cond (eqb k 8) (Uses p) (Name p)))))))))

answer_in : Verdict → Result (Unit {0}) Refusal
answer_in Accepted = Ok tt
answer_in (Refused k p) = Err (refusal_in k p)

answer-back : (r : Result (Unit {0}) Refusal) → answer_in (verdict_of r) ≡ r
unfolding answer_in refusal_in
answer-back (Ok a) = refl
answer-back (Err Workspace) = refl
answer-back (Err Short) = refl
answer-back (Err Contents) = refl
answer-back (Err Length) = refl
answer-back (Err (Code p)) = refl
answer-back (Err (Tag p)) = refl
answer-back (Err (Unused p)) = refl
answer-back (Err (Operand p)) = refl
answer-back (Err (Uses p)) = refl
answer-back (Err (Name p)) = refl

pub answer-one : (r q : Result (Unit {0}) Refusal) → verdict_of r ≡ verdict_of q → r ≡ q
answer-one = one-back verdict_of answer_in answer-back
