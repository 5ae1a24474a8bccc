-- The pieces make the check: `check-is`; and one law for each answer of the code that puts them together.
-- Assumes nothing.
use Prim.Native.Nat.{ℕ, zero, suc}
use mathlib.Core.Path.{◌≡◌, refl, sym, ap, ◌∙◌}
use mathlib.Core.Bool.{Bool, true, false, cond, not}
use mathlib.Core.List.{List}
use lib.ListN.{length}
use lib.Dec.{eqb, ltb}
use Rattle.rules.specs.declared.Verdict.{Verdict}
use Rattle.rules.specs.declared.Verdict.TheVariants.{Accepted, Refused}
use Rattle.rules.specs.Image.{fields_of, nodes_of}
use Rattle.rules.proofs.ReasonTable.{broken}
use Rattle.rules.proofs.Reasons.{check-in-order}
use Rattle.rules.specs.State.{size}
use Rattle.rules.specs.Scope.{Names}
use Rattle.rules.specs.Refusals.{bad_contents, right_length, or_else, at_place, lowest, check, rule_of, rule}
use Rattle.checklaws.specs.Rest.{uses_say, nodes_say, bodies_say}
use Rattle.checklaws.specs.Pieces.{refusal, head_reason, code_rules, node_rules, use_rules, name_rules, rules_say, names_say}

module _ (visible : Names) (w : ℕ) (img : List ℕ) where
  codes_same : (n : ℕ) → lowest (broken visible w img) code_rules n ≡ rules_say img code_rules n
  unfolding rules_say lowest at_place rule_of rule
  codes_same zero = refl
  codes_same (suc n) = ap (λ v. or_else v (at_place (broken visible w img) code_rules n)) (codes_same n)

  nodes-same : (n : ℕ) → lowest (broken visible w img) node_rules n ≡ rules_say img node_rules n
  unfolding rules_say lowest at_place rule_of rule
  nodes-same zero = refl
  nodes-same (suc n) = ap (λ v. or_else v (at_place (broken visible w img) node_rules n)) (nodes-same n)

  uses-same : (n : ℕ) → lowest (broken visible w img) use_rules n ≡ rules_say img use_rules n
  unfolding rules_say lowest at_place rule_of rule
  uses-same zero = refl
  uses-same (suc n) = ap (λ v. or_else v (at_place (broken visible w img) use_rules n)) (uses-same n)

  names_same : (n : ℕ) → lowest (broken visible w img) name_rules n ≡ names_say visible img n
  unfolding names_say lowest at_place rule_of rule
  names_same zero = refl
  names_same (suc n) = ap (λ v. or_else v (at_place (broken visible w img) name_rules n)) (names_same n)

or-accepted : (v : Verdict) → or_else v Accepted ≡ v
unfolding or_else
or-accepted Accepted = refl
or-accepted (Refused k p) = refl

pub check-is : (visible : Names) (w : ℕ) (img : List ℕ) → check visible w img ≡ or_else (refusal (head_reason w img) 0) (bodies_say visible img)
unfolding lowest at_place or_else head_reason refusal uses_say nodes_say bodies_say rule_of rule
check-is visible w img =
    check-in-order visible w img
    ∙ rw (codes_same visible w img (fields_of img), nodes-same visible w img (nodes_of img), uses-same visible w img (nodes_of img), names_same visible w img (nodes_of img))
    (rw (or-accepted (names_say visible img (nodes_of img)))
    (go (ltb w size) (ltb (length img) 10) (bad_contents img) (not (eqb (length img) (right_length img))) (bodies_say visible img)))
  where
    go : (a b c d : Bool) (v : Verdict)
        → or_else (cond a (Refused 10 0) Accepted) (or_else (cond b (Refused 1 0) Accepted) (or_else (cond c (Refused 2 0) Accepted) (or_else (cond d (Refused 3 0) Accepted) v)))
        ≡ or_else (refusal (cond a 10 (cond b 1 (cond c 2 (cond d 3 0)))) 0) v
    go true b c d v = refl
    go false true c d v = refl
    go false false true d v = refl
    go false false false true v = refl
    go false false false false v = refl

-- ---- the code's answers: each group is looked at when no earlier one refuses

module _ (visible : Names) (w : ℕ) (img : List ℕ) where
  pub at-head : (k p : ℕ) → Refused k p ≡ refusal (head_reason w img) 0 → Refused k p ≡ check visible w img
  unfolding or_else
  at-head k p h = sym (check-is visible w img ∙ rw (← h))

  module _ (h : Accepted ≡ refusal (head_reason w img) 0) where
    pub at-codes : (k p : ℕ) → Refused k p ≡ rules_say img code_rules (fields_of img) → Refused k p ≡ check visible w img
    unfolding or_else bodies_say
    at-codes k p c = sym (check-is visible w img ∙ rw (← h, ← c))

    module _ (c : Accepted ≡ rules_say img code_rules (fields_of img)) where
      pub at-nodes : (k p : ℕ) → Refused k p ≡ rules_say img node_rules (nodes_of img) → Refused k p ≡ check visible w img
      unfolding or_else bodies_say nodes_say
      at-nodes k p n = sym (check-is visible w img ∙ rw (← h, ← c, ← n))

      module _ (n : Accepted ≡ rules_say img node_rules (nodes_of img)) where
        pub at-uses : (k p : ℕ) → Refused k p ≡ rules_say img use_rules (nodes_of img) → Refused k p ≡ check visible w img
        unfolding or_else bodies_say nodes_say uses_say
        at-uses k p u = sym (check-is visible w img ∙ rw (← h, ← c, ← n, ← u))

        pub at-names : Accepted ≡ rules_say img use_rules (nodes_of img) → (v : Verdict) → v ≡ names_say visible img (nodes_of img) → v ≡ check visible w img
        unfolding or_else bodies_say nodes_say uses_say
        at-names u v e = sym (check-is visible w img ∙ rw (← h, ← c, ← n, ← u, ← e))

pub ruleset wholes = (at-head, at-codes, at-nodes, at-uses, at-names)
