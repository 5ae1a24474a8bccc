-- The reasons 10, 1, 2 and 3: one law for each answer of the code, and what a script that passed them is.
-- Assumes nothing.
use Prim.Native.Nat.{ℕ, ◌+◌, ◌*◌, ◌<◌, ◌≤◌}
use mathlib.Core.Path.{◌≡◌, refl, sym, ◌∙◌}
use mathlib.Core.Bool.{Bool, true, false, cond, not}
use mathlib.Core.List.{List}
use native.Mathlib.Omega.{arith}
use lib.ListN.{length}
use lib.Dec.{eqb, ltb}
use borrow.Author.Tests.{lt-ltb, le-ltb, eq-eqb, ne_eqb, ltb-false, eqb-true, not-false}
use Rattle.rules.specs.Image.{word_at, field_start, fields_of, node_start, nodes_of, names_of}
use Rattle.rules.specs.State.{size}
use Rattle.rules.specs.Refusals.{bad_contents, right_length}
use Rattle.rules.proofs.GoodFacts.{Sized}
use Rattle.rules.proofs.Good.{contents-right}
use Rattle.rules.specs.declared.Verdict.TheVariants.{Accepted, Refused}
use Rattle.checklaws.specs.Pieces.{refusal, head_reason}

-- ---- the contents: each test of them, the earlier ones having passed

module _ (img : List ℕ) (s : ℕ) (is-s : s ≡ word_at img 0) where
  pub bad-start : (s ≡ 10 → ⊥) → true ≡ bad_contents img
  unfolding bad_contents field_start
  bad-start h = rw (ne_eqb (field_start img) 10 (λ e. h (is-s ∙ e)))

  module _ (a : s ≡ 10) (f : ℕ) (is_f : f ≡ fields_of img) where
    start : eqb (field_start img) 10 ≡ true
    unfolding field_start
    start = eq-eqb (field_start img) 10 (sym is-s ∙ a)

    pub many-fields : 16 < f → true ≡ bad_contents img
    unfolding bad_contents
    many-fields h = rw (start, lt-ltb 16 (fields_of img) (omega arith))

    module _ (b : f ≤ 16) (t : ℕ) (is-t : t ≡ word_at img 4) where
      few : ltb 16 (fields_of img) ≡ false
      few = le-ltb 16 (fields_of img) (omega arith)

      pub bad-node-start : (t ≡ 10 + 2 * f → ⊥) → true ≡ bad_contents img
      unfolding bad_contents node_start
      bad-node-start h = rw (start, few, ne_eqb (node_start img) (10 + 2 * fields_of img) (λ e. h (omega arith)))

      module _ (c : t ≡ 10 + 2 * f) (m : ℕ) (is_m : m ≡ nodes_of img) where
        nodes-start : eqb (node_start img) (10 + 2 * fields_of img) ≡ true
        unfolding node_start
        nodes-start = eq-eqb (node_start img) (10 + 2 * fields_of img) (omega arith)

        pub no-nodes : m ≡ 0 → true ≡ bad_contents img
        unfolding bad_contents
        no-nodes h = rw (start, few, nodes-start, eq-eqb (nodes_of img) 0 (sym is_m ∙ h))

        module _ (d : m ≡ 0 → ⊥) where
          some : eqb (nodes_of img) 0 ≡ false
          some = ne_eqb (nodes_of img) 0 (λ e. d (is_m ∙ e))

          pub many-nodes : 2048 < m → true ≡ bad_contents img
          unfolding bad_contents
          many-nodes h = rw (start, few, nodes-start, some, lt-ltb 2048 (nodes_of img) (omega arith))

          pub names-decide : m ≤ 2048 → (k : ℕ) → k ≡ names_of img → ltb 128 k ≡ bad_contents img
          unfolding bad_contents
          names-decide e k g = rw (start, few, nodes-start, some, le-ltb 2048 (nodes_of img) (omega arith), g)

pub ruleset contents = (bad-start, many-fields, bad-node-start, no-nodes, many-nodes, names-decide)

-- ---- the four reasons

module _ (words : ℕ) (img : List ℕ) where
  pub no-space : words < size → Refused 10 0 ≡ refusal (head_reason words img) 0
  unfolding head_reason refusal
  no-space h = rw (lt-ltb words size h)

  module _ (a : size ≤ words) where
    pub too-short : length img < 10 → Refused 1 0 ≡ refusal (head_reason words img) 0
    unfolding head_reason refusal
    too-short h = rw (le-ltb words size a, lt-ltb (length img) 10 h)

    module _ (b : 10 ≤ length img) (t : Bool) (is : t ≡ bad_contents img) where
      pub wrong-contents : t ≡ true → Refused 2 0 ≡ refusal (head_reason words img) 0
      unfolding head_reason refusal
      wrong-contents h = rw (le-ltb words size a, le-ltb (length img) 10 b, ← is, h)

      module _ (c : t ≡ false) (f m : ℕ) (is_f : f ≡ fields_of img) (is_m : m ≡ nodes_of img) where
        pub wrong-length : (length img ≡ 10 + 2 * f + 8 * m → ⊥) → Refused 3 0 ≡ refusal (head_reason words img) 0
        unfolding head_reason right_length refusal
        wrong-length h =
            rw
            (le-ltb words size a, le-ltb (length img) 10 b, ← is, c, ne_eqb (length img) (10 + 2 * fields_of img + 8 * nodes_of img) (λ e. h (omega arith)))

        pub right-head : length img ≡ 10 + 2 * f + 8 * m → Accepted ≡ refusal (head_reason words img) 0
        unfolding head_reason right_length refusal
        right-head h =
            rw
            (le-ltb words size a, le-ltb (length img) 10 b, ← is, c, eq-eqb (length img) (10 + 2 * fields_of img + 8 * nodes_of img) (omega arith))

        pub sized-here : length img ≡ 10 + 2 * f + 8 * m → Sized img
        unfolding right_length
        sized-here h = contents-right img (sym is ∙ c) b (omega arith)

  -- none of the four: the script is sized
  pub sized : Accepted ≡ refusal (head_reason words img) 0 → Sized img
  unfolding head_reason refusal
  sized e = go (ltb words size) (ltb (length img) 10) (bad_contents img) (not (eqb (length img) (right_length img))) refl refl refl e
    where
      go : (a b c d : Bool)
          → ltb (length img) 10 ≡ b
          → bad_contents img ≡ c
          → not (eqb (length img) (right_length img)) ≡ d
          → Accepted ≡ refusal (cond a 10 (cond b 1 (cond c 2 (cond d 3 0)))) 0
          → Sized img
      go true b c d q r t e = cc e
      go false true c d q r t e = cc e
      go false false true d q r t e = cc e
      go false false false true q r t e = cc e
      go false false false false q r t e =
          contents-right img r (ltb-false (length img) 10 q) (eqb-true (length img) (right_length img) (not-false _ t))

pub ruleset heads = (no-space, too-short, wrong-contents, wrong-length, right-head, sized-here)
