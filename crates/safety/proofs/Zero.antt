-- Document 01: "Zero means nothing as a tag, attribute code, field index, value kind, result, refusal or fault." For any
-- bytes, any length of the workspace and any choices, the answer's numbers are those of the tables; in an accepted
-- script no tag, code or field index is zero; and at every moment of its run neither is the kind of a value held, nor
-- the tag of a command that can move. Assumes that the script is made of bytes.
use Prim.Native.Nat.{ℕ, zero, suc, ◌<◌, ◌≤◌}
use mathlib.Core.Path.{◌≡◌, refl, ◌∙◌}
use mathlib.Core.Logic.{◌⊎◌, inl, inr}
use mathlib.Core.Option.{Option, none, some}
use mathlib.Core.List.{List, []}
use native.Mathlib.Omega.{arith}
use lib.ListN.{get_elem?}
use Rattle.rules.specs.declared.Chain.{Chain}
use Rattle.rules.specs.declared.Value.{Value}
use Rattle.rules.specs.declared.Value.TheVariants.{Nothing, Null, Int, Field, Object, Proc, Unset}
use Rattle.rules.specs.declared.Verdict.{Verdict}
use Rattle.rules.specs.declared.Verdict.TheVariants.{Accepted, Refused}
use Rattle.rules.specs.declared.Node.{Node}
use Rattle.rules.specs.Image.{is_none, row_in, row_of, tags, make_by, tree_at, cmd_of, cmd_at, fields_of, nodes_of, code_at, node_at, line_of, line_in}
use Rattle.rules.specs.Refusals.{check}
use Rattle.rules.specs.Published.{Bytes}
use Rattle.rules.proofs.GoodFacts.{GoodRow}
use Rattle.rules.proofs.Good.{good}
use Rattle.rules.specs.State.{Store}
use Rattle.rules.specs.Control.{Control, move, movable}
use Rattle.rules.specs.Script.{script_of, root_of}
use Rattle.rules.specs.Run.{run_script, answered, answer_of, bare}
use Rattle.rules.specs.Numbers.{kind_no, end_no, verdict_numbers, answer_numbers}
use Rattle.rules.proofs.Reasons.{refused-only}
use Rattle.rules.proofs.Trees.{tree_at-is}
use Rattle.safety.specs.Safe.{RealCell}
use Rattle.safety.specs.Numbered.{ARefusal, OneTo, VerdictNumbered, accepted, refused, Numbered, refusal, ending}
use Rattle.safety.specs.Found.{HeldIn}
use Rattle.safety.proofs.NumberedOnly.{one-of-five}
use Rattle.safety.proofs.Accepted.{accepted-fits}
use Rattle.safety.proofs.Preserved.{ready_at, bare-given}
use Rattle.safety.proofs.ReachesMoments as Moments
use Rattle.safety.proofs.Demand3.{At, always-safe, run-ends-as-said}

-- ---- every answer

module _ (words : ℕ) (img : List ℕ) where
  refusal-of-the-table : (k p : ℕ) → check [] words img ≡ Refused k p → ARefusal k
  refusal-of-the-table k p e = let f = refused-only [] words img k p e in (f.reason, f.number)

  pub no-verdict-is-zero : VerdictNumbered (verdict_numbers (check [] words img))
  unfolding verdict_numbers
  no-verdict-is-zero = go (check [] words img) refl
    where
      go : (v : Verdict) → check [] words img ≡ v → VerdictNumbered (verdict_numbers v)
      go Accepted e = accepted
      go (Refused k p) e = refused (refusal-of-the-table k p e)

module _ (words : ℕ) (img : List ℕ) (are-bytes : Bytes img) where
  -- an accepted script's end has a number
  pub no-end-is-zero : check [] words img ≡ Accepted → (choices : List ℕ) → OneTo 5 (end_no (run_script img choices).end)
  no-end-is-zero ok choices = one-of-five (nodes_of img) _ _ (run-ends-as-said words img are-bytes ok choices)

  pub no-answer-is-zero : (choices : List ℕ) → Numbered (nodes_of img) (answer_numbers (answer_of words img choices))
  unfolding answer_of answered answer_numbers
  no-answer-is-zero choices = go (check [] words img) refl
    where
      go : (v : Verdict) → check [] words img ≡ v → Numbered (nodes_of img) (answer_numbers (answered v (run_script img choices)))
      go Accepted e = ending (run_script img choices).steps (run-ends-as-said words img are-bytes e choices)
      go (Refused k p) e = refusal (refusal-of-the-table words img k p e)

-- ---- an accepted script

no_row : row_of 0 ≡ none
unfolding row_of row_in line_of line_in tags
no_row = refl

no-tree : (node : ℕ → Node) (n : ℕ) → (node n).tag ≡ 0 → tree_at node n ≡ is_none
unfolding make_by line_of line_in tags
no-tree node n e = tree_at-is node n ∙ rw e

not-zero : (k : ℕ) → (k ≡ 0 → ⊥) → 1 ≤ k
not-zero zero f = absurd (f refl)
not-zero (suc k) f = omega arith

module _ (words : ℕ) (img : List ℕ) (are-bytes : Bytes img) (accepted : check [] words img ≡ Accepted) where
  pub no-tag-is-zero : (n : ℕ) → n < nodes_of img → 1 ≤ (node_at img n).tag
  no-tag-is-zero n h = not-zero (node_at img n).tag (λ e. go e ((good [] words img accepted).nodes n h))
    where
      go : (node_at img n).tag ≡ 0 → GoodRow img n (row_of (node_at img n).tag) (node_at img n) → ⊥
      go e r = rw (e, no_row) at r

  pub no-code-is-zero : (i : ℕ) → i < fields_of img → 1 ≤ code_at img i
  no-code-is-zero = (good [] words img accepted).code-not-zero

  -- the index of a field node
  pub no-field-index-is-zero : (n : ℕ) → n < nodes_of img → (node_at img n).tag ≡ 1 → OneTo (fields_of img) (node_at img n).a
  unfolding row_of row_in line_of line_in tags
  no-field-index-is-zero n h e =
      (rw e at ((good [] words img accepted).nodes n h)).0

  -- ---- its run, at every moment

  module _ (choices : List ℕ) (s : Store) where
    -- the tag of a command that can move
    pub no-moving-tag-is-zero : (t : Control) → At words img are-bytes accepted choices s (some t)
        → (i n : ℕ) (ch : Chain) → get_elem? (movable t) i ≡ some (move n ch) → 1 ≤ (node_at img n).tag
    unfolding script_of cmd_at cmd_of
    no-moving-tag-is-zero t a i n ch p = not-zero (node_at img n).tag (λ e. go e)
      where
        go : (node_at img n).tag ≡ 0 → ⊥
        go e =
            let r = ready_at (script_of img) s t (always-safe words img are-bytes accepted choices s (some t) a) i n ch p in
            rw (no-tree (node_at img) n e) at r.seen.scoped

    -- values held anywhere
    module _ (o : Option Control) (a : At words img are-bytes accepted choices s o) where
      real : (v : Value) → HeldIn s v → RealCell (script_of img) s v
      real = Moments.held-real (script_of img) bare (bare-given (script_of img)) (root_of img) choices (accepted-fits [] words img are-bytes accepted) s o a

      -- 1 to 5, or 7, which is unset; 6 is no value's
      pub no-kind-is-zero : (v : Value) → HeldIn s v → OneTo 5 (kind_no v) ⊎ (v ≡ Unset)
      unfolding kind_no
      no-kind-is-zero v h = go v (real v h)
        where
          go : (w : Value) → RealCell (script_of img) s w → OneTo 5 (kind_no w) ⊎ (w ≡ Unset)
          go Nothing r = absurd r
          go Unset r = inr refl
          go Null r = inl (omega arith, omega arith)
          go (Int b) r = inl (omega arith, omega arith)
          go (Field f) r = inl (omega arith, omega arith)
          go (Object k) r = inl (omega arith, omega arith)
          go (Proc n ch) r = inl (omega arith, omega arith)

      pub no-held-field-is-zero : (f : ℕ) → HeldIn s (Field f) → OneTo (fields_of img) f
      unfolding script_of
      no-held-field-is-zero f h = real (Field f) h
