-- The image of a proper tree's table: its tree is that tree (`tree_is`), it keeps every published rule of layout (`laid-published`), and the base's check
-- accepts it or refuses it for a name that isn't declared where it is used, reason 9, and for nothing else (`check-only-nine`). Assumes nothing.
use Prim.Native.Nat.{ℕ, ◌<◌, ◌≤◌}
use mathlib.Core.Path.{◌≡◌, refl, sym, ap, ◌∙◌}
use mathlib.Core.Bool.{true, true≢false}
use mathlib.Core.List.{List}
use native.Mathlib.Omega.{arith}
use native.Mathlib.Nat.{zero-add}
use lib.ListN.{length}
use Rattle.rules.specs.Syntax.{Cmd, bare_cmd}
use Rattle.rules.specs.Image.{most_fields, most_nodes, most_names, node_at, cmd_at}
use Rattle.rules.specs.Scope.{Names}
use Rattle.rules.specs.Script.{root_of}
use Rattle.rules.specs.State.{size}
use Rattle.rules.specs.declared.Verdict.{Verdict}
use Rattle.rules.specs.declared.Verdict.TheVariants.{Accepted, Refused}
use Rattle.rules.specs.Refusals.{Reason, no_space, too_short, wrong_contents, wrong_length, wrong_code, no_such_tag, unused_word, wrong_operand, not_once, undeclared, rule_of, rule, check}
use Rattle.rules.specs.Published.{image, Increasing, Published}
use Rattle.rules.proofs.ReasonTable.{reason_no, broken, places}
use Rattle.rules.proofs.Reasons.{refused-only, accepted-only}
use Rattle.rules.proofs.Accept.{published-accepted}
use Rattle.rules.proofs.Written.{Written, the-tree, written-published}
use Rattle.grammar.specs.Nodes.{size_cmd, last_of, table_cmd}
use Rattle.grammar.specs.Proper.{ProperCmd, Field, Name}
use Rattle.grammar.proofs.Proper.{some-cmd}
use Rattle.grammar.proofs.Sizes.{length-cmd}
use Rattle.grammar.proofs.Numbered.{numbered_cmd, root-cmd, bare-numbered, among-once, count-cmd}
use Rattle.grammar.proofs.TableWrote.{Part, wrote-cmd}
use Rattle.grammar.proofs.AllVisible.{all_names, sees-all, cmd-strays}

-- what the check says of it
pub data Judged (visible : Names) (words : ℕ) (img : List ℕ) : Type 0 where
  is-accepted : check visible words img ≡ Accepted → Judged visible words img
  is-undeclared : (p : ℕ) → check visible words img ≡ Refused 9 p → Judged visible words img

module _
    (codes : List ℕ)
    (names : ℕ)
    (c : Cmd)
    (img : List ℕ)
    (is : img ≡ image codes (table_cmd 0 c) names)
    (few-codes : length codes ≤ most_fields)
    (increasing : Increasing 0 codes)
    (few-nodes : size_cmd c ≤ most_nodes)
    (few-names : names ≤ most_names)
    (proper : ProperCmd (Field (length codes)) (Name names) c) where
  whole : Part (table_cmd 0 c) 0 (table_cmd 0 c)
  whole i x e = rw (zero-add i) e

  laid-written : Written (all_names names) img
  unfolding last_of
  laid-written =
      let w = wrote-cmd (table_cmd 0 c) (length codes) names 0 c proper whole in
      let l = length-cmd 0 c in
      record {
        codes = codes;
        nodes = table_cmd 0 c;
        names = names;
        root = numbered_cmd 0 c;
        laid_out = is;
        few-codes = few-codes;
        increasing = increasing;
        few-nodes = omega arith;
        few-names = few-names;
        wrote = w;
        last = omega (arith, root-cmd 0 c, some-cmd (Field (length codes)) (Name names) c proper);
        once = λ k m. count-cmd (Field (length codes)) (Name names) k 0 c proper ∙ among-once 0 (size_cmd c) k (omega arith) (omega arith);
        scoped = cmd-strays (table_cmd 0 c) (length codes) names (numbered_cmd 0 c) (all_names names) (sees-all names) w;
      }

  -- the tree that is read in it
  pub tree_is : bare_cmd (cmd_at (node_at img) (root_of img)) ≡ bare_cmd c
  unfolding laid-written
  tree_is = ap bare_cmd (the-tree img laid-written) ∙ bare-numbered 0 c

  pub laid-published : Published (all_names names) img
  laid-published = written-published img laid-written

  module _ (visible : Names) (words : ℕ) (enough : size ≤ words) where
    none-broken : (r : Reason) (p : ℕ) → p < places img r → broken (all_names names) words img r p ≡ true → ⊥
    none-broken r p l b =
        true≢false
        (sym b ∙ accepted-only (all_names names) words img (published-accepted (all_names names) words img enough laid-published) r p l)

    -- only the last rule looks at what is visible
    only-nine : (r : Reason) (p : ℕ) → p < places img r → broken visible words img r p ≡ true → reason_no r ≡ 9
    unfolding rule_of rule
    only-nine no_space p l b = absurd (none-broken no_space p l b)
    only-nine too_short p l b = absurd (none-broken too_short p l b)
    only-nine wrong_contents p l b = absurd (none-broken wrong_contents p l b)
    only-nine wrong_length p l b = absurd (none-broken wrong_length p l b)
    only-nine wrong_code p l b = absurd (none-broken wrong_code p l b)
    only-nine no_such_tag p l b = absurd (none-broken no_such_tag p l b)
    only-nine unused_word p l b = absurd (none-broken unused_word p l b)
    only-nine wrong_operand p l b = absurd (none-broken wrong_operand p l b)
    only-nine not_once p l b = absurd (none-broken not_once p l b)
    only-nine undeclared p l b = refl

    pub check-only-nine : Judged visible words img
    check-only-nine = go (check visible words img) refl
      where
        go : (v : Verdict) → check visible words img ≡ v → Judged visible words img
        go Accepted e = is-accepted e
        go (Refused k p) e =
            let f = refused-only visible words img k p e in
            let n : k ≡ 9 = sym f.number ∙ only-nine f.reason p f.place f.is-broken in
            is-undeclared p (rw n at e)
