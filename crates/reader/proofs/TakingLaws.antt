-- Which kinds of token are taken: one after the other asked of the stack, and what that says of the text. Assumes nothing.
use Prim.Native.Nat.{ℕ, ◌+◌, ◌<◌, ◌≤◌}
use mathlib.Core.Path.{◌≡◌, sym, subst, ◌∙◌}
use mathlib.Core.Bool.{Bool, true, false}
use mathlib.Core.List.{List, ◌++◌}
use native.Mathlib.Omega.{arith}
use native.Mathlib.Decide.{ℕ_discrete}
use lib.ListN.{length, get_or, set, length-set}
use lib.Seq.{get_or-set_same, get_or-set_other}
use Rattle.grammar.specs.FieldList.{Entry}
use Rattle.grammar.specs.Grammar.{Text}
use Rattle.grammar.specs.Reads.{GoesOn}
use Rattle.reading.specs.Items.{Item}
use Rattle.reading.specs.Table.{Due}
use Rattle.reading.specs.Progress.{Progress}
use Rattle.reading.proofs.Steps.{takes-kind, refuses-kind, can-end, cannot-end}
use Rattle.std.specs.Prelude.{Option as Answered, Some, None, is_some}
use Rattle.dues.specs.Stack.{Stacked, passed_items, TakerSays}
use Rattle.dues.proofs.StackLaws.{taker-goes-on}
use Rattle.building.specs.Built.{EndSays}
use Rattle.reader.specs.Taking.{KindSays, Asked}
use Rattle.reader.specs.Why.{Tells, Could}
use Rattle.building.proofs.PassedLaws.{finish-all}

-- ---- one kind

pub kind-says : (depth : ℕ) (ws : List ℕ) (k : ℕ) (t : Answered ℕ) → ((ds : List Due) → Stacked ds depth ws → TakerSays ds k t)
    → (ds : List Due) → Stacked ds depth ws → KindSays ds k (is_some t)
kind-says depth ws k None a ds s = a ds s
kind-says depth ws k (Some q) a ds s =
    let b = a ds s in
    record { dues = b.instead ++ b.left; items = λ is. (is ++ passed_items b.above) ++ b.nodes; goes = λ is. taker-goes-on ds k q b is }

-- ---- all of them, one after the other

-- the end and the kinds below n have been asked
pub record Asking (ws : List ℕ) (depth n : ℕ) (could : List Bool) : Type 0 where
  pub some-asked : 0 < n
  pub at_most : n ≤ 29
  pub long : length could ≡ 29
  pub says : (ds : List Due) → Stacked ds depth ws → Asked ds n could

-- ---- what they say of the text

module _ {fields : List Entry} {text : List ℕ} {at line : ℕ} {names : List (List ℕ)} {ds : List Due} {is : List Item} (g : Progress fields text at line names ds is) where
  tells-end : (b : Bool) → EndSays ds b → Tells b (Text g.tokens)
  tells-end true h = can-end g (finish-all ds is h)
  tells-end false h = cannot-end g (h is)

  tells-kind : (k : ℕ) (b : Bool) → 0 < k → KindSays ds k b → Tells b (GoesOn g.tokens k)
  tells-kind k true p h = takes-kind g k p (h.goes is)
  tells-kind k false p h = refuses-kind g k (h is)

  pub tells_all : (could : List Bool) → Asked ds 29 could → Could g.tokens could
  tells_all could a =
      record {
        long = a.long;
        ends = tells-end (get_or could 0 false) a.ends;
        goes_on = λ k p q. tells-kind k (get_or could k false) p (a.kinds k p q);
      }
