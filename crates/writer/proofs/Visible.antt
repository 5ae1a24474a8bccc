-- Rule 9 is no reason not to write: an image that is published with any names visible is one that is written. Assumes nothing.
use Prim.Native.Nat.{ℕ, ◌<◌}
use mathlib.Core.Path.{◌≡◌}
use mathlib.Core.Bool.{true}
use mathlib.Core.List.{List}
use native.Mathlib.Omega.{arith}
use Rattle.rules.specs.Image.{fields_of, names_of, node_at, cmd_at}
use Rattle.rules.specs.State.{size}
use Rattle.rules.specs.Scope.{Names, has}
use Rattle.rules.specs.Script.{root_of}
use Rattle.rules.specs.Published.{Published}
use Rattle.rules.specs.declared.Verdict.TheVariants.{Accepted}
use Rattle.rules.proofs.Accept.{read_back, published-wrote, published-accepted}
use Rattle.grammar.proofs.AllVisible.{cmd-strays}
use Rattle.writer.specs.Answer.{every_name, verdict}
use Rattle.writer.proofs.AnswerLaws.{sees-every}

module _ {visible : Names} (img : List ℕ) (p : Published visible img) where
  seen : (x : ℕ) → x < names_of img → has x every_name ≡ true
  seen x l = sees-every x (omega (arith, (read_back img p).names-count, p.few-names))

  with-every-name : Published every_name img
  with-every-name =
      record {
        codes = p.codes;
        nodes = p.nodes;
        names = p.names;
        laid_out = p.laid_out;
        few-codes = p.few-codes;
        increasing = p.increasing;
        some-node = p.some-node;
        few-nodes = p.few-nodes;
        few-names = p.few-names;
        fitting = p.fitting;
        root = p.root;
        once = p.once;
        scoped = cmd-strays p.nodes (fields_of img) (names_of img) (cmd_at (node_at img) (root_of img)) every_name seen (published-wrote img p);
      }

  pub published-is-written : verdict img ≡ Accepted
  published-is-written = published-accepted every_name size img (omega arith) with-every-name
