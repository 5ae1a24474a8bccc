-- Order 5, "Not set is not null", sentence by sentence. What became of runs is on the page `Changed`; that demand 3 counts eight faults
-- is on the page `Promises` (eight-faults); the listing's word is a definition (`value_words` of listed/specs/Listing). The proofs are elsewhere.
-- Assumes nothing.
use Prim.Native.Nat.{ℕ}
use mathlib.Core.Path.{◌≡◌, refl}
use mathlib.Core.Logic.{◌↔◌}
use mathlib.Core.Option.{Option, some}
use mathlib.Core.List.{List, []}
use lib.ListN.{get_elem?, replicate}
use Rattle.rules.specs.declared.Chain.{Chain}
use Rattle.rules.specs.declared.Chain.TheVariants.{From}
use Rattle.rules.specs.declared.Value.{Value}
use Rattle.rules.specs.declared.Value.TheVariants.{Null, Field, Object, Proc, Unset}
use Rattle.rules.specs.declared.Verdict.TheVariants.{Accepted}
use Rattle.rules.specs.declared.Stop.TheVariants.{Faulted}
use Rattle.rules.specs.Syntax.{Exp, Test, Cmd, ref, proc, var, call, malloc, assign, assign_field, seq, while, if, par, atom}
use Rattle.rules.specs.Image.{node_at}
use Rattle.rules.specs.State.{Store, empty, find, AnObject, frame, object, push_frame, put_cell, object_at, next_frame, next_object}
use Rattle.rules.specs.Script.{Script, script_of, formal}
use Rattle.rules.specs.Refusals.{check}
use Rattle.rules.specs.Published.{Bytes}
use Rattle.rules.specs.Eval.{ok, fault, eval, test}
use Rattle.rules.specs.Control.{Control, Outcome, goes_to, stops}
use Rattle.rules.specs.Paper.{on, Command, declares, calls, callee-faults, argument-faults, assigned-faults, object-faults, selector-faults, right-side-faults, allocates, if-faults, while-faults}
use Rattle.rules.specs.Step.{step}
use Rattle.rules.specs.Run.{machine, start}
use Rattle.rules.proofs.Values as Values
use Rattle.safety.specs.Reaches.{Reaches}
use Rattle.safety.specs.Unset.{UnsetAt, DeclaredOnly}
use Rattle.safety.specs.ReadsOf.{ReadByExp, ReadByTest, ReadBy, UnsetName, ReadsUnset}
use Rattle.safety.proofs.Demand3 as Demand3
use Rattle.safety.proofs.NotGivenBack.{object-numbered}
use Rattle.safety.proofs.ReadNodes as ReadNodes
use Rattle.safety.proofs.OperandFaults.{Faults, left-first, right-next}
use Rattle.safety.proofs.UnsetRead as UnsetRead
use Rattle.safety.proofs.UnsetRuns.{unset-from-nothing, declared-reaches}
use Rattle.safety.proofs.UnsetIf.{unset-if}
use Rattle.promises.specs.Saying.{At}

-- "Let a cell made by var begin as unset": a declaration comes to nothing else
pub var-begins-unset : (sc : Script) (s : Store) (ch : Chain) (n x : ℕ) (c : Cmd) (out : Outcome Store)
    → Command sc s ch (var n x c) out
    → out ≡ goes_to (push_frame (frame x ch Unset) s) (some (on sc c (From (next_frame s))))
var-begins-unset sc s ch n x c _ declares = refl

-- .. and at every moment the unset cells are those of the variables that a step declared and to which none since has stored, by an
-- assignment or a malloc, and no others
pub unset-exactly : (img choices : List ℕ) (s : Store) (o : Option Control) (at : At img choices s o)
    → (k : ℕ) → UnsetAt s k ↔ DeclaredOnly (script_of img) k s o at.used empty (some (start img))
unset-exactly img choices s o at k = (
  unset-from-nothing (script_of img) k s o at.used (some (start img)) at.reached,
  unset-if (script_of img) k s o at.used empty (some (start img)),
)

-- (the declaration is a step of the run: what is said so goes over all its steps)
pub unset-in-the-run : (img : List ℕ) (k : ℕ) (s s' : Store) (o o' : Option Control) (cs : List ℕ)
    → DeclaredOnly (script_of img) k s' o' cs s o → Reaches (machine img) s' o' cs s o
unset-in-the-run img k s s' o o' cs = declared-reaches (script_of img) k s' o' cs s o

-- "reading it before an assignment or malloc is a fault", "fault 8, unset variable, at the variable's node"
pub reading-unset-is-fault-8 : (s : Store) (ch : Chain) (n x : ℕ) → UnsetName s ch x → eval s ch (ref n x) ≡ fault 8 n
reading-unset-is-fault-8 = UnsetRead.reads-unset

-- .. and that alone is fault 8: a step that stops with it, at node n, is of a command that has the variable node n to read, whose variable is unset
pub fault-8-is-such-a-read : (img : List ℕ) (s : Store) (t : Control) (i n : ℕ)
    → step (machine img) s t i ≡ stops (Faulted 8 n)
    → ReadsUnset (script_of img) s t i n
fault-8-is-such-a-read img = UnsetRead.fault-8-only (script_of img)

-- .. to read it there is fault 8 at n
pub such-a-read-is-fault-8 : (img : List ℕ) (s : Store) (t : Control) (i n : ℕ) (r : ReadsUnset (script_of img) s t i n)
    → eval s r.chain (ref n r.name) ≡ fault 8 n
such-a-read-is-fault-8 img = UnsetRead.reads_so (script_of img)

-- .. which in an accepted script is a node with a variable's tag, 5, and with its name; and its variable was declared, and no assignment or malloc has
-- stored to it since
module _ (words : ℕ) (img : List ℕ) (are-bytes : Bytes img) (is-accepted : check [] words img ≡ Accepted) (choices : List ℕ) (s : Store) (t : Control) (at : At img choices s (some t)) where
  pub fault-8-is-at-a-variable : (i n : ℕ) (r : ReadsUnset (script_of img) s t i n) → ((node_at img n).tag ≡ 5) × ((node_at img n).a ≡ r.name)
  fault-8-is-at-a-variable = ReadNodes.read-node words img are-bytes is-accepted choices s t at

  pub fault-8-is-before-a-store : (i n : ℕ) (r : ReadsUnset (script_of img) s t i n)
      → DeclaredOnly (script_of img) r.unset.frame s (some t) at.used empty (some (start img))
  fault-8-is-before-a-store i n r = (unset-exactly img choices s (some t) at r.unset.frame).0 r.unset.unset

-- what is no read: the names of a declaration, an assignment and a malloc, what a proc mentions, and the commands inside a command
pub names-are-no-reads : (n x m y : ℕ) (c : Cmd) (e : Exp)
    → (ReadBy n x (var m y c) → ⊥) × (ReadBy n x (malloc m y) → ⊥) × (ReadBy n x (assign m y e) → ReadByExp n x e) × (ReadByExp n x (proc m y c) → ⊥)
names-are-no-reads n x m y c e = (λ r. r, λ r. r, λ r. r, λ r. r)

pub insides-are-no-reads : (n x m : ℕ) (t : Test) (c d : Cmd)
    → (ReadBy n x (while m t c) → ReadByTest n x t) × (ReadBy n x (if m t c d) → ReadByTest n x t) × (ReadBy n x (seq m c d) → ⊥) × (ReadBy n x (par m c d) → ⊥) × (ReadBy n x (atom m c) → ⊥)
insides-are-no-reads n x m t c d = (λ r. r, λ r. r, λ r. r, λ r. r, λ r. r)

-- "in the place a stored fault had", where the read happens. Of an operation's operands, whether they are the variable or have it further in: a left one's
-- before all else; a right one's after the left operand's fault, and before the operation's own, whatever the left operand is
module _ (sc : Script) (s : Store) (ch : Chain) (n : ℕ) (a b : Exp) (m : ℕ) where
  pub on-the-left : eval s ch a ≡ fault 8 m → Faults sc s ch n a b 8 m
  on-the-left = left-first sc s ch n a b 8 m

  pub after-the-left : (k j : ℕ) → eval s ch a ≡ fault k j → eval s ch b ≡ fault 8 m → Faults sc s ch n a b k j
  after-the-left k j e _ = left-first sc s ch n a b k j e

  pub before-its-own : (v : Value) → eval s ch a ≡ ok v → eval s ch b ≡ fault 8 m → Faults sc s ch n a b 8 m
  before-its-own = right-next sc s ch n a b 8 m

-- .. of a command's parts: a callee's before 7, an argument's once there is a procedure to call; a test's; a right side's once there is where to store
module _ (sc : Script) (s : Store) (ch : Chain) (n m : ℕ) where
  pub as-callee : (a b : Exp) → eval s ch a ≡ fault 8 m → Command sc s ch (call n a b) (stops (Faulted 8 m))
  as-callee a b e = callee-faults e

  pub as-argument : (a b : Exp) (j : ℕ) (dh : Chain) → eval s ch a ≡ ok (Proc j dh) → eval s ch b ≡ fault 8 m → Command sc s ch (call n a b) (stops (Faulted 8 m))
  as-argument a b j dh e f = argument-faults e f

  pub as-test-of-if : (t : Test) (c d : Cmd) → test sc s ch t ≡ fault 8 m → Command sc s ch (if n t c d) (stops (Faulted 8 m))
  as-test-of-if t c d e = if-faults e

  pub as-test-of-while : (t : Test) (c : Cmd) → test sc s ch t ≡ fault 8 m → Command sc s ch (while n t c) (stops (Faulted 8 m))
  as-test-of-while t c e = while-faults e

  pub as-right-side : (y k : ℕ) (e : Exp) → find s.frames y ch ≡ some k → eval s ch e ≡ fault 8 m → Command sc s ch (assign n y e) (stops (Faulted 8 m))
  as-right-side y k e f g = assigned-faults f g

  pub as-object : (a b c : Exp) → eval s ch a ≡ fault 8 m → Command sc s ch (assign_field n a b c) (stops (Faulted 8 m))
  as-object a b c e = object-faults e

  pub as-selector : (a b c : Exp) (v : Value) → eval s ch a ≡ ok v → eval s ch b ≡ fault 8 m → Command sc s ch (assign_field n a b c) (stops (Faulted 8 m))
  as-selector a b c v e f = selector-faults e f

  pub as-stored-part : (a b c : Exp) (o f : ℕ) → eval s ch a ≡ ok (Object o) → eval s ch b ≡ ok (Field f) → eval s ch c ≡ fault 8 m
      → Command sc s ch (assign_field n a b c) (stops (Faulted 8 m))
  as-stored-part a b c o f e g h = right-side-faults e g h

-- a formal's cell holds its argument
pub formal-holds-its-argument : (sc : Script) (s : Store) (ch : Chain) (n : ℕ) (a b : Exp) (s' : Store) (o : Option Control)
    → Command sc s ch (call n a b) (goes_to s' o)
    → (m : ℕ) × (dh : Chain) × (x : ℕ) × (c : Cmd)
    × ((v : Value) × (eval s ch a ≡ ok (Proc m dh)) × (sc.proc_at m ≡ some (formal x c)) × (eval s ch b ≡ ok v) × (s' ≡ push_frame (frame x dh v) s))
formal-holds-its-argument sc s ch n a b _ _ (calls {m = m} {x = x} {c = c} {dh = dh} {v = v} p q e) = (m, dh, x, c, (v, p, q, e, refl))

-- so unset is never the value of an expression: it is not compared, handed on or stored
pub unset-is-no-answer : (s : Store) (ch : Chain) (e : Exp) → eval s ch e ≡ ok Unset → ⊥
unset-is-no-answer = Values.never-unset

-- "Fields of new objects stay null": those of the object that a malloc makes
pub new-fields-are-null : (sc : Script) (s : Store) (ch : Chain) (n x : ℕ) (s' : Store) (o : Option Control)
    → Command sc s ch (malloc n x) (goes_to s' o)
    → object_at s' (next_object s) ≡ some (object (replicate sc.fields Null))
unfolding put_cell
new-fields-are-null sc s ch n x _ _ (allocates e) = object-numbered sc.fields s

-- .. and no field is ever unset
pub no-field-is-unset : (words : ℕ) (img : List ℕ) → Bytes img → check [] words img ≡ Accepted → (choices : List ℕ) (s : Store) (o : Option Control) → At img choices s o
    → (k i : ℕ) (x : AnObject) → object_at s k ≡ some x → get_elem? x.values i ≡ some Unset → ⊥
no-field-is-unset words img are-bytes is-accepted choices s o at = Demand3.no-field-is-unset words img are-bytes is-accepted choices s o at
