-- Atomic blocks in runs (demand 3: "From the step that enters an atomic block to the step that leaves it, only that
-- block moves"), for any machine, nested blocks included. A block is entered by a step that leaves an entered atom in
-- place of the command that moved; it is open while that atom stands there, around what is left of it; it is left
-- with the last step of its inside, when nothing stands there. Only it moves: the same choices are a run of
-- the block ALONE, all around stays, and no other command is movable. Assumes nothing.
use Rattle.std.specs.Prelude.{ℕ, ◌≡◌, false, List, ◌++◌}
use Rattle.std.proofs.Math.Option.{Option, none, some}
use Rattle.std.proofs.Math.ListN.{get_elem?}
use Rattle.rules.specs.Syntax.{Cmd, atom, cmd_no}
use Rattle.rules.specs.declared.Chain.{Chain}
use Rattle.rules.specs.Script.{Script}
use Rattle.rules.specs.Control.{Control, entered, opened, atom_in, move, movable, goes_to}
use Rattle.rules.specs.Paper.{ComesTo}
use Rattle.rules.specs.Step.{Machine}
use Rattle.safety.specs.Inside.{EnteredIn}
use Rattle.safety.specs.Reaches.{Reaches}

-- the innermost entered atom of a control: none is entered inside it
pub record Innermost (t : Control) : Type 0 where
  pub inner : Control
  pub stands : EnteredIn inner t
  pub calm : atom_in inner ≡ false

-- Control t, with p in place of the command that choice i names, is o, by the rules for control: that command's step is taken to leave
-- p, and no store plays a part.
abbrev pub InPlace : (ℕ → Cmd) → Control → ℕ → Option Control → Option Control → Type 0
InPlace cmd_at t i p o = ComesTo {S = Unit {0}} cmd_at (λ n ch out. out ≡ goes_to tt p) t i (goes_to tt o)

module _ {S E : Type 0} (m : Machine S E) where
  -- Choice i of t entered a block with the inside u. Since then, with the store s, the choices cs were made; they led to the store s'
  -- with the control o'.
  module _ (t : Control) (i : ℕ) (u : Control) (cs : List ℕ) (s s' : S) (o' : Option Control) where
    -- the block hasn't been left
    pub record StillInside : Type 0 where
      pub inner : Control  -- what is left of the block
      pub alone : Reaches m s' (some inner) cs s (some u)  -- the run of the block alone, with the same choices
      pub control : Control
      pub is : o' ≡ some control
      pub stands : InPlace m.cmd_at t i (some (entered inner)) (some control)  -- all around it is as it was
      pub others-wait : movable control ≡ movable inner  -- nothing else is movable

    -- it has: a first part of the choices is the run of the block alone, to its end; the others go on without it
    pub record LeftSince : Type 0 where
      pub first : List ℕ
      pub later : List ℕ
      pub is : cs ≡ first ++ later
      pub store : S
      pub alone : Reaches m store none first s (some u)
      pub control : Option Control
      pub closed : InPlace m.cmd_at t i none control
      pub on : Reaches m s' o' later store control

    pub data OnlyBlock : Type 0 where
      still-inside : StillInside → OnlyBlock
      was-left : LeftSince → OnlyBlock

  -- The step of t with choice i entered the block whose inside is the command at node n, opened in the chain ch, and led to the
  -- store s with the control o: whatever choices follow, only the block moves until it is left.
  abbrev pub Sealed : Control → ℕ → ℕ → Chain → S → Option Control → Type 0
  Sealed t i n ch s o =
      (cs : List ℕ) (s' : S) (o' : Option Control) → Reaches m s' o' cs s o → OnlyBlock t i (opened (m.cmd_at n) ch) cs s s' o'

-- In this language the step that enters a block is the step of an atom: choice i picks, at a node of its own, an atom
-- around the command at node n, in the chain ch.
pub record AtomMoves (sc : Script) (t : Control) (i n : ℕ) (ch : Chain) : Type 0 where
  pub node : ℕ
  pub picks : get_elem? (movable t) i ≡ some (move node ch)
  pub number : ℕ
  pub inner : Cmd
  pub is : sc.cmd_at node ≡ atom number inner
  pub inside : n ≡ cmd_no inner
