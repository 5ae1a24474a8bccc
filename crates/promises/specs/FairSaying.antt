-- The words in which the promises on fair turns are said: the fair run of a script and the choices that it picks, and its turns from the start on.
-- Assumes nothing.
use Rattle.std.specs.Prelude.{ℕ, ◌≡◌, List, ◌∷◌, map}
use Rattle.std.proofs.Math.Option.{Option, some}
use Rattle.std.proofs.Math.ListN.{get_elem?}
use Rattle.rules.specs.State.{Store, empty}
use Rattle.rules.specs.Script.{root_of}
use Rattle.rules.specs.Control.{Control, Move, movable}
use Rattle.rules.specs.Run.{Ran, machine, start, bare}
use Rattle.fair.specs.FairRun.{Queue, Line, first_line, picks, fair}
use Rattle.fair.specs.WholeTurns.{Turns}

-- with a list that has room for n choices
abbrev pub picked : List ℕ → ℕ → List ℕ
picked img n = picks (machine img) n bare (root_of img)

abbrev pub fair_run : List ℕ → ℕ → Ran Store
fair_run img n = fair (machine img) n bare (root_of img)

-- who waits, the next to move first
abbrev pub queue_of : Line → Queue
queue_of l = l.front ∷ l.rest

-- the commands that stand at these positions of control
abbrev pub commands_in : Control → Queue → List (Option Move)
commands_in t q = map (get_elem? (movable t)) q

-- a turn begins with this store, this control and this queue, i whole turns after the start
pub record TurnBegins (img : List ℕ) (i : ℕ) (s : Store) (t : Control) (l : Line) : Type 0 where
  pub first : Line
  pub is-first : first_line (start img) ≡ some first
  pub choices : List ℕ
  pub turns : Turns (machine img) s t l i choices empty (start img) first
