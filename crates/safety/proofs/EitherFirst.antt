-- Of two trees side by side the right one is asked first for an entered atom (`among`, `side` of the rules). For nested
-- atoms, the only ones that a run meets, the left one first gives the same: movable commands, and what stands after a
-- step. Assumes nothing.
use Prim.Native.Nat.{ℕ, ◌-◌}
use mathlib.Core.Path.{◌≡◌, refl}
use mathlib.Core.Bool.{Bool, true, false, cond, not, ◌&&◌}
use mathlib.Core.Option.{Option, some, map}
use mathlib.Core.List.{List, [], ◌∷◌, ◌++◌}
use lib.ListN.{length}
use lib.Dec.{T, ltb}
use Rattle.rules.specs.Syntax.{Cmd}
use Rattle.rules.specs.Control.{Control, command, followed, beside, entered, atom_in, among, Move, move, movable}
use Rattle.safety.specs.Safe.{Nested}
use Rattle.rules.specs.Step.{Side, in_left, in_right, side, and_then, both, put}

-- `among`, asking the left tree before the right one
unfoldable pub among_left : {A : Type 0} → Bool → Bool → List A → List A → List A
among_left true x l r = l
among_left false true l r = r
among_left false false l r = l ++ r

unfoldable pub movable_left : Control → List Move
movable_left (command n ch) = move n ch ∷ []
movable_left (followed t n ch) = movable_left t
movable_left (beside l r) = among_left (atom_in l) (atom_in r) (movable_left l) (movable_left r)
movable_left (entered t) = movable_left t

among-either : {A : Type 0} (x y : Bool) (l r : List A) → T (not (x && y)) → among_left x y l r ≡ among y x l r
unfolding among among_left
among-either true true l r h = absurd h
among-either true false l r h = refl
among-either false true l r h = refl
among-either false false l r h = refl

pub movable-either : (t : Control) → Nested t → movable_left t ≡ movable t
unfolding movable movable_left
movable-either (command n ch) h = refl
movable-either (followed t n ch) h = movable-either t h
movable-either (beside l r) h =
    rw (movable-either l h.1, movable-either r h.2)
    (among-either (atom_in l) (atom_in r) (movable l) (movable r) h.0)
movable-either (entered t) h = movable-either t h

-- and so for what stands after a step
unfoldable pub side_left : Bool → Bool → ℕ → ℕ → Side
side_left true x m i = in_left i
side_left false true m i = in_right i
side_left false false m i = cond (ltb i m) (in_left i) (in_right (i - m))

side-either : (x y : Bool) (m i : ℕ) → T (not (x && y)) → side_left x y m i ≡ side y x m i
unfolding side side_left
side-either true true m i h = absurd h
side-either true false m i h = refl
side-either false true m i h = refl
side-either false false m i h = refl

module _ (cmd_at : ℕ → Cmd) where
  unfoldable pub put_left : Control → ℕ → Option Control → Option Control
  put_left (command n ch) i o = o
  put_left (followed t n ch) i o = and_then cmd_at (put_left t i o) n ch
  put_left (beside l r) i o =
      elim (side_left (atom_in l) (atom_in r) (length (movable_left l)) i) [
        | in_left j ↦ both (put_left l j o) (some r)
        | in_right j ↦ both (some l) (put_left r j o)
      ]
  put_left (entered t) i o = map entered (put_left t i o)

  pub put-either : (t : Control) (i : ℕ) (o : Option Control) → Nested t → put_left t i o ≡ put cmd_at t i o
  unfolding put put_left
  put-either (command n ch) i o h = refl
  put-either (followed t n ch) i o h = rw (put-either t i o h)
  put-either (beside l r) i o h =
      rw (movable-either l h.1, side-either (atom_in l) (atom_in r) (length (movable l)) i h.0, put_left)
      (go (λ j. put-either l j o h.1) (λ j. put-either r j o h.2) (side (atom_in r) (atom_in l) (length (movable l)) i))
    where
      go : ((j : ℕ) → put_left l j o ≡ put cmd_at l j o)
          → ((j : ℕ) → put_left r j o ≡ put cmd_at r j o)
          → (x : Side)
          → ◌≡◌ {A = Option Control}
          (elim x as (λ _. Option Control) [
            | in_left j ↦ both (put_left l j o) (some r)
            | in_right j ↦ both (some l) (put_left r j o)
          ])
          (elim x as (λ _. Option Control) [
            | in_left j ↦ both (put cmd_at l j o) (some r)
            | in_right j ↦ both (some l) (put cmd_at r j o)
          ])
      go f g (in_left j) = rw (f j)
      go f g (in_right j) = rw (g j)
  put-either (entered t) i o h = rw (put-either t i o h)
