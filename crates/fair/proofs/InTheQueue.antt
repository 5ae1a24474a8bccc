-- The queue by its commands, where the definition has positions: document 02, order 4. "Movable commands queue, at first left to right": at first the
-- queue's commands are the movable commands (`at_first_lem`). "The front one moves; what its step leaves movable goes to the back, left to right":
-- after a whole turn they are those that waited, in their order, and behind them, left to right, the parts that the turn made where the front
-- stood (`to-the-back`). Assumes nothing.
use Prim.Native.Nat.{ℕ, zero, suc, ◌+◌, ◌-◌}
use mathlib.Core.Path.{◌≡◌, refl, sym, ap, ◌∙◌}
use mathlib.Core.Bool.{false}
use mathlib.Core.Option.{Option, some}
use mathlib.Core.List.{List, [], ◌∷◌, ◌++◌, map, map-append, append-nil}
use native.Mathlib.Omega.{arith}
use lib.ListN.{length, get_elem?}
use Rattle.laws.specs.Elems.{elem-second}
use Rattle.laws.specs.UpTo.{up_to, up_to-same}
use Rattle.rules.specs.Control.{Control, atom_in, Move, movable}
use Rattle.rules.specs.Step.{Machine}
use Rattle.fair.specs.FairRun.{leaves, width, Queue, up_from, Line, first_line, shifted, renewed, line_after}
use Rattle.fair.specs.WholeTurns.{Turn}
use Rattle.fair.proofs.Leaves.{calm-moves}
use Rattle.fair.proofs.Queues.{front-once}
use Rattle.fair.proofs.Lines.{Between, line-is, made-many, others-stay}
use Rattle.fair.proofs.Turning.{OnlyFront, turn-keeps}

-- the commands of a queue, by their positions in control
unfoldable pub commands_of : Control → Queue → List (Option Move)
commands_of t q = map (get_elem? (leaves t)) q

-- ---- lists

map-up_to : {B : Type 0} (g : ℕ → B) (f : ℕ → ℕ) (n : ℕ) → map g (up_to f n) ≡ up_to (λ k. g (f k)) n
unfolding up_to
map-up_to g f zero = refl
map-up_to {B = B} g f (suc n) = ap (λ (z : List B). g (f zero) ∷ z) (map-up_to g (λ k. f (suc k)) n)

module _ {A : Type 0} where
  -- the entries of a list, one after the other, whatever follows
  its-entries : (b c : List A) → up_to (λ k. get_elem? (b ++ c) k) (length b) ≡ map some b
  unfolding up_to
  its-entries [] c = refl
  its-entries (x ∷ b) c = ap (λ (z : List (Option A)). some x ∷ z) (its-entries b c)

  -- and wherever it stands
  middle-entries : (a b c : List A) (p : ℕ) → length a ≡ p → map (get_elem? (a ++ (b ++ c))) (up_from p (length b)) ≡ map some b
  unfolding up_from
  middle-entries a b c p e =
      map-up_to (get_elem? (a ++ (b ++ c))) (λ k. p + k) (length b)
      ∙ up_to-same (λ k. get_elem? (a ++ (b ++ c)) (p + k)) (λ k. get_elem? (b ++ c) k) (length b) (λ k h. at k)
      ∙ its-entries b c
    where
      at : (k : ℕ) → get_elem? (a ++ (b ++ c)) (p + k) ≡ get_elem? (b ++ c) k
      at k = elem-second a (b ++ c) (p + k) (omega arith) ∙ ap (get_elem? (b ++ c)) (let d : p + k - length a ≡ k = omega arith in d)

  -- entries that are the same elsewhere
  moved-entries : (f : ℕ → ℕ) (u v : List A) (q : Queue)
      → ((i j : ℕ) → get_elem? q i ≡ some j → get_elem? v (f j) ≡ get_elem? u j)
      → map (get_elem? v) (map f q) ≡ map (get_elem? u) q
  moved-entries f u v [] h = refl
  moved-entries f u v (j ∷ q) h = rw (h zero j refl, moved-entries f u v q (λ i. h (suc i)))

-- ---- at first

pub at_first_lem : (t : Control) (l : Line) → atom_in t ≡ false → first_line t ≡ some l → commands_of t (l.front ∷ l.rest) ≡ map some (movable t)
unfolding commands_of first_line width
at_first_lem t l h e =
    let q : up_from 0 (length (leaves t)) ≡ l.front ∷ l.rest = (line-is (up_from 0 (width t)) (width t) l e).0 in
    let all : commands_of t (up_from 0 (length (leaves t))) ≡ map some (leaves t) = rw append-nil at (middle-entries [] (leaves t) [] 0 refl) in
    ap (commands_of t) (sym q) ∙ all ∙ ap (map some) (sym (calm-moves t h))

-- ---- after a turn

pub renewed-commands : (t t' : Control) (l l' : Line) (x : OnlyFront l t t')
    → line_after false l t' ≡ some l'
    → commands_of t' (l'.front ∷ l'.rest) ≡ commands_of t l.rest ++ map some x.made
unfolding commands_of line_after renewed
renewed-commands t t' l l' x e =
    ap (commands_of t') (sym q)
    ∙ ap (λ (k : ℕ). commands_of t' (renewed l.front k l.rest)) n
    ∙ map-append (get_elem? (leaves t')) (map (shifted l.front (length x.made)) l.rest) (up_from l.front (length x.made))
    ∙ rw (waited, new)
  where
    many : ℕ
    many = suc (width t') - l.count

    q : renewed l.front many l.rest ≡ l'.front ∷ l'.rest
    q = (line-is (renewed l.front many l.rest) (width t') l' e).0

    n : many ≡ length x.made
    n = made-many l x.ahead x.after x.begun t' x.made x.now

    waited : map (get_elem? (leaves t')) (map (shifted l.front (length x.made)) l.rest) ≡ map (get_elem? (leaves t)) l.rest
    waited =
        moved-entries (shifted l.front (length x.made)) (leaves t) (leaves t') l.rest
        (λ i j d.
        others-stay l x.ahead x.after x.begun t' x.made x.now t x.moved x.was j
        (front-once l.count l.front (length x.made) l.rest x.begun.fit i j d))

    new : map (get_elem? (leaves t')) (up_from l.front (length x.made)) ≡ map some x.made
    new = rw x.now (middle-entries x.ahead x.made x.after l.front x.begun.position)

module _ {S E : Type 0} (m : Machine S E) where
  -- the front is gone from the queue; what the turn made where it stood (`OnlyFront`) is at the back
  pub to-the-back : (s' : S) (t' : Control) (l' : Line) (cs : List ℕ) (s : S) (t : Control) (l : Line)
      → Between t l
      → Turn m s' t' l' cs s t l
      → (x : OnlyFront l t t') × (commands_of t' (l'.front ∷ l'.rest) ≡ commands_of t l.rest ++ map some x.made)
  to-the-back s' t' l' cs s t l b r = let x = turn-keeps m s' t' l' cs s t l b r in (x, renewed-commands t t' l l' x r.line)
