-- The invariant of demand 3 isn't vacuous. Worked cases of document 01 are accepted, by computing, and made of bytes; so
-- they are safe at every moment, and the state of some such moments is written out, one of them before a step that enters
-- an atom. And `Safe` is false of a state whose one command has a chain with no such frame, of one with a cell or
-- a field that holds an object with no such number, and of one with two atoms entered side by side. Assumes nothing.
use Prim.Native.Nat.{ℕ, zero, suc, ◌<◌, ◌≤◌}
use mathlib.Core.Path.{◌≡◌, refl, sym, subst}
use mathlib.Core.Bool.{Bool, true, false, ◌&&◌}
use mathlib.Core.Option.{Option, none, some, none-ne-some, some-injective}
use mathlib.Core.List.{List, [], ◌∷◌}
use native.Mathlib.Omega.{arith}
use lib.ListN.{get_or, get_elem?, replicate}
use lib.Dec.{T, ltb, ltb→lt}
use Rattle.rules.specs.declared.Chain.TheVariants.{Empty, From}
use Rattle.rules.specs.declared.Value.TheVariants.{Null, Int, Object, Proc}
use Rattle.rules.specs.declared.Frame.{Frame}
use Rattle.rules.specs.declared.Verdict.TheVariants.{Accepted, Refused}
use Rattle.rules.specs.State.{size, Store, empty, most_parts, frame, AnObject, frame_at, object_at, frames_used, objects_used, HasFrame, HasObject}
use Rattle.rules.specs.Refusals.{check}
use Rattle.rules.specs.Published.{Bytes}
use Rattle.rules.specs.Script.{Script, script_of, root_of}
use Rattle.rules.specs.Control.{Control, command, followed, beside, entered, parts, atom_in}
use Rattle.rules.specs.Step.{mini_oo}
use Rattle.rules.specs.Run.{Start, bare, run_script, run, begins}
use Rattle.rules.proofs.Opens.{opens}
use Rattle.cases.proofs.Cases.{recursive, in_atom, own_stacks}
use Rattle.safety.specs.Safe.{FitCmd, RealCell, RealFrame, RealObject, outermost, within, Given, Safe}
use Rattle.safety.specs.Atoms.{Sealed, AtomMoves}
use Rattle.safety.proofs.Chains.{bears-there}
use Rattle.safety.proofs.ReachesMoments.{run-moment}
use Rattle.safety.proofs.Demand3.{At, always-safe, only-the-entered-block-moves}

-- ---- a list of bytes, by computing

unfoldable all_bytes : List ℕ → Bool
all_bytes [] = true
all_bytes (b ∷ img) = ltb b 256 && all_bytes img

bytes-if : (img : List ℕ) → T (all_bytes img) → Bytes img
unfolding all_bytes
bytes-if [] h zero = omega arith
bytes-if [] h (suc i) = omega arith
bytes-if (b ∷ img) h i = go (ltb b 256) refl h i (λ k j. bytes-if img k j)
  where
    go : (x : Bool) → ltb b 256 ≡ x → T (x && all_bytes img) → (i : ℕ) → (T (all_bytes img) → Bytes img) → get_or (b ∷ img) i 0 < 256
    go true e k zero f = ltb→lt b 256 (subst T (sym e) tt)
    go true e k (suc i) f = f k i
    go false e k i f = absurd k

-- ---- an accepted script is safe in the state that any choices leave

module _ (img : List ℕ) (are-bytes : Bytes img) (accepted : check [] size img ≡ Accepted) where
  pub left-safe : parts (begins (mini_oo (script_of img)) bare (root_of img)) ≤ most_parts
      → (choices : List ℕ)
      → Safe (script_of img) (run_script img choices).store (run_script img choices).control
  unfolding run_script
  left-safe h choices =
      always-safe size img are-bytes accepted choices (run_script img choices).store (run_script img choices).control
      (run-moment (script_of img) bare (root_of img) choices h)

abbrev pub frames_only : List Frame → Store
frames_only fs = record { frames = fs; objects = [] }

-- ---- case d: `var p; {p = proc y: if y < 1 p = 1 else p(y - 1); p(1)}`, its choices all 0

pub d-bytes : Bytes recursive
unfolding opens all_bytes
d-bytes = bytes-if recursive tt

pub d-accepted : check [] size recursive ≡ Accepted
unfolding opens
d-accepted = refl

-- so every moment of its run is safe, for any choices
pub d-always : (choices : List ℕ) (s : Store) (o : Option Control)
    → At size recursive d-bytes d-accepted choices s o
    → Safe (script_of recursive) s o
d-always = always-safe size recursive d-bytes d-accepted

d-safe : (choices : List ℕ) → Safe (script_of recursive) (run_script recursive choices).store (run_script recursive choices).control
unfolding opens begins
d-safe = left-safe recursive d-bytes d-accepted (omega arith)

-- at the start: the root stands alone, with no frame
pub d-start : Safe (script_of recursive) empty (some (command 17 Empty))
unfolding opens begins
d-start = d-safe []

-- after six steps: the cell of p holds a procedure, two calls have made frames, and `p = 1` is left, in the second's chain
pub d-sixth : Safe (script_of recursive) (frames_only (frame 0 Empty (Proc 11 (From 0)) ∷ frame 1 (From 0) (Int 1) ∷ frame 1 (From 0) (Int 0) ∷ [])) (some (command 4 (From 2)))
unfolding opens
d-sixth = d-safe (replicate 6 0)

-- after the last, the seventh: nothing is left in control
pub d-last : Safe (script_of recursive) (frames_only (frame 0 Empty (Int 1) ∷ frame 1 (From 0) (Int 1) ∷ frame 1 (From 0) (Int 0) ∷ [])) none
unfolding opens
d-last = d-safe (replicate 7 0)

-- ---- case h: `var x; {{x = 0; atom({x = x - -1; x = x - -1})} || x = 0}`, after 0 0 0: the atom is entered

pub h-bytes : Bytes in_atom
unfolding opens all_bytes
h-bytes = bytes-if in_atom tt

pub h-accepted : check [] size in_atom ≡ Accepted
unfolding opens
h-accepted = refl

pub h-third : Safe (script_of in_atom) (frames_only (frame 0 Empty (Int 0) ∷ [])) (some (beside (entered (followed (command 5 (From 0)) 9 (From 0))) (command 14 (From 0))))
unfolding opens begins
h-third = left-safe in_atom h-bytes h-accepted (omega arith) (0 ∷ 0 ∷ 0 ∷ [])

-- .. by the third step, which moves the atom at node 11: so from there on only that block moves, until it is left
h-before : At size in_atom h-bytes h-accepted (0 ∷ 0 ∷ []) (frames_only (frame 0 Empty (Int 0) ∷ [])) (some (beside (command 11 (From 0)) (command 14 (From 0))))
unfolding opens begins run_script
h-before = run-moment (script_of in_atom) bare (root_of in_atom) (0 ∷ 0 ∷ []) (omega arith)

unfoldable pub h-atom-moves : AtomMoves (script_of in_atom) (beside (command 11 (From 0)) (command 14 (From 0))) 0 10 (From 0)
unfolding opens
h-atom-moves = record { node = 11; picks = refl; number = 11; inner = (script_of in_atom).cmd_at 10; is = refl; inside = refl }

pub h-sealed : Sealed (mini_oo (script_of in_atom)) (beside (command 11 (From 0)) (command 14 (From 0))) 0 10 (From 0)
    (frames_only (frame 0 Empty (Int 0) ∷ [])) (some (beside (entered (followed (command 5 (From 0)) 9 (From 0))) (command 14 (From 0))))
unfolding opens
h-sealed =
    only-the-entered-block-moves size in_atom h-bytes h-accepted (0 ∷ 0 ∷ []) (frames_only (frame 0 Empty (Int 0) ∷ []))
    (beside (command 11 (From 0)) (command 14 (From 0))) h-before 0 10 (From 0) h-atom-moves _ _ refl

-- ---- case k: `{var x; x = 1 || var x; x = 2}`: the root fits, by computing alone

pub k-fits : FitCmd (script_of own_stacks) [] ((script_of own_stacks).cmd_at 6)
unfolding opens
k-fits = (
  (omega arith, refl),
  ((omega arith, refl), omega arith, ((omega arith, refl), tt, (omega arith, omega arith))),
  ((omega arith, refl), omega arith, ((omega arith, refl), tt, (omega arith, omega arith))),
)

-- ---- what breaks it

module _ (sc : Script) (s : Store) where
  -- a command whose chain is a frame that isn't there
  pub no-such-frame : (n k : ℕ) → frames_used s ≤ k → Safe sc s (some (command n (From k))) → ⊥
  no-such-frame n k h safe =
      let x = safe.control.placed.seen in
      let old : HasFrame s k = bears-there s (From k) x.names x.chain in
      omega arith

  -- a cell that holds an object past the count
  pub no-such-object : (o : Option Control) (k m : ℕ) (f : Frame)
      → frame_at s k ≡ some f
      → f.cell ≡ Object m
      → objects_used s ≤ m
      → Safe sc s o
      → ⊥
  no-such-object o k m f e c h safe =
      let old : HasObject s m = subst (RealCell sc s) c (safe.store.frames k f e).cell in omega arith

  -- .. or a field
  pub no-such-object-in-a-field : (o : Option Control) (k i m : ℕ) (obj : AnObject)
      → object_at s k ≡ some obj
      → get_elem? obj.values i ≡ some (Object m)
      → objects_used s ≤ m
      → Safe sc s o
      → ⊥
  no-such-object-in-a-field o k i m obj e c h safe =
      let old : HasObject s m = (safe.store.objects k obj e).fields i (Object m) c in omega arith

  -- two atoms entered side by side
  pub no-two-atoms : (l r : Control) → Safe sc s (some (beside (entered l) (entered r))) → ⊥
  unfolding atom_in
  no-two-atoms l r safe = safe.control.nested.0

-- ---- a start that is given: a frame of name 0, whose cell is null, around the root

unfoldable pub one_frame : Start Store
one_frame = record { store = frames_only (frame 0 Empty Null ∷ []); chain = From 0; names = 0 ∷ [] }

frame-real : (sc : Script) → 0 < sc.names → (k : ℕ) (f : Frame) → get_elem? (frame 0 Empty Null ∷ []) k ≡ some f → RealFrame sc one_frame.store f
unfolding one_frame
frame-real sc h zero f e = subst (RealFrame sc (frames_only (frame 0 Empty Null ∷ []))) (some-injective _ _ e) (record { name = h; outer = tt; cell = tt })
frame-real sc h (suc k) f e = absurd (none-ne-some _ e)

object-real : (sc : Script) (o : ℕ) (obj : AnObject) → get_elem? {A = AnObject} [] o ≡ some obj → RealObject sc one_frame.store obj
object-real sc o obj e = absurd (none-ne-some _ e)

pub one-frame-given : (sc : Script) → 0 < sc.names → Given sc one_frame
unfolding one_frame
one-frame-given sc h =
    record {
      store = record { frames = frame-real sc h; objects = object-real sc; few-frames = omega arith; few-objects = omega arith };
      chain = within (frame 0 Empty Null) refl outermost;
    }

-- `x = 1`, with no declaration
unfoldable pub assigns_given : List ℕ
assigns_given = 10 ∷ 0 ∷ 0 ∷ 0 ∷ 10 ∷ 0 ∷ 2 ∷ 0 ∷ 1 ∷ 0 ∷ 2 ∷ 0 ∷ 1 ∷ 0 ∷ 0 ∷ 0 ∷ 0 ∷ 0 ∷ 35 ∷ 0 ∷ 0 ∷ 0 ∷ 0 ∷ 0 ∷ 0 ∷ 0 ∷ []

pub given-accepted : check (0 ∷ []) size assigns_given ≡ Accepted
unfolding assigns_given opens
given-accepted = refl

pub given-refused : check [] size assigns_given ≡ Refused 9 1
unfolding assigns_given opens
given-refused = refl

pub given-runs : (run (mini_oo (script_of assigns_given)) one_frame 1 (0 ∷ [])).store ≡ frames_only (frame 0 Empty (Int 1) ∷ [])
unfolding assigns_given one_frame opens run begins
given-runs = refl
