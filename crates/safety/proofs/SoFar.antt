-- A moment is what the run over the choices so far leaves, and all of its fields are needed for that: `Moment`, `Left` and
-- `EndsSo` of specs/Reaches, each said again by `run` and `run_from` of the rules, both ways, for any machine.
-- Assumes nothing.
use Prim.Native.Nat.{ℕ, ◌+◌, ◌≤◌}
use mathlib.Core.Path.{◌≡◌, refl, sym, ap, subst, subst₂, ◌∙◌}
use mathlib.Core.Logic.{◌↔◌}
use mathlib.Core.Option.{Option, none, some}
use mathlib.Core.List.{List, [], ◌++◌, append_assoc, append-nil}
use native.Mathlib.Nat.{zero-add}
use native.Mathlib.Omega.{arith}
use lib.ListN.{length, take, drop, length-append, take-append-drop}
use lib.Seq.{take-append_seam}
use borrow.Author.Tests.{le-leb}
use Rattle.rules.specs.declared.End.{End}
use Rattle.rules.specs.declared.End.TheVariants.{Done, UsedUp, Stopped}
use Rattle.rules.specs.State.{most_parts}
use Rattle.rules.specs.Control.{Control, parts, fits}
use Rattle.rules.specs.Step.{Machine}
use Rattle.rules.specs.Run.{Ran, ran, run_from, Start, run, begins}
use Rattle.safety.specs.Reaches.{Reaches, Moment, EndsSo, Left}
use Rattle.safety.proofs.Reaches.{run-reaches}
use Rattle.safety.proofs.Ends.{ends-only, done-if, used-up-if, stops-if, run-leaves}

-- a run that has made n steps and leaves this store and this control
pub record Stood {S : Type 0} (r : Ran S) (n : ℕ) (s : S) (o : Option Control) : Type 0 where
  pub steps : r.steps ≡ n
  pub store : r.store ≡ s
  pub control : r.control ≡ o

module _ {S E : Type 0} (m : Machine S E) where
  -- what the choices reach, the run over just them leaves, a step for each
  pub reached-stood : (s' : S) (o' : Option Control) (cs : List ℕ) (k : ℕ) (s : S) (o : Option Control)
      → Reaches m s' o' cs s o
      → Stood (run_from m cs k s o) (k + length cs) s' o'
  unfolding run_from ran
  reached-stood s' o' cs k s o r =
      rw (rw append-nil at (run-reaches m s' o' cs s o r [] k)) (here o')
    where
      here : (p : Option Control) → Stood (run_from m [] (k + length cs) s' p) (k + length cs) s' p
      here none = record { steps = refl; store = refl; control = refl }
      here (some t) = record { steps = refl; store = refl; control = refl }

  -- ---- what a run leaves

  -- the first n choices, each of them a step, lead there
  pub record Firsts (cs : List ℕ) (k : ℕ) (s : S) (o : Option Control) (n : ℕ) (s' : S) (o' : Option Control) : Type 0 where
    pub enough : n ≤ length cs
    pub stood : Stood (run_from m (take n cs) k s o) (k + n) s' o'

  firsts : (cs used rest : List ℕ) (k : ℕ) (s : S) (o : Option Control) (s' : S) (o' : Option Control)
      → cs ≡ used ++ rest
      → Reaches m s' o' used s o
      → Firsts cs k s o (length used) s' o'
  firsts cs used rest k s o s' o' e r =
      record {
        enough = let l = ap length e ∙ length-append used rest in omega (arith, l);
        stood = rw (e, take-append_seam used rest) (reached-stood s' o' used k s o r);
      }

  -- of the choices that a run over the first n uses, the first of all are made
  longer : (cs : List ℕ) (n : ℕ) (used rest : List ℕ) → take n cs ≡ used ++ rest → cs ≡ used ++ (rest ++ drop n cs)
  longer cs n used rest e = sym (rw (e, append_assoc) at (take-append-drop n cs))

  pub left-exactly : (cs : List ℕ) (k : ℕ) (s : S) (o : Option Control) (r : Ran S)
      → Left m cs k s o r ↔ ((n : ℕ) × (r.steps ≡ k + n) × Firsts cs k s o n r.store r.control)
  left-exactly cs k s o r = (
    λ x. (length x.used, x.counts, firsts cs x.used x.rest k s o r.store r.control x.is x.reached),
    λ y.
        let n : ℕ = y.0 in
        let f : Firsts cs k s o n r.store r.control = y.2 in
        let x : Left m (take n cs) k s o (run_from m (take n cs) k s o) = run-leaves m (take n cs) k s o in
        record {
          used = x.used;
          rest = x.rest ++ drop n cs;
          is = longer cs n x.used x.rest x.is;
          reached = subst₂ (λ (z : S) (p : Option Control). Reaches m z p x.used s o) f.stood.store f.stood.control x.reached;
          counts = y.1 ∙ sym f.stood.steps ∙ x.counts;
        },
  )

  -- ---- moments

  pub moment-exactly : (st : Start S) (root : ℕ) (cs : List ℕ) (s : S) (o : Option Control)
      → Moment m st root cs s o ↔ ((parts (begins m st root) ≤ most_parts) × ((n : ℕ) × Firsts cs 0 st.store (some (begins m st root)) n s o))
  unfolding ran
  moment-exactly st root cs s o = (
    λ x. (x.fits, (length x.used, firsts cs x.used x.rest 0 st.store (some (begins m st root)) s o x.is x.reached)),
    λ y.
        let r : Ran S = ran Done y.1.0 s o in
        let x : Left m cs 0 st.store (some (begins m st root)) r = (left-exactly cs 0 st.store (some (begins m st root)) r).1 (y.1.0, omega arith, y.1.1) in
        record { fits = y.0; used = x.used; rest = x.rest; is = x.is; reached = x.reached },
  )

  -- .. so it is what the run from the root over the choices used leaves, a step for each
  pub moment-run : (st : Start S) (root : ℕ) (cs : List ℕ) (s : S) (o : Option Control) (x : Moment m st root cs s o)
      → Stood (run m st root x.used) (length x.used) s o
  unfolding run fits
  moment-run st root cs s o x =
      rw (le-leb (parts (begins m st root)) most_parts x.fits)
      (rw zero-add at (reached-stood s o x.used 0 st.store (some (begins m st root)) x.reached))

  -- ---- ends

  pub ends-exactly : (cs : List ℕ) (k : ℕ) (s : S) (o : Option Control) (e : End) → ((run_from m cs k s o).end ≡ e) ↔ EndsSo m cs s o e
  unfolding ran
  ends-exactly cs k s o e = (λ f. subst (EndsSo m cs s o) f (ends-only m cs k s o), back e)
    where
      back : (x : End) → EndsSo m cs s o x → (run_from m cs k s o).end ≡ x
      back Done x = rw (done-if m cs k s o x)
      back UsedUp x = rw (used-up-if m cs k s o x)
      back (Stopped q) x = rw (stops-if m cs k s o q x)
