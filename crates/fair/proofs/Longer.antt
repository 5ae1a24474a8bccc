-- A longer list. Where the list was full, a longer one goes on from the same moment (`fair-goes-on`), so each of its first choices is the same; where the run
-- was done or stopped, more room changes nothing (`fair-nothing-more`). Said for any machine. Assumes nothing.
use Prim.Native.Nat.{ℕ, zero, suc, ◌+◌}
use mathlib.Core.Path.{◌≡◌, refl, sym, ap, subst, ◌∙◌}
use mathlib.Core.Option.{none, some}
use mathlib.Core.List.{List, ◌∷◌, ◌++◌}
use mathlib.Core.Logic.{◌≢◌}
use native.Mathlib.Omega.{arith}
use native.Mathlib.Nat.{suc-add, zero-add, add-zero}
use native.Mathlib.Decide.{dec_lt}
use Rattle.rules.specs.declared.End.TheVariants.{Done, UsedUp, Stopped}
use Rattle.rules.specs.State.{most_parts}
use Rattle.rules.specs.Control.{Control, parts, atom_in, Outcome, goes_to, stops}
use Rattle.rules.specs.Step.{Machine, step}
use Rattle.rules.specs.Run.{Start, ran, run_from, begins}
use Rattle.rules.proofs.Runs.{run-used}
use Rattle.safety.specs.Reaches.{StartFits}
use Rattle.fair.specs.FairRun.{Line, first_line, pick_of, picks_from, picks, fair}
use Rattle.fair.proofs.Lines.{first-line}
use Rattle.fair.proofs.Moments.{Moment, MomentOf, start-moment, next-moment}
use Rattle.fair.proofs.Picked.{picks-full, picks-moves, picks-ends, picks-stops, run_on, run_ends, run-breaks}
use Rattle.fair.proofs.Ending.{picks_start, fair-start, picks-too-large, full-fits}

module _ {S E : Type 0} (m : Machine S E) where
  -- the moment that n choices lead to, from which a longer list goes on; k steps were taken before them
  pub record RunGoesOn (n k : ℕ) (s : S) (t : Control) (l : Line) : Type 0 where
    pub store : S
    pub control : Control
    pub line : Line
    pub moment : Moment control line
    pub run_is : run_from m (picks_from m n s (some t) (some l)) k s (some t) ≡ ran UsedUp (n + k) store (some control)
    pub picks-on : (j : ℕ) → picks_from m (n + j) s (some t) (some l) ≡ picks_from m n s (some t) (some l) ++ picks_from m j store (some control) (some line)
    pub runs_on : (j : ℕ)
        → run_from m (picks_from m (n + j) s (some t) (some l)) k s (some t) ≡ run_from m (picks_from m j store (some control) (some line)) (n + k) store (some control)

  pub goes_on : (n k : ℕ) (s : S) (t : Control) (l : Line)
      → Moment t l
      → (run_from m (picks_from m n s (some t) (some l)) k s (some t)).end ≡ UsedUp
      → RunGoesOn n k s t l
  unfolding ran
  goes_on zero k s t l h e =
      record {
        store = s;
        control = t;
        line = l;
        moment = h;
        run_is = rw (picks-full m s (some t) (some l), zero-add k) (run-used m k s t);
        picks-on = λ j. rw (zero-add j, picks-full m s (some t) (some l));
        runs_on = λ j. rw (zero-add j, zero-add k);
      }
  goes_on (suc n) k s t l h e = go (step m s t (pick_of (atom_in t) l)) refl (goes_on n (suc k))
    where
      go : (x : Outcome S) → step m s t (pick_of (atom_in t) l) ≡ x
          → ((s : S) (t : Control) (l : Line) → Moment t l → (run_from m (picks_from m n s (some t) (some l)) (suc k) s (some t)).end ≡ UsedUp → RunGoesOn n (suc k) s t l)
          → RunGoesOn (suc n) k s t l
      go (goes_to s₁ none) d on = let z : Done ≡ UsedUp = rw (run_ends m n s t l k s₁ d) at e in let y : ◌≡◌ {A = ℕ} 0 1 = cc in absurd (omega arith)
      go (goes_to s₁ (some t₁)) d on =
          let x = next-moment m s t l s₁ t₁ h d in
          let g = on s₁ t₁ x.line x.moment (rw (run_on m n s t l k s₁ t₁ d, x.is) at e) in
          let f : n + suc k ≡ suc n + k = omega arith in
          record {
            store = g.store;
            control = g.control;
            line = g.line;
            moment = g.moment;
            run_is = run_on m n s t l k s₁ t₁ d ∙ rw (x.is, sym f) g.run_is;
            picks-on = λ j.
                rw (suc-add n j, picks-moves m n s t l s₁ t₁ d, picks-moves m (n + j) s t l s₁ t₁ d, x.is)
                (ap (λ (z : List ℕ). pick_of (atom_in t) l ∷ z) (g.picks-on j));
            runs_on = λ j. rw (suc-add n j, run_on m (n + j) s t l k s₁ t₁ d, x.is, sym f) (g.runs_on j);
          }
      go (stops r) d on = let z : Stopped r ≡ UsedUp = rw (run-breaks m n s t l k r d) at e in let y : ◌≡◌ {A = ℕ} 0 1 = cc in absurd (omega arith)

  -- ---- done or stopped

  pub nothing-more : (n k j : ℕ) (s : S) (t : Control) (l : Line)
      → Moment t l
      → (run_from m (picks_from m n s (some t) (some l)) k s (some t)).end ≢ UsedUp
      → picks_from m (n + j) s (some t) (some l) ≡ picks_from m n s (some t) (some l)
  unfolding ran
  nothing-more zero k j s t l h e = absurd (e (rw (picks-full m s (some t) (some l), run-used m k s t)))
  nothing-more (suc n) k j s t l h e = go (step m s t (pick_of (atom_in t) l)) refl (nothing-more n (suc k) j)
    where
      go : (x : Outcome S) → step m s t (pick_of (atom_in t) l) ≡ x
          → ((s : S) (t : Control) (l : Line) → Moment t l → (run_from m (picks_from m n s (some t) (some l)) (suc k) s (some t)).end ≢ UsedUp
          → picks_from m (n + j) s (some t) (some l) ≡ picks_from m n s (some t) (some l))
          → picks_from m (suc n + j) s (some t) (some l) ≡ picks_from m (suc n) s (some t) (some l)
      go (goes_to s₁ none) d on = rw (suc-add n j, picks-ends m n s t l s₁ d, picks-ends m (n + j) s t l s₁ d)
      go (goes_to s₁ (some t₁)) d on =
          let x = next-moment m s t l s₁ t₁ h d in
          rw (suc-add n j, picks-moves m n s t l s₁ t₁ d, picks-moves m (n + j) s t l s₁ t₁ d, x.is)
          (ap (λ (z : List ℕ). pick_of (atom_in t) l ∷ z)
          (on s₁ t₁ x.line x.moment (λ f. e (rw (run_on m n s t l k s₁ t₁ d, x.is) f))))
      go (stops r) d on = rw (suc-add n j, picks-stops m n s t l r d, picks-stops m (n + j) s t l r d)

  -- ---- from the start

  module _ (n : ℕ) (st : Start S) (root : ℕ) where
    -- the moment that the n steps of a full list led to
    pub record FairGoesOn : Type 0 where
      pub store : S
      pub control : Control
      pub line : Line
      pub moment : Moment control line
      pub run_is : fair m n st root ≡ ran UsedUp n store (some control)
      pub picks-on : (j : ℕ) → picks m (n + j) st root ≡ picks m n st root ++ picks_from m j store (some control) (some line)
      pub runs_on : (j : ℕ) → fair m (n + j) st root ≡ run_from m (picks_from m j store (some control) (some line)) n store (some control)

    module _ (fits : StartFits m st root) (l₀ : Line) (first : first_line (begins m st root) ≡ some l₀) where
      as-picks : (j : ℕ) → picks m j st root ≡ picks_from m j st.store (some (begins m st root)) (some l₀)
      as-picks j = picks_start m j st root fits ∙ rw first

      as-run : (j : ℕ) → fair m j st root ≡ run_from m (picks_from m j st.store (some (begins m st root)) (some l₀)) 0 st.store (some (begins m st root))
      as-run j = fair-start m j st root fits ∙ rw first

      start : Moment (begins m st root) l₀
      start = subst (MomentOf (some (begins m st root))) first (start-moment m st root)

      from-full : RunGoesOn n 0 st.store (begins m st root) l₀ → FairGoesOn
      from-full g =
          record {
            store = g.store;
            control = g.control;
            line = g.line;
            moment = g.moment;
            run_is = as-run n ∙ g.run_is ∙ rw (add-zero n);
            picks-on = λ j. as-picks (n + j) ∙ g.picks-on j ∙ rw (as-picks n);
            runs_on = λ j. as-run (n + j) ∙ g.runs_on j ∙ rw (add-zero n);
          }

      full-list : (fair m n st root).end ≡ UsedUp → FairGoesOn
      full-list e = from-full (goes_on n 0 st.store (begins m st root) l₀ start (rw (as-run n) at e))

      over-list : (j : ℕ) → (fair m n st root).end ≢ UsedUp → picks m (n + j) st root ≡ picks m n st root
      over-list j e = as-picks (n + j) ∙ nothing-more n 0 j st.store (begins m st root) l₀ start (λ d. e (rw (as-run n) d)) ∙ sym (as-picks n)

    pub fair-goes-on : (fair m n st root).end ≡ UsedUp → FairGoesOn
    fair-goes-on e = let x = first-line (begins m st root) in full-list (full-fits m n st root e) x.0 x.1 e

    -- done or stopped: the same choices, so the same run, whatever room there is besides
    pub fair-nothing-more : (j : ℕ) → (fair m n st root).end ≢ UsedUp → picks m (n + j) st root ≡ picks m n st root
    fair-nothing-more j e =
        elim (dec_lt most_parts (parts (begins m st root))) [
          | yes h ↦ picks-too-large m (n + j) st root h ∙ sym (picks-too-large m n st root h)
          | no h ↦ let x = first-line (begins m st root) in over-list (omega arith) x.0 x.1 j e
        ]
