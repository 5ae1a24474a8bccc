-- What the contract of `run` leaves out already for accepted scripts, by one of them, document 01's `var x; x = 1`, lent a
-- workspace of zeros: a run that always says done, one that writes nothing, and one that does all the work at its first
-- step and pads the rest.
-- Assumes nothing.
use Prim.Native.Nat.{ℕ}
use mathlib.Core.Path.{◌≡◌, refl, sym, ap, ◌∙◌}
use mathlib.Core.List.{List, [], ◌∷◌, ◌++◌}
use native.Mathlib.Omega.{arith}
use lib.ListN.{length, get_or, replicate, drop, length-replicate}
use Rattle.rules.specs.declared.Answer.{Answer}
use Rattle.rules.specs.declared.Answer.TheVariants.{Ending}
use Rattle.rules.specs.declared.End.TheVariants.{Done, UsedUp}
use Rattle.rules.specs.declared.Verdict.TheVariants.{Accepted}
use Rattle.rules.specs.State.{size}
use Rattle.rules.specs.Refusals.{check}
use Rattle.rules.specs.Run.{run_script, answered, answer_of}
use Rattle.words.specs.Layout.{layout, flat_all, flat}
use Rattle.words.specs.Lent.{words_after_run, words_after}
use Rattle.rules.proofs.Opens.{opens}
use Rattle.cases.proofs.Cases.{bytes34}

abbrev zeros : List ℕ
zeros = replicate size 0

accepted : check [] (length zeros) bytes34 ≡ Accepted
unfolding opens
accepted = ap (λ n. check [] n bytes34) (length-replicate {A = ℕ} size 0)

-- the words after these choices
abbrev after : List ℕ → List ℕ
after cs = words_after bytes34 cs zeros

laid_out : (cs : List ℕ) → after cs ≡ layout (run_script bytes34 cs).store (run_script bytes34 cs).control ++ drop size zeros
unfolding words_after words_after_run
laid_out cs = rw accepted

-- one frame and one part after a step; no part after two
frames-after-one : get_or (after (0 ∷ [])) 0 9 ≡ 1
unfolding opens layout
frames-after-one = ap (λ ws. get_or ws 0 9) (laid_out (0 ∷ []))

parts-after-one : get_or (after (0 ∷ [])) 2 9 ≡ 1
unfolding opens layout flat_all flat
parts-after-one = ap (λ ws. get_or ws 2 9) (laid_out (0 ∷ []))

parts-after-two : get_or (after (0 ∷ 0 ∷ [])) 2 9 ≡ 0
unfolding opens layout flat_all
parts-after-two = ap (λ ws. get_or ws 2 9) (laid_out (0 ∷ 0 ∷ []))

no-frames-lent : get_or zeros 0 9 ≡ 0
no-frames-lent = refl

answer-of : (cs : List ℕ) → answer_of (length zeros) bytes34 cs ≡ answered Accepted (run_script bytes34 cs)
unfolding answer_of
answer-of cs = rw accepted

not-done-without-choices : answer_of (length zeros) bytes34 [] ≡ Ending UsedUp 0
unfolding opens answered
not-done-without-choices = answer-of []

-- what `run` ensures, of any function that gives an answer and the words
module _ (says : List ℕ → List ℕ → List ℕ → Answer) (leaves : List ℕ → List ℕ → List ℕ → List ℕ)
    (answers : (img choices lent : List ℕ) → says img choices lent ≡ answer_of (length lent) img choices)
    (writes : (img choices lent : List ℕ) → leaves img choices lent ≡ words_after img choices lent) where
  pub not-always-done : (steps : List ℕ → List ℕ → ℕ)
      → ((img choices lent : List ℕ) → check [] (length lent) img ≡ Accepted → says img choices lent ≡ Ending Done (steps img choices)) → ⊥
  not-always-done steps all =
      let e : Ending UsedUp 0 ≡ Ending Done (steps bytes34 []) = sym not-done-without-choices ∙ sym (answers bytes34 [] zeros) ∙ all bytes34 [] zeros accepted in
      let z : ◌≡◌ {A = ℕ} 0 1 = cc in
      absurd (omega arith)

  pub not-writing-nothing : ((img choices lent : List ℕ) → check [] (length lent) img ≡ Accepted → leaves img choices lent ≡ lent) → ⊥
  not-writing-nothing all =
      let e : after (0 ∷ []) ≡ zeros = sym (writes bytes34 (0 ∷ []) zeros) ∙ all bytes34 (0 ∷ []) zeros accepted in
      let z : ◌≡◌ {A = ℕ} 1 0 = sym frames-after-one ∙ ap (λ ws. get_or ws 0 9) e ∙ no-frames-lent in
      absurd (omega arith)

  -- the first choice alone leaves what all of them leave
  pub not-all-at-the-first-step : ((img lent later : List ℕ) (first : ℕ) → check [] (length lent) img ≡ Accepted → leaves img (first ∷ []) lent ≡ leaves img (first ∷ later) lent)
      → ⊥
  not-all-at-the-first-step all =
      let e : after (0 ∷ []) ≡ after (0 ∷ 0 ∷ []) =
      sym (writes bytes34 (0 ∷ []) zeros) ∙ all bytes34 zeros (0 ∷ []) 0 accepted ∙ writes bytes34 (0 ∷ 0 ∷ []) zeros in
      let z : ◌≡◌ {A = ℕ} 1 0 = sym parts-after-one ∙ ap (λ ws. get_or ws 2 9) e ∙ parts-after-two in
      absurd (omega arith)
