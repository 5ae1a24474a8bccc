-- The contracts of the fair run decide every answer, every choice picked and every word: two results that meet the same contract are
-- equal, and for every input something meets it. Those of the crate queue are equations. Assumes nothing.
use Prim.Native.Nat.{ℕ}
use mathlib.Core.Path.{◌≡◌, refl, sym, ap, ◌∙◌}
use mathlib.Core.List.{List, ◌++◌}
use lib.ListN.{length, drop}
use Rattle.rules.specs.Run.{answer_of}
use Rattle.words.specs.Lent.{words_after}
use Rattle.rules.specs.declared.Answer.{Answer}
use Rattle.turnwords.specs.FairContract.{Turned, picks_of, Fairly}
use Rattle.turnwords.specs.Rounds.{Ready, TurnsSay}

same-turned : (r q : Turned) → r.answer ≡ q.answer → r.picked ≡ q.picked → r ≡ q
same-turned r q e f =
    ap (λ (a : Answer). record { answer = a; picked = r.picked }) e ∙ ap (λ (k : ℕ). record { answer = q.answer; picked = k }) f

-- `interpreter::fair`
pub fair-one : {img lent before : List ℕ} {r q : Turned} {l m w v : List ℕ}
    → Fairly img r lent l before w → Fairly img q lent m before v → (r ≡ q) × (l ≡ m) × (w ≡ v)
fair-one {r = r} {q = q} a b =
    (same-turned r q (a.answer ∙ sym b.answer) (a.picked ∙ sym b.picked), a.picks ∙ sym b.picks, a.words ∙ sym b.words)

pub fair-met : (img lent before : List ℕ) → (r : Turned) × (lent' : List ℕ) × (after : List ℕ) × Fairly img r lent lent' before after
fair-met img lent before =
    let ps = picks_of (length before) img (length lent) in (
      record { answer = answer_of (length before) img ps; picked = length ps },
      ps ++ drop (length ps) lent,
      words_after img ps before,
      record { answer = refl; picked = refl; picks = refl; words = refl },
    )

-- `rounds::take_turns`, over the state that the words hold
pub turns-one : {img lent before : List ℕ} {r q : Turned} {l m w v : List ℕ} → Ready img before
    → TurnsSay img r lent l before w → TurnsSay img q lent m before v → (r ≡ q) × (l ≡ m) × (w ≡ v)
turns-one {r = r} {q = q} h a b =
    let x = a.says h.store h.tree h.rest h.holds h.calm in
    let y = b.says h.store h.tree h.rest h.holds h.calm in
    (same-turned r q (x.answer ∙ sym y.answer) (x.picked ∙ sym y.picked), x.picks ∙ sym y.picks, x.words ∙ sym y.words)
