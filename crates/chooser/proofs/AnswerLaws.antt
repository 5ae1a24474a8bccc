-- From the answer of a fair run to what is printed and to the choice file, one law for each way. Assumes nothing.
use Prim.Native.Nat.{ℕ, ◌+◌}
use mathlib.Core.Path.{◌≡◌, refl, sym, ap, ◌∙◌}
use mathlib.Core.Option.{Option, none, some}
use mathlib.Core.List.{List, [], ◌++◌}
use native.Mathlib.Omega.{arith}
use lib.ListN.{length, take, drop, length-append}
use lib.Seq.{take_at}
use Rattle.rules.specs.declared.Verdict.{Verdict}
use Rattle.rules.specs.declared.Verdict.TheVariants.{Accepted, Refused}
use Rattle.rules.specs.declared.Answer.{Answer}
use Rattle.rules.specs.declared.Answer.TheVariants.{Refusal, Ending}
use Rattle.rules.specs.declared.End.{End}
use Rattle.rules.specs.State.{size}
use Rattle.rules.specs.Refusals.{check}
use Rattle.rules.specs.Script.{root_of}
use Rattle.rules.specs.Run.{bare, machine, run_script, answered, answer_of}
use Rattle.fair.specs.FairRun.{picks, fair}
use Rattle.turnwords.specs.declared.Turned.{Turned}
use Rattle.turnwords.specs.FairContract.{picks_by, picks_of, Fairly}
use Rattle.std.specs.Prelude.{Option as Answered, None, Some}
use Rattle.std.proofs.Common.{Bor}
use Rattle.text.specs.declared.Page.{Page}
use Rattle.text.specs.Written.{Adds}
use Rattle.text.proofs.WroteLaws.{adds_as}
use Rattle.listed.specs.Listing.{end_line, refused_line, no_input}
use Rattle.filing.specs.Given.{given}
use Rattle.chooser.specs.Makes.{most_picks, made_by, makes}
use Rattle.chooser.specs.Says.{FileIs, AnswerSays, line_for, file_for, TellSays, FileFits}

-- ---- of an answer

module _ (a : Answer) (picked : ℕ) (d o : Page) where
  pub tells-refusal : (k p : ℕ) → a ≡ Refusal k p → Adds 128 d (refused_line k p) o → TellSays a picked None d o
  tells-refusal k p e w = rw e (record { printed = w; file = refl })

  pub tells-end : (e : End) (steps : ℕ) → a ≡ Ending e steps → Adds 128 d (end_line e steps) o → TellSays a picked (Some picked) d o
  tells-end e steps f w = rw f (record { printed = w; file = refl })

-- ---- of a script that is there

module _ (img lent : List ℕ) where
  line-by : (v : Verdict) (cs : List ℕ) → line_for (answered v (run_script img (picks_by v cs))) ≡ (made_by v (run_script img cs) cs).printed
  unfolding answered picks_by made_by
  line-by Accepted cs = refl
  line-by (Refused k p) cs = refl

  file-by : (v : Verdict) (cs : List ℕ) (f : Answered ℕ) (after : List ℕ) → f ≡ file_for (answered v (run_script img (picks_by v cs))) (length (picks_by v cs))
      → after ≡ picks_by v cs ++ drop (length (picks_by v cs)) lent
      → FileIs (made_by v (run_script img cs) cs).file f lent after
  unfolding answered picks_by made_by
  file-by Accepted cs f after e i = (e, i)
  file-by (Refused k p) cs f after e i = (e, i)

  pub answers-run : (t : Turned) (lent' before after : List ℕ) (out out' : Page) (r : Answered ℕ) → most_picks ≡ length lent → length before ≡ size
      → Fairly img t lent lent' before after
      → TellSays t.answer t.picked r out out'
      → AnswerSays (some img) r lent out lent' out'
  unfolding makes picks_of answer_of run_script fair
  answers-run t lent' before after out out' r room sized says tells =
      let v = check [] size img in
      let cs = picks (machine img) most_picks bare (root_of img) in
      let a : t.answer ≡ answered v (run_script img (picks_by v cs)) = says.answer ∙ rw (sized, ← room) in
      let n : t.picked ≡ length (picks_by v cs) = says.picked ∙ rw (sized, ← room) in
      let i : lent' ≡ picks_by v cs ++ drop (length (picks_by v cs)) lent = says.picks ∙ rw (sized, ← room) in
      record {
        printed = adds_as 128 128 out out' (line_for t.answer) (makes (some img)).printed tells.printed (ap line_for a ∙ line-by v cs) (omega arith);
        file = file-by v cs r lent' (tells.file ∙ rw (a, n)) i;
      }

-- ---- of a file

module _ (script : Answered (Bor (List ℕ))) (lent : List ℕ) (out out' : Page) where
  pub answers-missing : script ≡ None → Adds 128 out no_input out' → AnswerSays (given script) None lent out lent out'
  unfolding makes
  answers-missing e w = rw e (record { printed = w; file = (refl, refl) })

  pub answers-there : (img : Bor (List ℕ)) (r : Answered ℕ) (lent' : List ℕ) → script ≡ Some img → AnswerSays (some img.now) r lent out lent' out'
      → AnswerSays (given script) r lent out lent' out'
  answers-there img r lent' e x = rw e x

-- ---- what is written lies in its buffer

file-fits : (o : Option (List ℕ)) (f : Answered ℕ) (before after : List ℕ) → FileIs o f before after → FileFits f after
file-fits none f before after h = rw h.0 tt
file-fits (some cs) f before after h =
    let n = length cs in
    let t : take n after ≡ cs = ap (take n) h.1 ∙ take_at cs (drop n before) n refl in
    let l : length after ≡ length cs + length (drop n before) = ap length h.1 ∙ length-append cs (drop n before) in
    rw h.0 (omega arith, ap length (sym t))

pub answer-fits : (script : Option (List ℕ)) (r : Answered ℕ) (lent lent' : List ℕ) (out out' : Page) → AnswerSays script r lent out lent' out' → FileFits r lent'
answer-fits script r lent lent' out out' x = file-fits (makes script).file r lent lent' x.file
