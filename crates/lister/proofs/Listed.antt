-- The answer of a traced run, its words and its rows print the listing: a refusal its line, a run of an accepted script
-- the rows, the end and the state that it left. Assumes nothing.
use Prim.Native.Nat.{ℕ, ◌+◌, ◌*◌, ◌≤◌}
use mathlib.Core.Path.{◌≡◌, refl, sym, ap, ◌∙◌}
use mathlib.Core.Option.{some}
use mathlib.Core.List.{List, [], ◌++◌, append-nil, flatten}
use native.Mathlib.Omega.{arith}
use lib.ListN.{length, drop}
use Rattle.rules.specs.declared.Verdict.{Verdict}
use Rattle.rules.specs.declared.Verdict.TheVariants.{Accepted, Refused}
use Rattle.rules.specs.declared.Answer.{Answer}
use Rattle.rules.specs.declared.Answer.TheVariants.{Refusal, Ending}
use Rattle.rules.specs.declared.End.{End}
use Rattle.rules.specs.Image.{fields_of}
use Rattle.rules.specs.Refusals.{check}
use Rattle.rules.specs.State.{size, Store, AnObject, object_at}
use Rattle.rules.specs.Published.{Bytes}
use Rattle.words.specs.Layout.{layout}
use Rattle.words.specs.Lent.{rows_of, place_rows, words_after_run, words_after, rows_after_run, rows_after}
use Rattle.rules.specs.Run.{Ran, run_script, answered, answer_of, bare}
use Rattle.rules.specs.Script.{script_of, root_of}
use Rattle.rules.proofs.Good.{good}
use Rattle.rules.proofs.Runs.{script-steps}
use Rattle.safety.specs.Safe.{Safe}
use Rattle.safety.proofs.Accepted.{accepted-fits}
use Rattle.safety.proofs.Preserved.{run_sound, bare-given}
use Rattle.words.specs.LaidOut.{LaidOut}
use Rattle.words.specs.Statements.{Traces}
use Rattle.holds.proofs.Fitting.{store-good}
use Rattle.listed.specs.Listing.{refused_line, run_lines, lines_by, listing_lines, listing}
use Rattle.text.specs.declared.Page.{Page}
use Rattle.text.specs.Written.{HasRoom, Adds}
use Rattle.text.proofs.WroteLaws.{adds_as}
use Rattle.show.specs.Entries.{rows_in, run_text}
use Rattle.show.proofs.Whole.{text-is}
use Rattle.show.proofs.OfState.{frames-are, objects-are}
use Rattle.show.proofs.OfRows.{rows_are}
use Rattle.lister.proofs.RowCount.{row_count}

-- ---- the verdict behind an answer

mixed : (k p n : ℕ) (e : End) → Refusal k p ≡ Ending e n → ⊥
mixed k p n e h = let z : ◌≡◌ {A = ℕ} 0 1 = cc in omega arith

refused-by : (v : Verdict) (r : Ran Store) (k p : ℕ) → answered v r ≡ Refusal k p → v ≡ Refused k p
unfolding answered
refused-by Accepted r k p e = absurd (mixed k p r.steps r.end (sym e))
refused-by (Refused j q) r k p e = cc

accepted-by : (v : Verdict) (r : Ran Store) (e : End) (n : ℕ) → answered v r ≡ Ending e n → (v ≡ Accepted) × (e ≡ r.end) × (n ≡ r.steps)
unfolding answered
accepted-by Accepted r e n h = (refl, cc, cc)
accepted-by (Refused j q) r e n h = absurd (mixed j q n e h)

module _ (img cs : List ℕ) where
  abbrev left : Ran Store
  left = run_script img cs

  -- the text of a refused script
  pub text-refused : (k p : ℕ) → check [] size img ≡ Refused k p → refused_line k p ≡ listing img cs
  unfolding listing listing_lines lines_by flatten
  text-refused k p e = rw (e, append-nil)

  text-accepted : check [] size img ≡ Accepted → flatten (run_lines img (rows_of img cs) left) ≡ listing img cs
  unfolding listing listing_lines lines_by
  text-accepted e = rw e

  module _ (are-bytes : Bytes img) (ok : check [] size img ≡ Accepted) where
    safe : Safe (script_of img) left.store left.control
    unfolding run_script
    safe = (run_sound (script_of img) bare (bare-given (script_of img)) (root_of img) (accepted-fits [] size img are-bytes ok) cs).safe

    -- an object holds F values
    full : (k : ℕ) (obj : AnObject) → object_at left.store k ≡ some obj → length obj.values ≡ fields_of img
    unfolding script_of
    full k obj e = (safe.store.objects k obj e).long

    laid_out : (rest ws : List ℕ) → ws ≡ layout left.store left.control ++ rest → LaidOut left.store left.control rest ws
    laid_out rest ws e = record { good = store-good img (good [] size img ok) left.store safe.store left.control safe.control; is = e }

    run-text : (rest ws lent rows : List ℕ) (e : End) (n : ℕ) → ws ≡ layout left.store left.control ++ rest
        → rows ≡ place_rows lent 0 (rows_of img cs) → 5 * n ≤ length lent → e ≡ left.end → n ≡ left.steps
        → run_text img ws rows e n ≡ listing img cs
    run-text rest ws lent rows e n is placed room ends steps =
        let l = laid_out rest ws is in
        let count : n ≡ length (rows_of img cs) = steps ∙ row_count img cs in
        let read : rows_in rows n ≡ rows_of img cs =
        rw (placed, count) (rows_are (rows_of img cs) lent (omega arith)) in
        text-is img ws rows (rows_of img cs) left e n read
        (frames-are left.store left.control rest ws l)
        (objects-are left.store left.control rest ws l img full)
        ends steps
        ∙ text-accepted ok

-- ---- a traced run with a workspace of the size and rows for 4,096 steps

module _ (img cs : List ℕ) (a : Answer) (ws after lent rows : List ℕ) (says : Traces img cs a ws after lent rows) (sized : length ws ≡ size) where
  answer-is : a ≡ answered (check [] size img) (run_script img cs)
  unfolding answer_of
  answer-is = says.answer ∙ ap (λ (n : ℕ). answer_of n img cs) sized

  pub listed-refused : (k p : ℕ) (d o : Page) → a ≡ Refusal k p → Adds 128 d (refused_line k p) o → Adds 1179904 d (listing img cs) o
  listed-refused k p d o e w =
      let z = refused-by (check [] size img) (run_script img cs) k p (sym answer-is ∙ e) in
      adds_as 128 1179904 d o (refused_line k p) (listing img cs) w (text-refused img cs k p z) (omega arith)

  module _ (few : length cs ≤ 4096) (e : End) (n : ℕ) (ends : a ≡ Ending e n) where
    behind : (check [] size img ≡ Accepted) × (e ≡ (run_script img cs).end) × (n ≡ (run_script img cs).steps)
    behind = accepted-by (check [] size img) (run_script img cs) e n (sym answer-is ∙ ends)

    few-steps : n ≤ 4096
    few-steps = let l = script-steps img cs in let s = behind.2 in omega arith

    -- what the printing of the run asks
    pub run-asks : (d : Page) → HasRoom 1179904 d → length rows ≡ 20480 → length after ≡ size
        → HasRoom (128 * (n + 5122)) d × ((10 ≤ length img) × ((size ≤ length after) × (5 * n ≤ length rows)))
    run-asks d h l s =
        let f = few-steps in
        (omega arith, ((good [] size img behind.0).sized.long-enough, (omega arith, omega arith)))

    pub listed-run : Bytes img → length lent ≡ 20480 → (d o : Page) → Adds (128 * (n + 5122)) d (run_text img after rows e n) o
        → Adds 1179904 d (listing img cs) o
    unfolding words_after words_after_run rows_after rows_after_run
    listed-run are-bytes long d o w =
        let f = few-steps in
        let b = behind in
        let words : after ≡ layout (run_script img cs).store (run_script img cs).control ++ drop size ws =
        says.words ∙ rw (sized, b.0) in
        let placed : rows ≡ place_rows lent 0 (rows_of img cs) = says.rows ∙ rw (sized, b.0) in
        adds_as (128 * (n + 5122)) 1179904 d o (run_text img after rows e n) (listing img cs) w
        (run-text img cs are-bytes b.0 (drop size ws) after lent rows e n words placed (omega arith) b.1 b.2)
        (omega arith)
