-- `encoder::answer::refusal` meets its contract: a bad list, or a text. Assumes nothing.
use native.Mathlib.Omega.{arith}
use Rattle.encoder.proofs.AnswerLaws.{refusal-list, right-rows, place-shows, refusal-text}
use Rattle.encoder.proofs.answer.refusal.Goals as goal

pub returns-in-Err : goal.returns-in-Err
returns-in-Err c = refusal-list _ _ _ _ _ _ c.requires.short c.rows.ensures c.in-Err.is c.bad_list.ensures

pub why_refused-requires-clause-right_rows : goal.why_refused-requires-clause-right_rows
why_refused-requires-clause-right_rows c = right-rows _ _ _ c.rows.ensures c.in-Ok.is

pub why_refused-requires-clause-text_in_bounds : goal.why_refused-requires-clause-text_in_bounds
why_refused-requires-clause-text_in_bounds c = omega (arith, c.requires.short.0, c.requires.lent_words_in_bounds)

pub bad_text-requires-clause-shows : goal.bad_text-requires-clause-shows
bad_text-requires-clause-shows c =
    place-shows _ _ _ c.why_refused.result _ _ c.requires.short.0 (right-rows _ _ _ c.rows.ensures c.in-Ok.is) c.requires.refused c.why_refused.ensures

pub returns-in-Ok : goal.returns-in-Ok
returns-in-Ok c =
    refusal-text _ _ _ c.why_refused.result _ _ c.requires.short.0 (right-rows _ _ _ c.rows.ensures c.in-Ok.is) c.requires.refused c.why_refused.ensures _ _ c.requires.short.1 c.bad_text.ensures
