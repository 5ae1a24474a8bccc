-- `capi::written::flagcopper_read_words` meets its contract: the test is whether the sum is at most the largest number. Assumes nothing.
use Rattle.told.specs.Written.{largest}
use Rattle.told.proofs.Readings.{words-told, words-past-telling}
use Rattle.capi.proofs.written.flagcopper_read_words.Goals as goal

pub returns-then-text_bytes : goal.returns-then-text_bytes
returns-then-text_bytes c = words-told _ c.if-text_bytes.true

pub returns : goal.returns
unfolding largest
returns c = words-past-telling _ c.if-text_bytes.false
