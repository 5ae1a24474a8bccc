-- `chooser::files::answer_file` meets its contract: what is to be written lies in its buffers. Assumes nothing.
use Rattle.std.proofs.Common.{rules}
use Rattle.chooser.proofs.AnswerLaws.{answer-fits}
use Rattle.chooser.proofs.files.answer_file.Goals as goal

pub returns : goal.returns
returns g c = search (rules, answer-fits)
