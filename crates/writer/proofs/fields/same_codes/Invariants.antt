-- `writer::fields::same_codes` meets its contract: the codes below i are the same. Assumes nothing.
use Rattle.writer.proofs.CodeLaws.{CodesTo}
use Rattle.writer.proofs.fields.same_codes.Given as goal

abbrev pub invariant-loop-i : goal.invariant-loop-i
invariant-loop-i l = CodesTo l.script l.rows.codes l.i
