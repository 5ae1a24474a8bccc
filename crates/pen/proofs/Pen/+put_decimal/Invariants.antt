-- `pen::Pen::put_decimal` meets its contract: the number falls to its tenth part. Assumes nothing.
use Rattle.pen.proofs.Pen.+put_decimal.Given as goal

abbrev pub decreases-put_decimal : goal.decreases-put_decimal
decreases-put_decimal l = l.n
