-- `reader::text::Reading::new` meets its contract: it stands under nothing. Assumes nothing.
use mathlib.Core.Path.{refl}
use native.Mathlib.Omega.{arith}
use lib.ListN.{length-set}
use Rattle.reader.proofs.ReadLaws.{first-kept, first-there}
use Rattle.reader.proofs.TextLaws.{begins-under}
use Rattle.reader.proofs.text.Reading.new.Goals as goal

pub returns : goal.returns
returns c =
    let n = c.new.ensures in
    record {
      its-text = refl;
      its-list = refl;
      its-rows = refl;
      start = n.counts.0;
      under = begins-under _ _ _ c.new.result _ _ (rw (length-set c.args.work.now 0 1) c.requires.enough) (first-there c.args.work.now 1 (omega arith)) n.counts.1 n.zeros.1 refl;
      past = first-kept c.args.text.now c.args.work.now 1;
    }
