-- `text::Page::put_text` meets its contract: the part behind the text is copied over. Assumes nothing.
use Rattle.std.proofs.Common.{refl, arith}
use Rattle.text.proofs.WroteLaws.{copied-in, page-adds}
use Rattle.text.proofs.Page.put_text.Goals as goal

pub returns : goal.returns
returns c =
    page-adds _ c.args.self.now _ c.args.s.now
    (record {
      is = copied-in c.args.self.now.used _ c.args.self.now.bytes.now _ c.args.s.now c.copy_from_slice.ensures.after (omega arith) c.requires;
      next = refl;
      few = omega arith;
    })
    refl
