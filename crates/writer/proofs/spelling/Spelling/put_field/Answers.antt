-- `writer::spelling::Spelling::put_field`: the word of a list's row. Assumes nothing.
use Rattle.std.proofs.Common.{arith}
use Rattle.writer.proofs.TokenLaws.{field_listed}
use Rattle.writer.proofs.spelling.Spelling.put_field.Goals as goal

pub offset_bounds-rows-f : goal.offset_bounds-rows-f
offset_bounds-rows-f c = let s = rw c.in-Listed.is at c.args.self.now.stands in omega (arith, s.1, c.requires)

pub bounds-rows-f : goal.bounds-rows-f
bounds-rows-f c = let s = rw c.in-Listed.is at c.args.self.now.stands in omega (arith, s.1, c.requires)

pub returns-in-Listed : goal.returns-in-Listed
returns-in-Listed c =
    let s = rw c.in-Listed.is at c.args.self.now.stands in
    rw c.in-Listed.is (field_listed _ _ _ _ c.requires.0 c.requires.1 _ _ s.0 c.put_token.ensures)
