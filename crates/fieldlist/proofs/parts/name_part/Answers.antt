-- `fieldlist::parts::name_part` meets its contract. Assumes nothing.
use Rattle.fieldlist.proofs.PartLaws.{not_lower, name-reserved, name-repeated, name-right}
use Rattle.std.proofs.Common.{rules}
use Rattle.fieldlist.proofs.parts.name_part.Goals as goal

pub returns-then-class_of-ne-LOWER : goal.returns-then-class_of-ne-LOWER
returns-then-class_of-ne-LOWER c = search (rules, not_lower)

pub returns-then-ne : goal.returns-then-ne
returns-then-ne c =
    name-reserved _ _ _ c.requires.at_in_bounds c.word_end-end.ensures.0 c.word_end-end.ensures.1 c.class_of.ensures _ c.kind_of_word.ensures c.ne.ensures c.if-class_of-ne-LOWER.false c.if-ne.true

pub returns-then-is_some : goal.returns-then-is_some
returns-then-is_some c = search (rules, name-repeated)

pub returns : goal.returns
returns c = search (rules, name-right)
