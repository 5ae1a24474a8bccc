-- `judging::worth::worth_of` meets its contract, kind by kind. Assumes nothing.
use Rattle.std.proofs.Common.{rules}
use Rattle.fieldlist.proofs.SameLaws.{part-is}
use Rattle.judging.proofs.WorthLaws.{by_name_lem, by_field_lem, by_number, by-mark}
use Rattle.judging.proofs.worth.worth_of.Goals as goal

pub returns-in-1 : goal.returns-in-1
returns-in-1 c = by_name_lem _ _ _ _ c.requires.names_bound.0 _ _ _ _ c.in-1.is (rw (part-is _ _ _ c.requires.from_le_to.0) at c.name_index.ensures.place) c.of_name.ensures

pub returns-in-2 : goal.returns-in-2
returns-in-2 c = by_field_lem _ _ _ _ c.requires.names_bound.0 _ _ _ _ c.in-2.is (rw (part-is _ _ _ c.requires.from_le_to.0) at c.index_of.ensures.place) c.of_field.ensures

pub returns-in-3 : goal.returns-in-3
returns-in-3 c = by_number _ _ _ _ c.requires.names_bound.0 _ _ _ _ c.in-3.is c.number_of.ensures.0 c.of_number.ensures

pub returns-in_default : goal.returns-in_default
returns-in_default c = search (rules, by-mark)
