-- `tables::nodes::by_row` meets its contract. Assumes nothing.
use Rattle.tables.proofs.NodeLaws.{by_row}
use Rattle.tables.proofs.nodes.by_row.Goals as goal

pub returns : goal.returns
returns c =
    let s = c.args in
    by_row
    s.m s.tag s.value s.firsts.now s.row _ _ _ _ _ _
    c.word_by-c.ensures c.end_of-e.ensures
    c.word_by-b.ensures c.end_of-f.ensures
    c.word_by-a.ensures c.end_of-first.ensures
