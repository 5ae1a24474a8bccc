-- `put_child`, `put_node` and `put_word` meet their contracts: the words of a node are what its form asks for. Assumes nothing.
use Rattle.std.proofs.Common.{rules}
use Rattle.writer.proofs.WordLaws.{falls_a, falls_b, falls_c, word_a, word_b, word_c}
use Rattle.writer.proofs.TestLaws.{has_test}
use Rattle.writer.proofs.WalkLaws.{ways, child_grouped, child_plain, node_int, node_formed}
use Rattle.writer.proofs.spelling.Spelling.+put_child_put_node_put_word.Goals as goal

pub put_child-returns-then-asks : goal.put_child-returns-then-asks
put_child-returns-then-asks t c =
    child_grouped _ _ _ _ _ _ _ c.args.self.now.marked c.requires _ (rw c.script.view_is at c.tag_of-tag.ensures) _ _ c.asks.ensures c.passes-before.ensures _ _ _
    c.if-asks.true c.put_mark.ensures c.put_node.ensures c.put_mark-then-asks.ensures

pub put_child-returns : goal.put_child-returns
put_child-returns t c =
    child_plain _ _ _ _ _ _ _ c.args.self.now.marked c.requires _ (rw c.script.view_is at c.tag_of-tag.ensures) _ _ c.asks.ensures c.passes-before.ensures _
    c.if-asks.false c.put_node-2.ensures

pub put_node-returns-then-x-eq-INTEGER : goal.put_node-returns-then-x-eq-INTEGER
put_node-returns-then-x-eq-INTEGER t c = node_int _ _ _ _ _ (rw c.script.view_is at c.read-x.ensures) _ _ c.if-x-eq-INTEGER.true c.put_int.ensures

pub put_node-test_before-behind_test-requires : goal.put_node-test_before-behind_test-requires
put_node-test_before-behind_test-requires t c =
    has_test _ (rw c.script.view_is at c.script.invariant) _ c.requires _ (rw c.script.view_is at c.read-x.ensures)

pub put_node-put_word-requires : goal.put_node-put_word-requires
put_node-put_word-requires t c =
    let g = rw c.script.view_is at c.script.invariant in
    let x = rw c.script.view_is at c.read-x.ensures in
    (falls_a _ _ c.requires g _ x _ c.form_of-form.ensures c.decreases, word_a _ _ c.requires g _ x _ c.form_of-form.ensures)

pub put_node-put_word-requires-2 : goal.put_node-put_word-requires-2
put_node-put_word-requires-2 t c =
    let g = rw c.script.view_is at c.script.invariant in
    let x = rw c.script.view_is at c.read-x.ensures in
    (falls_b _ _ c.requires g _ x _ c.form_of-form.ensures c.decreases, word_b _ _ c.requires g _ x _ c.form_of-form.ensures)

pub put_node-put_word-requires-3 : goal.put_node-put_word-requires-3
put_node-put_word-requires-3 t c =
    let g = rw c.script.view_is at c.script.invariant in
    let x = rw c.script.view_is at c.read-x.ensures in
    (falls_c _ _ c.requires g _ x _ c.form_of-form.ensures c.decreases, word_c _ _ c.requires g _ x _ c.form_of-form.ensures)

pub put_node-returns : goal.put_node-returns
put_node-returns t c =
    node_formed _ _ _ _ _ (rw c.script.view_is at c.read-x.ensures) _ (rw c.script.view_is at c.script.invariant) c.requires _ _ _ _ _ _ _ _ _ _
    c.if-x-eq-INTEGER.false c.form_of-form.ensures c.test_before-behind_test.ensures
    c.put_mark.ensures c.put_mark-2.ensures c.put_word.ensures c.put_mark-3.ensures c.put_word-2.ensures c.put_mark-4.ensures c.put_word-3.ensures c.put_mark-5.ensures

pub put_word-returns-in-Nothing : goal.put_word-returns-in-Nothing
put_word-returns-in-Nothing t c = search (rules, ways)

pub put_word-returns-in-Name : goal.put_word-returns-in-Name
put_word-returns-in-Name t c = search (rules, ways)

pub put_word-returns-in-Field : goal.put_word-returns-in-Field
put_word-returns-in-Field t c = search (rules, ways)

pub put_word-returns-in_default : goal.put_word-returns-in_default
put_word-returns-in_default t c = search (rules, ways)
