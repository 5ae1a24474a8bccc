-- `wording::second::put_shown` meets its contract: the whole place, or its first bytes and a mark. Assumes nothing.
use Rattle.std.proofs.Common.{rules, arith, sym, ◌≡◌, length, take}
use lib.Seq.{length-take-le}
use Rattle.wording.proofs.SecondLaws.{shown-all, shown-cut}
use Rattle.wording.proofs.second.put_shown.Goals as goal

pub slice_bounds-put_text-end : goal.slice_bounds-put_text-end
slice_bounds-put_text-end c = sym (length-take-le 64 c.args.place.now (omega (arith, c.if-place-le-MOST_SHOWN.false)))

pub put_text-requires-else-place-le-MOST_SHOWN : goal.put_text-requires-else-place-le-MOST_SHOWN
put_text-requires-else-place-le-MOST_SHOWN c =
    let n = length-take-le 64 c.args.place.now (omega (arith, c.if-place-le-MOST_SHOWN.false)) in
    omega (arith, n, c.requires)

pub put_text-requires-else-place-le-MOST_SHOWN-2 : goal.put_text-requires-else-place-le-MOST_SHOWN-2
put_text-requires-else-place-le-MOST_SHOWN-2 c =
    let n = length-take-le 64 c.args.place.now (omega (arith, c.if-place-le-MOST_SHOWN.false)) in
    let w = c.put_text-else-place-le-MOST_SHOWN.ensures in
    omega (arith, n, c.requires, w.wrote.next, w.long)

pub returns-then-place-le-MOST_SHOWN : goal.returns-then-place-le-MOST_SHOWN
returns-then-place-le-MOST_SHOWN c = search (rules, shown-all)

pub returns-else-place-le-MOST_SHOWN : goal.returns-else-place-le-MOST_SHOWN
returns-else-place-le-MOST_SHOWN c = search (rules, shown-cut)
