-- `reader::text::Reading::read_all` meets its contract: before each place it stands under what was read. Assumes nothing.
use mathlib.Core.Path.{refl, ap}
use Rattle.std.proofs.lemmas.Result.{err_from_is_err_and}
use Rattle.reader.specs.declared.text.Reading.{Reading}
use Rattle.reader.proofs.TextLaws.{same-on, right-same, tells-same, faced, faces, wrong-told, whole-told, refused-told}
use Rattle.reader.proofs.text.Reading.read_all.Goals as goal

pub returns-in-Ok : goal.returns-in-Ok
returns-in-Ok c =
    let i = c.places.invariant in
    let e = c.in-Ok.ensures in
    record {
      same = same-on i.same (record { text = refl; list = refl; rows = refl; start = e.same });
      tells = tells-same _ _ i.same _ _ _ _
          (whole-told (right-same i.same c.requires.right_rows) i.under c.next-place.result c.next-place.ensures c.if-place-eq0.true _ refl refl refl e.same
          (e.says i.under.dues i.under.items i.under.stacked i.under.built));
    }

pub returns-in-Err : goal.returns-in-Err
returns-in-Err c =
    let i = c.places.invariant in
    let e = c.in-Err.ensures in
    record {
      same = same-on i.same (record { text = refl; list = refl; rows = refl; start = e.same });
      tells = tells-same _ _ i.same _ _ _ _
          (rw c.at_end.ensures
          (refused-told (right-same i.same c.requires.right_rows) i.under c.next-place.result c.next-place.ensures c.if-place-eq0.true _ refl refl refl e.same
          c.in-Err.fault (e.says i.under.dues i.under.items i.under.stacked i.under.built)));
    }

pub read_place-requires-clause-faces : goal.read_place-requires-clause-faces
read_place-requires-clause-faces c = faces c.places.invariant.under c.next-place.result c.next-place.ensures c.if-place-eq0.false

pub returns-in_err-read_place : goal.returns-in_err-read_place
returns-in_err-read_place c =
    let i = c.places.invariant in
    let f = faced i.under c.next-place.result c.next-place.ensures c.if-place-eq0.false in
    let k = c.in_err-read_place.ensures in
    let h = k.says _ _ _ f in
    let p = err_from_is_err_and c.from_residual.result c.from_residual.ensures.1 in
    record {
      same = same-on i.same (record { text = k.same.text; list = k.same.list; rows = k.same.rows; start = k.same.start });
      tells = tells-same _ _ i.same _ _ _ _
          (rw (p.1, p.2, h.3) (wrong-told f c.in_err-read_place.field-0.0 c.read_place.new.self h.0 h.1 (ap (λ (y : Reading). y.depth) h.2) (ap (λ (y : Reading). y.place) h.2)));
    }

pub places-preserved : goal.places-preserved
places-preserved c =
    let i = c.places.invariant in
    let f = faced i.under c.next-place.result c.next-place.ensures c.if-place-eq0.false in
    let k = c.in_ok-read_place.ensures in
    record {
      same = same-on i.same (record { text = k.same.text; list = k.same.list; rows = k.same.rows; start = k.same.start });
      under = rw (k.same.list, k.same.text, k.same.rows, k.place, k.same.start) (k.says _ _ _ f);
    }
