-- `reader::text::Reading::read_place` meets its contract: what is judged first may be done, and it is behind the place then. Assumes nothing.
use mathlib.Core.Path.{refl, ap}
use Rattle.reader.specs.declared.text.Reading.{Reading}
use Rattle.reader.proofs.PlaceLaws.{is-wrong, name-room, may-pass, may-put, may-pile, told-taken, told-name}
use Rattle.reader.proofs.TextLaws.{same-of}
use Rattle.reader.proofs.text.Reading.read_place.Goals as goal

pub returns-in-Err : goal.returns-in-Err
returns-in-Err c =
    record {
      same = record { text = refl; list = refl; rows = refl; start = refl };
      place = refl;
      says = λ at line ws₀ f. (rw c.number.ensures (is-wrong f c.judge.result (c.judge.ensures at line f.found) c.in-Err.is), refl, refl, refl);
    }

pub take-requires-clause-passed : goal.take-requires-clause-passed
take-requires-clause-passed c =
    let f = c.requires.faces.facing in
    may-pass f c.judge.result (c.judge.ensures _ _ f.found) c.in-Ok.is

pub take-requires-clause-tag_fits : goal.take-requires-clause-tag_fits
take-requires-clause-tag_fits c =
    let f = c.requires.faces.facing in
    may-put f c.judge.result (c.judge.ensures _ _ f.found) c.in-Ok.is c.requires.kind_nonzero

pub take-requires-clause-room : goal.take-requires-clause-room
take-requires-clause-room c =
    let f = c.requires.faces.facing in
    may-pile f c.judge.result (c.judge.ensures _ _ f.found) c.in-Ok.is

pub bounds-self-names : goal.bounds-self-names
bounds-self-names c =
    let f = c.requires.faces.facing in
    name-room f c.judge.result (c.judge.ensures _ _ f.found) c.in-Ok.is c.if-taken.true

pub returns-then-taken : goal.returns-then-taken
returns-then-taken c =
    let k = c.take.ensures in
    let q = same-of c.args.self.now c.take.new.self k.frame k.start in
    record {
      same = record { text = q.text; list = q.list; rows = q.rows; start = q.start };
      place = ap (λ (y : Reading). y.place) k.frame;
      says = λ at line ws₀ f.
          rw (ap (λ (y : Reading). y.spans) k.frame)
          (told-name f c.judge.result (c.judge.ensures at line f.found) c.in-Ok.is c.requires.kind_nonzero c.if-taken.true k.says);
    }

pub returns-else-taken : goal.returns-else-taken
returns-else-taken c =
    let k = c.take.ensures in
    record {
      same = same-of c.args.self.now c.take.new.self k.frame k.start;
      place = ap (λ (y : Reading). y.place) k.frame;
      says = λ at line ws₀ f.
          rw (ap (λ (y : Reading). y.names) k.frame, ap (λ (y : Reading). y.spans) k.frame)
          (told-taken f c.judge.result (c.judge.ensures at line f.found) c.in-Ok.is c.requires.kind_nonzero c.if-taken.false k.says);
    }
