use Rattle.std.proofs.lemmas.Result.{err_from_is_err_and}
use Rattle.braiding.proofs.Endings.{ended_badly, ordered}
use Rattle.braiding.proofs.running.braid.Goals as goal

pub returns-clause-ends : goal.returns-clause-ends
returns-clause-ends g c =
    let bytes = c.deref-3.result.now in
    let is = ordered (g.S.Source.left c.args.source.now) (g.S.Source.left c.read_all.new.source) c.in_ok-traces.traces.lines.items c.deref.result.now
    c.in_ok-order.order.items c.deref-2.result.now c.in_ok-text.text.items bytes c.in_ok-traces.ensures.read c.in_ok-order.ensures
    c.deref.ensures.value c.deref-2.ensures.value c.in_ok-text.ensures c.deref-3.ensures.value in
    (bytes, is, c.in_ok-write_all.ensures.ok)

pub returns-in_err-write_all-clause-ends : goal.returns-in_err-write_all-clause-ends
returns-in_err-write_all-clause-ends g c =
    let left = g.S.Source.left in
    let held = g.K.Sink.held in
    let bytes = c.deref-3.result.now in
    let is = ordered (left c.args.source.now) (left c.read_all.new.source) c.in_ok-traces.traces.lines.items c.deref.result.now
    c.in_ok-order.order.items c.deref-2.result.now c.in_ok-text.text.items bytes c.in_ok-traces.ensures.read c.in_ok-order.ensures
    c.deref.ensures.value c.deref-2.ensures.value c.in_ok-text.ensures c.deref-3.ensures.value in
    let p = err_from_is_err_and c.from_residual-in_err-write_all.result c.from_residual-in_err-write_all.ensures.1 in
    rw (p.1, p.2) (ended_badly (Unit {0}) (left c.args.source.now) (left c.read_all.new.source) (held c.args.sink.now) (held c.write_all.new.sink)
    bytes c.in_err-write_all.field-0.0 is c.in_err-write_all.ensures.err)
