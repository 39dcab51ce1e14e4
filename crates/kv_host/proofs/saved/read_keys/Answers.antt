use Rattle.std.proofs.Common.{◌-◌, ◌+◌, [], ap, ◌∙◌}
use Rattle.std.specs.FinMap as finite
use Rattle.kv_host.specs.Values.{Kv}
use Rattle.kv_host.specs.Places.{places, values_of}
use Rattle.kv_host.specs.Saved.{with_keys}
use Rattle.kv_host.proofs.LoadLemmas.{begins, goes_on, stops, ends, value_short, values_of-added}
use Rattle.kv_host.proofs.saved.read_keys.Goals as goal

pub loop-init : goal.loop-init
loop-init c = rw c.in_ok-table.ensures (begins c.args.count c.args.bytes.now)

pub returns-in_default : goal.returns-in_default
returns-in_default c =
    stops c.args.count c.loop.counter (values_of (places c.loop.table)) c.loop.last.now c.loop.rest.now
    (with_keys c.args.count finite.empty [] c.args.bytes.now) c.loop.invariant c.loop-test.true c.in_default.ensures

pub new-requires : goal.new-requires
new-requires c =
    value_short c.loop.last.now c.loop.rest.now c.in-Some.key.now c.in-Some.value.now c.in-Some.after.now c.in-Some.ensures

pub loop-preserved : goal.loop-preserved
loop-preserved c =
    let kv = values_of (places c.loop.table) in
    let key = c.in-Some.key.now in
    let added = values_of-added c.loop.table c.add.new.self key c.in_ok-new.field-0 c.in_ok-add.ensures.ok in
    ap (λ (kv : Kv). with_keys (c.args.count - (c.loop.counter + 1)) kv key c.in-Some.after.now)
    (added ∙ ap (finite.insert kv key) c.in_ok-new.ensures)
    ∙ goes_on c.args.count c.loop.counter kv c.loop.last.now c.loop.rest.now (with_keys c.args.count finite.empty [] c.args.bytes.now)
    c.loop.invariant key c.in-Some.value.now c.in-Some.after.now c.loop-test.true c.in-Some.ensures

pub returns : goal.returns
returns c =
    c.at_end.ensures
    ∙ ends c.args.count c.loop.counter (values_of (places c.loop.table)) c.loop.last.now c.loop.rest.now
    (with_keys c.args.count finite.empty [] c.args.bytes.now) c.loop.invariant c.loop-test.false
