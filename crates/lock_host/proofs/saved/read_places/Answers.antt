use Rattle.std.proofs.Common.{ap, ◌∙◌, ◌-◌, ◌+◌, []}
use Rattle.lock_host.specs.Locks.{Places}
use Rattle.lock_host.specs.Saved.{nothing_after, with_places}
use Rattle.lock_host.proofs.LoadLemmas.{goes_on, stops, ends}
use Rattle.lock_host.proofs.saved.read_places.Goals as goal

pub returns-in_default : goal.returns-in_default
returns-in_default c =
    stops c.args.count c.loop.counter c.args.last c.loop.places.items c.deref.result.now c.loop.rest.now
    (with_places c.args.count c.args.last [] c.args.bytes.now) c.deref.ensures.value c.loop.invariant c.loop-test.true c.in_default.ensures

pub loop-preserved : goal.loop-preserved
loop-preserved c =
    ap (λ (places : Places). with_places (c.args.count - (c.loop.counter + 1)) c.args.last places c.in-Some.after.now)
    c.in_ok-push.ensures.items
    ∙ goes_on c.args.count c.loop.counter c.args.last c.loop.places.items c.deref.result.now c.loop.rest.now
    (with_places c.args.count c.args.last [] c.args.bytes.now) c.deref.ensures.value c.loop.invariant c.in-Some.place c.in-Some.after.now
    c.loop-test.true c.in-Some.ensures

pub returns : goal.returns
returns c =
    c.at_end.ensures
    ∙ ap (nothing_after c.loop.rest.now) c.from_parts.ensures
    ∙ ends c.args.count c.loop.counter c.args.last c.loop.places.items c.loop.rest.now
    (with_places c.args.count c.args.last [] c.args.bytes.now) c.loop.invariant c.loop-test.false
