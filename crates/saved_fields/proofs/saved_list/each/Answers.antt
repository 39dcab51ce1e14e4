use Rattle.std.proofs.Common.{◌∙◌, ◌-◌, ◌+◌, List, ap}
use Rattle.saved_fields.specs.Lists.{elements_at}
use Rattle.saved_fields.proofs.ListLemmas.{with_front, goes_on, stops, ends}
use Rattle.saved_fields.proofs.saved_list.each.Goals as goal

pub returns-in_default : goal.returns-in_default
returns-in_default g c =
    stops g.E.Field.read_at c.args.count c.loop.counter c.loop.elements.items c.loop.rest.now
    (elements_at g.E.Field.read_at c.args.count c.args.bytes.now) c.loop.invariant c.loop-test.true (rw c.in_default.is at c.in_ok-element.ensures)

pub loop-preserved : goal.loop-preserved
loop-preserved g c =
    ap (λ (xs : List g.row.E.Denot). with_front xs (elements_at g.E.Field.read_at (c.args.count - (c.loop.counter + 1)) c.in-Some.after.now))
    c.in_ok-push.ensures.items
    ∙ goes_on g.E.Field.read_at c.args.count c.loop.counter c.loop.elements.items c.loop.rest.now
    (elements_at g.E.Field.read_at c.args.count c.args.bytes.now) c.loop.invariant c.in-Some.element c.in-Some.after.now
    c.loop-test.true (rw c.in-Some.is at c.in_ok-element.ensures)

pub returns : goal.returns
returns g c =
    ends g.E.Field.read_at c.args.count c.loop.counter c.loop.elements.items c.loop.rest.now
    (elements_at g.E.Field.read_at c.args.count c.args.bytes.now) c.loop.invariant c.loop-test.false
