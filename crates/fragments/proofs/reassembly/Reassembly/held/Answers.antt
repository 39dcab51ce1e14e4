use Rattle.std.proofs.Common.{arith}
use Rattle.fragments.proofs.Held.{sender_limit}
use Rattle.fragments.proofs.reassembly.Reassembly.held.Goals as goal

pub held-requires : goal.held-requires
held-requires c =
    let found = c.in-Some.ensures.lookup in
    let limit = sender_limit c.deref.result.now c.self.inside.senders.items c.args.sender c.in-Some.queue.now c.deref.ensures.value
    c.self.invariant found.3.0 found.1 in
    omega (arith, limit)

pub returns-in-Some-clause-limit : goal.returns-in-Some-clause-limit
returns-in-Some-clause-limit c =
    let found = c.in-Some.ensures.lookup in
    let limit = sender_limit c.deref.result.now c.self.inside.senders.items c.args.sender c.in-Some.queue.now c.deref.ensures.value
    c.self.invariant found.3.0 found.1 in
    omega (arith, limit, c.held.ensures)
