use Rattle.std.proofs.Common.{arith, refl, rules}
use Rattle.udp_ports.proofs.flows.Flows.new.Goals as goal

pub returns : goal.returns
returns c k d within =
    let called = c.from_fn.ensures.items.at k d (omega (arith, within, c.from_fn.ensures.items.long)) in
    search (rules, called)

pub invariant_of-result : goal.invariant_of-result
invariant_of-result c idle k d within = rw (returns c k d within) refl
