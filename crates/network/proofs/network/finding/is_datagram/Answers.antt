use Rattle.std.proofs.Common.{◌∙◌}
use Rattle.network.proofs.FindLemmas.{rests_compared, heads_differ}
use Rattle.network.proofs.network.finding.is_datagram.Goals as goal

pub returns-then-eq : goal.returns-then-eq
returns-then-eq c =
    rw (← c.head_of-head.ensures, ← c.rest_of-rest.ensures) (c.eq-then-eq.ensures
    ∙ rests_compared c.head_of-head.result.now c.rest_of-rest.result.now c.args.wanted.now c.split_at.result.0.now c.split_at.result.1.now
    c.split_at.ensures.front c.split_at.ensures.back c.eq.result c.eq.ensures c.if-eq.true)

pub returns-else-eq : goal.returns-else-eq
returns-else-eq c =
    rw (← c.head_of-head.ensures, ← c.rest_of-rest.ensures) (
    heads_differ c.head_of-head.result.now c.rest_of-rest.result.now c.args.wanted.now c.split_at.result.0.now c.split_at.result.1.now
    c.split_at.ensures.front c.split_at.ensures.back c.eq.result c.eq.ensures c.if-eq.false)
