use Rattle.std.proofs.Common.{subst, ap, arith}
use Rattle.replica_core.specs.Within.{KeepsLimits}
use Rattle.replica_core.proofs.replica.Replica.messages.Goals as goal

pub returns-clause-limits : goal.returns-clause-limits
returns-clause-limits g c =
    subst KeepsLimits (ap (λ v. v.state) c.self.view_is) (record {
      log = c.len-len.ensures.room;
      length = omega (arith, c.len-len.ensures.len, c.len-len.ensures.limit);
      next = c.get-number.ensures.limit;
      receiver = c.next-next.ensures.sound;
      reassembly = c.senders-senders.ensures.within;
    })
