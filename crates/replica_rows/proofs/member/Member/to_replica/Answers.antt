use Rattle.std.proofs.Common.{refl}
use Rattle.replica_rows.proofs.Running.{on_ok}
use Rattle.replica_rows.proofs.member.Member.to_replica.Goals as goal

pub returns-clause-does : goal.returns-clause-does
returns-clause-does g c =
    on_ok c.send_to.result _ _ (λ sent. record { runs = c.requires.runs; state = refl; sends = sent }) c.send_to.ensures.ok
