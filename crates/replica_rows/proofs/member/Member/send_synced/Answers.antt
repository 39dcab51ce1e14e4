use Rattle.std.proofs.Common.{refl}
use Rattle.replica_rows.proofs.Running.{on_ok}
use Rattle.replica_rows.proofs.member.Member.send_synced.Goals as goal

pub returns : goal.returns
returns g c = on_ok c.send_synced.result _ _ (λ sent. record { runs = c.requires.runs; state = refl; sends = sent }) c.send_synced.ensures.ok
