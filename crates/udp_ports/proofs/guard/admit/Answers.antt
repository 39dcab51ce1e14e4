use Rattle.std.proofs.Common.{sym, ◌∙◌}
use Rattle.udp_ports.proofs.GoingOn.{is_admitted, ran_on}
use Rattle.udp_ports.proofs.guard.admit.Goals as goal

pub returns-in-Admitted : goal.returns-in-Admitted
returns-in-Admitted g c =
    is_admitted _ _ _ (ran_on _ _ _ _ c.loop.invariant c.ask.ensures) (sym c.standing.ensures ∙ c.in-Admitted.is)

pub loop-preserved : goal.loop-preserved
loop-preserved g c = ran_on _ _ _ _ (ran_on _ _ _ _ c.loop.invariant c.ask.ensures) c.wait.ensures
