use Rattle.std.proofs.Common.{List, inr, subst}
use Rattle.resending.specs.Sending.{Outgoing}
use Rattle.udp_ports.specs.Turns.{AreTurns}
use Rattle.udp_ports.proofs.flows.Flows.begin_turn.Goals as goal

pub returns : goal.returns
returns g c =
    inr (
      c.unwrap_or.result,
      subst (λ (flows : List Outgoing). AreTurns c.unwrap_or.result flows c.take_turns-failed.new.flows) c.self.view_is
          c.take_turns-failed.ensures,
    )
