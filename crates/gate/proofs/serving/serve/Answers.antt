use Rattle.std.proofs.Common.{inl, refl, subst}
use Rattle.outside.proofs.Counts.{counts_none}
use Rattle.gate_core.specs.declared.gate_state.GateState.{GateState}
use Rattle.gate.specs.Serving.{Serves}
use Rattle.gate.specs.Sides.{users_seen}
use Rattle.gate.proofs.serving.serve.Goals as goal

pub returns-in-Ok-clause-serves : goal.returns-in-Ok-clause-serves
returns-in-Ok-clause-serves g c =
    subst (λ (s : GateState). Serves g.P.L.Link s c.args.seats.observer c.args.seats.count (g.P.Ports.to_come c.args.ports.now) c.serve_from.result
    (users_seen g.U.Users c.args.users.now) (users_seen g.U.Users c.serve_from.new.users) (g.P.Ports.detached c.args.ports.now)
    (g.P.Ports.detached c.serve_from.new.ports))
    c.in-Ok.ensures c.serve_from.ensures.serves

pub returns-in-Err-clause-serves : goal.returns-in-Err-clause-serves
returns-in-Err-clause-serves g c = inl (tt, refl)

pub returns-in-Err-clause-attaches : goal.returns-in-Err-clause-attaches
returns-in-Err-clause-attaches g c = counts_none _ _ _ refl (λ failed. cc)
