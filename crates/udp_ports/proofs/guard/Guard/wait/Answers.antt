use Rattle.std.proofs.Common.{sym, subst}
use Rattle.udp_ports.specs.Guards.{GoesOn}
use Rattle.udp_ports.specs.declared.guard.Guard.{Guard}
use Rattle.udp_ports.proofs.GoingOn.{greeted, stays}
use Rattle.udp_ports.proofs.guard.Guard.wait.Goals as goal
use Rattle.udp_ports.proofs.guard.Guard.wait.Goals.{in-Known, in_default-source}

pub returns-in_err-received : goal.returns-in_err-received
returns-in_err-received g c = stays c.args.self.now

pub returns-after-received : goal.returns-after-received
returns-after-received g c =
    elim c.match-received.branch [
      | in-Known w ↦ subst (λ (h : Guard). GoesOn c.args.self.now h) (sym w.self-is)
          (greeted _ _ _ _ _ w.greet.ensures.greeting w.greet.ensures.other w.greet.ensures.own)
      | in_default-source w ↦ subst (λ (h : Guard). GoesOn c.args.self.now h) (sym w.self-is) (stays c.args.self.now)
    ]

pub returns-in_default : goal.returns-in_default
returns-in_default g c = stays c.args.self.now
