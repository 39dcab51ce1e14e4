use Rattle.std.proofs.Common.{sym, subst, Option, Some}
use Rattle.udp_ports.specs.Guards.{MayGoOn}
use Rattle.udp_ports.specs.declared.guard.Guard.{Guard}
use Rattle.udp_ports.proofs.GoingOn.{may_stay}
use Rattle.udp_ports.proofs.link.remind.Goals as goal

pub returns-in_default : goal.returns-in_default
returns-in_default g c = may_stay c.args.guard.now

pub returns-in-Some-guard : goal.returns-in-Some-guard
returns-in-Some-guard g c =
    subst (λ (x : Option Guard). MayGoOn x (Some c.remind.new.self)) (sym c.in-Some-guard.is) c.remind.ensures

pub returns-in_default-guard : goal.returns-in_default-guard
returns-in_default-guard g c = may_stay c.args.guard.now
