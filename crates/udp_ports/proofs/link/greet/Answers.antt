use Rattle.std.proofs.Common.{sym, subst, Option, Some}
use Rattle.udp_ports.specs.Guards.{MayGoOn}
use Rattle.udp_ports.specs.declared.guard.Guard.{Guard}
use Rattle.udp_ports.proofs.GoingOn.{greeted, may_stay}
use Rattle.udp_ports.proofs.link.greet.Goals as goal

pub returns-in_default : goal.returns-in_default
returns-in_default g c = may_stay c.args.guard.now

pub returns-in-Some : goal.returns-in-Some
returns-in-Some g c =
    subst (λ (x : Option Guard). MayGoOn x (Some c.greet.new.self)) (sym c.in-Some.is)
    (greeted _ _ _ _ _ c.greet.ensures.greeting c.greet.ensures.other c.greet.ensures.own)
