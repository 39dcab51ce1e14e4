use Rattle.admission.proofs.Guard.{processes_are_one}
use Rattle.udp_ports.proofs.GoingOn.{last_standing}
use Rattle.udp_ports.proofs.laws.admitted_guards_are_one.Goals as goal

pub returns : goal.returns
returns c = λ life a b actors g h x y same i j some.
    processes_are_one life a b actors x.ran.start y.ran.start x.ran.events y.ran.events same i j some
    (last_standing a actors g x.ran x.standing) (last_standing b actors h y.ran y.standing)
