use Rattle.std.proofs.Common.{◌≡◌, refl, sym, ap}
use Rattle.std.specs.Prelude.{Option}
use Rattle.admission.specs.Rounds.{Asking, turned}
use Rattle.admission.specs.declared.greeting.Word.{Word}
use Rattle.udp_ports.proofs.GoingOn.{turns}
use Rattle.udp_ports.proofs.guard.Guard.ask.Goals as goal

pub returns-in_default : goal.returns-in_default
returns-in_default g c =
    let e : c.turn.new.self ≡ (turned c.args.self.now.admission c.max-self.result).0 =
    sym (ap (λ (p : Asking × Option Word). p.0) c.turn.ensures) in
    turns c.max-self.result _ _ refl refl e

pub returns : goal.returns
returns g c =
    let e : c.turn.new.self ≡ (turned c.args.self.now.admission c.max-self.result).0 =
    sym (ap (λ (p : Asking × Option Word). p.0) c.turn.ensures) in
    turns c.max-self.result _ _ refl refl e
