use Rattle.std.proofs.Common.{◌∙◌, ap, sym}
use Rattle.std.specs.FinMap as finite
use Rattle.oum_receiver.specs.Requests.{Requests}
use Rattle.oum_receiver.specs.Table.{map_of}
use Rattle.oum_receiver.proofs.Apart.{get_found, get_missed}
use Rattle.oum_receiver.proofs.Entries.{get_is}
use Rattle.oum_receiver.proofs.queue.Queue.get.Goals as goal

pub returns-in-Some : goal.returns-in-Some
returns-in-Some c =
    get_found c.self.inside.apart (map_of c.self.inside.table.entries) c.args.number c.in-Some.request.now c.in-Some.ensures
    ∙ ap (λ (m : Requests). finite.get m c.args.number) c.self.view_is

pub returns-in-None : goal.returns-in-None
returns-in-None c =
    c.get.ensures.value ∙ sym (get_is c.self.inside.table.entries c.args.number)
    ∙ get_missed c.self.inside.apart (map_of c.self.inside.table.entries) c.args.number c.in-None.ensures
    ∙ ap (λ (m : Requests). finite.get m c.args.number) c.self.view_is
