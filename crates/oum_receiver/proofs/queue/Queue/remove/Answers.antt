use Rattle.std.proofs.Common.{◌∙◌, ap, sym}
use Rattle.std.specs.FinMap as finite
use Rattle.oum_receiver.specs.Requests.{Requests}
use Rattle.oum_receiver.specs.Table.{map_of}
use Rattle.oum_receiver.proofs.Apart.{get_found, get_missed, remove_found, remove_missed}
use Rattle.oum_receiver.proofs.Entries.{get_is, remove_is}
use Rattle.oum_receiver.proofs.queue.Queue.remove.Goals as goal

pub returns-in-Some-clause-found : goal.returns-in-Some-clause-found
returns-in-Some-clause-found c =
    get_found c.self.inside.apart (map_of c.self.inside.table.entries) c.args.number c.in-Some.request c.in-Some.ensures.found
    ∙ ap (λ (m : Requests). finite.get m c.args.number) c.self.view_is

pub returns-in-Some-clause-after : goal.returns-in-Some-clause-after
returns-in-Some-clause-after c =
    let m = map_of c.self.inside.table.entries in
    rw (c.take_apart.ensures.after, ← c.self.view_is)
    (remove_found c.self.inside.apart m c.args.number c.in-Some.request c.self.invariant c.in-Some.ensures.found)

pub returns-in-None-clause-found : goal.returns-in-None-clause-found
returns-in-None-clause-found c =
    c.remove.ensures.value ∙ sym (get_is c.self.inside.table.entries c.args.number)
    ∙ get_missed c.self.inside.apart (map_of c.self.inside.table.entries) c.args.number c.in-None.ensures.found
    ∙ ap (λ (m : Requests). finite.get m c.args.number) c.self.view_is

pub returns-in-None-clause-after : goal.returns-in-None-clause-after
returns-in-None-clause-after c =
    let m = map_of c.self.inside.table.entries in
    rw (
      c.take_apart.ensures.after,
      remove_is c.self.inside.table c.remove.new.self c.args.number c.remove.ensures.updates,
      ← c.self.view_is,
    )
    (remove_missed c.self.inside.apart m c.args.number c.in-None.ensures.found)
