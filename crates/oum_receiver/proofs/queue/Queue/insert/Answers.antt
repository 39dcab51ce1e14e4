use Rattle.std.proofs.Common.{◌≡◌, ◌∙◌, ap, None}
use Rattle.std.specs.FinMap as finite
use Rattle.oum_receiver.specs.Requests.{Requests}
use Rattle.oum_receiver.specs.Table.{map_of, with_apart}
use Rattle.oum_receiver.proofs.Apart.{insert_beside, insert_stays}
use Rattle.oum_receiver.proofs.Entries.{insert_is}
use Rattle.oum_receiver.proofs.queue.Queue.insert.Goals as goal

pub invariant_of-self-2 : goal.invariant_of-self-2
invariant_of-self-2 c =
    let m = map_of c.self.inside.table.entries in
    let absent : finite.get (with_apart c.self.inside.apart m) c.args.number ≡ None =
    ap (λ (w : Requests). finite.get w c.args.number) c.self.view_is ∙ c.requires in
    rw (insert_is c.self.inside.table c.insert.new.self c.args.number c.args.request c.in_ok-insert.ensures.updates)
    (insert_stays c.self.inside.apart m c.args.number c.args.request c.self.invariant absent)

pub returns-clause-ok : goal.returns-clause-ok
returns-clause-ok c =
    let m = map_of c.self.inside.table.entries in
    let absent : finite.get (with_apart c.self.inside.apart m) c.args.number ≡ None =
    ap (λ (w : Requests). finite.get w c.args.number) c.self.view_is ∙ c.requires in
    ap (with_apart c.self.inside.apart)
    (insert_is c.self.inside.table c.insert.new.self c.args.number c.args.request c.in_ok-insert.ensures.updates)
    ∙ insert_beside c.self.inside.apart m c.args.number c.args.request absent
    ∙ ap (λ (w : Requests). finite.insert w c.args.number c.args.request) c.self.view_is
