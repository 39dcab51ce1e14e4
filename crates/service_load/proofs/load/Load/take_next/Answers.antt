use Rattle.std.proofs.Common.{rules, ◌≡◌, ◌∙◌, ap, refl}
use Rattle.desk.specs.Desks.{Take, next}
use Rattle.service_load.specs.Loads.{op_at}
use Rattle.service_load.proofs.LoadLemmas.{took}
use Rattle.service_load.proofs.load.Load.take_next.Goals as goal

pub returns-in_ok-note_all-in-Ok : goal.returns-in_ok-note_all-in-Ok
returns-in_ok-note_all-in-Ok c =
    let tells : c.deref.result.now ≡ (next c.args.self.now.desk.state (Take c.in_ok-op.op)).1 = search rules in
    took c.args.self.now _ c.in_ok-op.op c.deref.result.now c.requires
    (c.in_ok-op.ensures ∙ ap (op_at c.args.self.now.pattern) c.taken.ensures) refl refl c.in-Ok.ensures.state tells
    c.in_ok-note_all-in-Ok.ensures
