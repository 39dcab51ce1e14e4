use Rattle.std.proofs.Common.{◌≡◌, ◌+◌, ap, ◌∙◌, arith}
use Rattle.std.specs.Prelude.{slice_get}
use Rattle.world.specs.WorldSteps.{log_of}
use Rattle.world.proofs.MainLog.{log_at_is}
use Rattle.world.proofs.Slots.{slot_in_prefix, slot_behind, found_is}
use Rattle.world.proofs.world_state.World.entry.Goals as goal

pub returns-in-Some : goal.returns-in-Some
returns-in-Some g c =
    let log = c.log_at-log.result in
    let next : c.args.slot ≡ c.in_ok-place.field-0 + 1 = omega (arith, c.in_ok-place.ensures.0, c.in_ok-place.ensures.1) in
    let parts =
    log_at_is c.self.inside.actors c.args.replica c.entries.result.now _ c.deref.result.now c.entries.ensures c.deref.ensures.value c.log_at-log.ensures
    ∙ ap (λ w. log_of w.state.archive (slice_get w.state.replicas c.args.replica)) c.self.view_is in
    let found = c.in-Some.ensures.lookup in
    slot_in_prefix log.synchronised.now log.kept.now _ c.args.slot c.in_ok-place.field-0 next parts c.in-Some.entry.now found.3.0 found.1

pub returns-in-None : goal.returns-in-None
returns-in-None g c =
    let log = c.log_at-log.result in
    let next : c.args.slot ≡ c.in_ok-place.field-0 + 1 = omega (arith, c.in_ok-place.ensures.0, c.in_ok-place.ensures.1) in
    let parts =
    log_at_is c.self.inside.actors c.args.replica c.entries.result.now _ c.deref.result.now c.entries.ensures c.deref.ensures.value c.log_at-log.ensures
    ∙ ap (λ w. log_of w.state.archive (slice_get w.state.replicas c.args.replica)) c.self.view_is in
    let found = c.get-in-None.ensures.lookup in
    found_is c.get-in-None.result log.kept.now _ found.0 found.1
    ∙ slot_behind log.synchronised.now log.kept.now _ c.args.slot c.in_ok-place.field-0 next parts c.in-None.ensures.lookup.3
