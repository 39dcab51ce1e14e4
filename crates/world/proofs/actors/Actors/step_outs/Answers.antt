use Rattle.std.proofs.Common.{◌≡◌, ◌++◌, List, Ok, ap, subst, ◌∙◌}
use Rattle.nop_types.specs.declared.output.Actor.{Actor}
use Rattle.network.specs.Network.{Sent, did_of, sends_by}
use Rattle.world.specs.Actors.{world_of, moved_out, Gives}
use Rattle.world.specs.Others.{who}
use Rattle.world.specs.WorldSteps.{WorldState, carried, step, step_of, stimulus_of}
use Rattle.world.proofs.Trimming.{gives}
use Rattle.world.proofs.actors.Actors.step_outs.Goals as goal

pub returns-clause-ok : goal.returns-clause-ok
unfolding step
returns-clause-ok g c =
    let m = g.H.Host.meaning in
    let actor = c.actor_of-actor.result in
    let event = c.args.event.now in
    let old : WorldState = world_of c.args.self.now in
    let mid : WorldState = world_of c.take.new.self in
    let new : WorldState = world_of c.put_away.new.self in
    let did = c.in_ok-did.did in
    let sent = c.in_ok-send_all.ensures.network ∙ ap (λ (s : List Sent). s ++ sends_by actor (did_of did)) c.take.ensures.network in
    let is =
    subst (λ (a : Actor). step_of m old (who a) (stimulus_of old.config old.sent event)
    ≡ Ok (carried old actor (did_of did) (moved_out actor (did_of did) mid))) c.actor_of-actor.ensures c.in_ok-did.ensures.ok in
    subst (λ (a : Actor). Gives (step m old event) a old new c.in_ok-put_away.field-0) c.actor_of-actor.ensures
    (gives (step m old event) actor old mid new did c.in_ok-put_away.field-0 is
    (c.in_ok-put_away.ensures.archive ∙ ap (λ (s : List Sent). moved_out actor (did_of did) (record mid { sent = s })) sent)
    c.in_ok-put_away.ensures.rest)
