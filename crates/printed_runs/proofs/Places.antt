-- An event that happens names actors of the configuration, which stays.
use Rattle.std.proofs.Common.{◌≡◌, Bool, true, false, Option, Some, None, Result, Ok, Err, refl, sym, ap, ◌∙◌}
use Rattle.std.specs.Prelude.{◌&&◌, if◌then◌else◌}
use Rattle.std.proofs.lemmas.Bool.{and_parts, ltb-true}
use Rattle.nop_types.specs.Configuration.{Configuration}
use Rattle.nop_types.specs.Meaning.{Meaning}
use Rattle.nop_types.specs.declared.output.Actor.{Actor}
use Rattle.nop_types.specs.declared.output.Actor.TheVariants as actors
use Rattle.line_fields.specs.Fields.{IsActorOf}
use Rattle.schedule_text.specs.EventText.{IsEventOf}
use Rattle.schedule_text.specs.declared.event.Event.{Event}
use Rattle.schedule_text.specs.declared.event.Event.TheVariants as events
use Rattle.network.specs.Network.{Did}
use Rattle.world.specs.Others.{Who, AReplica, Another, AnObserver, who}
use Rattle.world.specs.Refusals.{HasActors, is_actor, has_input, later_cause, cause_of, refusal_in}
use Rattle.world.specs.Seats.{Seated, Stimulus}
use Rattle.world.specs.WorldSteps.{WorldState, Happened, Refusal, NoSuchActor, actor_of, stimulus_of, step, step_of, then_at}
use Rattle.world.specs.WorldSteps.{at_replica, at_other, at_observer}
use Rattle.world.proofs.Refusals.{refuses_by_cause}

-- ---- the configuration stays

then_stays : {S : Type 0} (f : Seated S × Did → Happened) (r : Result (Seated S × Did) Refusal) (h : Happened) (c : Configuration)
    → ((p : Seated S × Did) → (f p).world.config ≡ c) → then_at f r ≡ Ok h → h.world.config ≡ c
then_stays f (Err refusal) h c same e = absurd cc
then_stays f (Ok p) h c same e =
    let is : f p ≡ h = cc in ap (λ (x : Happened). x.world.config) (sym is) ∙ same p

stays_of : {S : Type 0} (m : Meaning S) (w : WorldState) (x : Who) (what : Result Stimulus Refusal) (h : Happened)
    → step_of m w x what ≡ Ok h → h.world.config ≡ w.config
stays_of m w (AReplica i) what h e = then_stays (at_replica w i) _ h w.config (λ p. refl) e
stays_of m w (Another k i) what h e = then_stays (at_other k w i) _ h w.config (λ p. refl) e
stays_of m w (AnObserver i) what h e = then_stays (at_observer w i) _ h w.config (λ p. refl) e

pub config_stays : {S : Type 0} (m : Meaning S) (w : WorldState) (e : Event) (h : Happened) → step m w e ≡ Ok h
    → h.world.config ≡ w.config
unfolding step
config_stays m w e h is = stays_of m w (who (actor_of e)) (stimulus_of w.config w.sent e) h is

-- ---- the actor is there, and takes the event

test_from : (b : Bool) (x : Option Refusal) → (if b then x else Some NoSuchActor) ≡ None → b ≡ true
test_from true x e = refl
test_from false x e = absurd cc

actor_there : (c : Configuration) (a : Actor) → is_actor c a ≡ true → IsActorOf c a
actor_there c (actors.Replica i) e = ltb-true i c.replicas e
actor_there c (actors.Sequencer i) e = ltb-true i c.sequencers e
actor_there c (actors.Client i) e = ltb-true i c.clients e
actor_there c (actors.Controller i) e = ltb-true i c.controllers e
actor_there c (actors.Observer i) e = ltb-true i c.observers e

event_there : (c : Configuration) (e : Event) → is_actor c (actor_of e) ≡ true → has_input c e ≡ true → IsEventOf c e
event_there c (events.Submit client op) there takes = ltb-true client c.clients there
event_there c (events.Deliver index actor) there takes = actor_there c actor there
event_there c (events.Tick actor tick) there takes = (actor_there c actor there, takes)
event_there c (events.Install k j) there takes = (ltb-true k c.controllers there, ltb-true j c.sequencers takes)
event_there c (events.Read client observer key) there takes = (ltb-true client c.clients there, ltb-true observer c.observers takes)
event_there c (events.Crash actor) there takes = actor_there c actor there
event_there c (events.Junk actor bytes) there takes = actor_there c actor there

pub event_placed : {S : Type 0} (m : Meaning S) (w : WorldState) (e : Event) (h : Happened) → HasActors w → step m w e ≡ Ok h
    → IsEventOf w.config e
event_placed m w e h has is =
    let none : cause_of w e ≡ None = sym (refuses_by_cause m w e has) ∙ ap refusal_in is in
    let both =
    and_parts (is_actor w.config (actor_of e)) (has_input w.config e)
    (test_from (is_actor w.config (actor_of e) && has_input w.config e) (later_cause w e) none) in
    event_there w.config e both.0 both.1
