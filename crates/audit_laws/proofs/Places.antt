-- An event leaves the configuration as it was.
use Rattle.std.proofs.Common.{◌≡◌, Result, Ok, Err, sym, ap}
use Rattle.nop_types.specs.Meaning.{Meaning}
use Rattle.network.specs.Network.{Did}
use Rattle.schedule_text.specs.declared.event.Event.{Event}
use Rattle.world.specs.Others.{Who, AReplica, Another, AnObserver, who}
use Rattle.world.specs.Seats.{Seated, Stimulus}
use Rattle.world.specs.WorldSteps.{WorldState, Happened, Refusal, actor_of, stimulus_of, step, step_of, then_at}
use Rattle.world.specs.WorldSteps.{at_replica, at_other, at_observer}

then_ok : {S : Type 0} (f : Seated S × Did → Happened) (r : Result (Seated S × Did) Refusal) (h : Happened) → then_at f r ≡ Ok h
    → (p : Seated S × Did) × (h ≡ f p)
then_ok f (Err refusal) h e = absurd cc
then_ok f (Ok p) h e = (p, let same : f p ≡ h = cc in sym same)

config_stays_of : {S : Type 0} (m : Meaning S) (w : WorldState) (x : Who) (what : Result Stimulus Refusal) (h : Happened)
    → step_of m w x what ≡ Ok h → h.world.config ≡ w.config
config_stays_of m w (AReplica i) what h e =
    let p = then_ok (at_replica w i) _ h e in ap (λ (y : Happened). y.world.config) p.1
config_stays_of m w (Another k i) what h e =
    let p = then_ok (at_other k w i) _ h e in ap (λ (y : Happened). y.world.config) p.1
config_stays_of m w (AnObserver i) what h e =
    let p = then_ok (at_observer w i) _ h e in ap (λ (y : Happened). y.world.config) p.1

pub config_stays : {S : Type 0} (m : Meaning S) (w : WorldState) (e : Event) (h : Happened) → step m w e ≡ Ok h
    → h.world.config ≡ w.config
unfolding step
config_stays m w e h is = config_stays_of m w (who (actor_of e)) (stimulus_of w.config w.sent e) h is
