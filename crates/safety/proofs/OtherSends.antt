-- What a sequencer, a client or a controller sends has no fragments and no answers, and replicas and observers stay.
use Rattle.std.proofs.Common.{◌≡◌, Bool, true, false, List, [], ◌∷◌, ◌++◌, Option, Some, None, refl, ap, subst, ◌∙◌, inl, inr}
use Rattle.std.specs.Prelude.{Result, Ok, Err, slice_get}
use Rattle.nop_types.specs.Given.{Given}
use Rattle.nop_types.specs.Lists.{Has}
use Rattle.nop_types.specs.Meaning.{Meaning}
use Rattle.nop_types.specs.declared.output.Actor.{Actor}
use Rattle.nop_types.specs.declared.output.Out.{Out}
use Rattle.nop_types.specs.declared.output.Out.TheVariants as outs
use Rattle.lemmas.proofs.Members.{Has-none, Has-cases}
use Rattle.oum_codec.specs.Reading.{reading}
use Rattle.schedule_text.specs.declared.event.Event.{Event}
use Rattle.network.specs.Network.{Sent, Did, sends_of, sends_by}
use Rattle.world.specs.Others.{next, seats, Who, AReplica, Another, who, actor_at}
use Rattle.world.specs.Seats.{Seated, Stimulus, Takes, Crashes, moved_if, seat_step}
use Rattle.world.specs.WorldSteps.{WorldState, Happened, Refusal, actor_of, stimulus_of, at_other}
use Rattle.world.specs.WorldSteps.{then_at, step_at, step_of, step}
use Rattle.safety.specs.Following.{is_apart}
use Rattle.safety.proofs.Beside.{is_another}
use Rattle.safety.proofs.Sends.{AreOther, other_sends}

-- each of these datagrams is neither a fragment nor an answer
pub record NoneApart (more : List Sent) : Type 0 where
  pub each : (s : Sent) → Has more s → is_apart (reading s.bytes) ≡ false

-- the world after the event has these datagrams more, and the same replicas, observers and archive
pub record SentOthers (t : WorldState) (h : Happened) : Type 0 where
  pub more : List Sent
  pub none : NoneApart more
  pub sent : h.world.sent ≡ t.sent ++ more
  pub replicas : h.world.replicas ≡ t.replicas
  pub observers : h.world.observers ≡ t.observers
  pub archive : h.world.archive ≡ t.archive

none_sent : NoneApart []
none_sent = record { each = λ s h. absurd (Has-none s h) }

others_in : (from : Actor) (os : List Out) → AreOther os → NoneApart (sends_of from os)
others_in from [] all = none_sent
others_in from (outs.Send dest bytes ∷ rest) all = record {
  each = λ s h. elim (Has-cases s (record { from = from; dest = dest; bytes = bytes }) (sends_of from rest) h) [
    | inl e ↦ ap (λ (x : Sent). is_apart (reading x.bytes)) e ∙ all.0
    | inr j ↦ (others_in from rest all.1).each s j
  ];
}
others_in from (_ ∷ rest) all = others_in from rest all

module _ {A : Type 0} (next : A → Given → A × List Out) (sends : (s : A) (g : Given) → AreOther (next s g).1) (from : Actor) where
  moved_others : (p : Seated A) (b : Bool) (what : Stimulus) → NoneApart (sends_by from (moved_if next b p what).1)
  moved_others p true what = none_sent
  moved_others p false (Takes g) = others_in from (next p.state g).1 (sends p.state g)
  moved_others p false Crashes = none_sent

  seat_others : (t : WorldState) (act : Seated A × Did → Happened) (o : Option (Seated A)) (r : Result Stimulus Refusal) (h : Happened)
      → ((x : Seated A × Did) → ((act x).world.sent ≡ t.sent ++ sends_by from x.1)
      × (((act x).world.replicas ≡ t.replicas) × (((act x).world.observers ≡ t.observers) × ((act x).world.archive ≡ t.archive))))
      → then_at act (step_at next o r) ≡ Ok h → SentOthers t h
  seat_others t act None r h is e = absurd cc
  seat_others t act (Some p) (Err refusal) h is e = absurd cc
  seat_others t act (Some p) (Ok what) h is e =
      let same : act (seat_step next p what) ≡ h = cc in
      subst (SentOthers t) same (record {
        more = sends_by from (seat_step next p what).1;
        none = moved_others p p.crashed what;
        sent = (is (seat_step next p what)).0;
        replicas = (is (seat_step next p what)).1.0;
        observers = (is (seat_step next p what)).1.1.0;
        archive = (is (seat_step next p what)).1.1.1;
      })

module _ {S : Type 0} (m : Meaning S) (t : WorldState) (h : Happened) where
  actor_sends : (x : Who) (r : Result Stimulus Refusal) → is_another x ≡ true → step_of m t x r ≡ Ok h → SentOthers t h
  actor_sends (AReplica i) r other e = absurd cc
  actor_sends (Another k i) r other e =
      seat_others (next k) (other_sends k) (actor_at (Another k i)) t (at_other k t i) (slice_get (seats k t.others) i) r h
      (λ x. (refl, (refl, (refl, refl)))) e
  actor_sends _ r other e = absurd cc

  pub others_send : (e : Event) → is_another (who (actor_of e)) ≡ true → step m t e ≡ Ok h → SentOthers t h
  unfolding step
  others_send e other is = actor_sends (who (actor_of e)) (stimulus_of t.config t.sent e) other is
