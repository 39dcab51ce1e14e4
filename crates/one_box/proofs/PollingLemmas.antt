-- One poll of an actor.
use Rattle.std.proofs.Common.{◌≡◌, ℕ, List, [], ◌∷◌, drop, map, Option, Some, None, Result, Ok, Err, OnOk}
use Rattle.std.proofs.Common.{refl, sym, ap, subst, ◌∙◌, arith}
use Rattle.nop_types.specs.Configuration.{Configuration}
use Rattle.nop_types.specs.Meaning.{Meaning}
use Rattle.outside.specs.Causes.{CountsFor, next_count}
use Rattle.outside.specs.Links.{next_poll, Polls}
use Rattle.outside.specs.declared.errors.DeviceError.{DeviceError}
use Rattle.outside.specs.declared.errors.DeviceError.TheVariants as devices
use Rattle.nop_types.specs.declared.memory.NoMemory.{NoMemory}
use Rattle.outside.specs.declared.link.PollAnswer.{PollAnswer}
use Rattle.outside.specs.declared.link.PollAnswer.TheVariants.{Received, Nothing, Failure}
use Rattle.outside.specs.declared.link.LinkCall.TheVariants.{Polled}
use Rattle.schedule_text.specs.declared.event.Event.TheVariants as events
use Rattle.udp_node.specs.declared.address.Address.{Address}
use Rattle.udp_node.specs.Sends.{LinkSide, Sends, side}
use Rattle.udp_node.specs.Timing.{rearmed, Takes}
use Rattle.udp_node.proofs.SendLemmas.{sends_then}
use Rattle.udp_node.proofs.TurnLemmas.{answer_of, poll_taken, poll_failed}
use Rattle.network.specs.Finding.{first_index}
use Rattle.one_box.specs.declared.node.BoxActor as code
use Rattle.one_box.specs.ClusterRun as run
use Rattle.one_box.specs.ClusterRun.{Course, BoxActor, take, deliver, poll, after_poll, fire_due, node_turn}
use Rattle.one_box.specs.Showing.{LinkView, IsLedTo, Shows, Reaches, ReachesIf, Acts, Served, Serves}
use Rattle.one_box.proofs.LeadingLemmas.{goes_through}
use Rattle.one_box.proofs.SendingLemmas.{lost_fits}

-- what is led to by events does not depend on what was dropped
led_with_stray : {S : Type 0} (m : Meaning S) (config : Configuration) (c : Course) (n : ℕ) → IsLedTo m config c
    → IsLedTo m config (record c { stray = n })
led_with_stray m config c n led =
    record { lines = led.lines; is = led.is; fit = led.fit; spelled = led.spelled; text = led.text; accepts = led.accepts }

module _ {S L : Type 0} (m : Meaning S) (v : LinkView L) (c d : Course) (x y : code.BoxActor L) where
  -- it equals one that was sent
  pub delivered : (r : Result (Unit {0}) NoMemory) (datagram : List ℕ) (index : ℕ) → Some index ≡ first_index datagram c.world.sent
      → OnOk r (Acts v m (λ a n. take m a n (events.Deliver index x.at.own)) c x d y)
      → OnOk r (Acts v m (λ a n. deliver m (first_index datagram a.world.sent) a n) c x d y)
  unfolding deliver
  delivered (Err e) datagram index is acts = tt
  delivered (Ok t) datagram index is acts = record {
    does = λ n shown.
        let here : Reaches v (take m c n (events.Deliver index n.at.own)) d y =
        subst (λ (a : Address). Reaches v (take m c n (events.Deliver index a.own)) d y) shown.at (acts.does n shown) in
        subst (λ (o : Option ℕ). Reaches v (deliver m o c n) d y) is here;
    goes = acts.goes;
    lost = acts.lost;
  }

  -- it equals none
  pub dropped : (datagram : List ℕ) → None ≡ first_index datagram c.world.sent → d ≡ record c { stray = next_count c.stray }
      → Acts v m (λ a n. deliver m (first_index datagram a.world.sent) a n) c x d x
  unfolding deliver
  dropped datagram is strays = record {
    does = λ n shown.
        let here : Reaches v (deliver m None c n) d x = record { course = sym strays; node = shown } in
        subst (λ (o : Option ℕ). Reaches v (deliver m o c n) d x) is here;
    goes = λ config led. subst (IsLedTo m config) (sym strays) (led_with_stray m config c (next_count c.stray) led);
    lost = λ fits. fits;
  }

-- the link after a poll, with the timers that were due
module _ {S L : Type 0} (m : Meaning S) (v : LinkView L) (now : ℕ) (c d : Course) (x z y : code.BoxActor L) (at : z.at ≡ x.at)
    (next_op : z.next_op ≡ x.next_op) (timers : z.timers.items ≡ map (rearmed now) x.timers.items) where
  abbrev before : LinkSide
  before = side (v.trace x.link) x.lost (v.losses x.link)

  abbrev after : LinkSide
  after = side (v.trace z.link) z.lost (v.losses z.link)

  shows_after : (n : BoxActor) → Sends (Polled ∷ []) before after → Shows v n x → v.answers z.link ≡ Some (drop 1 n.answers)
      → Shows v (after_poll m now n) z
  shows_after n polled shown answers = record {
    at = at ∙ shown.at;
    next_op = next_op ∙ shown.next_op;
    timers = timers ∙ ap (map (rearmed now)) shown.timers;
    answers = answers;
    sends = sends_then n.trace (Polled ∷ []) (side (Some []) 0 0) before after shown.sends polled;
  }

  taken : (n : BoxActor) (r : Option (List ℕ)) → Shows v n x → Polls (v.answers x.link) (v.answers z.link) (Ok r)
      → Takes (Some n.answers) (v.answers z.link) (answer_of (Ok r))
  taken n r shown polls =
      poll_taken (Some n.answers) (v.answers x.link) (v.answers z.link) r shown.answers polls

  -- no datagram came
  pub silent : Polls (v.answers x.link) (v.answers z.link) (Ok None) → Sends (Polled ∷ []) before after → Served v m (poll m now) c x c z
  unfolding poll run.polled
  silent polls sends = record {
    does = λ n shown.
        let took = taken n None shown polls in
        let k : BoxActor = after_poll m now n in
        let here : ReachesIf v (run.polled m Nothing c k) c z = record { course = refl; node = shows_after n sends shown took.1 } in
        subst (λ (p : PollAnswer). ReachesIf v (run.polled m p c k) c z) took.0 here;
    goes = λ config led. led;
    lost = lost_fits (Polled ∷ []) before after sends;
  }

  -- a datagram came
  pub received : (datagram shows : List ℕ) → shows ≡ datagram → Polls (v.answers x.link) (v.answers z.link) (Ok (Some datagram))
      → Sends (Polled ∷ []) before after → Acts v m (λ a n. deliver m (first_index shows a.world.sent) a n) c z d y
      → Served v m (poll m now) c x d y
  unfolding poll run.polled
  received datagram shows same polls sends acts = record {
    does = λ n shown.
        let took = taken n (Some datagram) shown polls in
        let k : BoxActor = after_poll m now n in
        let reach : Reaches v (deliver m (first_index shows c.world.sent) c k) d y = acts.does k (shows_after n sends shown took.1) in
        let here : ReachesIf v (run.polled m (Received datagram) c k) d y =
        subst (λ (bytes : List ℕ). Reaches v (deliver m (first_index bytes c.world.sent) c k) d y) same reach in
        subst (λ (p : PollAnswer). ReachesIf v (run.polled m p c k) d y) took.0 here;
    goes = acts.goes;
    lost = λ fits. acts.lost (lost_fits (Polled ∷ []) before after sends fits);
  }

  -- the poll failed, or memory ran out
  pub unpolled : (e : DeviceError) → Polls (v.answers x.link) (v.answers z.link) (Err e)
      → CountsFor {T = Option (List ℕ)} (v.faults x.link) (v.faults z.link) devices.Failed (Err e)
      → Serves v m (poll m now) (Err e) c x d z
  unfolding poll run.polled
  unpolled devices.Failed polls counts = record {
    none = λ n shown.
        let gives : Failure ≡ next_poll n.answers =
        poll_failed (Some n.answers) (v.answers x.link) (v.answers z.link) shown.answers polls in
        let k : BoxActor = after_poll m now n in
        ap (λ (p : PollAnswer). run.polled m p c k) (sym gives);
    rose = let rose = counts.failed refl in omega (arith, rose);
  }
  unpolled devices.NoMemory polls counts = tt

-- the timers and then the poll
module _ {S L : Type 0} (m : Meaning S) (v : LinkView L) (ops : List (List ℕ)) (now : ℕ) (c d e : Course) (x y z : code.BoxActor L)
    (fires : Acts v m (λ a n. fire_due m ops now n.timers a n) c x d y) where
  pub fired_and_polled : (r : Result (Unit {0}) DeviceError) → Serves v m (λ a n. poll m now a n) r d y e z
      → Serves v m (λ a n. node_turn m ops now a n) r c x e z
  unfolding node_turn
  fired_and_polled (Ok t) polls = record {
    does = λ n shown.
        let p : Course × BoxActor = fire_due m ops now n.timers c n in
        let reach : Reaches v p d y = fires.does n shown in
        subst (λ (a : Course). ReachesIf v (poll m now a p.1) e z) (sym reach.course) (polls.does p.1 reach.node);
    goes = goes_through m c d e fires.goes polls.goes;
    lost = λ fits. polls.lost (fires.lost fits);
  }
  fired_and_polled (Err devices.Failed) polls = record {
    none = λ n shown.
        let p : Course × BoxActor = fire_due m ops now n.timers c n in
        let reach : Reaches v p d y = fires.does n shown in
        ap (λ (a : Course). poll m now a p.1) reach.course ∙ polls.none p.1 reach.node;
    rose = polls.rose;
  }
  fired_and_polled (Err devices.NoMemory) polls = tt
