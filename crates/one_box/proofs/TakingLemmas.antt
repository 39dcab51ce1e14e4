-- One event of an actor.
use Rattle.std.proofs.Common.{◌≡◌, ℕ, List, [], ◌++◌, length, drop, Option, Some, Result, Ok, Err, OnOk, inl, inr}
use Rattle.std.proofs.Common.{sym, ap, subst, ◌∙◌, append-nil, arith}
use Rattle.std.proofs.lemmas.List.{drop_all}
use Rattle.nop_types.specs.Meaning.{Meaning}
use Rattle.nop_types.specs.declared.memory.NoMemory.{NoMemory}
use Rattle.outside.specs.Observed.{Stays}
use Rattle.outside.specs.declared.link.LinkCall.{LinkCall}
use Rattle.outside.specs.declared.link.PollAnswer.{PollAnswer}
use Rattle.schedule_text.specs.declared.event.Event.{Event}
use Rattle.udp_node.specs.declared.address.Address.{Address}
use Rattle.udp_node.specs.Sends.{LinkSide, Sends, side}
use Rattle.udp_node.proofs.SendLemmas.{sends_then}
use Rattle.network.specs.Network.{Sent}
use Rattle.world.specs.SeatOutcomes as world
use Rattle.world.specs.WorldSteps.{Happened, Refusal, step}
use Rattle.world.specs.declared.step_error.StepError.{StepError}
use Rattle.world.specs.declared.step_error.StepError.TheVariants as steps
use Rattle.one_box.specs.declared.node.BoxActor as code
use Rattle.one_box.specs.ClusterRun.{Course, BoxActor, kept_if, take, posts}
use Rattle.one_box.specs.Showing.{LinkView, Shows, Reaches, Does, Acts, IsRefusal, Happens, Refuses, Steps, GoesOn}
use Rattle.one_box.proofs.SendingLemmas.{lost_fits}

-- ---- an event that is refused

module _ {S : Type 0} (m : Meaning S) (e : Event) (c d : Course) where
  refusal_steps : d ≡ c → (error : StepError) (P : Type 0) → IsRefusal error → world.Refuses error (step m c.world e) P → Steps m e c d
  refusal_steps same (steps.NoSuchDatagram index sent) P is r = inr (record { refusal = _; is = r.0; same = same })
  refusal_steps same steps.NoSuchActor P is r = inr (record { refusal = _; is = r.0; same = same })
  refusal_steps same steps.Forged P is r = inr (record { refusal = _; is = r.0; same = same })
  refusal_steps same steps.NoMemory P is r = absurd is

  refusal_same : (error : StepError) (P : Type 0) → IsRefusal error → world.Refuses error (step m c.world e) P → P
  refusal_same (steps.NoSuchDatagram index sent) P is r = r.1
  refusal_same steps.NoSuchActor P is r = r.1
  refusal_same steps.Forged P is r = r.1
  refusal_same steps.NoMemory P is r = absurd is

  module _ (P : Type 0) (same : P → d ≡ c) (error : StepError) (refuses : world.Refuses error (step m c.world e) P) where
    pub refused_steps : (r : Result (Unit {0}) NoMemory) → OnOk r (IsRefusal error) → OnOk r (Steps m e c d)
    refused_steps (Ok t) is = refusal_steps (same (refusal_same error P is refuses)) error P is refuses
    refused_steps (Err x) is = tt

    pub refused_goes : (r : Result (Unit {0}) NoMemory) → OnOk r (IsRefusal error) → OnOk r (GoesOn m c d)
    refused_goes (Ok t) is = subst (λ (a : Course). GoesOn m c a) (sym (same (refusal_same error P is refuses))) (λ config led. led)
    refused_goes (Err x) is = tt

-- ---- what was sent goes over the link

module _ {S L : Type 0} (m : Meaning S) (v : LinkView L) (c d : Course) (e : Event) (x y : code.BoxActor L) (count : ℕ)
    (counted : count ≡ length c.world.sent) (at : y.at ≡ x.at) (next_op : y.next_op ≡ x.next_op)
    (timers : y.timers.items ≡ x.timers.items) (answers : Stays (v.answers x.link) (v.answers y.link)) where
  abbrev before : LinkSide
  before = side (v.trace x.link) x.lost (v.losses x.link)

  abbrev after : LinkSide
  after = side (v.trace y.link) y.lost (v.losses y.link)

  abbrev more : List Sent
  more = drop count d.world.sent

  module _ (sends : Sends (posts x.at more) before after) where
    shows_more : (n : BoxActor) → Shows v n x → Shows v (record n { trace = n.trace ++ posts n.at more }) y
    shows_more n shown =
        let there : Sends (posts n.at more) before after =
        subst (λ (a : Address). Sends (posts a more) before after) shown.at sends in
        let all : Sends (n.trace ++ posts n.at more) (side (Some []) 0 0) after =
        sends_then n.trace (posts n.at more) (side (Some []) 0 0) before after shown.sends there in
        record {
          at = at ∙ shown.at;
          next_op = next_op ∙ shown.next_op;
          timers = timers ∙ shown.timers;
          answers = subst (λ (o : Option (List PollAnswer)). Stays o (v.answers y.link)) shown.answers answers;
          sends = all;
        }

    taken : Happens m e c d → Does v (λ a n. take m a n e) c x d y
    unfolding take
    taken h n shown =
        let same : more ≡ drop (length c.world.sent) h.happened.world.sent =
        ap (λ (k : ℕ). drop k d.world.sent) counted ∙ ap (λ (a : Course). drop (length c.world.sent) a.world.sent) h.keeps in
        let shows : Shows v (record n { trace = n.trace ++ posts n.at (drop (length c.world.sent) h.happened.world.sent) }) y =
        subst (λ (ss : List Sent). Shows v (record n { trace = n.trace ++ posts n.at ss }) y) same (shows_more n shown) in
        let reach : Reaches v (kept_if c n e (Ok h.happened)) d y = record { course = sym h.keeps; node = shows } in
        subst (λ (r : Result Happened Refusal). Reaches v (kept_if c n e r) d y) (sym h.is) reach

    refused : Refuses m e c d → Does v (λ a n. take m a n e) c x d y
    unfolding take
    refused r n shown =
        let none : more ≡ [] =
        ap (λ (k : ℕ). drop k d.world.sent) counted ∙ ap (λ (a : Course). drop (length c.world.sent) a.world.sent) r.same
        ∙ drop_all (length c.world.sent) c.world.sent (omega arith) in
        let shows : Shows v n y =
        subst (λ (cs : List LinkCall). Shows v (record n { trace = cs }) y)
        (ap (λ (ss : List Sent). n.trace ++ posts n.at ss) none ∙ append-nil n.trace) (shows_more n shown) in
        let reach : Reaches v (kept_if c n e (Err r.refusal)) d y = record { course = sym r.same; node = shows } in
        subst (λ (o : Result Happened Refusal). Reaches v (kept_if c n e o) d y) (sym r.is) reach

    stepped : Steps m e c d → Does v (λ a n. take m a n e) c x d y
    stepped (inl h) = taken h
    stepped (inr r) = refused r

  pub takes : (r : Result (Unit {0}) NoMemory) → Steps m e c d → GoesOn m c d → OnOk r (Sends (posts x.at more) before after)
      → OnOk r (Acts v m (λ a n. take m a n e) c x d y)
  takes (Ok t) steps goes sends =
      record { does = stepped sends steps; goes = goes; lost = lost_fits (posts x.at more) before after sends }
  takes (Err error) steps goes sends = tt
