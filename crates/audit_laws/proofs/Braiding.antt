-- Each order of a run's steps that keeps each actor's own, and delivers only what was sent, is a run.
use Rattle.std.proofs.Common.{◌≡◌, ℕ, ◌<◌, Bool, true, false, cond, List, [], ◌∷◌, ◌++◌, map, length, Ok, refl, sym, ap, subst}
use Rattle.std.proofs.Common.{◌∙◌, append_assoc}
use Rattle.std.specs.Prelude.{◌==◌, slice_set}
use Rattle.std.specs.List.{flat_map}
use Rattle.std.proofs.lemmas.Bool.{ltb-true}
use Rattle.std.proofs.lemmas.List.{append-nil, map-append}
use Rattle.std.proofs.lemmas.List.Concat.{flat_map-append}
use Rattle.nop_types.specs.Configuration.{Configuration}
use Rattle.nop_types.specs.Given.{Given}
use Rattle.nop_types.specs.Meaning.{Meaning}
use Rattle.nop_types.specs.declared.output.Actor.{Actor}
use Rattle.nop_types.specs.declared.output.Actor.TheVariants as actors
use Rattle.nop_types.specs.declared.output.Out.{Out}
use Rattle.replica_core.specs.ReplicaSteps as replica
use Rattle.sequencer.specs.SequencerSteps as sequencer
use Rattle.session_control.specs.ControllerSteps as controller
use Rattle.observer.specs.ObserverSteps as observer
use Rattle.schedule_text.specs.declared.event.Event.{Event}
use Rattle.network.specs.Network.{Sent, Outputs, sends_of, lines_from}
use Rattle.trace_rows.specs.declared.row.Gave.{Gave}
use Rattle.trace_rows.specs.declared.row.Taken.{Taken}
use Rattle.world.specs.Others.{Kind, Sequencers, Clients, Controllers, State, next, Others, seats, with_seat, count, Who, AReplica, Another, AnObserver, who, actor_at}
use Rattle.world.specs.Refusals.{is_actor}
use Rattle.world.specs.Seats.{Seated, Takes, seated}
use Rattle.world.specs.WorldSteps.{WorldState, Happened, opening, opening_client, step, step_of, at_replica, at_other, at_observer}
use Rattle.audit_laws.specs.Audits.{Step, AllSay, IsStep, Follows, Ends, Goes}
use Rattle.audit_laws.specs.Braids.{own, sends_in, IsThere, IsCausal, OrdersRun, RunsAreCausal}
use Rattle.audit_laws.specs.Names.{same_actor}
use Rattle.audit_laws.proofs.Naming.{same_actor-refl}
use Rattle.audit_laws.proofs.Saying.{all_sent, said_from}
use Rattle.audit_laws.proofs.Seating.{SeatsAre, after, found, givens, one_moves, opening_are, others_stay, own-append, state_after}
use Rattle.audit_laws.proofs.Taking.{IsEventFor, MayTake, event_has, event_is, given_of, may_take, was_there}

-- ---- actors of different kinds are apart

replica_apart : (k : Kind) (i j : ℕ) → same_actor (actors.Replica i) (actor_at (Another k j)) ≡ false
replica_apart Sequencers i j = refl
replica_apart _ i j = refl

apart_replica : (k : Kind) (i j : ℕ) → same_actor (actor_at (Another k i)) (actors.Replica j) ≡ false
apart_replica Sequencers i j = refl
apart_replica _ i j = refl

observer_apart : (k : Kind) (i j : ℕ) → same_actor (actors.Observer i) (actor_at (Another k j)) ≡ false
observer_apart Sequencers i j = refl
observer_apart _ i j = refl

apart_observer : (k : Kind) (i j : ℕ) → same_actor (actor_at (Another k i)) (actors.Observer j) ≡ false
apart_observer Sequencers i j = refl
apart_observer _ i j = refl

one_kind : (k : Kind) (i j : ℕ) → same_actor (actor_at (Another k i)) (actor_at (Another k j)) ≡ (i == j)
one_kind Sequencers i j = refl
one_kind _ i j = refl

-- one actor of a kind moves, and those of the other kinds stay
kind_moves : (P : (j : Kind) → List (Seated (State j)) → Type 0) (o : Others) (k : Kind) (i : ℕ) (p : Seated (State k))
    → P k (slice_set (seats k o) i p)
    → ((j : Kind) → ((n : ℕ) → same_actor (actor_at (Another k i)) (actor_at (Another j n)) ≡ false) → P j (seats j o))
    → (j : Kind) → P j (seats j (with_seat k o i p))
kind_moves P o Sequencers i p here all Sequencers = here
kind_moves P o Sequencers i p here all Clients = all Clients (λ n. refl)
kind_moves P o Sequencers i p here all Controllers = all Controllers (λ n. refl)
kind_moves P o Clients i p here all Sequencers = all Sequencers (λ n. refl)
kind_moves P o Clients i p here all Clients = here
kind_moves P o Clients i p here all Controllers = all Controllers (λ n. refl)
kind_moves P o Controllers i p here all Sequencers = all Sequencers (λ n. refl)
kind_moves P o Controllers i p here all Clients = all Clients (λ n. refl)
kind_moves P o Controllers i p here all Controllers = here

-- ---- the world after some steps

module _ {S : Type 0} (m : Meaning S) (c : Configuration) where
  abbrev opening_at : (k : Kind) → ℕ → State k
  opening_at Sequencers = sequencer.opening
  opening_at Clients = opening_client c
  opening_at Controllers = controller.opening c

  abbrev ReplicasAre : List Step → WorldState → Type 0
  ReplicasAre front w = SeatsAre (replica.next m) (replica.opening c) actors.Replica c.replicas front w.replicas

  abbrev KindAre : List Step → (k : Kind) → List (Seated (State k)) → Type 0
  KindAre front k ps = SeatsAre (next k) (opening_at k) (λ i. actor_at (Another k i)) (count k c) front ps

  abbrev ObserversAre : List Step → WorldState → Type 0
  ObserversAre front w = SeatsAre (observer.next m) (observer.opening c) actors.Observer c.observers front w.observers

  -- each actor has taken the inputs of its own steps, and what was sent is what they sent
  record Stands (front : List Step) (w : WorldState) : Type 0 where
    config : w.config ≡ c
    replicas : ReplicasAre front w
    others : (k : Kind) → KindAre front k (seats k w.others)
    observers : ObserversAre front w
    sent : map (λ (s : Sent). s.bytes) w.sent ≡ flat_map sends_in front

  -- what an actor gives after some inputs
  abbrev gives : Who → List Given → Given → List Out
  gives (AReplica i) past g = (replica.next m (after (replica.next m) (replica.opening c i) past) g).1
  gives (Another k i) past g = (next k (after (next k) (opening_at k i) past) g).1
  gives (AnObserver i) past g = (observer.next m (after (observer.next m) (observer.opening c i) past) g).1

  abbrev gives_after : List Step → Who → Actor → Taken → List Out
  gives_after front x a g = gives x (givens (own a front)) (given_of g)

  -- an actor takes an input, and the world goes on
  record Comes (front : List Step) (w : WorldState) (x : Who) (a : Actor) (g : Taken) (h : Happened) : Type 0 where
    lines : h.lines ≡ lines_from a (length w.sent) (gives_after front x a g)
    stands : (os : List Gave) → AllSay a os h.lines → Stands (front ++ record { actor = a; taken = g; outputs = os } ∷ []) h.world

  more_sent : (front : List Step) (sent : List Sent) (a : Actor) (g : Taken) (os : List Gave) (xs : List Out) (k : ℕ)
      → map (λ (s : Sent). s.bytes) sent ≡ flat_map sends_in front → AllSay a os (lines_from a k xs)
      → map (λ (s : Sent). s.bytes) (sent ++ sends_of a xs)
      ≡ flat_map sends_in (front ++ record { actor = a; taken = g; outputs = os } ∷ [])
  more_sent front sent a g os xs k so_far said =
      let x : Step = record { actor = a; taken = g; outputs = os } in
      map-append (λ (s : Sent). s.bytes) sent (sends_of a xs)
      ∙ ap (λ (bs : List (List ℕ)). bs ++ map (λ (s : Sent). s.bytes) (sends_of a xs)) so_far
      ∙ ap (λ (bs : List (List ℕ)). flat_map sends_in front ++ bs) (sym (all_sent a a os k xs said) ∙ sym (append-nil (sends_in x)))
      ∙ sym (flat_map-append sends_in front (x ∷ []))

  abbrev Steps : List Step → WorldState → Who → Actor → Taken → Type 0
  Steps front w x a g = (h : Happened) × (step_of m w x (Ok (Takes (given_of g))) ≡ Ok h) × Comes front w x a g h

  kinds_stay : (front : List Step) (w : WorldState) (x : Step) → ((k : Kind) (j : ℕ) → same_actor x.actor (actor_at (Another k j)) ≡ false)
      → ((k : Kind) → KindAre front k (seats k w.others)) → (k : Kind) → KindAre (front ++ x ∷ []) k (seats k w.others)
  kinds_stay front w x apart are k =
      others_stay (next k) (opening_at k) (λ i. actor_at (Another k i)) (count k c) front (seats k w.others) x (apart k) (are k)

  replicas_stay : (front : List Step) (w : WorldState) (x : Step) → ((j : ℕ) → same_actor x.actor (actors.Replica j) ≡ false)
      → ReplicasAre front w → ReplicasAre (front ++ x ∷ []) w
  replicas_stay front w x apart are =
      others_stay (replica.next m) (replica.opening c) actors.Replica c.replicas front w.replicas x apart are

  observers_stay : (front : List Step) (w : WorldState) (x : Step) → ((j : ℕ) → same_actor x.actor (actors.Observer j) ≡ false)
      → ObserversAre front w → ObserversAre (front ++ x ∷ []) w
  observers_stay front w x apart are =
      others_stay (observer.next m) (observer.opening c) actors.Observer c.observers front w.observers x apart are

  replica_comes : (front : List Step) (w : WorldState) (i : ℕ) (g : Taken) → Stands front w → i < c.replicas
      → Steps front w (AReplica i) (actors.Replica i) g
  replica_comes front w i g s less =
      let now = state_after (replica.next m) (replica.opening c) actors.Replica front i in
      let got = replica.next m now (given_of g) in
      let h = at_replica w i (seated got.0, Outputs got.1) in (
        h,
        rw (s.replicas i less) refl,
        record {
          lines = refl;
          stands = λ os said. let x : Step = record { actor = actors.Replica i; taken = g; outputs = os } in record {
            config = s.config;
            replicas =
                one_moves (replica.next m) (replica.opening c) actors.Replica c.replicas front w.replicas x i (λ j. refl) less s.replicas;
            others = kinds_stay front w x (λ k j. replica_apart k i j) s.others;
            observers = observers_stay front w x (λ j. refl) s.observers;
            sent = more_sent front w.sent (actors.Replica i) g os got.1 (length w.sent) s.sent said;
          };
        },
      )

  kind_comes : (front : List Step) (w : WorldState) (k : Kind) (i : ℕ) (g : Taken) → Stands front w → i < count k c
      → Steps front w (Another k i) (actor_at (Another k i)) g
  kind_comes front w k i g s less =
      let a = actor_at (Another k i) in
      let now = state_after (next k) (opening_at k) (λ j. actor_at (Another k j)) front i in
      let got = next k now (given_of g) in
      let h = at_other k w i (seated got.0, Outputs got.1) in (
        h,
        rw (s.others k i less) refl,
        record {
          lines = refl;
          stands = λ os said. let x : Step = record { actor = a; taken = g; outputs = os } in record {
            config = s.config;
            replicas = replicas_stay front w x (λ j. apart_replica k i j) s.replicas;
            others = kind_moves (KindAre (front ++ x ∷ [])) w.others k i (seated got.0)
                (one_moves (next k) (opening_at k) (λ j. actor_at (Another k j)) (count k c) front (seats k w.others) x i (one_kind k i) less
                (s.others k))
                (λ j apart. others_stay (next j) (opening_at j) (λ n. actor_at (Another j n)) (count j c) front (seats j w.others) x apart
                (s.others j));
            observers = observers_stay front w x (λ j. apart_observer k i j) s.observers;
            sent = more_sent front w.sent a g os got.1 (length w.sent) s.sent said;
          };
        },
      )

  observer_comes : (front : List Step) (w : WorldState) (i : ℕ) (g : Taken) → Stands front w → i < c.observers
      → Steps front w (AnObserver i) (actors.Observer i) g
  observer_comes front w i g s less =
      let now = state_after (observer.next m) (observer.opening c) actors.Observer front i in
      let got = observer.next m now (given_of g) in
      let h = at_observer w i (seated got.0, Outputs got.1) in (
        h,
        rw (s.observers i less) refl,
        record {
          lines = refl;
          stands = λ os said. let x : Step = record { actor = actors.Observer i; taken = g; outputs = os } in record {
            config = s.config;
            replicas = replicas_stay front w x (λ j. refl) s.replicas;
            others = kinds_stay front w x (λ k j. observer_apart k i j) s.others;
            observers =
                one_moves (observer.next m) (observer.opening c) actors.Observer c.observers front w.observers x i (λ j. refl) less s.observers;
            sent = more_sent front w.sent (actors.Observer i) g os got.1 (length w.sent) s.sent said;
          };
        },
      )

  comes : (front : List Step) (w : WorldState) (a : Actor) (g : Taken) → Stands front w → is_actor c a ≡ true → Steps front w (who a) a g
  comes front w (actors.Replica i) g s there = replica_comes front w i g s (ltb-true i c.replicas there)
  comes front w (actors.Sequencer i) g s there = kind_comes front w Sequencers i g s (ltb-true i c.sequencers there)
  comes front w (actors.Client i) g s there = kind_comes front w Clients i g s (ltb-true i c.clients there)
  comes front w (actors.Controller i) g s there = kind_comes front w Controllers i g s (ltb-true i c.controllers there)
  comes front w (actors.Observer i) g s there = observer_comes front w i g s (ltb-true i c.observers there)

  kinds_open : (k : Kind) → KindAre [] k (seats k (opening c).others)
  kinds_open Sequencers = opening_are sequencer.next sequencer.opening actors.Sequencer c.sequencers
  kinds_open Clients = opening_are (next Clients) (opening_client c) actors.Client c.clients
  kinds_open Controllers = opening_are controller.next (controller.opening c) actors.Controller c.controllers

  opens : Stands [] (opening c)
  opens = record {
    config = refl;
    replicas = opening_are (replica.next m) (replica.opening c) actors.Replica c.replicas;
    others = kinds_open;
    observers = opening_are (observer.next m) (observer.opening c) actors.Observer c.observers;
    sent = refl;
  }

  -- ---- a step, told by its actor's own alone

  record Does (front : List Step) (x : Step) : Type 0 where
    there : is_actor c x.actor ≡ true
    takes : MayTake c x.actor x.taken
    outputs : AllSay x.actor x.outputs (lines_from x.actor 0 (gives_after front (who x.actor) x.actor x.taken))

  step_is : (w : WorldState) (a : Actor) (g : Taken) (e : Event) → IsEventFor w.config w.sent a g e
      → step m w e ≡ step_of m w (who a) (Ok (Takes (given_of g)))
  unfolding step
  step_is w a g e is = let brings = is.brings in rw (is.actor, brings) refl

  -- from a step of the world
  goes_on : (front : List Step) (w : WorldState) (x : Step) (e : Event) (h : Happened) → Stands front w → IsStep m w x e h
      → Does front x × Stands (front ++ x ∷ []) h.world
  goes_on front w x e h s is =
      let there : is_actor c x.actor ≡ true = ap (λ (d : Configuration). is_actor d x.actor) (sym s.config) ∙ is.there in
      let r = comes front w x.actor x.taken s there in
      let made : Ok r.0 ≡ Ok h =
      sym r.1 ∙ sym (step_is w x.actor x.taken e (event_is w.config w.sent x.actor x.taken e is.event)) ∙ is.happens in
      let same : r.0 ≡ h = cc in
      let said : AllSay x.actor x.outputs r.0.lines = subst (λ (y : Happened). AllSay x.actor x.outputs y.lines) (sym same) is.outputs in (
        record {
          there = there;
          takes = subst (λ (d : Configuration). MayTake d x.actor x.taken) s.config
              (may_take w.config w.sent x.actor x.taken e is.event);
          outputs = said_from x.actor x.actor x.outputs (length w.sent) 0 (gives_after front (who x.actor) x.actor x.taken)
              (subst (AllSay x.actor x.outputs) r.2.lines said);
        },
        subst (λ (y : Happened). Stands (front ++ x ∷ []) y.world) same (r.2.stands x.outputs said),
      )

  -- to a step of the world
  record Stepped (front : List Step) (w : WorldState) (x : Step) : Type 0 where
    event : Event
    happened : Happened
    is : IsStep m w x event happened
    stands : Stands (front ++ x ∷ []) happened.world

  steps_so : (front : List Step) (w : WorldState) (x : Step) → Stands front w → Does front x → IsThere (flat_map sends_in front) x.taken
      → Stepped front w x
  steps_so front w x s does there =
      let takes : MayTake w.config x.actor x.taken =
      subst (λ (d : Configuration). MayTake d x.actor x.taken) (sym s.config) does.takes in
      let e = event_has w.config w.sent x.actor x.taken takes (subst (λ (bs : List (List ℕ)). IsThere bs x.taken) (sym s.sent) there) in
      let r = comes front w x.actor x.taken s does.there in
      let said : AllSay x.actor x.outputs r.0.lines = subst (AllSay x.actor x.outputs) (sym r.2.lines)
      (said_from x.actor x.actor x.outputs 0 (length w.sent) (gives_after front (who x.actor) x.actor x.taken) does.outputs) in
      record {
        event = e.0;
        happened = r.0;
        is = record {
          there = ap (λ (d : Configuration). is_actor d x.actor) s.config ∙ does.there;
          event = e.1;
          happens = step_is w x.actor x.taken e.0 (event_is w.config w.sent x.actor x.taken e.0 e.1) ∙ r.1;
          outputs = said;
        };
        stands = r.2.stands x.outputs said;
      }

  -- ---- whole orders

  abbrev DoAll : List Step → List Step → Type 0
  DoAll front xs = (f : List Step) (x : Step) (r : List Step) → xs ≡ f ++ x ∷ r → Does (front ++ f) x

  do_all : (front : List Step) (w : WorldState) (xs : List Step) (es : List Event) (v : Happened) → Stands front w → Follows m w xs es v
      → DoAll front xs
  do_all front w [] (e ∷ es) v s none f x r is = elim none [ ]
  do_all front w (y ∷ ys) [] v s none f x r is = elim none [ ]
  do_all front w [] [] _ s (Ends _) [] x r e = absurd cc
  do_all front w [] [] _ s (Ends _) (y ∷ f) x r e = absurd cc
  do_all front w (y ∷ ys) (e ∷ es) _ s (Goes _ _ _ h _ _ v one rest) [] x r is =
      let same : y ≡ x = cc in
      let nothing : front ++ [] ≡ front = append-nil front in
      rw nothing (subst (Does front) same (goes_on front w y e h s one).0)
  do_all front w (y ∷ ys) (e ∷ es) _ s (Goes _ _ _ h _ _ v one rest) (z ∷ f) x r is =
      let same : y ≡ z = cc in
      let others : ys ≡ f ++ x ∷ r = cc in
      let more = do_all (front ++ y ∷ []) h.world ys es v (goes_on front w y e h s one).1 rest f x r others in
      subst (λ (l : List Step). Does l x) (append_assoc front (y ∷ []) f ∙ ap (λ (k : Step). front ++ k ∷ f) same) more

  build : (front : List Step) (w : WorldState) (ys : List Step) → Stands front w → DoAll front ys → IsCausal (flat_map sends_in front) ys
      → (es : List Event) × (v : Happened) × Follows m w ys es v
  build front w [] s all causal = ([], record { world = w; lines = [] }, Ends w)
  build front w (y ∷ ys) s all causal =
      let nothing : front ++ [] ≡ front = append-nil front in
      let one = steps_so front w y s (subst (λ (l : List Step). Does l y) nothing (all [] y ys refl)) causal.0 in
      let sent : flat_map sends_in front ++ sends_in y ≡ flat_map sends_in (front ++ y ∷ []) =
      ap (λ (bs : List (List ℕ)). flat_map sends_in front ++ bs) (sym (append-nil (sends_in y)))
      ∙ sym (flat_map-append sends_in front (y ∷ [])) in
      let rest = build (front ++ y ∷ []) one.happened.world ys one.stands
      (λ f x r e. subst (λ (l : List Step). Does l x) (sym (append_assoc front (y ∷ []) f))
      (all (y ∷ f) x r (ap (λ (l : List Step). y ∷ l) e)))
      (subst (λ (bs : List (List ℕ)). IsCausal bs ys) sent causal.1) in (
        one.event ∷ rest.0,
        record { world = rest.1.world; lines = one.happened.lines ++ rest.1.lines },
        Goes w y one.event one.happened ys rest.0 rest.1 one.is rest.2,
      )

  does_by_own : (f g : List Step) (x : Step) → own x.actor f ≡ own x.actor g → Does f x → Does g x
  does_by_own f g x same d = record {
    there = d.there;
    takes = d.takes;
    outputs =
        subst (λ (l : List Step). AllSay x.actor x.outputs (lines_from x.actor 0 (gives (who x.actor) (givens l) (given_of x.taken)))) same
        d.outputs;
  }

  other_order : (xs ys : List Step) → ((a : Actor) → own a ys ≡ own a xs) → DoAll [] xs → DoAll [] ys
  other_order xs ys same all g x r e =
      let mine : own x.actor (x ∷ r) ≡ x ∷ own x.actor r =
      ap (λ (b : Bool). cond b (x ∷ own x.actor r) (own x.actor r)) (same_actor-refl x.actor) in
      let at : own x.actor xs ≡ own x.actor g ++ x ∷ own x.actor r =
      sym (same x.actor) ∙ ap (own x.actor) e ∙ own-append x.actor g (x ∷ r)
      ∙ ap (λ (l : List Step). own x.actor g ++ l) mine in
      let f = found x.actor xs (own x.actor g) (own x.actor r) x at in
      does_by_own f.front g x f.before (all f.front x f.rest f.split)

  -- ---- a run delivers only what was sent

  causal_from : (front : List Step) (w : WorldState) (xs : List Step) (es : List Event) (v : Happened) → Stands front w → Follows m w xs es v
      → IsCausal (flat_map sends_in front) xs
  causal_from front w [] (e ∷ es) v s none = elim none [ ]
  causal_from front w (x ∷ xs) [] v s none = elim none [ ]
  causal_from front w [] [] _ s (Ends _) = tt
  causal_from front w (x ∷ xs) (e ∷ es) _ s (Goes _ _ _ h _ _ v one rest) =
      let more = causal_from (front ++ x ∷ []) h.world xs es v (goes_on front w x e h s one).1 rest in
      let sent : flat_map sends_in (front ++ x ∷ []) ≡ flat_map sends_in front ++ sends_in x =
      flat_map-append sends_in front (x ∷ [])
      ∙ ap (λ (bs : List (List ℕ)). flat_map sends_in front ++ bs) (append-nil (sends_in x)) in (
        subst (λ (bs : List (List ℕ)). IsThere bs x.taken) s.sent (was_there w.config w.sent x.actor x.taken e one.event),
        subst (λ (bs : List (List ℕ)). IsCausal bs xs) sent more,
      )

pub orders_run : {S : Type 0} (m : Meaning S) → OrdersRun m
orders_run m c xs ys ran same causal =
    let all = do_all m c [] (opening c) xs ran.events ran.happened (opens m c) ran.follows in
    let b = build m c [] (opening c) ys (opens m c) (other_order m c xs ys same all) causal in
    record { events = b.0; happened = b.1; follows = b.2 }

pub runs_are_causal : {S : Type 0} (m : Meaning S) → RunsAreCausal m
runs_are_causal m c xs ran = causal_from m c [] (opening c) xs ran.events ran.happened (opens m c) ran.follows
