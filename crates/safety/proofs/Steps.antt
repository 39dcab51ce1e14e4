-- One event: the real world follows the whole one.
use Rattle.std.proofs.Common.{◌≡◌, ℕ, arith, Bool, true, false, List, ◌++◌, Option, Some, None, refl, sym, ap, subst, ◌∙◌}
use Rattle.std.specs.Prelude.{not, ◌&&◌, Result, Ok, map, nat_lt, slice_get}
use Rattle.std.specs.List.{AllByRecursion}
use Rattle.std.specs.Option.{option_map}
use Rattle.std.proofs.lemmas.Bool.{ltb-true}
use Rattle.nop_types.specs.Lines.{Line}
use Rattle.nop_types.specs.Lists.{Has}
use Rattle.nop_types.specs.Checkpoints.{KeepsTo}
use Rattle.nop_types.specs.Logs.{Whole, Trimmed}
use Rattle.nop_types.specs.Meaning.{Meaning}
use Rattle.nop_types.specs.Ranges.{BodyIsIn}
use Rattle.nop_types.specs.declared.peer.Body.{Body}
use Rattle.nop_types.specs.declared.peer.Body.TheVariants as bodies
use Rattle.nop_types.specs.Ranges.{DatagramFits}
use Rattle.nop_types.specs.declared.datagram.Datagram.{Datagram}
use Rattle.nop_types.specs.declared.datagram.Datagram.TheVariants as datagrams
use Rattle.nop_types.specs.declared.datagram.Fragment.{Fragment}
use Rattle.nop_types.specs.declared.output.Actor.{Actor}
use Rattle.nop_types.specs.declared.output.Actor.TheVariants as actors
use Rattle.lemmas.proofs.Members.{Has-filter, Has-append_right}
use Rattle.oum_codec.specs.declared.bad.Bad.{Bad}
use Rattle.oum_codec.specs.Reading.{reading}
use Rattle.fragments.specs.Joining.{taken}
use Rattle.replica_state.specs.State.{is_other}
use Rattle.trimming.proofs.Bounds.{trimmed_keep_bounds, trimmed_is_in}
use Rattle.trimmed_rows.specs.Trimmed.{trimmed_body, trimmed_arrival}
use Rattle.replica_rows.specs.Messages as messages
use Rattle.replica_rows.specs.Messages.{arrive}
use Rattle.replica_rows.specs.Within.{ArrivalIsIn}
use Rattle.replica_rows.proofs.Counting.{arrive_sends_few}
use Rattle.replica_core.specs.declared.replica.TheConstants.{LAST_MESSAGE}
use Rattle.network_laws.specs.Sends.{IsBy}
use Rattle.network_laws.specs.Steps.{InNetwork}
use Rattle.network_laws.proofs.InRanges.{arrive_stays}
use Rattle.network_laws.proofs.Networks.{among_has}
use Rattle.network_laws.proofs.Own.{arrive_sends_own}
use Rattle.observer.specs.ObserverSteps.{Observer}
use Rattle.replica_core.specs.ReplicaSteps as replica
use Rattle.replica_core.specs.ReplicaSteps.{Replica}
use Rattle.schedule_text.specs.declared.event.Event.{Event}
use Rattle.schedule_text.specs.declared.event.Event.TheVariants as events
use Rattle.schedule_text.specs.Fits.{EventFits}
use Rattle.protocol.specs.Conf.{Conf}
use Rattle.network.specs.Network.{Sent}
use Rattle.world.specs.Others.{Kind, State, seats, Who, AReplica, Another, who}
use Rattle.world.specs.Seats.{Seated}
use Rattle.world.specs.WorldSteps.{WorldState, Happened, actor_of, at_replica, step, step_at, step_of, stimulus_of, then_at}
use Rattle.network_laws.specs.Network.{IsDatagram}
use Rattle.whole_world.specs.Safe.{BringsFits}
use Rattle.whole_world.specs.Shows.{Carries, MessagesSay, peers_of}
use Rattle.nop_types.specs.declared.request.Entry.{Entry}
use Rattle.whole_world.specs.Whole as whole
use Rattle.whole_world.specs.Whole.{WholeWorld, Letter, Brings, arrival_of, step_other, whole_step}
use Rattle.whole_world.proofs.Coming.{arrives}
use Rattle.whole_world.proofs.Fitting.{read_as}
use Rattle.whole_world.proofs.Mapped.{slice_get-from_map}
use Rattle.whole_world.specs.Archives.{archive_of, archive_after}
use Rattle.whole_world.specs.Trimming.{RowsTrim}
use Rattle.safety.specs.Following.{trimmed_letter, brought, sent_to, datagram_to, fragment_at, fragment_if, fragment_to, completes, is_apart}
use Rattle.safety.specs.Following.{bytes_of}
use Rattle.safety.proofs.Beside.{Alike, Travels, AllListen, Beside, is_another, real_letters}
use Rattle.safety.proofs.Coming.{event_comes}
use Rattle.safety.proofs.Listening.{more_listen}
use Rattle.safety.proofs.Observers.{Stays, observer_stays}
use Rattle.safety.proofs.Others.{others_follow}
use Rattle.safety.proofs.OtherSends.{SentOthers, others_send}
use Rattle.safety.proofs.Outputs.{bytes_there}
use Rattle.safety.proofs.Sends.{no_fragment}
use Rattle.safety.proofs.Replicas.{real_if, real_effect, RowFits, WholeSeat, whole_seat, replica_follows}
use Rattle.safety.proofs.Travels.{travels_others, joins_trimmed}

-- ---- what an event delivers is in its ranges

completes_fit : (f : Fragment) (o : Option (List ℕ)) → BringsFits (completes f o)
completes_fit f None = tt
completes_fit f (Some bytes) = tt

if_fits : (b : Bool) (s : Replica) (f : Fragment) → BringsFits (fragment_if b s f)
if_fits true s f = completes_fit f (taken s.reassembly f).1
if_fits false s f = tt

at_fits : (o : Option (Seated Replica)) (f : Fragment) → BringsFits (fragment_at o f)
at_fits None f = tt
at_fits (Some p) f = if_fits (not p.crashed && is_other p.state.state f.replica) p.state f

module _ (t : WorldState) (all : (bytes : List ℕ) → Has (bytes_of t.sent) bytes → IsDatagram bytes) where
  to_fits : (a : Actor) (f : Fragment) → BringsFits (fragment_to t a f)
  to_fits (actors.Replica i) f = at_fits (slice_get t.replicas i) f
  to_fits _ f = tt

  -- an answer that was sent is in its ranges
  datagram_fits : (a : Actor) (bytes : List ℕ) (r : Result Datagram Bad) → IsDatagram bytes → BringsFits (datagram_to t a bytes r)
  datagram_fits a bytes (Ok (datagrams.Fragment f)) d = to_fits a f
  datagram_fits a bytes (Ok (datagrams.Answer x)) d = λ y is.
      subst DatagramFits (read_as bytes d.datagram (datagrams.Answer y) d.spells is) d.spells.fits
  datagram_fits a bytes _ d = tt

  sent_fits : (a : Actor) (i : ℕ) (o : Option Sent) → slice_get t.sent i ≡ o → BringsFits (sent_to t a o)
  sent_fits a i None at = tt
  sent_fits a i (Some s) at = datagram_fits a s.bytes (reading s.bytes) (all s.bytes (bytes_there t.sent s (i, at)))

  pub brought_fits : (e : Event) → EventFits e → BringsFits (brought t e)
  brought_fits (events.Submit client op) fits = fits
  brought_fits (events.Deliver index actor) fits = sent_fits actor index (slice_get t.sent index) refl
  brought_fits (events.Read client observer key) fits = fits
  brought_fits _ fits = tt

-- ---- what arrives trimmed is in its ranges

module _ {S : Type 0} (m : Meaning S) (IsSound : S → Type 0) (keeps : KeepsTo m IsSound) where
  body_is_in : (b : Body) → BodyIsIn Whole b → BodyIsIn Trimmed (trimmed_body m b)
  body_is_in bodies.ViewChangeReq h = tt
  body_is_in (bodies.ViewChange u x l) h = record { view = h.view; number = h.number; log_fits = trimmed_is_in m IsSound keeps l h.log_fits }
  body_is_in (bodies.StartView x l) h = record { number = h.number; log_fits = trimmed_is_in m IsSound keeps l h.log_fits }
  body_is_in (bodies.SyncPrepare l) h = trimmed_is_in m IsSound keeps l h
  body_is_in _ h = h

  arrival_is_in : (a : messages.Arrival) → ArrivalIsIn Whole a → ArrivalIsIn Trimmed (trimmed_arrival m a)
  arrival_is_in (messages.Packet p) h = h
  arrival_is_in (messages.PeerMessage p) h = record { sender = h.sender; view = h.view; body = body_is_in p.body h.body }
  arrival_is_in (messages.Ticked tick) h = tt

  -- a row of a replica in the network is in its ranges
  module _ (sent : List (List ℕ)) (used : ℕ → ℕ) (i : ℕ) (s : Replica) (member : InNetwork sent used i s) where
    if_row_fits : (b : Bool) (a : messages.Arrival) → nat_lt s.messages LAST_MESSAGE ≡ b → ArrivalIsIn Trimmed a
        → RowFits m i s (real_if m b s.state a)
    if_row_fits true a is fit =
        let few = arrive_sends_few m Trimmed s.state a in
        let low = ltb-true s.messages LAST_MESSAGE is in
        record {
          sends = (arrive_stays m Trimmed (trimmed_keep_bounds m IsSound keeps) s.state a member.within member.receiver fit).sends;
          by = subst (λ (q : ℕ). AllByRecursion (IsBy q) (arrive m Trimmed s.state a).1) member.number (arrive_sends_own m Trimmed s.state a);
          high = omega (arith, few, low);
        }
    if_row_fits false a is fit = record { sends = tt; by = tt; high = let h = member.range in omega (arith, h) }

    pub row_fits : (o : Option messages.Arrival) → ((a : messages.Arrival) → o ≡ Some a → ArrivalIsIn Whole a)
        → RowFits m i s (real_effect m s (option_map (trimmed_arrival m) o))
    row_fits None good = record { sends = tt; by = tt; high = let h = member.range in omega (arith, h) }
    row_fits (Some a) good =
        if_row_fits (nat_lt s.messages LAST_MESSAGE) (trimmed_arrival m a) refl (arrival_is_in a (good a refl))

-- observers go on as before where one that is no observer sends more
still_listen : (t v : WorldState) (more : List Sent) → v.sent ≡ t.sent ++ more → v.observers ≡ t.observers
    → AllListen (bytes_of t.sent) t.observers → AllListen (bytes_of v.sent) v.observers
still_listen t v more sent observers all =
    subst (λ (xs : List Sent). AllListen (bytes_of xs) v.observers) (sym sent)
    (subst (λ (ps : List (Seated Observer)). AllListen (bytes_of (t.sent ++ more)) ps) (sym observers)
    (more_listen t.sent more t.observers all))

-- ---- one event

-- both worlds after an event, and what became of the archive
pub record Followed {S : Type 0} (m : Meaning S) (t : WorldState) (ls : List Line) (w : WholeWorld) (e : Event) (h : Happened) : Type 0 where
  pub alike : Alike m h.world (ls ++ h.lines) (whole_step m w (actor_of e) (brought t e))
  pub travels : Travels h.world.sent h.world.replicas (real_letters m (whole_step m w (actor_of e) (brought t e)))
  pub archive : h.world.archive ≡ archive_after m t.archive w (actor_of e) (brought t e)
  pub observers : AllListen (bytes_of h.world.sent) h.world.observers

module _ {S : Type 0} (m : Meaning S) (IsSound : S → Type 0) (keeps : KeepsTo m IsSound) (t : WorldState) (ls : List Line) (w : WholeWorld)
    (c : Conf) (carries : Carries w.sent c) (tells : MessagesSay (peers_of w.letters) c.said) (trims : RowsTrim m w) (beside : Beside m t ls w)
    (e : Event) (h : Happened) (is : step m t e ≡ Ok h) where
  abbrev travels : Travels t.sent t.replicas (real_letters m w)
  travels = beside.travels

  -- an event of a replica that is not there is refused
  absent : (i : ℕ) → actor_of e ≡ actors.Replica i → slice_get t.replicas i ≡ None → ⊥
  unfolding step
  absent i at none =
      let got : then_at (at_replica t i) (step_at (replica.next m) None (stimulus_of t.config t.sent e)) ≡ Ok h =
      ap (λ (o : Option (Seated Replica)). then_at (at_replica t i) (step_at (replica.next m) o (stimulus_of t.config t.sent e))) (sym none)
      ∙ ap (λ (a : Actor). step_of m t (who a) (stimulus_of t.config t.sent e)) (sym at) ∙ is in
      cc

  replica_step : (i : ℕ) (o : Option (Seated Replica)) → slice_get t.replicas i ≡ o → actor_of e ≡ actors.Replica i → Followed m t ls w e h
  replica_step i None found at = absurd (absent i at found)
  replica_step i (Some p) found at =
      let member = travels.members i p found in
      let q : WholeSeat m w.replicas i p = whole_seat m t.replicas w.replicas i p beside.alike.replicas found in
      let a = replica_follows m t ls w beside.alike i p found (trimmed_keep_bounds m IsSound keeps) trims travels q.seat q.there q.same e at
      (λ k x f bytes there read gave. joins_trimmed m t.sent t.replicas w travels p.state.reassembly f bytes member.came
      (among_has (bytes_of t.sent) x.bytes f (bytes_there t.sent x (k, there)) read) gave)
      (row_fits m IsSound keeps (bytes_of t.sent) travels.used i p.state member (arrival_of w (brought t e))
      (λ a arrived. (arrives c w carries tells (brought t e) a arrived).fits))
      (event_comes t.sent t.config e) h is in
      record {
        alike = subst (λ (x : Actor). Alike m h.world (ls ++ h.lines) (whole_step m w x (brought t e))) (sym at) a.alike;
        travels = subst (λ (x : Actor). Travels h.world.sent h.world.replicas (real_letters m (whole_step m w x (brought t e)))) (sym at)
            a.travels;
        archive = a.archive ∙ ap (λ (x : Actor). archive_after m t.archive w x (brought t e)) (sym at);
        observers = still_listen t h.world a.posted a.sent a.observers beside.observers;
      }

  observer_step : (i : ℕ) → actor_of e ≡ actors.Observer i → Followed m t ls w e h
  observer_step i at =
      let a : Stays m IsSound keeps t ls w beside h = observer_stays m IsSound keeps t ls w beside e h i at is in
      record {
        alike = subst (λ (x : Actor). Alike m h.world (ls ++ h.lines) (whole_step m w x (brought t e))) (sym at) a.alike;
        travels = subst (λ (x : Actor). Travels h.world.sent h.world.replicas (real_letters m (whole_step m w x (brought t e)))) (sym at)
            a.travels;
        archive = a.archive ∙ ap (λ (x : Actor). archive_after m t.archive w x (brought t e)) (sym at);
        observers = a.observers;
      }

  module _ (spelled : (s : Sent) → Has (whole_step m w (actor_of e) (brought t e)).sent s → IsDatagram s.bytes)
      (same : (whole_step m w (actor_of e) (brought t e)).letters ≡ w.letters)
      (kept : archive_after m t.archive w (actor_of e) (brought t e) ≡ t.archive) where
    other_step : is_another (who (actor_of e)) ≡ true → Followed m t ls w e h
    other_step other =
        let v : WholeWorld = whole_step m w (actor_of e) (brought t e) in
        let alike : Alike m h.world (ls ++ h.lines) v = others_follow m t ls w e h beside.alike other is in
        let s : SentOthers t h = others_send m t h e other is in
        let one : (x : Sent) → Has s.more x → IsDatagram x.bytes =
        λ x i. spelled x (subst (λ (xs : List Sent). Has xs x) alike.sent
        (Has-filter (λ (y : Sent). not (is_apart (reading y.bytes))) x h.world.sent
        (subst (λ (xs : List Sent). Has xs x) (sym s.sent) (Has-append_right t.sent s.more x i)) (ap not (s.none.each x i)))) in
        let all : (b : List ℕ) → Has (bytes_of s.more) b → IsDatagram b =
        λ b i. (let from = slice_get-from_map (λ (x : Sent). x.bytes) s.more i.0 b i.1 in
        subst IsDatagram from.is (one from.from (i.0, from.there))) in
        record {
          alike = alike;
          travels = subst (λ (xs : List Sent). Travels xs h.world.replicas (real_letters m v)) (sym s.sent)
              (subst (λ (rs : List (Seated Replica)). Travels (t.sent ++ s.more) rs (real_letters m v)) (sym s.replicas)
              (subst (λ (xs : List Letter). Travels (t.sent ++ s.more) t.replicas (map (trimmed_letter m) xs)) (sym same)
              (travels_others t.sent s.more t.replicas (real_letters m w) (λ x i. no_fragment (reading x.bytes) (s.none.each x i)) all
              travels)));
          archive = s.archive ∙ sym kept;
          observers = still_listen t h.world s.more s.sent s.observers beside.observers;
        }

-- ---- letters and what moves out of logs are of replicas

module _ {S : Type 0} (m : Meaning S) (w : WholeWorld) (b : Brings) where
  other_writes : (k : Kind) (i : ℕ) (o : Option (Seated (State k))) → (step_other k w i o b).letters ≡ w.letters
  other_writes k i None = refl
  other_writes k i (Some p) = refl

  pub others_write : (x : Who) → is_another x ≡ true → (whole.step_of m w x b).letters ≡ w.letters
  others_write (AReplica i) other = absurd cc
  others_write (Another k i) other = other_writes k i (slice_get (seats k w.others) i)
  others_write _ other = refl

  pub others_keep : (archive : List Entry) (x : Who) → is_another x ≡ true → archive_of m archive w x b ≡ archive
  others_keep archive (AReplica i) other = absurd cc
  others_keep archive _ other = refl

-- each event is followed, where what the whole world sends for it is in its ranges
pub event_follows : {S : Type 0} (m : Meaning S) (IsSound : S → Type 0) → KeepsTo m IsSound → (t : WorldState) (ls : List Line)
    (w : WholeWorld) (c : Conf) → Carries w.sent c → MessagesSay (peers_of w.letters) c.said → RowsTrim m w → Beside m t ls w
    → (e : Event) (h : Happened) → step m t e ≡ Ok h
    → ((s : Sent) → Has (whole_step m w (actor_of e) (brought t e)).sent s → IsDatagram s.bytes) → Followed m t ls w e h
event_follows m IsSound keeps t ls w c carries tells trims beside e h is spelled = by (actor_of e) refl
  where
    other : is_another (who (actor_of e)) ≡ true → Followed m t ls w e h
    other none = other_step m IsSound keeps t ls w c carries tells trims beside e h is spelled
        (others_write m w (brought t e) (who (actor_of e)) none)
        (others_keep m w (brought t e) t.archive (who (actor_of e)) none) none

    by : (a : Actor) → actor_of e ≡ a → Followed m t ls w e h
    by (actors.Replica i) at = replica_step m IsSound keeps t ls w c carries tells trims beside e h is i (slice_get t.replicas i) refl at
    by (actors.Observer i) at = observer_step m IsSound keeps t ls w c carries tells trims beside e h is i at
    by _ at = other (ap (λ (a : Actor). is_another (who a)) at)
