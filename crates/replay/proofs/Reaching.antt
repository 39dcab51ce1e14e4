-- In each world of a run the datagrams go to actors of the configuration.
use Rattle.std.proofs.Common.{◌≡◌, ◌≤◌, ◌<◌, ◌+◌, ◌*◌, ℕ, Bool, true, false, Some, refl, sym, ap, subst, ◌∙◌, arith, length}
use Rattle.std.proofs.Common.{List, [], ◌∷◌, ◌++◌, inl, inr}
use Rattle.std.specs.Prelude.{◌⊎◌, ◌/◌, ⊤, not, Result, Ok, Err, slice_get, slice_set}
use Rattle.nop_types.specs.Ranges.{DatagramFits}
use Rattle.std.specs.List.{AllByRecursion}
use Rattle.std.proofs.lemmas.Option.{slice_get_within}
use Rattle.nop_types.specs.Bounds.{Bounds}
use Rattle.nop_types.specs.Checkpoints.{KeepsTo}
use Rattle.nop_types.specs.Configuration.{Configuration, is_configuration}
use Rattle.nop_types.specs.Given.{Given, Packet}
use Rattle.nop_types.specs.Lines as lines
use Rattle.nop_types.specs.Lines.{Line}
use Rattle.nop_types.specs.Lists.{Has}
use Rattle.nop_types.specs.Logs.{Trimmed}
use Rattle.nop_types.specs.Meaning.{Meaning}
use Rattle.nop_types.specs.declared.datagram.Datagram.{Datagram}
use Rattle.nop_types.specs.declared.datagram.Datagram.TheVariants as datagrams
use Rattle.nop_types.specs.declared.datagram.Reply.{Reply}
use Rattle.nop_types.specs.declared.output.Actor.{Actor}
use Rattle.nop_types.specs.declared.output.Actor.TheVariants as actors
use Rattle.nop_types.specs.declared.output.Dest.{Dest}
use Rattle.nop_types.specs.declared.output.Dest.TheVariants as dests
use Rattle.nop_types.specs.declared.output.Out.{Out}
use Rattle.oum_codec.specs.Reading.{reading}
use Rattle.oum_codec.specs.Spelling.{spelling}
use Rattle.oum_codec.proofs.Datagrams.{reads_again}
use Rattle.oum_codec.specs.declared.bad.Bad.{Bad}
use Rattle.lemmas.proofs.Members.{Has-none, Has-append_cases, Has-filter, Has-from_filter}
use Rattle.execution_laws.proofs.Shortness.{result_fits}
use Rattle.trimming.proofs.Bounds.{trimmed_keep_bounds}
use Rattle.client_quorum.specs.Core.{Client}
use Rattle.client_quorum.specs.declared.state.ClientState.{ClientState}
use Rattle.client_reads.specs.ReadSteps as reads
use Rattle.observer.specs.ObserverSteps as observer
use Rattle.observer.specs.ObserverSteps.{Observer}
use Rattle.session_control.specs.ControllerSteps as controller
use Rattle.replica_core.specs.ReplicaSteps as replica
use Rattle.replica_core.specs.ReplicaSteps.{Replica}
use Rattle.replica_state.specs.Sends as effects
use Rattle.replica_state.specs.Sends.{still}
use Rattle.replica_rows.specs.Within.{ResultsShort}
use Rattle.schedule_text.specs.declared.event.Event.{Event}
use Rattle.schedule_text.specs.Fits.{EventFits, EventsFit}
use Rattle.network_laws.specs.Network.{MayCome}
use Rattle.network_laws.specs.Steps.{Delivers, TakesRow}
use Rattle.network_laws.proofs.Own.{arrive_goes_among}
use Rattle.network_laws.proofs.Steps.{step_delivers}
use Rattle.network_laws.specs.Sends.{GoesAmong}
use Rattle.protocol.specs.Conf.{Conf, opening}
use Rattle.protocol.specs.Invariant.{Inv}
use Rattle.protocol.proofs.Opening.{opening_meets}
use Rattle.network.specs.Network.{Sent, sends_by, lines_by, Did, Nothing, Outputs}
use Rattle.world.specs.Others.{Kind, Sequencers, Clients, Controllers, State, next, Others, seats}
use Rattle.world.specs.Others.{Who, AReplica, Another, AnObserver, who, actor_at}
use Rattle.world.specs.Refusals.{HasActors}
use Rattle.world.specs.Seats.{Seated, Stimulus, Takes, Crashes, moved_if, seat_step}
use Rattle.world.specs.WorldSteps as world
use Rattle.world.specs.WorldSteps.{WorldState, Happened, Refusal, actor_of, stimulus_of, at_replica, at_other, at_observer}
use Rattle.world.specs.WorldSteps.{opening_client, opening_others, step_of, step, go_on, run_from}
use Rattle.world.proofs.Others.{others_become}
use Rattle.world.proofs.Refusals.{opening_has_actors, step_has_actors}
use Rattle.whole_world.specs.Passed as whole_passed
use Rattle.whole_world.specs.Shows.{ShowsActors}
use Rattle.whole_world.specs.Whole.{WholeReplica, WholeWorld, Brings}
use Rattle.whole_world.proofs.At as whole_at
use Rattle.whole_world.proofs.Counts.{counts_from}
use Rattle.whole_world.proofs.Events as whole_events
use Rattle.whole_world.proofs.Mapped.{slice_get-from_map}
use Rattle.whole_world.proofs.Moving.{ran_holds}
use Rattle.whole_world.proofs.Opening.{opening_stands, counted_get, counted_within}
use Rattle.whole_world.proofs.Seats.{seats_hold}
use Rattle.whole_world.proofs.Steps.{steps_lead}
use Rattle.safety.specs.Following.{is_spoken, is_apart, bytes_of, brought}
use Rattle.safety.proofs.Beside.{Alike, Travels, real_letters}
use Rattle.safety.proofs.Coming.{AllMayCome, IsAskedOf, AllAskedOf, event_comes, event_asks}
use Rattle.safety.proofs.Following.{Both, world_after, opening_beside, both_then}
use Rattle.safety.proofs.Replicas.{WholeSeat, whole_seat}
use Rattle.safety.proofs.Taking.{took}
use Rattle.replay.specs.Destinations.{IsDestOf}
use Rattle.replay.proofs.Addressed.{IsReplyTo, Goes, NamesIn, IsAddressed, OutsGo, SubmitsOf, GivenNames, IsPlaced, sent_goes, lines_are_of}
use Rattle.replay.proofs.Addressed.{IsReader, ReadIsIn, GivenIsIn, dead_is_of, posted_goes, sequencer_goes, client_goes, client_placed}
use Rattle.replay.proofs.Addressed.{observer_goes, controller_directs}
use Rattle.replay.proofs.Asked.{AllAsked, HasAsked, moves_asked, none_asked}

-- ---- the whole world beside a world

-- what was brought led to a whole world beside this one, and the configuration of the protocol shows that one
pub record At {S : Type 0} (m : Meaning S) (config : Configuration) (w : WorldState) (ls : List Line) : Type 0 where
  pub came : List (Actor × Brings)
  pub both : Both m config w ls came
  pub conf : Conf
  pub at : whole_at.At m (config.replicas / 2) config (whole_passed.passed m config came) conf

-- ---- what holds of a world

-- a controller is one of the configuration, and so are a client that reads and the observer that it asks
abbrev OtherPlaced : (k : Kind) → Configuration → State k → Type 0
OtherPlaced Clients c s = IsReader c s.reads
OtherPlaced Controllers c s = IsPlaced c s
OtherPlaced _ c s = ⊤

abbrev ArePlaced : Configuration → Others → Type 0
ArePlaced c o = (k : Kind) (i : ℕ) (q : Seated (State k)) → slice_get (seats k o) i ≡ Some q → OtherPlaced k c q.state

-- what was sent goes to actors of the configuration, what was submitted is of its clients, and all actors are there and placed
record Good (config : Configuration) (w : WorldState) (ls : List Line) : Type 0 where
  sent : (s : Sent) → Has w.sent s → IsAddressed config s.dest s.bytes
  submits : SubmitsOf config ls
  others : ArePlaced config w.others
  actors : HasActors w

-- what an actor did
abbrev DidGo : Configuration → Did → Type 0
DidGo c Nothing = ⊤
DidGo c (Outputs os) = OutsGo c os

did_send : (c : Configuration) (from : Actor) (did : Did) → DidGo c did → (s : Sent) → Has (sends_by from did) s
    → IsAddressed c s.dest s.bytes
did_send c from Nothing go s h = absurd (Has-none s h)
did_send c from (Outputs os) go s h = sent_goes c from os go s h

did_say : (c : Configuration) (from : Actor) (n : ℕ) (did : Did) → DidGo c did → SubmitsOf c (lines_by from n did)
did_say c from n Nothing go = dead_is_of c from
did_say c from n (Outputs os) go = lines_are_of c from n os go

-- ---- one event

-- what an event made of a good world is good
record Keeps (config : Configuration) (w : WorldState) (h : Happened) : Type 0 where
  from : Actor
  did : Did
  goes : DidGo config did
  sent : h.world.sent ≡ w.sent ++ sends_by from did
  lines : h.lines ≡ lines_by from (length w.sent) did
  others : ArePlaced config h.world.others

kept_good : (config : Configuration) (w : WorldState) (ls : List Line) (h : Happened) → Good config w ls → Keeps config w h
    → HasActors h.world → Good config h.world (ls ++ h.lines)
kept_good config w ls h good k there = record {
  sent = λ s i. elim (Has-append_cases w.sent (sends_by k.from k.did) s (subst (λ (xs : List Sent). Has xs s) k.sent i)) [
    | inl before ↦ good.sent s before
    | inr now ↦ did_send config k.from k.did k.goes s now
  ];
  submits = λ r i. elim (Has-append_cases ls h.lines (lines.Submit r) i) [
    | inl before ↦ good.submits r before
    | inr now ↦ did_say config k.from (length w.sent) k.did k.goes r (subst (λ (xs : List Line). Has xs (lines.Submit r)) k.lines now)
  ];
  others = k.others;
  actors = there;
}

-- a seat whose steps send to actors of the configuration
seat_goes : {S : Type 0} (c : Configuration) (next : S → Given → S × List Out) (p : Seated S) (b : Bool) (what : Stimulus)
    → ((i : Given) → what ≡ Takes i → OutsGo c (next p.state i).1) → DidGo c (moved_if next b p what).1
seat_goes c next p true what go = tt
seat_goes c next p false (Takes i) go = go i refl
seat_goes c next p false Crashes go = tt

-- a seat stays placed
placed_on : (k : Kind) (c : Configuration) (s : State k) (i : Given) → IsAskedOf c i → OtherPlaced k c s → OtherPlaced k c (next k s i).0
placed_on Clients c s i asked is = client_placed c s is i asked
placed_on Controllers c s i asked is = (controller_directs c s i is).stays
placed_on _ c s i asked is = tt

seat_placed : (k : Kind) (c : Configuration) (p : Seated (State k)) (b : Bool) (what : Stimulus) → AllAskedOf c what
    → OtherPlaced k c p.state → OtherPlaced k c (moved_if (next k) b p what).0.state
seat_placed k c p true what asked is = is
seat_placed k c p false (Takes i) asked is = placed_on k c p.state i asked is
seat_placed k c p false Crashes asked is = is

module _ {S : Type 0} (m : Meaning S) (config : Configuration) (bounds : Bounds m Trimmed)
    (count : config.replicas ≡ 2 * (config.replicas / 2) + 1) (w : WorldState) (ls : List Line) (at : At m config w ls)
    (good : Good config w ls) where
  abbrev f : ℕ
  f = config.replicas / 2

  abbrev whole_one : WholeWorld
  whole_one = world_after m config at.came

  abbrev c : Conf
  c = at.conf

  abbrev shown : ShowsActors f whole_one c
  shown = at.at.stands.actors

  abbrev alike : Alike m w ls whole_one
  alike = at.both.beside.alike

  abbrev travels : Travels w.sent w.replicas (real_letters m whole_one)
  travels = at.both.beside.travels

  inv : Inv m f c
  inv = ran_holds m f config count c at.at.ran

  -- ---- replicas

  module _ (r : ℕ) (old : Seated Replica) (there : slice_get w.replicas r ≡ Some old) (i : Given) (may : MayCome (bytes_of w.sent) i) where
    delivers : Delivers m travels.posts.peer_messages (bytes_of w.sent) travels.used r old.state (replica.next m old.state i)
    delivers = step_delivers m bounds travels.posts.peer_messages (bytes_of w.sent) travels.used r old.state i travels.posts.network
        (travels.members r old there) may

    of_whole : WholeSeat m whole_one.replicas r old
    of_whole = whole_seat m w.replicas whole_one.replicas r old alike.replicas there

    -- a replica knows how many there are
    counts : old.state.state.config.replicas ≡ config.replicas
    counts =
        let q : Seated WholeReplica = of_whole.seat in
        let within : r < 2 * f + 1 =
        omega (arith, slice_get_within whole_one.replicas r q of_whole.there, shown.replica_count, shown.config) in
        let own = (inv.own r within).replicas in
        let same = ap (λ (x : _). x.replicas) (shown.replicas r q of_whole.there) in
        ap (λ (x : Seated WholeReplica). x.state.state.config.replicas) of_whole.same
        ∙ (sym same ∙ own ∙ sym shown.config ∙ ap (λ (k : Configuration). k.replicas) at.at.stands.same)

    row_among : (e : effects.Effect) → TakesRow m travels.posts.peer_messages (bytes_of w.sent) old.state.state e ⊎ (e ≡ still old.state.state)
        → AllByRecursion (GoesAmong config.replicas) e.1
    row_among e (inl row) =
        subst (λ (n : ℕ). AllByRecursion (GoesAmong n) e.1) counts
        (subst (λ (x : effects.Effect). AllByRecursion (GoesAmong old.state.state.config.replicas) x.1) (sym row.effect)
        (arrive_goes_among m Trimmed old.state.state row.arrival))
    row_among e (inr same) = subst (λ (x : effects.Effect). AllByRecursion (GoesAmong config.replicas) x.1) (sym same) tt

    some : 1 ≤ config.replicas
    some = omega (arith, count)

    replica_goes : OutsGo config (replica.next m old.state i).1
    replica_goes = subst (OutsGo config) (sym delivers.outs)
        (posted_goes config old.state.messages delivers.effect.1 some delivers.fits (row_among delivers.effect delivers.row))

  -- ---- all actors

  replica_keeps : (i : ℕ) (old : Seated Replica) (what : Stimulus) → slice_get w.replicas i ≡ Some old → AllMayCome (bytes_of w.sent) what
      → Keeps config w (at_replica w i (seat_step (replica.next m) old what))
  replica_keeps i old what there brings = record {
    from = actors.Replica i;
    did = (seat_step (replica.next m) old what).1;
    goes = seat_goes config (replica.next m) old old.crashed what
        (λ given is. replica_goes i old there given (subst (AllMayCome (bytes_of w.sent)) is brings));
    sent = refl;
    lines = refl;
    others = good.others;
  }

  -- what is read of bytes that were sent is what they spell
  sent_spelled : (bytes : List ℕ) (d : Datagram) → Has (bytes_of w.sent) bytes → reading bytes ≡ Ok d → bytes ≡ spelling d
  sent_spelled bytes d there e =
      let known = travels.posts.network.datagrams bytes there in
      let same : Ok known.datagram ≡ Ok d =
      sym (ap reading known.spells.spelled ∙ reads_again known.datagram known.spells.fits) ∙ e in
      known.spells.spelled ∙ ap spelling (let g = same in cc)

  sent_names : (bytes : List ℕ) → Has (bytes_of w.sent) bytes → NamesIn config bytes
  sent_names bytes there =
      let from = slice_get-from_map (λ (s : Sent). s.bytes) w.sent there.0 bytes there.1 in
      subst (NamesIn config) from.is (good.sent from.from (there.0, from.there)).names

  given_names : (i : Given) → MayCome (bytes_of w.sent) i → GivenNames config i
  given_names (Packet bytes) (inl there) =
      let names = sent_names bytes there in
      record {
        installs = λ k j session e. names.installs k j session (sent_spelled bytes (datagrams.Install k j session) there e);
        pings = λ k j round e. names.pings k j round (sent_spelled bytes (datagrams.Ping k j round) there e);
        reads = λ r fits e. names.reads r fits (sent_spelled bytes (datagrams.Read r) there e);
      }
  given_names (Packet bytes) (inr none) = record {
    installs = λ k j session e. absurd (let g = none.refused in cc);
    pings = λ k j round e. absurd (let g = none.refused in cc);
    reads = λ r fits e. absurd (let g = none.refused in cc);
  }
  given_names _ may = tt

  -- what comes to an observer is in its ranges
  read_is_in : (d : Datagram) → DatagramFits d → ReadIsIn (Ok d)
  read_is_in (datagrams.Read r) fits = fits
  read_is_in _ fits = tt

  given_is_in : (i : Given) → MayCome (bytes_of w.sent) i → GivenIsIn i
  given_is_in (Packet bytes) (inl there) =
      let known = travels.posts.network.datagrams bytes there in
      subst ReadIsIn (sym (ap reading known.spells.spelled ∙ reads_again known.datagram known.spells.fits))
      (read_is_in known.datagram known.spells.fits)
  given_is_in (Packet bytes) (inr none) = subst ReadIsIn (sym none.refused) tt
  given_is_in _ may = tt

  whole_client : (k : ℕ) (old : Seated Client) → slice_get w.others.clients k ≡ Some old
      → slice_get whole_one.others.clients k ≡ Some old
  whole_client k old there = ap (λ (o : Others). slice_get o.clients k) (sym alike.others) ∙ there

  reads_within : (k : ℕ) (old : Seated Client) → slice_get w.others.clients k ≡ Some old → reads.IsWithin old.state.reads
  reads_within k old there = (at.at.stands.ranges.others Clients k old (whole_client k old there)).1

  own_number : (k : ℕ) (old : Seated Client) → slice_get w.others.clients k ≡ Some old → old.state.requests.number < config.clients
  own_number k old there =
      let found : slice_get whole_one.others.clients k ≡ Some old = whole_client k old there in
      let is : old.state.requests.number ≡ k =
      ap (λ (s : ClientState). s.number) (sym (shown.others Clients k old found)) ∙ (inv.clients k).number in
      omega (
        arith,
        is,
        slice_get_within whole_one.others.clients k old found,
        shown.other_count Clients,
        ap (λ (q : Configuration). q.clients) at.at.stands.same,
      )

  other_goes : (k : Kind) (i : ℕ) (old : Seated (State k)) → slice_get (seats k w.others) i ≡ Some old → (given : Given)
      → MayCome (bytes_of w.sent) given → IsAskedOf config given → OutsGo config (next k old.state given).1
  other_goes Sequencers i old there given may asked = sequencer_goes config old.state given (given_names given may)
  other_goes Clients i old there given may asked =
      client_goes config old.state (good.others Clients i old there) given asked (own_number i old there) (reads_within i old there)
  other_goes Controllers i old there given may asked =
      (controller_directs config old.state given (good.others Controllers i old there)).sends

  other_keeps : (k : Kind) (i : ℕ) (old : Seated (State k)) (what : Stimulus) → slice_get (seats k w.others) i ≡ Some old
      → AllMayCome (bytes_of w.sent) what → AllAskedOf config what → Keeps config w (at_other k w i (seat_step (next k) old what))
  other_keeps k i old what there brings asked =
      let new : Seated (State k) = (seat_step (next k) old what).0 in
      record {
        from = actor_at (Another k i);
        did = (seat_step (next k) old what).1;
        goes = seat_goes config (next k) old old.crashed what
            (λ given is. other_goes k i old there given (subst (AllMayCome (bytes_of w.sent)) is brings)
            (subst (AllAskedOf config) is asked));
        sent = refl;
        lines = refl;
        others = others_become (λ j qs. (n : ℕ) (q : Seated (State j)) → slice_get qs n ≡ Some q → OtherPlaced j config q.state)
            w.others k (slice_set (seats k w.others) i new)
            (seats_hold (OtherPlaced k config) (seats k w.others) i new
            (seat_placed k config old old.crashed what asked (good.others k i old there)) (good.others k)) good.others;
      }

  observer_keeps : (i : ℕ) (old : Seated Observer) (what : Stimulus) → AllMayCome (bytes_of w.sent) what
      → Keeps config w (at_observer w i (seat_step (observer.next m) old what))
  observer_keeps i old what brings = record {
    from = actors.Observer i;
    did = (seat_step (observer.next m) old what).1;
    goes = seat_goes config (observer.next m) old old.crashed what
        (λ given is. (let may = subst (AllMayCome (bytes_of w.sent)) is brings in
        observer_goes m config old.state given (given_names given may) (given_is_in given may)));
    sent = refl;
    lines = refl;
    others = good.others;
  }

  -- ---- events

  actor_keeps : (x : Who) (r : Result Stimulus Refusal) (h : Happened)
      → ((what : Stimulus) → r ≡ Ok what → AllMayCome (bytes_of w.sent) what)
      → ((what : Stimulus) → r ≡ Ok what → AllAskedOf config what) → step_of m w x r ≡ Ok h → Keeps config w h
  actor_keeps (AReplica i) r h brings asks e =
      let t = took (at_replica w i) (replica.next m) (slice_get w.replicas i) r h e in
      subst (Keeps config w) t.gives (replica_keeps i t.seat t.what t.there (brings t.what t.brought))
  actor_keeps (Another k i) r h brings asks e =
      let t = took (at_other k w i) (next k) (slice_get (seats k w.others) i) r h e in
      subst (Keeps config w) t.gives (other_keeps k i t.seat t.what t.there (brings t.what t.brought) (asks t.what t.brought))
  actor_keeps (AnObserver i) r h brings asks e =
      let t = took (at_observer w i) (observer.next m) (slice_get w.observers i) r h e in
      subst (Keeps config w) t.gives (observer_keeps i t.seat t.what (brings t.what t.brought))

  world_config : w.config ≡ config
  world_config = alike.config ∙ at.at.stands.same

  step_keeps : (x : Event) (h : Happened) → EventFits x → step m w x ≡ Ok h → Keeps config w h
  unfolding step
  step_keeps x h fits e =
      actor_keeps (who (actor_of x)) (stimulus_of w.config w.sent x) h (event_comes w.sent w.config x)
      (λ what is. subst (λ (g : Configuration). AllAskedOf g what) world_config (event_asks w.config w.sent x what fits is)) e

-- ---- lists of events

-- where events lead, as the protocol shows it
pub record Reached {S : Type 0} (m : Meaning S) (config : Configuration) (h : Happened) : Type 0 where
  pub at : At m config h.world h.lines
  pub sent : (s : Sent) → Has h.world.sent s → IsAddressed config s.dest s.bytes
  pub submits : SubmitsOf config h.lines
  pub actors : HasActors h.world

module _ {S : Type 0} (m : Meaning S) (IsSound : S → Type 0) (keeps : KeepsTo m IsSound) (config : Configuration)
    (is_one : is_configuration config ≡ true) where
  count : config.replicas ≡ 2 * (config.replicas / 2) + 1
  count = (counts_from config is_one).replicas

  short : ResultsShort m
  short = result_fits m IsSound keeps.opens keeps.stays keeps.short

  -- the protocol shows the whole world after what was brought
  shown_after : (w : WorldState) (ls : List Line) (bs : List (Actor × Brings)) → Both m config w ls bs → At m config w ls
  shown_after w ls bs both =
      let half : ℕ = config.replicas / 2 in
      let r = whole_events.events_reach m half config (steps_lead m half config short) bs (whole_passed.first config) (opening config)
      both.fits (opening_stands m half config is_one count) in
      record { came = bs; both = both; conf = r.last; at = r.at }

  one_good : (w : WorldState) (ls : List Line) (x : Event) (h : Happened) → At m config w ls → EventFits x → step m w x ≡ Ok h
      → Good config w ls → Good config h.world (ls ++ h.lines)
  one_good w ls x h at fits is good =
      kept_good config w ls h good (step_keeps m config (trimmed_keep_bounds m IsSound keeps) count w ls at good x h fits is)
      (step_has_actors m w x h good.actors is)

  reach_then : (x : Event) (es : List Event) (w : WorldState) (ls : List Line) (h : Happened) → At m config w ls → EventFits x
      → Good config w ls
      → ((v : WorldState) (more : List Line) → At m config v more → Good config v more → run_from m more v es ≡ Ok h → Reached m config h)
      → (r : Result Happened Refusal) → step m w x ≡ r → go_on m ls r (λ more v. run_from m more v es) ≡ Ok h
      → Reached m config h
  reach_then x es w ls h at fits good rest (Err refusal) is e = absurd cc
  reach_then x es w ls h at fits good rest (Ok g) is e =
      let next : At m config g.world (ls ++ g.lines) =
      shown_after g.world (ls ++ g.lines) (at.came ++ (actor_of x, brought w x) ∷ [])
      (both_then m IsSound keeps config is_one w ls at.came x g at.both fits is) in
      rest g.world (ls ++ g.lines) next (one_good w ls x g at fits is good) e

  reach : (es : List Event) (w : WorldState) (ls : List Line) (h : Happened) → At m config w ls → EventsFit es → Good config w ls
      → run_from m ls w es ≡ Ok h → Reached m config h
  reach [] w ls h at fit good e =
      let same : record { world = w; lines = ls } ≡ h = cc in
      subst (Reached m config) same (record { at = at; sent = good.sent; submits = good.submits; actors = good.actors })
  reach (x ∷ es) w ls h at fit good e =
      reach_then x es w ls h at fit.0 good (λ v more at_v good_v g. reach es v more h at_v fit.1 good_v g) (step m w x) refl e

  some_sequencer : 0 < config.sequencers
  some_sequencer = grind (arith, is_one)

  others_placed : ArePlaced config (opening_others config)
  others_placed Controllers k q there =
      subst (IsPlaced config) (counted_get (controller.opening config) config.controllers k q there)
      (record {
        config = refl;
        number = counted_within (controller.opening config) config.controllers k q there;
        current = some_sequencer;
      })
  others_placed Clients k q there =
      subst (OtherPlaced Clients config) (counted_get (opening_client config) config.clients k q there)
      (record { pending = tt; number = counted_within (opening_client config) config.clients k q there })
  others_placed _ k q there = tt

  nothing_sent : Good config (world.opening config) []
  nothing_sent =
      record {
        sent = λ s h. absurd (Has-none s h);
        submits = λ r h. absurd (Has-none _ h);
        others = others_placed;
        actors = opening_has_actors config;
      }

  opening_at : At m config (world.opening config) []
  opening_at = shown_after (world.opening config) [] [] (record { fits = tt; beside = opening_beside m config is_one })

pub events_reach : {S : Type 0} (m : Meaning S) (IsSound : S → Type 0) → KeepsTo m IsSound → (config : Configuration)
    → is_configuration config ≡ true → (es : List Event) (h : Happened) → EventsFit es → world.run m config es ≡ Ok h
    → Reached m config h
events_reach m IsSound keeps config is_one es h fit e =
    reach m IsSound keeps config is_one es (world.opening config) [] h (opening_at m IsSound keeps config is_one) fit
    (nothing_sent m IsSound keeps config is_one) e

-- ---- destinations

module _ {S : Type 0} (m : Meaning S) (config : Configuration) (h : Happened) (r : Reached m config h)
    (is_one : is_configuration config ≡ true) where
  abbrev half : ℕ
  half = config.replicas / 2

  abbrev same_worlds : Alike m h.world h.lines (world_after m config r.at.came)
  same_worlds = r.at.both.beside.alike

  asked : AllAsked r.at.conf
  asked = subst AllAsked r.at.at.ran.ends
      (moves_asked m half (opening config) r.at.at.ran.moves (opening_meets m half config (counts_from config is_one).replicas) r.at.at.ran.may
      (none_asked config))

  -- a reply is neither a fragment nor an answer
  also_whole : (s : Sent) (y : Reply) → Has h.world.sent s → reading s.bytes ≡ Ok (datagrams.Reply y)
      → Has (world_after m config r.at.came).sent s
  also_whole s y i e = subst (λ (xs : List Sent). Has xs s) same_worlds.sent
      (Has-filter (λ (x : Sent). not (is_apart (reading x.bytes))) s h.world.sent i
      (ap (λ (d : Result Datagram Bad). not (is_apart d)) e))

  replied : (s : Sent) (y : Reply) → Has h.world.sent s → reading s.bytes ≡ Ok (datagrams.Reply y) → HasAsked r.at.conf.lines y.client
  replied s y i e = asked y (r.at.at.stands.carries.only s (datagrams.Reply y) (also_whole s y i e) e)

  -- what the configuration says is among the lines
  said_there : (l : Line) → Has r.at.conf.lines l → Has h.lines l
  said_there l i = (Has-from_filter is_spoken l h.lines (subst (λ (ls : List Line). Has ls l) (sym (same_worlds.lines ∙ r.at.at.lines)) i)).0

  -- who is sent a reply submitted a request
  client_there : (k : ℕ) (s : Sent) → Has h.world.sent s → IsReplyTo k s.bytes → k < config.clients
  client_there k s i is =
      let e : reading s.bytes ≡ Ok (datagrams.Reply is.reply) = ap reading is.spelled ∙ reads_again (datagrams.Reply is.reply) is.fits in
      let q = replied s is.reply i e in
      let there : Has h.lines (lines.Submit q.request) = said_there (lines.Submit q.request) q.submitted in
      subst (λ (n : ℕ). n < config.clients) (q.of ∙ is.to) (r.submits q.request there)

  dest_of : (s : Sent) → Has h.world.sent s → (dest : Dest) → Goes config dest s.bytes → IsDestOf config dest
  dest_of s i dests.Replicas go = tt
  dest_of s i dests.Sequencers go = tt
  dest_of s i (dests.One (actors.Client k)) go = elim go [ inl is ↦ client_there k s i is | inr below ↦ below ]
  dest_of s i _ go = go

  pub sent_to_actors : (s : Sent) → Has h.world.sent s → IsDestOf config s.dest
  sent_to_actors s i = dest_of s i s.dest (r.sent s i).goes

pub datagrams_go_to_actors : {S : Type 0} (m : Meaning S) (IsSound : S → Type 0) → KeepsTo m IsSound → (c : Configuration)
    → is_configuration c ≡ true → (es : List Event) (h : Happened) → EventsFit es → world.run m c es ≡ Ok h → (s : Sent)
    → Has h.world.sent s → IsDestOf c s.dest
datagrams_go_to_actors m IsSound keeps c is_one es h fit e =
    sent_to_actors m c h (events_reach m IsSound keeps c is_one es h fit e) is_one
