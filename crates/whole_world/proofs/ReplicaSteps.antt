-- Steps of replicas.
use Rattle.std.proofs.Common.{◌≡◌, ℕ, ◌+◌, ◌*◌, ◌<◌, Bool, true, false, Option, Some, None, refl, sym, ap, subst, ◌∙◌, arith, inl, inr}
use Rattle.std.proofs.Common.{List, [], ◌∷◌, ◌++◌}
use Rattle.std.specs.Prelude.{Ok, nat_lt, slice_get, slice_set}
use Rattle.std.specs.List.{AllByRecursion}
use Rattle.std.proofs.lemmas.List.{append-nil, length-set, map-append}
use Rattle.std.proofs.lemmas.Option.{slice_get_within}
use Rattle.nop_types.specs.Configuration.{Configuration}
use Rattle.nop_types.specs.Lists.{Has}
use Rattle.nop_types.specs.Logs.{Whole}
use Rattle.nop_types.specs.Meaning.{Meaning}
use Rattle.nop_types.specs.Sessions.{home}
use Rattle.nop_types.specs.declared.datagram.Datagram.{Datagram}
use Rattle.nop_types.specs.declared.datagram.Datagram.TheVariants as datagrams
use Rattle.nop_types.specs.declared.datagram.Reply.{Reply}
use Rattle.nop_types.specs.declared.datagram.Stamped.{Stamped}
use Rattle.nop_types.specs.declared.output.Actor.{Actor}
use Rattle.nop_types.specs.declared.output.Actor.TheVariants as actors
use Rattle.nop_types.specs.declared.output.Dest.TheVariants as dests
use Rattle.nop_types.specs.declared.peer.Peer.{Peer}
use Rattle.nop_types.specs.declared.request.Request.{Request}
use Rattle.lemmas.proofs.Members.{Has-none, Has-first, Has-rest, Has-cases, Has-append_left, Has-append_right, Has-append_cases}
use Rattle.oum_codec.specs.Reading.{reading}
use Rattle.oum_codec.specs.Spelling.{spelling}
use Rattle.network_laws.specs.Network.{IsDatagram}
use Rattle.network_laws.specs.Sends.{peers_in}
use Rattle.replica_core.specs.declared.replica.TheConstants.{LAST_MESSAGE}
use Rattle.replica_state.specs.declared.sending.Sending.{Sending}
use Rattle.replica_state.specs.declared.sending.Sending.TheVariants.{ToClient, ToReplicas, Trims}
use Rattle.replica_state.specs.Sends.{Effect, SendingIsIn, still}
use Rattle.replica_state.specs.State.{PointsMeet}
use Rattle.replica_rows.specs.Messages.{Arrival}
use Rattle.replica_rows.specs.Within.{ResultsShort}
use Rattle.started_views.specs.Past.{Past, note}
use Rattle.protocol.specs.Conf.{Conf, Install, opening}
use Rattle.protocol.specs.Evolves.{Keeps}
use Rattle.protocol.specs.Invariant.{Inv}
use Rattle.protocol.specs.LocalState.{LocalState}
use Rattle.protocol.specs.Runs.{run}
use Rattle.protocol.specs.Said.{Said}
use Rattle.protocol.proofs.Opening.{opening_meets}
use Rattle.protocol.proofs.Runs.{moves_keep}
use Rattle.protocol_sync.specs.Above.{GapsAreAbove}
use Rattle.protocol_sync.specs.Synced.{Sync}
use Rattle.protocol_sync.proofs.Above.{gaps_open_above, gaps_stay_above}
use Rattle.protocol_sync.proofs.Opening.{opening_is_synced}
use Rattle.protocol_sync.proofs.Runs.{syncs_keep}
use Rattle.network.specs.Network.{Sent, sends_of}
use Rattle.world.specs.Seats.{Seated, seated}
use Rattle.refinement.specs.Datagrams.{WasSent}
use Rattle.refinement.specs.Projection.{local_state_of, said_of, said_in}
use Rattle.refinement.specs.Replicas as refinement
use Rattle.refinement.specs.Replicas.{Adds, AddsSends, SameBut, ReplicaReaches}
use Rattle.refinement.proofs.Arriving.{replicas_reach}
use Rattle.whole_world.specs.Whole.{WholeReplica, WholeWorld, Letter, Brings, replies_in, letters_in, row_if, effect_of, arrival_of, after_row}
use Rattle.whole_world.specs.Whole.{posts}
use Rattle.whole_world.specs.Passed.{Passed, noted, standing}
use Rattle.whole_world.specs.Shows.{IsThere, Carries, MessagesSay, ShowsActors, peers_of}
use Rattle.whole_world.proofs.At.{ReplicaFits, Stands, At, Goes}
use Rattle.whole_world.proofs.Coming.{arrives}
use Rattle.whole_world.proofs.Fitting.{read_as, sent_lasts, there_still}
use Rattle.whole_world.proofs.Outputs.{no_line}
use Rattle.whole_world.proofs.Pasts.{note_idle, noted_one}
use Rattle.whole_world.proofs.Quiet.{has_logs}
use Rattle.whole_world.proofs.RowRanges.{RowFits, row_fits, replica_fits}
use Rattle.whole_world.proofs.Seats.{seats_become, seats_hold, still_shown}
use Rattle.whole_world.proofs.Sendings.{replied_is_sent, sent_is_replied, reply_fits, peers_fit, peers_said, said_by_peers}

-- ---- the messages of a row

pub letters_peers : (number : ℕ) (sends : List Sending) → peers_of (letters_in number sends) ≡ peers_in sends
letters_peers number [] = refl
letters_peers number (ToReplicas dest p ∷ sends) = ap (λ (ps : List Peer). p ∷ ps) (letters_peers (number + 1) sends)
letters_peers number (_ ∷ sends) = letters_peers number sends

-- what was said before, and what is said now, is what was told
messages_say_on : (peers : List Peer) (old new : List Said) (sends : List Sending) → AllByRecursion (SendingIsIn Whole) sends
    → Adds old new (said_in sends) → MessagesSay peers old → MessagesSay (peers ++ peers_in sends) new
messages_say_on peers old new sends fits adds h = record {
  fits = λ p i. elim (Has-append_cases peers (peers_in sends) p i) [
    | inl before ↦ h.fits p before
    | inr fresh ↦ peers_fit Whole sends p fits fresh
  ];
  all = λ p i. elim (Has-append_cases peers (peers_in sends) p i) [
    | inl before ↦ adds.kept (said_of p) (h.all p before)
    | inr fresh ↦ adds.added (said_of p) (peers_said sends p fresh)
  ];
  only = λ x i. elim (adds.only x i) [
    | inl before ↦ (let t = h.only x before in
        record { peer = t.peer; has = Has-append_left peers (peers_in sends) t.peer t.has; says = t.says })
    | inr fresh ↦ (let t = said_by_peers sends x fresh in
        record { peer = t.peer; has = Has-append_right peers (peers_in sends) t.peer t.has; says = t.says })
  ];
}

adds_none : {A : Type 0} (xs : List A) → Adds xs xs []
adds_none xs = record { kept = λ x h. h; added = λ x h. absurd (Has-none x h); only = λ x h. inl h }

-- ---- the replies of a row

-- a datagram with a reply's bytes
pub record IsReply (sends : List Sending) (s : Sent) : Type 0 where
  pub reply : Reply
  pub has : Has sends (ToClient reply)
  pub bytes : s.bytes ≡ spelling (datagrams.Reply reply)

later_reply : (x : Sending) (sends : List Sending) (s : Sent) → IsReply sends s → IsReply (x ∷ sends) s
later_reply x sends s h = record { reply = h.reply; has = Has-rest (ToClient h.reply) x sends h.has; bytes = h.bytes }

module _ (from : Actor) where
  abbrev reply_sent : Reply → Sent
  reply_sent r = record { from = from; dest = dests.One (actors.Client r.client); bytes = spelling (datagrams.Reply r) }

  replies_only : (sends : List Sending) (s : Sent) → Has (sends_of from (replies_in sends)) s → IsReply sends s
  replies_only [] s h = absurd (Has-none s h)
  replies_only (ToClient r ∷ sends) s h = elim (Has-cases s (reply_sent r) (sends_of from (replies_in sends)) h) [
    | inl e ↦ record { reply = r; has = Has-first (ToClient r) (ToClient r) sends refl; bytes = ap (λ (x : Sent). x.bytes) e }
    | inr j ↦ later_reply (ToClient r) sends s (replies_only sends s j)
  ]
  replies_only (x ∷ sends) s h = later_reply x sends s (replies_only sends s h)

  replies_each : (sends : List Sending) (y : Reply) → Has sends (ToClient y) → Has (sends_of from (replies_in sends)) (reply_sent y)
  replies_each [] y h = absurd (Has-none (ToClient y) h)
  replies_each (ToClient r ∷ sends) y h = elim (Has-cases (ToClient y) (ToClient r) sends h) [
    | inl e ↦ (let same : y ≡ r = cc in Has-first (reply_sent y) (reply_sent r) (sends_of from (replies_in sends)) (ap reply_sent same))
    | inr j ↦ Has-rest (reply_sent y) (reply_sent r) (sends_of from (replies_in sends)) (replies_each sends y j)
  ]
  replies_each (ToReplicas dest p ∷ sends) y h = elim (Has-cases (ToClient y) (ToReplicas dest p) sends h) [
    | inl e ↦ absurd cc
    | inr j ↦ replies_each sends y j
  ]
  replies_each (Trims n l ∷ sends) y h = elim (Has-cases (ToClient y) (Trims n l) sends h) [
    | inl e ↦ absurd cc
    | inr j ↦ replies_each sends y j
  ]

-- the datagrams after a replica's step
module _ (c d : Conf) (sent : List Sent) (from : Actor) (sends : List Sending) (keeps : Keeps c d) (adds : AddsSends c d sends)
    (fits : AllByRecursion (SendingIsIn Whole) sends) where
  abbrev more : List Sent
  more = sends_of from (replies_in sends)

  step_spelled : Carries sent c → (s : Sent) → Has (sent ++ more) s → IsDatagram s.bytes
  step_spelled old s h = elim (Has-append_cases sent more s h) [
    | inl i ↦ old.spelled s i
    | inr i ↦ (let t = replies_only from sends s i in
        record { datagram = datagrams.Reply t.reply; spells = record { fits = reply_fits Whole sends t.reply fits t.has; spelled = t.bytes } })
  ]

  step_only : Carries sent c → (s : Sent) (x : Datagram) → Has (sent ++ more) s → reading s.bytes ≡ Ok x → WasSent d x
  step_only old s x h e = elim (Has-append_cases sent more s h) [
    | inl i ↦ sent_lasts c d keeps x (old.only s x i e)
    | inr i ↦ (let t = replies_only from sends s i in
        subst (WasSent d) (read_as s.bytes (datagrams.Reply t.reply) x
        (record { fits = reply_fits Whole sends t.reply fits t.has; spelled = t.bytes }) e)
        (adds.replies.added t.reply (sent_is_replied sends t.reply t.has)))
  ]

  step_replies : Carries sent c → (y : Reply) → Has d.replies y → IsThere (sent ++ more) (datagrams.Reply y)
  step_replies old y h = elim (adds.replies.only y h) [
    | inl before ↦ there_still sent more (datagrams.Reply y) (old.replies y before)
    | inr fresh ↦ (let has = replied_is_sent sends y fresh in
        record {
          datagram = reply_sent from y;
          has = Has-append_right sent more (reply_sent from y) (replies_each from sends y has);
          spells = record { fits = reply_fits Whole sends y fits has; spelled = refl };
        })
  ]

  step_carries : (r : ℕ) → SameBut r c d → Carries sent c → Carries (sent ++ more) d
  step_carries r same old = record {
    spelled = step_spelled old;
    only = step_only old;
    requests = λ x h. there_still sent more (datagrams.Request x)
        (old.requests x (subst (λ (xs : List Request). Has xs x) same.requests h));
    stamps = λ x h. there_still sent more (datagrams.Stamped x)
        (old.stamps x (subst (λ (xs : List Stamped). Has xs x) same.stamps h));
    replies = step_replies old;
    installs = λ x h. there_still sent more (datagrams.Install (home x.session) x.sequencer x.session)
        (old.installs x (subst (λ (xs : List Install). Has xs x) same.installs h));
  }

-- ---- one step

module _ {S : Type 0} (m : Meaning S) (f : ℕ) (config : Configuration) (p : Passed) (c : Conf) (inv : Inv m f c)
    (at : At m f config p c) (short : ResultsShort m) (r : ℕ) (old : Seated WholeReplica)
    (there : slice_get p.world.replicas r ≡ Some old) (b : Brings) where
  abbrev w : WholeWorld
  w = p.world

  abbrev shown : ShowsActors f w c
  shown = at.stands.actors

  abbrev e : Effect
  e = effect_of m old.state (arrival_of w b)

  abbrev from : Actor
  from = actors.Replica r

  abbrev new : Seated WholeReplica
  new = seated (after_row old.state e)

  row : RowFits r old.state e
  row = row_fits m short r old.state (at.stands.ranges.replicas r old there) (arrival_of w b)
      (λ a is. (arrives c w at.stands.carries at.stands.tells b a is).fits)

  within : r < 2 * f + 1
  within = omega (arith, slice_get_within w.replicas r old there, shown.replica_count, shown.config)

  count : config.replicas ≡ 2 * f + 1
  count = ap (λ (x : Configuration). x.replicas) (sym at.stands.same) ∙ shown.config

  matches : refinement.Matches m f c r old.state.state
  matches =
      let ran = at.ran in
      let start = opening_meets m f config count in
      let begins = opening_is_synced f config count in
      record {
        within = within;
        inv = inv;
        sync = subst (Sync f) ran.ends (syncs_keep m f (opening config) ran.moves start begins ran.may);
        above = subst (GapsAreAbove f) ran.ends
            (gaps_stay_above m f (opening config) ran.moves start begins (gaps_open_above f config) ran.may);
        state = shown.replicas r old there;
        points = shown.points r old there;
      }

  -- nothing was taken
  reaches_still : ReplicaReaches m f c r old.state.state (still old.state.state)
  reaches_still = record {
    moves = [];
    may = tt;
    state = matches.state;
    points = matches.points;
    others = record {
      replicas = λ q other. refl;
      sequencers = refl;
      clients = refl;
      controllers = refl;
      requests = refl;
      stamps = refl;
      installs = refl;
      lines = refl;
    };
    past = sym (note_idle f c.past r (standing old)
        (subst (λ (t : LocalState). c.past.log r t.last_normal ≡ Some t.log) matches.state (inv.current r within)));
    sends = record {
      said = adds_none c.said;
      replies = adds_none c.replies;
    };
  }

  row_if_reaches : (free : Bool) (a : Arrival) → refinement.Came c a → ReplicaReaches m f c r old.state.state (row_if m free old.state.state a)
  row_if_reaches true a came = replicas_reach m f c r old.state.state a matches came
  row_if_reaches false a came = reaches_still

  row_reaches : (o : Option Arrival) → ((a : Arrival) → o ≡ Some a → refinement.Came c a)
      → ReplicaReaches m f c r old.state.state (effect_of m old.state o)
  row_reaches None came = reaches_still
  row_reaches (Some a) came = row_if_reaches (nat_lt old.state.messages LAST_MESSAGE) a (came a refl)

  reaches : ReplicaReaches m f c r old.state.state e
  reaches = row_reaches (arrival_of w b) (λ a is. (arrives c w at.stands.carries at.stands.tells b a is).came)

  abbrev d : Conf
  d = run m f c reaches.moves

  keeps : Keeps c d
  keeps = (moves_keep m f c reaches.moves inv reaches.may).1.sent

  step_says : MessagesSay (peers_of (w.letters ++ letters_in old.state.messages e.1)) d.said
  step_says =
      let same : peers_of (w.letters ++ letters_in old.state.messages e.1) ≡ peers_of w.letters ++ peers_in e.1 =
      map-append (λ (x : Letter). x.peer) w.letters (letters_in old.state.messages e.1)
      ∙ ap (λ (ps : List Peer). peers_of w.letters ++ ps) (letters_peers old.state.messages e.1) in
      subst (λ (ps : List Peer). MessagesSay ps d.said) (sym same)
      (messages_say_on (peers_of w.letters) c.said d.said e.1 row.ranges.sends reaches.sends.said at.stands.tells)

  step_actors : ShowsActors f (posts w r old.state e) d
  step_actors = record {
    is_configuration = shown.is_configuration;
    config = shown.config;
    replica_count = length-set w.replicas r new ∙ shown.replica_count;
    other_count = shown.other_count;
    replicas = seats_become (λ j s. c.replicas j ≡ local_state_of s.state) (λ j s. d.replicas j ≡ local_state_of s.state) w.replicas r
        new reaches.state (λ j s other h. reaches.others.replicas j other ∙ h) shown.replicas;
    points = seats_hold (λ s. PointsMeet s.state) w.replicas r new reaches.points shown.points;
    others = λ k j q i. still_shown c d reaches.others.sequencers reaches.others.clients reaches.others.controllers k j q.state
        (shown.others k j q i);
    givers = λ x h. shown.givers x (subst (λ (xs : List Install). Has xs x) reaches.others.installs h);
  }

  step_stands : Stands f config (posts w r old.state e) d
  step_stands = record {
    same = at.stands.same;
    actors = step_actors;
    carries = step_carries c d w.sent from e.1 keeps reaches.sends row.ranges.sends r reaches.others at.stands.carries;
    tells = step_says;
    ranges = record {
      replicas = seats_become ReplicaFits ReplicaFits w.replicas r new (replica_fits r old.state e row) (λ j s other h. h)
          at.stands.ranges.replicas;
      others = at.stands.ranges.others;
    };
  }

  step_past : noted f p.past 0 w.replicas (slice_set w.replicas r new) ≡ d.past
  step_past =
      let here : 0 + r ≡ r = omega arith in
      noted_one f p.past 0 w.replicas r old new (has_logs m f config p c inv at) there
      ∙ ap (λ (t : Past). note f t (0 + r) (standing old) (standing new)) at.past
      ∙ ap (λ (j : ℕ). note f c.past j (standing old) (standing new)) here
      ∙ sym reaches.past

  pub replica_goes : Goes m f config p c (posts w r old.state e)
  replica_goes = record {
    moves = reaches.moves;
    may = reaches.may;
    stands = step_stands;
    said = [];
    others = [];
    lines = reaches.others.lines ∙ sym (append-nil c.lines);
    are = sym (append-nil w.lines);
    tells = no_line;
    past = step_past;
  }
