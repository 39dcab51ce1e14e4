-- The moves of which each step of an actor is a list, and when each may be made.
use Rattle.std.specs.Prelude.{◌≡◌, ◌≤◌, ◌<◌, ◌+◌, ◌-◌, ◌*◌, ◌==◌, ◌&&◌, ℕ, Bool, true, false, cond, not, List, [], ◌∷◌, ◌++◌, Option, Some}
use Rattle.std.specs.Prelude.{None, length, max, nat_lt, ⊤}
use Rattle.nop_types.specs.declared.view.View.{View}
use Rattle.nop_types.specs.declared.replica_state.Phase.TheVariants.{Normal, Change}
use Rattle.nop_types.specs.declared.replica_state.Vote.{Vote}
use Rattle.nop_types.specs.declared.replica_state.Vote.TheVariants.{Settled, Waiting}
use Rattle.nop_types.specs.declared.request.Request.{Request}
use Rattle.nop_types.specs.declared.request.Entry.{Entry}
use Rattle.nop_types.specs.declared.request.Entry.TheVariants.{NoOp, Req}
use Rattle.nop_types.specs.declared.datagram.Stamped.{Stamped}
use Rattle.nop_types.specs.declared.datagram.Reply.{Reply}
use Rattle.nop_types.specs.PlainChanges as plain
use Rattle.nop_types.specs.Lines.{Line, Submit, Accept}
use Rattle.nop_types.specs.Lists.{Has}
use Rattle.nop_types.specs.Meaning.{Meaning}
use Rattle.nop_types.specs.Sessions.{home}
use Rattle.nop_types.specs.Slots.{set_slot, laid}
use Rattle.nop_types.specs.Views.{AtMost, Below, leader_of}
use Rattle.execution_laws.specs.Legality.{IsOtherLine}
use Rattle.client_quorum.specs.ClientSteps.{request_of, submitted, is_expected, kept, accepts}
use Rattle.client_quorum.specs.KeptReplies.{quorum_of}
use Rattle.client_quorum.specs.OpenRequests.{has_room, kept_for}
use Rattle.slot_votes.specs.Agreement.{Agreement, begun, gap_vote_counted}
use Rattle.slot_votes.specs.Votes.{vote_of}
use Rattle.log_merge.specs.Starting.{start_of, start_point}
use Rattle.oum_receiver.specs.Front.{Message}
use Rattle.oum_receiver.specs.Receiving as receiving
use Rattle.oum_receiver.specs.Receiving.{Receiving, offered, front_of, front_taken, advanced}
use Rattle.sequencer.specs.declared.state.SequencerState.{SequencerState}
use Rattle.sequencer.specs.SequencerSteps.{stamped}
use Rattle.slot_votes.specs.Synchronisation.{cleared, raised, with_round, taken, committed, vote_for}
use Rattle.slot_votes.specs.Synchronisation as synchronisation
use Rattle.view_change.specs.Gathering as gathering
use Rattle.protocol.specs.Conf.{Conf, Effect, DidSay, HasOwner}
use Rattle.lemmas.specs.Functions.{put}
use Rattle.protocol.specs.LocalState.{LocalState, PlainGathering, leads, leader, max_faults}
use Rattle.protocol.specs.Replies.{reply_to, replies_above}
use Rattle.protocol.specs.Said.{Said, Word, Plain, Found, GapCommit, GapRep, ViewChange, StartView, SyncPrepare, SyncRep, SyncCommit, says}
use Rattle.protocol.specs.Truth.{MayRepeat}

-- ---- what a replica says

abbrev pub say : LocalState → Word → List Said
say p x = says p.number p.view x ∷ []

abbrev pub say_unless : Bool → LocalState → Word → List Said
say_unless true p x = []
say_unless false p x = say p x

-- a replica that is alone says nothing
abbrev pub say_all : LocalState → Word → List Said
say_all p x = say_unless (max_faults p == 0) p x

-- who leads in Normal
pub record MayLead (p : LocalState) : Type 0 where
  pub normal : p.status ≡ Normal
  pub leads : leads p ≡ true

-- who follows in Normal, and what its leader said
pub record MayFollow (c : Conf) (p : LocalState) (x : Word) : Type 0 where
  pub normal : p.status ≡ Normal
  pub follows : leads p ≡ false
  pub said : DidSay c.said (leader p) p.view x

-- another replica said it in this view
pub record DidAnother (f : ℕ) (c : Conf) (p : LocalState) (q : ℕ) (x : Word) : Type 0 where
  pub said : DidSay c.said q p.view x
  pub within : q < 2 * f + 1
  pub apart : q ≡ p.number → ⊥

-- ---- the receiver

-- a packet is offered
abbrev pub queue : LocalState → Stamped → Effect
queue p x = record { state = record p { receiver = offered p.receiver x }; said = []; replies = [] }

-- ---- the next slot

-- the request in front is logged
abbrev pub logged : LocalState → Request → LocalState
logged p r = record p { log = p.log ++ Req r ∷ []; next = p.next + 1; receiver = front_taken p.receiver }

abbrev pub take_front : {S : Type 0} → Meaning S → LocalState → Request → Effect
take_front m p r = record { state = logged p r; said = []; replies = reply_to m (logged p r) (length p.log + 1) r }

pub record MayTakeFront (p : LocalState) (r : Request) : Type 0 where
  pub normal : p.status ≡ Normal
  pub no_gap : p.gap ≡ None
  pub front : front_of p.receiver ≡ Message r

-- an entry that did not come through the receiver
abbrev pub appended : LocalState → Entry → LocalState
appended p e = record p { log = p.log ++ e ∷ []; next = p.next + 1; receiver = advanced p.receiver (p.next + 1) }

-- a follower logs a request that it missed
abbrev pub fill : {S : Type 0} → Meaning S → LocalState → Request → Effect
fill m p r = record { state = appended p (Req r); said = []; replies = reply_to m (appended p (Req r)) (length p.log + 1) r }

abbrev pub MayFill : Conf → LocalState → Request → Type 0
MayFill c p r = MayFollow c p (Found (length p.log + 1) r)

-- ---- gaps

-- an agreement waits for votes, unless nobody has to vote any more
abbrev pub unless_settled : Agreement → Vote → Option Agreement
unless_settled g Settled = None
unless_settled g Waiting = Some g

abbrev pub waiting : Agreement → Option Agreement
waiting g = unless_settled g (vote_of g.f g.votes)

-- a leader puts a NO-OP into the next slot, and tells all
abbrev pub open_gap : LocalState → Effect
open_gap p =
    record {
      state = record (appended p NoOp) { gap = waiting (begun (length p.log + 1) (max_faults p)) };
      said = say_all p (GapCommit (length p.log + 1));
      replies = [];
    }

pub record MayOpenGap (p : LocalState) : Type 0 where
  pub may_lead : MayLead p
  pub none_waits : p.gap ≡ None

-- it counts the vote of the replica q; the gap is closed at enough of them
abbrev pub count_gap_vote : LocalState → Agreement → ℕ → Effect
count_gap_vote p g q = record { state = record p { gap = waiting (gap_vote_counted g q) }; said = []; replies = [] }

pub record MayCountGapVote (f : ℕ) (c : Conf) (p : LocalState) (g : Agreement) (q : ℕ) : Type 0 where
  pub waits : p.gap ≡ Some g
  pub vote : DidAnother f c p q (GapRep g.slot)

-- a follower puts a NO-OP into a slot that it has
abbrev pub write_gap : LocalState → ℕ → Effect
write_gap p k = record { state = record p { log = set_slot p.log k NoOp }; said = say p (GapRep k); replies = [] }

pub record MayWriteGap (c : Conf) (p : LocalState) (k : ℕ) : Type 0 where
  pub may_follow : MayFollow c p (GapCommit k)
  pub within : k ≤ length p.log

-- or into the next one
abbrev pub add_gap : LocalState → Effect
add_gap p = record { state = appended p NoOp; said = say p (GapRep (length p.log + 1)); replies = [] }

abbrev pub MayAddGap : Conf → LocalState → Type 0
MayAddGap c p = MayFollow c p (GapCommit (length p.log + 1))

-- ---- a greater view is entered

-- a session that the receiver is not in yet begins there
abbrev pub listening : LocalState → View → Receiving
listening p v = cond (nat_lt p.view.session v.session && not (p.receiver.session == v.session)) (receiving.opened v.session 1) p.receiver

-- nothing of the view that is left stays
abbrev pub left : LocalState → LocalState
left p = record p { gap = None; sync = cleared p.sync; changes = None }

abbrev pub entered : LocalState → View → LocalState
entered p v = record (left p) { view = v; status = Change; receiver = listening p v }

abbrev pub own_change : LocalState → plain.Change
own_change p = record { sender = p.number; last_normal = p.last_normal; next = p.next; sync_point = p.sync.sync_point; log = p.log }

-- the leader keeps its own change, another sends it
abbrev pub enter_as : Bool → LocalState → Effect
enter_as true p = record {
  state = record p { changes = Some (gathering.entered p.view (max_faults p) (own_change p)) };
  said = say_all p Plain;
  replies = [];
}
enter_as false p = record {
  state = p;
  said = say_all p Plain ++ say p (ViewChange p.last_normal p.next p.sync.sync_point p.log);
  replies = [];
}

abbrev pub enter : LocalState → View → Effect
enter p v = enter_as (leads (entered p v)) (entered p v)

-- its session was given to a sequencer
pub record MayEnter (c : Conf) (p : LocalState) (v : View) : Type 0 where
  pub greater : Below p.view v
  pub given : HasOwner c.installs v.session

-- the leader keeps the change of another
abbrev pub keep_change : LocalState → PlainGathering → plain.Change → Effect
keep_change p g x = record { state = record p { changes = Some (gathering.change_added plain.sender_of g x) }; said = []; replies = [] }

pub record MayKeepChange (f : ℕ) (c : Conf) (p : LocalState) (g : PlainGathering) (x : plain.Change) : Type 0 where
  pub gathers : p.changes ≡ Some g
  pub change : DidAnother f c p x.sender (ViewChange x.last_normal x.next x.sync_point x.log)

-- ---- a view starts

-- the receiver goes to the number, in the session of the view
abbrev pub listening_from : LocalState → View → ℕ → Receiving
listening_from p v x = cond (nat_lt p.receiver.session v.session) (receiving.opened v.session x) (advanced p.receiver x)

abbrev pub adopted : LocalState → View → ℕ → ℕ → List Entry → LocalState
adopted p v x z l = record (left p) {
  view = v;
  status = Normal;
  last_normal = v;
  log = l;
  next = x;
  base = length l;
  receiver = listening_from p v x;
  sync = raised (cleared p.sync) z;
}

-- a log is adopted, and each request above the sync point is answered once more
abbrev pub adopt_saying : {S : Type 0} → Meaning S → List Said → LocalState → View → ℕ → ℕ → List Entry → Effect
adopt_saying m said p v x z l =
    record { state = adopted p v x z l; said = said; replies = replies_above m (adopted p v x z l) (adopted p v x z l).sync.sync_point }

abbrev pub adopt : {S : Type 0} → Meaning S → LocalState → View → ℕ → ℕ → List Entry → Effect
adopt m p v x z l = adopt_saying m [] p v x z l

pub record MayAdopt (c : Conf) (p : LocalState) (v : View) (x z : ℕ) (l : List Entry) : Type 0 where
  pub said : DidSay c.said (leader_of v p.replicas) v (StartView x z l)
  pub follows : p.number ≡ leader_of v p.replicas → ⊥
  pub at_most : AtMost p.view v
  pub change : p.view ≡ v → p.status ≡ Change

-- the leader tells all what its view starts with, and adopts it
abbrev pub open_view : {S : Type 0} → Meaning S → LocalState → PlainGathering → Effect
open_view m p g =
    let s = start_of g.view g.changes in
    let z = start_point g.changes in
    adopt_saying m (say_all p (StartView s.next z s.log)) p p.view s.next z s.log

pub record MayOpenView (p : LocalState) (g : PlainGathering) : Type 0 where
  pub gathers : p.changes ≡ Some g
  pub enough : g.f < length g.changes

-- ---- a true word is said again

abbrev pub say_again : LocalState → Word → Effect
say_again p x = record { state = p; said = say p x; replies = [] }

-- a log that is sent again is sent with the own sync point, which it reaches
abbrev pub SaysOwnPoint : LocalState → Word → Type 0
SaysOwnPoint p (StartView x z l) = (z ≡ p.sync.sync_point) × (z ≤ length l)
SaysOwnPoint p (SyncPrepare z l) = (z ≡ p.sync.sync_point) × (z ≤ length l)
SaysOwnPoint p _ = ⊤

pub record MaySay (f : ℕ) (c : Conf) (p : LocalState) (x : Word) : Type 0 where
  pub true : MayRepeat f c p.number p.view x
  pub point : SaysOwnPoint p x

-- ---- sync points

-- a follower takes the entries of its leader's log
abbrev pub overlaid : LocalState → ℕ → List Entry → LocalState
overlaid p z l = record p {
  log = laid l p.log;
  next = p.next + (length l - length p.log);
  receiver = advanced p.receiver (p.next + (length l - length p.log));
  sync = raised (taken p.sync (length l)) z;
}

abbrev pub overlay : {S : Type 0} → Meaning S → LocalState → ℕ → List Entry → Effect
overlay m p z l = record {
  state = overlaid p z l;
  said = say p (SyncRep (length l));
  replies = replies_above m (overlaid p z l) (max (length p.log) (overlaid p z l).sync.sync_point);
}

abbrev pub MayOverlay : Conf → LocalState → ℕ → List Entry → Type 0
MayOverlay c p z l = MayFollow c p (SyncPrepare z l)

-- a follower's sync point rises to what its leader says
abbrev pub obey : LocalState → ℕ → Effect
obey p k = record { state = record p { sync = committed p.sync k }; said = []; replies = [] }

pub record MayObey (c : Conf) (p : LocalState) (k : ℕ) : Type 0 where
  pub may_follow : MayFollow c p (SyncCommit k)
  pub within : k ≤ p.sync.prepared

-- a leader sends its log, and waits for votes
abbrev pub open_sync : LocalState → Effect
open_sync p = record {
  state = record p { sync = with_round p.sync (length p.log) };
  said = say_all p (SyncPrepare p.sync.sync_point p.log);
  replies = [];
}

pub record MayOpenSync (p : LocalState) : Type 0 where
  pub may_lead : MayLead p
  pub no_gap : p.gap ≡ None
  pub longer : p.sync.sync_point < length p.log

abbrev pub commit_if : LocalState → ℕ → Vote → List Said
commit_if p k Settled = say_all p (SyncCommit k)
commit_if p k Waiting = []

-- it counts the vote of the replica q; at enough of them its sync point rises, and it tells all
abbrev pub count_sync_vote : LocalState → ℕ → ℕ → Effect
count_sync_vote p q k = record {
  state = record p { sync = synchronisation.sync_vote_counted p.sync q k };
  said = commit_if p k (vote_for p.sync q k);
  replies = [];
}

pub record MayCountSyncVote (f : ℕ) (c : Conf) (p : LocalState) (q k : ℕ) : Type 0 where
  pub may_lead : MayLead p
  pub vote : DidAnother f c p q (SyncRep k)

-- a leader says again what is synchronised
abbrev pub repeat_commit : LocalState → Effect
repeat_commit p = record { state = p; said = say_all p (SyncCommit p.sync.sync_point); replies = [] }

-- ---- sessions

-- a controller gives a later session to a sequencer
abbrev pub move_to : Conf → ℕ → ℕ → ℕ → Conf
move_to c k j s =
    record c {
      controllers = put c.controllers k (record { session = s; current = j; confirmed = false });
      installs = record { sequencer = j; session = s } ∷ c.installs;
    }

pub record MayMoveTo (c : Conf) (k s : ℕ) : Type 0 where
  pub own : home s ≡ k
  pub later : (c.controllers k).session < s

-- the sequencer said that it has the session
abbrev pub installed : Conf → ℕ → Conf
installed c k = record c { controllers = put c.controllers k (record (c.controllers k) { confirmed = true }) }

-- a sequencer begins a later session
abbrev pub install : Conf → ℕ → ℕ → Conf
install c j s = record c { sequencers = put c.sequencers j (record (c.sequencers j) { session = s; next = 1 }) }

pub record MayInstall (c : Conf) (j s : ℕ) : Type 0 where
  pub sent : Has c.installs (record { sequencer = j; session = s })
  pub later : (c.sequencers j).session < s

-- ---- a sequencer stamps a request

abbrev pub passed : SequencerState → SequencerState
passed s = record s { next = s.next + 1 }

abbrev pub stamp : Conf → ℕ → Request → Conf
stamp c j r = record c { sequencers = put c.sequencers j (passed (c.sequencers j)); stamps = stamped (c.sequencers j) r ∷ c.stamps }

pub record MayStamp (c : Conf) (j : ℕ) (r : Request) : Type 0 where
  pub sent : Has c.requests r
  pub session : 1 ≤ (c.sequencers j).session

-- ---- a client

-- an op is submitted, and these ops wait from now on
abbrev pub submit : Conf → ℕ → List ℕ → List (List ℕ) → Conf
submit c k op waiting =
    record c {
      clients = put c.clients k (submitted (record (c.clients k) { waiting = waiting }) (request_of (c.clients k) op));
      requests = request_of (c.clients k) op ∷ c.requests;
      lines = c.lines ++ Submit (request_of (c.clients k) op) ∷ [];
    }

abbrev pub MaySubmit : Conf → ℕ → Type 0
MaySubmit c k = has_room (c.clients k) ≡ true

-- a reply is kept
abbrev pub keep : Conf → ℕ → Reply → Conf
keep c k p = record c { clients = put c.clients k (kept (c.clients k) p) }

pub record MayKeep (c : Conf) (k : ℕ) (p : Reply) : Type 0 where
  pub sent : Has c.replies p
  pub expected : is_expected (c.clients k) p ≡ true

-- the result of a leader's reply is accepted, where enough replies match p
abbrev pub accept : Conf → ℕ → Reply → Reply → Conf
accept c k p leaders =
    record c {
      clients = put c.clients k (accepts (c.clients k) p.id leaders);
      lines = c.lines ++ Accept (c.clients k).number p.id leaders.result ∷ [];
    }

pub record MayAccept (c : Conf) (k : ℕ) (p leaders : Reply) : Type 0 where
  pub kept : Has (kept_for (c.clients k) p.id) p
  pub enough : quorum_of (c.clients k).config.replicas (kept_for (c.clients k) p.id) p.view p.slot ≡ Some leaders

-- ---- lines that neither submit nor accept

abbrev pub add_lines : Conf → List Line → Conf
add_lines c more = record c { lines = c.lines ++ more }

abbrev pub MayAddLines : List Line → Type 0
MayAddLines more = (line : Line) → Has more line → IsOtherLine line
