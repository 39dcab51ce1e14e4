-- Runs of three replicas, worked by hand: the moves that are made, and where they end.
use Rattle.std.specs.Prelude.{◌≡◌, ◌+◌, ℕ, List, [], ◌∷◌, ◌++◌}
use Rattle.nop_types.specs.Configuration.{Configuration}
use Rattle.nop_types.specs.declared.view.View.{View}
use Rattle.nop_types.specs.declared.replica_state.Phase.TheVariants.{Normal}
use Rattle.nop_types.specs.declared.request.Request.{Request}
use Rattle.nop_types.specs.declared.request.Entry.{Entry}
use Rattle.nop_types.specs.declared.request.Entry.TheVariants.{NoOp, Req}
use Rattle.nop_types.specs.declared.datagram.Stamped.{Stamped}
use Rattle.nop_types.specs.declared.datagram.Reply.{Reply}
use Rattle.nop_types.specs.PlainChanges as plain
use Rattle.nop_types.specs.Histories.{history_of}
use Rattle.nop_types.specs.Lines as lines
use Rattle.nop_types.specs.Lines.{Line}
use Rattle.nop_types.specs.Meaning.{Meaning}
use Rattle.nop_types.specs.Sessions.{opening_session}
use Rattle.nop_types.specs.Views.{first_view}
use Rattle.started_views.specs.Settled.{MainLog}
use Rattle.protocol.specs.Conf.{Conf, opening, last_normals}
use Rattle.protocol.specs.LocalState.{LocalState, PlainGathering}
use Rattle.protocol.specs.Runs.{Queue, TakeFront, OpenGap, CountGapVote, AddGap, Enter, KeepChange, OpenView, Adopt, Overlay, Obey}
use Rattle.protocol.specs.Runs.{Say, OpenSync, CountSyncVote, Move, Acts, MoveTo, Install, Stamp, Submit, Keep, Accept, run, MayAll}
use Rattle.protocol.specs.Said.{SyncPrepare}

-- ---- the actors, and what they say

abbrev pub three : (sequencers clients : ℕ) → Configuration
three s k = record { replicas = 3; sequencers = s; clients = k; controllers = 2; observers = 0 }

abbrev pub view : (leader session : ℕ) → View
view l s = record { leader = l; session = s }

-- put k v
abbrev pub put_op : List ℕ
put_op = 80 ∷ 0 ∷ 1 ∷ 107 ∷ 0 ∷ 1 ∷ 118 ∷ []

-- get k
abbrev pub get_op : List ℕ
get_op = 71 ∷ 0 ∷ 1 ∷ 107 ∷ []

-- the first request of the client 0, and of the client 1
abbrev pub put_request : Request
put_request = record { client = 0; id = 1; op = put_op }

abbrev pub get_request : Request
get_request = record { client = 1; id = 1; op = get_op }

abbrev pub stamp_of : (session number : ℕ) → Request → Stamped
stamp_of s n q = record { session = s; number = n; request = q }

-- a follower's reply, and that of the leader with a result
abbrev pub follower_reply : ℕ → View → ℕ → Request → Reply
follower_reply r v s q = record { replica = r; view = v; slot = s; client = q.client; id = q.id; tag = 0; result = [] }

abbrev pub leader_reply : ℕ → View → ℕ → Request → List ℕ → Reply
leader_reply r v s q result = record { replica = r; view = v; slot = s; client = q.client; id = q.id; tag = 1; result = result }

-- a packet comes, and is taken
abbrev pub logs : ℕ → Stamped → List Move
logs r p = Acts r (Queue p) ∷ Acts r (TakeFront p.request) ∷ []

-- a replica in Normal
pub record StandsAt (p : LocalState) (v : View) (l : List Entry) (s : ℕ) : Type 0 where
  pub status : p.status ≡ Normal
  pub view : p.view ≡ v
  pub last_normal : p.last_normal ≡ v
  pub log : p.log ≡ l
  pub sync_point : p.sync.sync_point ≡ s

-- ---- a gap agreed on, a reply accepted, and the view changed

-- The leader misses the first packet and gets the second. A follower answers the gap, and the second request is accepted.
-- Then the next leader starts its view with the log that has the NO-OP, although one replica had the request there.
module _ {S : Type 0} (m : Meaning S) where
  -- the host answers to the get alone
  abbrev pub got : List ℕ
  got = m.answer m.opening get_op

  abbrev pub gap_replies : (r : ℕ) → Reply
  gap_replies r = follower_reply r first_view 2 get_request

  -- what the replicas tell the next leader
  abbrev pub gap_change : plain.Change
  gap_change = record { sender = 1; last_normal = first_view; next = 2; sync_point = 0; log = NoOp ∷ [] }

  abbrev pub late_change : plain.Change
  late_change = record { sender = 2; last_normal = first_view; next = 3; sync_point = 0; log = Req put_request ∷ Req get_request ∷ [] }

  abbrev pub gathered : List plain.Change → PlainGathering
  gathered changes = record { view = view 1 1; f = 1; changes = changes }

  abbrev pub gap_log : List Entry
  gap_log = NoOp ∷ Req get_request ∷ []

  abbrev pub gap_run : List Move
  gap_run =
      Submit 0 put_op [] ∷ Submit 1 get_op [] ∷ Stamp 0 put_request ∷ Stamp 0 get_request ∷ []
      ++ logs 2 (stamp_of 1 1 put_request) ++ logs 2 (stamp_of 1 2 get_request)
      ++ Acts 0 (Queue (stamp_of 1 2 get_request)) ∷ Acts 0 OpenGap ∷ Acts 1 AddGap
      ∷ Acts 0 (CountGapVote (record { slot = 1; f = 1; votes = [] }) 1) ∷ Acts 0 (TakeFront get_request)
      ∷ Keep 1 (leader_reply 0 first_view 2 get_request got) ∷ Keep 1 (gap_replies 2)
      ∷ Accept 1 (gap_replies 2) (leader_reply 0 first_view 2 get_request got)
      ∷ Acts 1 (Enter (view 1 1)) ∷ Acts 2 (Enter (view 1 1))
      ∷ Acts 1 (KeepChange (gathered (gap_change ∷ [])) late_change)
      ∷ Acts 1 (OpenView (gathered (gap_change ∷ late_change ∷ []))) ∷ Acts 2 (Adopt (view 1 1) 3 0 gap_log) ∷ []

  pub record GapRun (c : Conf) : Type 0 where
    pub first : StandsAt (c.replicas 0) first_view gap_log 0
    pub second : StandsAt (c.replicas 1) (view 1 1) gap_log 0
    pub third : StandsAt (c.replicas 2) (view 1 1) gap_log 0
    pub lines : c.lines ≡ lines.Submit put_request ∷ lines.Submit get_request ∷ lines.Accept 1 1 got ∷ []
    pub main : MainLog 1 (last_normals c) c.past (view 1 1) gap_log
    pub history : history_of gap_log ≡ get_request ∷ []

  abbrev pub GapRunEnds : Type 0
  GapRunEnds = MayAll m 1 (opening (three 1 2)) gap_run × GapRun (run m 1 (opening (three 1 2)) gap_run)

  -- ---- a timeout and a new session at once

  -- One replica enters the next leader number, another the next session; both end in the view that has both. Another controller gives out
  -- a session of its own, which no sequencer takes.
  abbrev pub put_answer : List ℕ
  put_answer = m.answer m.opening put_op

  abbrev pub empty_change : ℕ → plain.Change
  empty_change r = record { sender = r; last_normal = first_view; next = 1; sync_point = 0; log = [] }

  abbrev pub gathered_later : List plain.Change → PlainGathering
  gathered_later changes = record { view = view 1 2; f = 1; changes = changes }

  abbrev pub session_run : List Move
  session_run =
      MoveTo 0 1 2 ∷ MoveTo 1 0 (opening_session 1 + 1) ∷ Install 1 2 ∷ Submit 0 put_op [] ∷ Stamp 1 put_request ∷ Acts 1 (Enter (view 1 1))
      ∷ Acts 2 (Enter (view 0 2)) ∷ Acts 2 (Queue (stamp_of 2 1 put_request)) ∷ Acts 1 (Enter (view 1 2)) ∷ Acts 2 (Enter (view 1 2))
      ∷ Acts 1 (KeepChange (gathered_later (empty_change 1 ∷ [])) (empty_change 2))
      ∷ Acts 1 (OpenView (gathered_later (empty_change 1 ∷ empty_change 2 ∷ [])))
      ∷ Acts 2 (Adopt (view 1 2) 1 0 []) ∷ Acts 2 (TakeFront put_request) ∷ logs 1 (stamp_of 2 1 put_request)
      ++ Keep 0 (follower_reply 2 (view 1 2) 1 put_request) ∷ Keep 0 (leader_reply 1 (view 1 2) 1 put_request put_answer)
      ∷ Accept 0 (leader_reply 1 (view 1 2) 1 put_request put_answer) (leader_reply 1 (view 1 2) 1 put_request put_answer) ∷ []

  pub record SessionRun (c : Conf) : Type 0 where
    pub first : StandsAt (c.replicas 0) first_view [] 0
    pub second : StandsAt (c.replicas 1) (view 1 2) (Req put_request ∷ []) 0
    pub third : StandsAt (c.replicas 2) (view 1 2) (Req put_request ∷ []) 0
    pub lines : c.lines ≡ lines.Submit put_request ∷ lines.Accept 0 1 put_answer ∷ []
    pub main : MainLog 1 (last_normals c) c.past (view 1 2) (Req put_request ∷ [])
    pub history : history_of (Req put_request ∷ []) ≡ put_request ∷ []

  abbrev pub SessionRunEnds : Type 0
  SessionRunEnds = MayAll m 1 (opening (three 2 1)) session_run × SessionRun (run m 1 (opening (three 2 1)) session_run)

  -- ---- a prefix synchronised

  -- The commit of the leader is obeyed by the follower that has taken its log, and not yet by the one that answered it.
  abbrev pub sync_run : List Move
  sync_run =
      Submit 0 put_op [] ∷ Stamp 0 put_request ∷ logs 0 (stamp_of 1 1 put_request) ++ logs 1 (stamp_of 1 1 put_request)
      ++ logs 2 (stamp_of 1 1 put_request)
      ++ Acts 0 OpenSync ∷ Acts 1 (Overlay 0 (Req put_request ∷ [])) ∷ Acts 0 (CountSyncVote 1 1)
      ∷ Acts 2 (Overlay 0 (Req put_request ∷ [])) ∷ Acts 2 (Obey 1) ∷ []

  pub record SyncRun (c : Conf) : Type 0 where
    pub first : StandsAt (c.replicas 0) first_view (Req put_request ∷ []) 1
    pub second : StandsAt (c.replicas 1) first_view (Req put_request ∷ []) 0
    pub third : StandsAt (c.replicas 2) first_view (Req put_request ∷ []) 1
    pub lines : c.lines ≡ lines.Submit put_request ∷ []
    pub main : MainLog 1 (last_normals c) c.past first_view (Req put_request ∷ [])
    pub history : history_of (Req put_request ∷ []) ≡ put_request ∷ []

  abbrev pub SyncRunEnds : Type 0
  SyncRunEnds = MayAll m 1 (opening (three 1 1)) sync_run × SyncRun (run m 1 (opening (three 1 1)) sync_run)

  -- Then the leader sends its log again, now with its sync point, and the one that answered first takes it from there.
  abbrev pub log_sent_run : List Move
  log_sent_run = Acts 0 (Say (SyncPrepare 1 (Req put_request ∷ []))) ∷ Acts 1 (Overlay 1 (Req put_request ∷ [])) ∷ []

  pub record LogSentRun (c : Conf) : Type 0 where
    pub second : StandsAt (c.replicas 1) first_view (Req put_request ∷ []) 1
    pub replies : c.replies ≡ (run m 1 (opening (three 1 1)) sync_run).replies

  abbrev pub LogSentRunEnds : Type 0
  LogSentRunEnds = MayAll m 1 (run m 1 (opening (three 1 1)) sync_run) log_sent_run
      × LogSentRun (run m 1 (run m 1 (opening (three 1 1)) sync_run) log_sent_run)
