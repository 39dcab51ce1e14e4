-- What an observer has executed, against the protocol: over whole logs.
use Rattle.std.specs.Prelude.{◌≡◌, ◌≤◌, ◌⊎◌, ℕ, List, length, take, IfSome}
use Rattle.nop_types.specs.Execution.{opening}
use Rattle.nop_types.specs.Histories.{history_of}
use Rattle.nop_types.specs.Lists.{Has, IsPrefixOf}
use Rattle.nop_types.specs.Logs.{Whole}
use Rattle.nop_types.specs.Meaning.{Meaning}
use Rattle.nop_types.specs.declared.peer.Peer.{Peer}
use Rattle.nop_types.specs.declared.request.Entry.{Entry}
use Rattle.nop_types.specs.declared.view.View.{View}
use Rattle.execution_laws.specs.Execution.{execute_all}
use Rattle.started_views.specs.Past.{LeaderHad}
use Rattle.protocol.specs.Conf.{Conf, DidSay}
use Rattle.protocol.specs.Invariant.{Inv}
use Rattle.protocol.specs.Said.{SyncPrepare}
use Rattle.protocol_sync.specs.Laws.{IsMainLog}
use Rattle.protocol_sync.specs.Synced.{Anchored, Sync}
use Rattle.refinement.specs.Projection.{said_of}
use Rattle.observer.specs.Observing.{Candidate, Observing, position, told, answer, opening as unread}
use Rattle.observer_laws.specs.Trimmed.{ObservingFits, TellsPlain}

-- a leader told this log in this view
pub record WasPrepared (c : Conf) (x : Candidate) : Type 0 where
  pub sender : ℕ
  pub said : DidSay c.said sender x.view (SyncPrepare x.log.sync_point x.log.entries)

-- these slots begin the log of a view's leader, and as many are synchronised in the view or below
pub record Watches (f : ℕ) (c : Conf) (entries : List Entry) (s : ℕ) : Type 0 where
  pub view : View
  pub lead : List Entry
  pub leads : LeaderHad f c.past view lead
  pub begins : IsPrefixOf entries lead
  pub anchored : Anchored f c view s

-- an observer whatever it received of what was said
pub record Watched (f : ℕ) (c : Conf) (s : Observing) : Type 0 where
  pub fits : ObservingFits s
  pub known : (position s ≡ 0) ⊎ Watches f c s.known.entries (position s)
  pub candidate : IfSome s.candidate (WasPrepared c)

-- at first nothing is executed
abbrev pub OpensWatched : Type 0
OpensWatched = (f : ℕ) (c : Conf) → Watched f c unread

-- what was said at any time, in whatever order and how often, keeps it so
abbrev pub RowsAreWatched : {S : Type 0} → Meaning S → Type 0
RowsAreWatched m = (f : ℕ) (c : Conf) → Inv m f c → Sync f c → (n : ℕ) (s : Observing) (p : Peer) → Watched f c s
    → Has c.said (said_of p) → TellsPlain p.body → Watched f c (told m Whole n s p)

-- what is read is that of the members of the history in the first slots of the log from which it is read
pub record ReadsMain {S : Type 0} (m : Meaning S) (main : List Entry) (s : Observing) : Type 0 where
  pub within : position s ≤ length main
  pub begins : take (position s) s.known.entries ≡ take (position s) main
  pub members : IsPrefixOf (history_of (take (position s) main)) (history_of main)
  pub answers : (op : List ℕ) → answer m Whole s op
      ≡ m.answer (execute_all m (opening m) (history_of (take (position s) main))).host op

abbrev pub WatchedReadMain : {S : Type 0} → Meaning S → Type 0
WatchedReadMain m = (f : ℕ) (c : Conf) → Inv m f c → Sync f c → (v : View) (main : List Entry) → IsMainLog f c v main
    → (s : Observing) → Watched f c s → ReadsMain m main s

-- and its candidate begins the log of its view's leader
abbrev pub CandidatesBegin : {S : Type 0} → Meaning S → Type 0
CandidatesBegin m = (f : ℕ) (c : Conf) → Inv m f c → (s : Observing) → Watched f c s
    → IfSome s.candidate (λ x. (lead : List Entry) × LeaderHad f c.past x.view lead × IsPrefixOf x.log.entries lead)
