-- What holds of sync points, above what holds of logs and views.
use Rattle.std.specs.Prelude.{◌≡◌, ◌⊎◌, ◌≤◌, ◌<◌, ◌+◌, ◌*◌, ℕ, List, length, take, Some}
use Rattle.nop_types.specs.declared.view.View.{View}
use Rattle.nop_types.specs.declared.replica_state.Phase.{Phase}
use Rattle.nop_types.specs.declared.replica_state.Phase.TheVariants.{Normal}
use Rattle.nop_types.specs.declared.request.Entry.{Entry}
use Rattle.nop_types.specs.Views.{AtMost, leader_of}
use Rattle.started_views.specs.Logs.{SameTo}
use Rattle.started_views.specs.Past.{Entered, HadLog, LeaderHad, IsStarted}
use Rattle.started_views.specs.Quorums.{counts, Others}
use Rattle.slot_votes.specs.Synchronisation.{Round}
use Rattle.protocol.specs.Conf.{Conf, DidSay}
use Rattle.protocol.specs.LocalState.{LocalState}
use Rattle.protocol.specs.Said.{StartView, SyncPrepare, SyncRep, SyncCommit}

-- f others said that they have the first s slots of the leader of u, which has them
pub record Synced (f : ℕ) (c : Conf) (u : View) (s : ℕ) : Type 0 where
  pub lead : List Entry
  pub leads : LeaderHad f c.past u lead
  pub within : s ≤ length lead
  pub others : Others f (leader_of u (2 * f + 1)) (λ q. DidSay c.said q u (SyncRep s))

-- s slots are synchronised in w or below, unless s is 0
abbrev pub Anchored : ℕ → Conf → View → ℕ → Type 0
Anchored f c w s = (s ≡ 0) ⊎ ((u : View) × AtMost u w × Synced f c u s)

-- the log has the first s slots of the leader of w
pub record Agrees (f : ℕ) (c : Conf) (w : View) (l : List Entry) (s : ℕ) : Type 0 where
  pub lead : List Entry
  pub leads : LeaderHad f c.past w lead
  pub same : SameTo s l lead

-- ---- words

-- a follower had them
pub record TrueSyncRep (f : ℕ) (c : Conf) (q : ℕ) (w : View) (s : ℕ) : Type 0 where
  pub apart : q ≡ leader_of w (2 * f + 1) → ⊥
  pub log : List Entry
  pub had : HadLog c.past q w log
  pub agrees : Agrees f c w log s

pub record TrueSyncCommit (f : ℕ) (c : Conf) (q : ℕ) (w : View) (s : ℕ) : Type 0 where
  pub sender : q ≡ leader_of w (2 * f + 1)
  pub started : IsStarted c.past w
  pub anchored : Anchored f c w s

-- ---- a replica's own state

-- what a follower took from its leader, and said so
pub record HasPrepared (f : ℕ) (c : Conf) (r : ℕ) (view : View) (status : Phase) (log : List Entry) (s : ℕ) : Type 0 where
  pub normal : status ≡ Normal
  pub follows : r ≡ leader_of view (2 * f + 1) → ⊥
  pub agrees : Agrees f c view log s
  pub said : DidSay c.said r view (SyncRep s)

-- a round of a leader is of slots above its sync point that it has, and each vote was said
pub record Syncing (f : ℕ) (c : Conf) (r : ℕ) (view : View) (status : Phase) (sync_point len : ℕ) (x : Round) : Type 0 where
  pub normal : status ≡ Normal
  pub leads : r ≡ leader_of view (2 * f + 1)
  pub above : sync_point < x.len
  pub within : x.len ≤ len
  pub once : (q : ℕ) → counts q x.votes ≤ 1
  pub members : (q : ℕ) → 1 ≤ counts q x.votes → q < 2 * f + 1
  pub apart : (q : ℕ) → 1 ≤ counts q x.votes → q ≡ r → ⊥
  pub voted : (q : ℕ) → 1 ≤ counts q x.votes → DidSay c.said q view (SyncRep x.len)

pub record GoodSync (f : ℕ) (c : Conf) (r : ℕ) (p : LocalState) : Type 0 where
  pub count : p.sync.f ≡ f
  pub anchored : Anchored f c p.last_normal p.sync.sync_point
  pub agrees : Agrees f c p.last_normal p.log p.sync.sync_point
  pub prepared : 1 ≤ p.sync.prepared → HasPrepared f c r p.view p.status p.log p.sync.prepared
  pub syncing : (x : Round) → p.sync.syncing ≡ Some x → Syncing f c r p.view p.status p.sync.sync_point (length p.log) x

-- ---- sync points that are sent

-- a log that is sent in w reaches its sync point, which is anchored there
pub record GoodLog (f : ℕ) (c : Conf) (w : View) (z : ℕ) (l : List Entry) : Type 0 where
  pub within : z ≤ length l
  pub anchored : Anchored f c w z

-- what a replica entered a view with is anchored at its last normal view, whose leader has it
pub record GoodPoint (f : ℕ) (c : Conf) (e : Entered) : Type 0 where
  pub anchored : Anchored f c e.last_normal e.sync_point
  pub agrees : Agrees f c e.last_normal e.log e.sync_point

pub record Points (f : ℕ) (c : Conf) : Type 0 where
  pub entries : (r : ℕ) (v : View) (e : Entered) → c.past.entry r v ≡ Some e → GoodPoint f c e
  pub starts : (q : ℕ) (w : View) (x z : ℕ) (l : List Entry) → DidSay c.said q w (StartView x z l) → GoodLog f c w z l
  pub prepares : (q : ℕ) (w : View) (z : ℕ) (l : List Entry) → DidSay c.said q w (SyncPrepare z l) → GoodLog f c w z l

-- ---- all of it

pub record Sync (f : ℕ) (c : Conf) : Type 0 where
  pub reps : (q : ℕ) (w : View) (s : ℕ) → DidSay c.said q w (SyncRep s) → TrueSyncRep f c q w s
  pub commits : (q : ℕ) (w : View) (s : ℕ) → DidSay c.said q w (SyncCommit s) → TrueSyncCommit f c q w s
  pub own : (r : ℕ) → r < 2 * f + 1 → GoodSync f c r (c.replicas r)
  pub points : Points f c

-- no sync point falls, and what is synchronised stays
pub record SyncRises (f : ℕ) (c d : Conf) : Type 0 where
  pub points : (r : ℕ) → (c.replicas r).sync.sync_point ≤ (d.replicas r).sync.sync_point
  pub prefixes : (r : ℕ) → r < 2 * f + 1
      → take (c.replicas r).sync.sync_point (c.replicas r).log ≡ take (c.replicas r).sync.sync_point (d.replicas r).log
