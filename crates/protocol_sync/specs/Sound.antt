-- Soundness: what holds of all that was stamped, said, logged, replied and accepted.
use Rattle.std.specs.Prelude.{◌≡◌, ◌⊎◌, ◌≤◌, ◌<◌, ◌+◌, ◌-◌, ◌*◌, ℕ, List, [], length, take, Some, slice_get}
use Rattle.std.specs.FinMap as finite
use Rattle.nop_types.specs.declared.view.View.{View}
use Rattle.nop_types.specs.declared.replica_state.Phase.TheVariants.{Normal, Change}
use Rattle.nop_types.specs.declared.request.Request.{Request}
use Rattle.nop_types.specs.declared.request.Entry.{Entry}
use Rattle.nop_types.specs.declared.request.Entry.TheVariants.{NoOp, Req}
use Rattle.nop_types.specs.declared.datagram.Stamped.{Stamped}
use Rattle.nop_types.specs.declared.datagram.Reply.{Reply}
use Rattle.nop_types.specs.PlainChanges as plain
use Rattle.nop_types.specs.Execution.{result_at}
use Rattle.nop_types.specs.Legality.{IsOf, IsSubmittedBefore}
use Rattle.nop_types.specs.Lines.{Accept}
use Rattle.nop_types.specs.Lists.{Has, IsPrefixOf, slot_of}
use Rattle.nop_types.specs.Meaning.{Meaning}
use Rattle.nop_types.specs.Sessions.{home}
use Rattle.nop_types.specs.Stamps.{WasStamped}
use Rattle.nop_types.specs.Views.{AtMost, Below, Comparable, first_view, leader_of}
use Rattle.client_quorum.specs.OpenRequests.{IsOpen, kept_for}
use Rattle.slot_votes.specs.Agreement.{Agreement}
use Rattle.log_merge.specs.Starting.{Start, start_of}
use Rattle.started_views.specs.Logs.{SameTo}
use Rattle.started_views.specs.Past.{Entered, HadLog, LeaderHad, IsStart, IsStarted}
use Rattle.started_views.specs.Quorums.{Quorum, Others}
use Rattle.started_views.specs.Settled.{Certificate}
use Rattle.slot_votes.specs.Synchronisation.{Round}
use Rattle.view_change.specs.Gathering.{IsOfSender}
use Rattle.protocol.specs.Conf.{Conf, DidSay, Settled, WasSubmitted, Owns}
use Rattle.protocol.specs.Invariant.{Replied}
use Rattle.protocol.specs.LocalState.{LocalState, PlainGathering}
use Rattle.protocol.specs.Said.{Said, Found, GapCommit, GapRep, ViewChange, StartView, SyncPrepare, SyncRep, SyncCommit}
use Rattle.protocol.specs.Truth.{LeaderHas}
use Rattle.protocol_sync.specs.Synced.{SyncRises}

-- ---- what was stamped, submitted and kept

-- one packet for each session and number; a session has one sequencer, and is at most its controller's; its sequencer has passed each
-- number that it stamped there
pub record StampsAreSound (c : Conf) : Type 0 where
  pub once : (a b : Stamped) → Has c.stamps a → Has c.stamps b → a.session ≡ b.session → a.number ≡ b.number → a ≡ b
  pub stamped : (p : Stamped) → Has c.stamps p → (j : ℕ) × Owns c.installs j p.session
  pub sequencers : (j : ℕ) → 1 ≤ (c.sequencers j).session → Owns c.installs j (c.sequencers j).session
  pub one_owner : (i j session : ℕ) → Owns c.installs i session → Owns c.installs j session → i ≡ j
  pub known : (j session : ℕ) → Owns c.installs j session → session ≤ (c.controllers (home session)).session
  pub passed : (p : Stamped) (j : ℕ) → Has c.stamps p → p.session ≡ (c.sequencers j).session → p.number < (c.sequencers j).next

-- the session went to a sequencer, and is at most its controller's
pub record SessionIsSound (c : Conf) (session : ℕ) : Type 0 where
  pub owner : ℕ
  pub owns : Owns c.installs owner session
  pub known : session ≤ (c.controllers (home session)).session

-- so is that of each view: one that a replica is in, or had a log in, and that of each message and reply
pub record SessionsAreSound (c : Conf) : Type 0 where
  pub views : (r : ℕ) → SessionIsSound c (c.replicas r).view.session
  pub had : (r : ℕ) (w : View) (l : List Entry) → HadLog c.past r w l → SessionIsSound c w.session
  pub said : (x : Said) → Has c.said x → SessionIsSound c x.view.session
  pub replies : (p : Reply) → Has c.replies p → SessionIsSound c p.view.session

-- each request of the log was submitted
abbrev pub AreSubmitted : Conf → List Entry → Type 0
AreSubmitted c l = (q : Request) → Has l (Req q) → WasSubmitted c.lines q

-- each request, wherever it is, was submitted
pub record RequestsAreSubmitted (f : ℕ) (c : Conf) : Type 0 where
  pub sent : (q : Request) → Has c.requests q → WasSubmitted c.lines q
  pub stamped : (p : Stamped) → Has c.stamps p → WasSubmitted c.lines p.request
  pub opened : (k : ℕ) (q : Request) → IsOpen (c.clients k) q → WasSubmitted c.lines q
  pub queued : (r number : ℕ) (q : Request) → r < 2 * f + 1 → finite.get (c.replicas r).receiver.queued number ≡ Some q
      → WasSubmitted c.lines q
  pub logged : (r : ℕ) → r < 2 * f + 1 → AreSubmitted c (c.replicas r).log
  pub had : (r : ℕ) (w : View) (l : List Entry) → HadLog c.past r w l → AreSubmitted c l
  pub entered : (r : ℕ) (v : View) (e : Entered) → c.past.entry r v ≡ Some e → AreSubmitted c e.log
  pub started : (w : View) (x : Start) → IsStart c.past w x → AreSubmitted c x.log
  pub gathered : (r : ℕ) (g : PlainGathering) (x : plain.Change) → r < 2 * f + 1 → (c.replicas r).changes ≡ Some g → Has g.changes x
      → AreSubmitted c x.log
  pub found : (q : ℕ) (w : View) (k : ℕ) (r : Request) → DidSay c.said q w (Found k r) → WasSubmitted c.lines r
  pub changes : (q : ℕ) (w u : View) (x z : ℕ) (l : List Entry) → DidSay c.said q w (ViewChange u x z l) → AreSubmitted c l
  pub starts : (q : ℕ) (w : View) (x z : ℕ) (l : List Entry) → DidSay c.said q w (StartView x z l) → AreSubmitted c l
  pub prepares : (q : ℕ) (w : View) (z : ℕ) (l : List Entry) → DidSay c.said q w (SyncPrepare z l) → AreSubmitted c l

-- each request that is queued was stamped with the session and its number, and each reply that is kept was sent by a replica for an open
-- request
pub record KeptWasSent (f : ℕ) (c : Conf) : Type 0 where
  pub queued : (r number : ℕ) (q : Request) → r < 2 * f + 1 → finite.get (c.replicas r).receiver.queued number ≡ Some q
      → WasStamped c.stamps (c.replicas r).view.session number q
  pub replies : (k id : ℕ) (p : Reply) → Has (kept_for (c.clients k) id) p → Has c.replies p
  pub expected : (k id : ℕ) (p : Reply) → Has (kept_for (c.clients k) id) p → (q : Request) × IsOpen (c.clients k) q × IsOf p.client p.id q

-- ---- what is synchronised

-- f others said in a started view that they have the first s slots of its leader; these begin the log, and the start of each later view
pub record PrefixIsSynchronised (f : ℕ) (c : Conf) (w : View) (l : List Entry) (s : ℕ) : Type 0 where
  pub view : View
  pub started : IsStarted c.past view
  pub at_most : AtMost view w
  pub others : Others f (leader_of view (2 * f + 1)) (λ q. DidSay c.said q view (SyncRep s))
  pub lead : List Entry
  pub leads : LeaderHad f c.past view lead
  pub within : s ≤ length lead
  pub begins : IsPrefixOf (take s lead) l
  pub kept : (v : View) (x : Start) → Below view v → IsStart c.past v x → IsPrefixOf (take s lead) x.log

-- ---- views

-- the content of a ViewChange is what its sender had when it entered the view: the log of its last normal view, with its number, and
-- its sync point, up to which that log is synchronised
pub record ChangeIsSound (f : ℕ) (c : Conf) (r : ℕ) (v u : View) (x z : ℕ) (l : List Entry) : Type 0 where
  pub entered : c.past.entry r v ≡ Some (record { last_normal = u; next = x; sync_point = z; log = l })
  pub had : HadLog c.past r u l
  pub start : Start
  pub is_start : IsStart c.past u start
  pub next : x ≡ start.next + length l - length start.log
  pub point : 1 ≤ z → PrefixIsSynchronised f c u l z
  pub one : (w : View) (y o : ℕ) (k : List Entry) → DidSay c.said r v (ViewChange w y o k) → (w ≡ u) × (y ≡ x) × (o ≡ z) × (k ≡ l)

-- a last normal view is started; it is the view in Normal, and below it in Change; a replica's ViewChanges for a view have one content
pub record ViewsAreSound (f : ℕ) (c : Conf) : Type 0 where
  pub started : (r : ℕ) → r < 2 * f + 1 → IsStarted c.past (c.replicas r).last_normal
  pub normal : (r : ℕ) → r < 2 * f + 1 → (c.replicas r).status ≡ Normal → (c.replicas r).last_normal ≡ (c.replicas r).view
  pub change : (r : ℕ) → r < 2 * f + 1 → (c.replicas r).status ≡ Change → Below (c.replicas r).last_normal (c.replicas r).view
  pub changes : (r : ℕ) (v u : View) (x z : ℕ) (l : List Entry) → DidSay c.said r v (ViewChange u x z l)
      → ChangeIsSound f c r v u x z l

-- ---- starts

-- f + 1 replicas entered the view, the leader among them, and it was started by the rule from what they entered it with
pub record StartIsSound (f : ℕ) (c : Conf) (w : View) (x : Start) : Type 0 where
  pub changes : List plain.Change
  pub entered : Certificate f c.past w changes
  pub leader : IsOfSender plain.sender_of changes (leader_of w (2 * f + 1))
  pub opens : x ≡ start_of w changes

-- a StartView has a prefix of its leader's log, no shorter than the start, the number that belongs to its length, and a sync point
-- up to which the log is synchronised
pub record IsGoodStart (f : ℕ) (c : Conf) (q : ℕ) (w : View) (x z : ℕ) (l : List Entry) : Type 0 where
  pub sender : q ≡ leader_of w (2 * f + 1)
  pub start : Start
  pub is_start : IsStart c.past w start
  pub begins : IsPrefixOf start.log l
  pub lead : List Entry
  pub leads : LeaderHad f c.past w lead
  pub of_lead : IsPrefixOf l lead
  pub next : x ≡ start.next + length l - length start.log
  pub point : 1 ≤ z → PrefixIsSynchronised f c w l z

-- of any two started views one is at most the other
pub record StartsAreSound (f : ℕ) (c : Conf) : Type 0 where
  pub first : IsStart c.past first_view (record { next = 1; log = [] })
  pub by : (w : View) (x : Start) → IsStart c.past w x → (w ≡ first_view → ⊥) → StartIsSound f c w x
  pub sent : (q : ℕ) (w : View) (x z : ℕ) (l : List Entry) → DidSay c.said q w (StartView x z l) → IsGoodStart f c q w x z l
  pub comparable : (v w : View) → IsStarted c.past v → IsStarted c.past w → Comparable v w

-- ---- the logs of a view

-- above the start a slot has the request that was stamped with its number, or a NO-OP that the leader announced
abbrev pub EntryIsSound : ℕ → Conf → View → (number slot : ℕ) → Entry → Type 0
EntryIsSound f c w number k (Req q) = WasStamped c.stamps w.session number q
EntryIsSound f c w number k NoOp = (f ≡ 0) ⊎ DidSay c.said (leader_of w (2 * f + 1)) w (GapCommit k)

pub record LogsAreSound (f : ℕ) (c : Conf) : Type 0 where
  pub current : (r : ℕ) → r < 2 * f + 1 → HadLog c.past r (c.replicas r).last_normal (c.replicas r).log
  pub begins : (r : ℕ) (w : View) (l : List Entry) (x : Start) → HadLog c.past r w l → IsStart c.past w x → IsPrefixOf x.log l
  pub slots : (r : ℕ) (w : View) (l : List Entry) (x : Start) (k : ℕ) (e : Entry) → HadLog c.past r w l → IsStart c.past w x
      → length x.log < k → slot_of l k ≡ Some e
      → EntryIsSound f c w (x.next + (k - length x.log - 1)) k e

-- ---- the log of the leader

-- the replica waits in the view for votes for a gap in the slot
abbrev pub WaitsAt : LocalState → View → ℕ → Type 0
WaitsAt p w k = (p.view ≡ w) × (g : Agreement) × (p.gap ≡ Some g) × (g.slot ≡ k)

-- a NO-OP that is not settled is in the last slot, no SyncPrepare of that length was sent, and the leader waits for votes or has left the
-- view
pub record IsUnsettled (f : ℕ) (c : Conf) (w : View) (m : List Entry) (k : ℕ) : Type 0 where
  pub last : k ≡ length m
  pub unprepared : (q z : ℕ) (l : List Entry) → DidSay c.said q w (SyncPrepare z l) → length l ≡ k → ⊥
  pub waits : WaitsAt (c.replicas (leader_of w (2 * f + 1))) w k ⊎ Below w (c.replicas (leader_of w (2 * f + 1))).view

-- the leader of its view sent a SyncPrepare: its log begins with this one, which is synchronised up to the sync point
pub record PrepareIsSound (f : ℕ) (c : Conf) (q : ℕ) (w : View) (z : ℕ) (l : List Entry) : Type 0 where
  pub sender : q ≡ leader_of w (2 * f + 1)
  pub lead : List Entry
  pub leads : LeaderHad f c.past w lead
  pub begins : IsPrefixOf l lead
  pub point : 1 ≤ z → PrefixIsSynchronised f c w l z

pub record LeadersAreSound (f : ℕ) (c : Conf) : Type 0 where
  pub found : (q : ℕ) (w : View) (k : ℕ) (r : Request) → DidSay c.said q w (Found k r) → LeaderHas f c q w k (Req r)
  pub gap_commits : (q : ℕ) (w : View) (k : ℕ) → DidSay c.said q w (GapCommit k) → LeaderHas f c q w k NoOp
  pub prepares : (q : ℕ) (w : View) (z : ℕ) (l : List Entry) → DidSay c.said q w (SyncPrepare z l) → PrepareIsSound f c q w z l
  pub noops : (w : View) (m : List Entry) (x : Start) (k : ℕ) → LeaderHad f c.past w m → IsStart c.past w x → length x.log < k
      → slot_of m k ≡ Some NoOp
      → Settled f c.said w k ⊎ IsUnsettled f c w m k

-- ---- answers to gaps

pub record VotesAreSound (f : ℕ) (c : Conf) : Type 0 where
  pub replies : (q : ℕ) (w : View) (k : ℕ) → DidSay c.said q w (GapRep k)
      → (l : List Entry) × HadLog c.past q w l × (slot_of l k ≡ Some NoOp)
  pub gap : (r : ℕ) (g : Agreement) (q : ℕ) → r < 2 * f + 1 → (c.replicas r).gap ≡ Some g → Has g.votes q
      → DidSay c.said q (c.replicas r).view (GapRep g.slot)
  pub sync : (r : ℕ) (x : Round) (q : ℕ) → r < 2 * f + 1 → (c.replicas r).sync.syncing ≡ Some x → Has x.votes q
      → DidSay c.said q (c.replicas r).view (SyncRep x.len)

-- ---- replies

-- who replied had the slot; and the leader's reply is for the request there, with its result
pub record ReplyIsSound {S : Type 0} (m : Meaning S) (f : ℕ) (c : Conf) (p : Reply) : Type 0 where
  pub low : 1 ≤ p.slot
  pub log : List Entry
  pub had : HadLog c.past p.replica p.view log
  pub within : p.slot ≤ length log
  pub leads : p.replica ≡ leader_of p.view (2 * f + 1) → (q : Request) × (slot_of log p.slot ≡ Some (Req q)) × IsOf p.client p.id q
      × (p.tag ≡ 1) × (result_at m log p.slot ≡ Some p.result)

abbrev pub RepliesAreSound : {S : Type 0} → Meaning S → ℕ → Conf → Type 0
RepliesAreSound m f c = (p : Reply) → Has c.replies p → ReplyIsSound m f c p

-- ---- answers to a SyncPrepare

-- the sender agrees with its leader up to there
pub record SyncReplyIsSound (f : ℕ) (c : Conf) (q : ℕ) (w : View) (s : ℕ) : Type 0 where
  pub log : List Entry
  pub had : HadLog c.past q w log
  pub lead : List Entry
  pub leads : LeaderHad f c.past w lead
  pub within : s ≤ length lead
  pub same : SameTo s log lead

-- and what a follower has prepared it has said
pub record SyncRepliesAreSound (f : ℕ) (c : Conf) : Type 0 where
  pub replies : (q : ℕ) (w : View) (s : ℕ) → DidSay c.said q w (SyncRep s) → SyncReplyIsSound f c q w s
  pub prepared : (r : ℕ) → r < 2 * f + 1 → 1 ≤ (c.replicas r).sync.prepared
      → DidSay c.said r (c.replicas r).view (SyncRep (c.replicas r).sync.prepared)

-- ---- numbers

-- a replica's next number is as far above that of its view's start as its log is longer
abbrev pub NumbersAreSound : ℕ → Conf → Type 0
NumbersAreSound f c = (r : ℕ) (x : Start) → r < 2 * f + 1 → IsStart c.past (c.replicas r).last_normal x
    → (c.replicas r).next ≡ x.next + length (c.replicas r).log - length x.log

-- ---- sync points

-- the leader of its view sent a SyncCommit: its log is synchronised so far
pub record CommitIsSound (f : ℕ) (c : Conf) (q : ℕ) (w : View) (s : ℕ) : Type 0 where
  pub sender : q ≡ leader_of w (2 * f + 1)
  pub lead : List Entry
  pub leads : LeaderHad f c.past w lead
  pub point : 1 ≤ s → PrefixIsSynchronised f c w lead s

pub record SyncPointsAreSound (f : ℕ) (c : Conf) : Type 0 where
  pub points : (r : ℕ) → r < 2 * f + 1 → 1 ≤ (c.replicas r).sync.sync_point
      → PrefixIsSynchronised f c (c.replicas r).last_normal (c.replicas r).log (c.replicas r).sync.sync_point
  pub commits : (q : ℕ) (w : View) (s : ℕ) → DidSay c.said q w (SyncCommit s) → CommitIsSound f c q w s

-- ---- accepts

-- f + 1 replicas replied at one view and slot, the leader among them with this result; its log had the slot, with a request of the pair
-- there and this result, and all requests up to there were submitted before. These slots begin each later start
pub record AcceptIsSound {S : Type 0} (m : Meaning S) (f : ℕ) (c : Conf) (k client id : ℕ) (result : List ℕ) : Type 0 where
  pub view : View
  pub slot : ℕ
  pub quorum : Quorum f (Replied c.replies view slot client id)
  pub leader : Has quorum.members (leader_of view (2 * f + 1))
  pub reply : Replied c.replies view slot client id (leader_of view (2 * f + 1))
  pub gives : reply.reply.result ≡ result
  pub lead : List Entry
  pub leads : LeaderHad f c.past view lead
  pub within : slot ≤ length lead
  pub request : Request
  pub entry : slot_of lead slot ≡ Some (Req request)
  pub same : IsOf client id request
  pub answers : result_at m lead slot ≡ Some result
  pub known : (q : Request) → Has (take slot lead) (Req q) → IsSubmittedBefore c.lines k q.client q.id
  pub kept : (v : View) (x : Start) → Below view v → IsStart c.past v x → IsPrefixOf (take slot lead) x.log

abbrev pub AcceptsAreSound : {S : Type 0} → Meaning S → ℕ → Conf → Type 0
AcceptsAreSound m f c = (k client id : ℕ) (result : List ℕ) → slice_get c.lines k ≡ Some (Accept client id result)
    → AcceptIsSound m f c k client id result

-- ---- all of it

pub record Sound {S : Type 0} (m : Meaning S) (f : ℕ) (c : Conf) : Type 0 where
  pub stamps : StampsAreSound c
  pub sessions : SessionsAreSound c
  pub requests : RequestsAreSubmitted f c
  pub kept : KeptWasSent f c
  pub views : ViewsAreSound f c
  pub starts : StartsAreSound f c
  pub logs : LogsAreSound f c
  pub leaders : LeadersAreSound f c
  pub votes : VotesAreSound f c
  pub replies : RepliesAreSound m f c
  pub sync_replies : SyncRepliesAreSound f c
  pub numbers : NumbersAreSound f c
  pub sync_points : SyncPointsAreSound f c
  pub accepts : AcceptsAreSound m f c

-- ---- from one configuration to a later one

-- neither a sequencer's session falls, nor a replica's view, last normal view and sync point; the log of a leader only grows, and what is
-- synchronised stays
pub record GoesOn (f : ℕ) (c d : Conf) : Type 0 where
  pub sessions : (j : ℕ) → (c.sequencers j).session ≤ (d.sequencers j).session
  pub numbers : (j : ℕ) → (c.sequencers j).session ≡ (d.sequencers j).session → (c.sequencers j).next ≤ (d.sequencers j).next
  pub views : (r : ℕ) → AtMost (c.replicas r).view (d.replicas r).view
  pub last_normals : (r : ℕ) → AtMost (c.replicas r).last_normal (d.replicas r).last_normal
  pub leaders : (w : View) (m n : List Entry) → LeaderHad f c.past w m → LeaderHad f d.past w n → IsPrefixOf m n
  pub starts : (w : View) (x : Start) → IsStart c.past w x → IsStart d.past w x
  pub lines : IsPrefixOf c.lines d.lines
  pub synchronised : SyncRises f c d
