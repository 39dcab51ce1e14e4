-- What holds of the actors and their past in each world of a run. What speaks of old things is said positively, so that it lasts.
use Rattle.std.specs.Prelude.{◌≡◌, ◌⊎◌, ◌≤◌, ◌<◌, ◌+◌, ◌-◌, ◌*◌, ℕ, false, List, Option, length, map, take, Some, None, slice_get}
use Rattle.nop_types.specs.declared.limits.TheConstants.{WINDOW}
use Rattle.nop_types.specs.declared.view.View.{View}
use Rattle.nop_types.specs.declared.replica_state.Phase.{Phase}
use Rattle.nop_types.specs.declared.replica_state.Phase.TheVariants.{Normal, Change}
use Rattle.nop_types.specs.declared.request.Request.{Request}
use Rattle.nop_types.specs.declared.request.Entry.{Entry}
use Rattle.nop_types.specs.declared.request.Entry.TheVariants.{NoOp, Req}
use Rattle.nop_types.specs.declared.datagram.Stamped.{Stamped}
use Rattle.nop_types.specs.declared.datagram.Reply.{Reply}
use Rattle.nop_types.specs.declared.output.Accept.{Accept as Acceptance}
use Rattle.nop_types.specs.PlainChanges as plain
use Rattle.nop_types.specs.Execution.{result_at}
use Rattle.nop_types.specs.Legality.{IsOf, IsSubmittedBefore, AcceptedOnce}
use Rattle.nop_types.specs.Lines.{Accept}
use Rattle.nop_types.specs.Lists.{Has, IsPrefixOf, slot_of}
use Rattle.nop_types.specs.Meaning.{Meaning}
use Rattle.nop_types.specs.Sessions.{home}
use Rattle.nop_types.specs.Stamps.{WasStamped}
use Rattle.nop_types.specs.Views.{AtMost, Below, Comparable, first_view, leader_of}
use Rattle.execution_laws.specs.Legality.{SubmittedOnce}
use Rattle.client_quorum.specs.OpenRequests.{IsOpen, kept_for}
use Rattle.client_quorum.specs.declared.state.ClientState.{ClientState}
use Rattle.slot_votes.specs.Agreement.{Agreement}
use Rattle.log_merge.specs.Starting.{Start, start_of}
use Rattle.oum_receiver.specs.Receiving.{Receiving}
use Rattle.oum_receiver.specs.Runs.{IsStampedBy}
use Rattle.sequencer.specs.declared.state.SequencerState.{SequencerState}
use Rattle.started_views.specs.Past.{Entered, Past, Standing, HadLog, LeaderHad, IsStart, entered_with}
use Rattle.started_views.specs.Quorums.{counts, Quorum}
use Rattle.started_views.specs.Settled.{Certificate}
use Rattle.view_change.specs.Gathering.{IsOfSender}
use Rattle.protocol.specs.Conf.{Conf, Control, Install, DidSay, Settled, WasSubmitted, Owns, HasOwner}
use Rattle.protocol.specs.LocalState.{LocalState, PlainGathering, standing}
use Rattle.protocol.specs.Said.{Said, GapCommit, GapRep}
use Rattle.protocol.specs.Truth.{TrueWord}

-- ---- sessions and stamps

-- its controller gave out the session, and it went to that one's current sequencer if it is the last
pub record TrueInstall (c : Conf) (x : Install) : Type 0 where
  pub low : 2 ≤ x.session
  pub known : x.session ≤ (c.controllers (home x.session)).session
  pub current : x.session ≡ (c.controllers (home x.session)).session → x.sequencer ≡ (c.controllers (home x.session)).current

-- no session goes to two sequencers
abbrev pub InstalledOnce : List Install → Type 0
InstalledOnce installs = (i j session : ℕ) → Has installs (record { sequencer = i; session = session })
    → Has installs (record { sequencer = j; session = session }) → i ≡ j

-- a session that is not confirmed was given out
pub record GoodControl (installs : List Install) (x : Control) : Type 0 where
  pub low : 1 ≤ x.session
  pub given : x.confirmed ≡ false → Has installs (record { sequencer = x.current; session = x.session })

pub record GoodSequencer (installs : List Install) (j : ℕ) (s : SequencerState) : Type 0 where
  pub number : s.number ≡ j
  pub owns : 1 ≤ s.session → Owns installs j s.session
  pub low : 1 ≤ s.next

-- the owner of its session has passed its number
pub record TrueStamp (c : Conf) (p : Stamped) : Type 0 where
  pub submitted : WasSubmitted c.lines p.request
  pub owner : ℕ
  pub owns : Owns c.installs owner p.session
  pub session : p.session ≤ (c.sequencers owner).session
  pub passed : p.session ≡ (c.sequencers owner).session → p.number < (c.sequencers owner).next

-- one request for each session and number
abbrev pub StampedOnce : List Stamped → Type 0
StampedOnce stamps = (session number : ℕ) (a b : Request) → WasStamped stamps session number a → WasStamped stamps session number b → a ≡ b

-- ---- the logs of a view

-- each log that a replica had in a view: it begins with the view's start, and above that each slot has the request of its number, or a
-- NO-OP that the leader has there too
pub record GoodLog (f : ℕ) (c : Conf) (r : ℕ) (w : View) (l : List Entry) : Type 0 where
  pub start : Start
  pub is_start : IsStart c.past w start
  pub lead : List Entry
  pub leads : LeaderHad f c.past w lead
  pub begins : IsPrefixOf start.log l
  pub by_number : (k : ℕ) (q : Request) → length start.log < k → slot_of l k ≡ Some (Req q)
      → WasStamped c.stamps w.session (start.next + (k - length start.log - 1)) q
  pub noops : (k : ℕ) → length start.log < k → slot_of l k ≡ Some NoOp → slot_of lead k ≡ Some NoOp
  pub submitted : (q : Request) → Has l (Req q) → WasSubmitted c.lines q
  pub session : HasOwner c.installs w.session
  -- each NO-OP of the leader is announced, and below its last slot settled
  pub announced : r ≡ leader_of w (2 * f + 1) → (k : ℕ) → length start.log < k → slot_of l k ≡ Some NoOp
      → (f ≡ 0) ⊎ DidSay c.said r w (GapCommit k)
  pub settled : r ≡ leader_of w (2 * f + 1) → (k : ℕ) → length start.log < k → k < length l → slot_of l k ≡ Some NoOp → Settled f c.said w k

-- ---- starts and entries

-- a view is started by the rule, from what a quorum entered it with, the leader among them
pub record StartedBy (f : ℕ) (past : Past) (w : View) (x : Start) : Type 0 where
  pub changes : List plain.Change
  pub certificate : Certificate f past w changes
  pub leader : IsOfSender plain.sender_of changes (leader_of w (2 * f + 1))
  pub opens : x ≡ start_of w changes

-- each view that is started: its leader had a log there, and unless it is the first view it was started by the rule
pub record GoodStart (f : ℕ) (past : Past) (w : View) (x : Start) : Type 0 where
  pub session : 1 ≤ w.session
  pub lead : List Entry
  pub leads : LeaderHad f past w lead
  pub by : (w ≡ first_view → ⊥) → StartedBy f past w x

-- each view that a replica entered: above its last normal view, with the log that it had there
pub record GoodEntry (past : Past) (r : ℕ) (view v : View) (e : Entered) : Type 0 where
  pub order : Below e.last_normal v
  pub reached : AtMost v view
  pub log : HadLog past r e.last_normal e.log
  pub start : Start
  pub is_start : IsStart past e.last_normal start
  pub counted : e.next + length start.log ≡ start.next + length e.log

-- ---- replies

-- who replied had the slot; and the leader's reply is for the request there, with its result
pub record TrueReply {S : Type 0} (m : Meaning S) (f : ℕ) (c : Conf) (p : Reply) : Type 0 where
  pub low : 1 ≤ p.slot
  pub log : List Entry
  pub had : HadLog c.past p.replica p.view log
  pub within : p.slot ≤ length log
  pub tag : p.replica ≡ leader_of p.view (2 * f + 1) → p.tag ≡ 1
  pub leads : p.replica ≡ leader_of p.view (2 * f + 1) → (q : Request) × (slot_of log p.slot ≡ Some (Req q)) × IsOf p.client p.id q
  pub gives : p.replica ≡ leader_of p.view (2 * f + 1) → result_at m log p.slot ≡ Some p.result

-- ---- a replica's own state, by the fields that each part reads

-- where it is in its view
pub record GoodPlace (f : ℕ) (past : Past) (r : ℕ) (status : Phase) (s : Standing) : Type 0 where
  pub normal : status ≡ Normal → s.last_normal ≡ s.view
  pub change : status ≡ Change → Below s.last_normal s.view
  pub start : Start
  pub is_start : IsStart past s.last_normal start
  pub counted : s.next + length start.log ≡ start.next + length s.log
  pub base : r ≡ leader_of s.last_normal (2 * f + 1) → s.base ≡ length start.log

-- what its receiver has
pub record GoodQueue (stamps : List Stamped) (view_session : ℕ) (status : Phase) (next : ℕ) (x : Receiving) : Type 0 where
  pub session : x.session ≡ view_session
  pub front : status ≡ Normal → x.next ≡ next
  pub queued : IsStampedBy stamps x

-- a gap that waits is the leader's last slot, and each vote for it was said
pub record Waits (f : ℕ) (said : List Said) (r : ℕ) (view : View) (status : Phase) (log : List Entry) (g : Agreement) : Type 0 where
  pub count : g.f ≡ f
  pub normal : status ≡ Normal
  pub leads : r ≡ leader_of view (2 * f + 1)
  pub last : g.slot ≡ length log
  pub noop : slot_of log g.slot ≡ Some NoOp
  pub once : (q : ℕ) → counts q g.votes ≤ 1
  pub within : (q : ℕ) → 1 ≤ counts q g.votes → q < 2 * f + 1
  pub apart : (q : ℕ) → 1 ≤ counts q g.votes → q ≡ r → ⊥
  pub voted : (q : ℕ) → 1 ≤ counts q g.votes → DidSay said q view (GapRep g.slot)

-- while no gap waits, a NO-OP in the leader's last slot is settled, where that is above its base
pub record GoodGap (f : ℕ) (said : List Said) (r : ℕ) (view : View) (status : Phase) (base : ℕ) (log : List Entry)
    (gap : Option Agreement) : Type 0 where
  pub waits : (g : Agreement) → gap ≡ Some g → Waits f said r view status log g
  pub last : r ≡ leader_of view (2 * f + 1) → status ≡ Normal → gap ≡ None → base < length log → slot_of log (length log) ≡ Some NoOp
      → Settled f said view (length log)

-- who gathers leads the view in Change, and each change is what its sender entered the view with
pub record Gathers (f : ℕ) (past : Past) (r : ℕ) (w : View) (status : Phase) (g : PlainGathering) : Type 0 where
  pub view : g.view ≡ w
  pub count : g.f ≡ f
  pub change : status ≡ Change
  pub leads : r ≡ leader_of w (2 * f + 1)
  pub own : IsOfSender plain.sender_of g.changes r
  pub once : (q : ℕ) → counts q (map (λ x. x.sender) g.changes) ≤ 1
  pub within : (x : plain.Change) → Has g.changes x → x.sender < 2 * f + 1
  pub entries : (x : plain.Change) → Has g.changes x
      → past.entry x.sender w ≡ Some (record { last_normal = x.last_normal; next = x.next; sync_point = x.sync_point; log = x.log })

-- what it has in Change is what it entered the view with
pub record GoodChanges (f : ℕ) (past : Past) (r : ℕ) (view : View) (status : Phase) (e : Entered)
    (changes : Option PlainGathering) : Type 0 where
  pub entered : status ≡ Change → past.entry r view ≡ Some e
  pub gathers : (g : PlainGathering) → changes ≡ Some g → Gathers f past r view status g
  pub leads : status ≡ Change → r ≡ leader_of view (2 * f + 1) → (g : PlainGathering) × (changes ≡ Some g)

pub record Own (f : ℕ) (c : Conf) (r : ℕ) (p : LocalState) : Type 0 where
  pub number : p.number ≡ r
  pub replicas : p.replicas ≡ 2 * f + 1
  pub place : GoodPlace f c.past r p.status (standing p)
  pub queue : GoodQueue c.stamps p.view.session p.status p.next p.receiver
  pub gap : GoodGap f c.said r p.view p.status p.base p.log p.gap
  pub changes : GoodChanges f c.past r p.view p.status (entered_with (standing p)) p.changes

-- ---- clients

-- a replica's reply at this view and slot, for the client and id
pub record Replied (replies : List Reply) (w : View) (slot client id r : ℕ) : Type 0 where
  pub reply : Reply
  pub sent : Has replies reply
  pub by : reply.replica ≡ r
  pub at_view : reply.view ≡ w
  pub at_slot : reply.slot ≡ slot
  pub of_client : reply.client ≡ client
  pub of_id : reply.id ≡ id

-- why the line at a place k may accept: f + 1 replicas replied at one view and slot, the leader among them, with this result; its log had
-- the slot, and each request up to there was submitted before
pub record Accepted (f : ℕ) (c : Conf) (k client id : ℕ) (result : List ℕ) : Type 0 where
  pub view : View
  pub slot : ℕ
  pub log : List Entry
  pub leads : LeaderHad f c.past view log
  pub within : slot ≤ length log
  pub quorum : Quorum f (Replied c.replies view slot client id)
  pub leaders : Replied c.replies view slot client id (leader_of view (2 * f + 1))
  pub tagged : leaders.reply.tag ≡ 1
  pub gives : leaders.reply.result ≡ result
  pub known : (q : Request) → Has (take slot log) (Req q) → IsSubmittedBefore c.lines k q.client q.id

-- an id that a client used
pub record IsUsed (s : ClientState) (id : ℕ) : Type 0 where
  pub low : 1 ≤ id
  pub high : id ≤ s.last_id

-- what was submitted and accepted, against the clients' last ids
pub record GoodLines (f : ℕ) (c : Conf) : Type 0 where
  pub submitted_once : SubmittedOnce c.lines
  pub submitted_ids : (q : Request) → WasSubmitted c.lines q → IsUsed (c.clients q.client) q.id
  pub accepted_once : AcceptedOnce c.lines
  pub accepted_ids : (client id : ℕ) (result : List ℕ) → Has c.lines (Accept client id result) → IsUsed (c.clients client) id
  pub accepted_done : (client id : ℕ) (result : List ℕ) → Has c.lines (Accept client id result) → (q : Request)
      → IsOpen (c.clients client) q → q.id ≡ id → ⊥
  pub grounds : (k client id : ℕ) (result : List ℕ) → slice_get c.lines k ≡ Some (Accept client id result) → Accepted f c k client id result

-- an open request was sent, and its id is near the last one
pub record GoodOpen (c : Conf) (k last_id : ℕ) (q : Request) : Type 0 where
  pub client : q.client ≡ k
  pub low : q.id ≤ last_id
  pub near : last_id < q.id + WINDOW
  pub submitted : WasSubmitted c.lines q
  pub sent : Has c.requests q

-- a reply that a client keeps for an id was sent by a replica, for the client and the id
pub record KeptReply (f : ℕ) (replies : List Reply) (number asked : ℕ) (p : Reply) : Type 0 where
  pub sent : Has replies p
  pub replica : p.replica < 2 * f + 1
  pub client : p.client ≡ number
  pub id : p.id ≡ asked

-- an acceptance that a client keeps: a line says it, and the ground of that line is at its slot
pub record GoodAccept (f : ℕ) (c : Conf) (number : ℕ) (a : Acceptance) : Type 0 where
  pub place : ℕ
  pub line : slice_get c.lines place ≡ Some (Accept number a.id a.result)
  pub ground : Accepted f c place number a.id a.result
  pub at_slot : ground.slot ≡ a.slot

pub record GoodClient (f : ℕ) (c : Conf) (k : ℕ) (s : ClientState) : Type 0 where
  pub number : s.number ≡ k
  pub replicas : s.config.replicas ≡ 2 * f + 1
  pub opened : (q : Request) → IsOpen s q → GoodOpen c k s.last_id q
  pub kept : (id : ℕ) (p : Reply) → Has (kept_for s id) p → KeptReply f c.replies s.number id p
  -- at most one of a replica
  pub once : (id r : ℕ) → counts r (map (λ p. p.replica) (kept_for s id)) ≤ 1
  pub recent : (a : Acceptance) → Has s.recent a → GoodAccept f c s.number a

-- ---- all of it

pub record Inv {S : Type 0} (m : Meaning S) (f : ℕ) (c : Conf) : Type 0 where
  pub requests : (r : Request) → Has c.requests r → WasSubmitted c.lines r
  pub stamps : (p : Stamped) → Has c.stamps p → TrueStamp c p
  pub stamped_once : StampedOnce c.stamps
  pub sequencers : (j : ℕ) → GoodSequencer c.installs j (c.sequencers j)
  pub installs : (x : Install) → Has c.installs x → TrueInstall c x
  pub installed_once : InstalledOnce c.installs
  pub controllers : (k : ℕ) → GoodControl c.installs (c.controllers k)
  -- each view is of a session that was given to a sequencer
  pub views : (r : ℕ) → HasOwner c.installs (c.replicas r).view.session
  pub said_views : (x : Said) → Has c.said x → HasOwner c.installs x.view.session
  pub logs : (r : ℕ) (w : View) (l : List Entry) → HadLog c.past r w l → GoodLog f c r w l
  pub reached : (r : ℕ) (w : View) (l : List Entry) → HadLog c.past r w l → AtMost w (c.replicas r).last_normal
  pub starts : (w : View) (x : Start) → IsStart c.past w x → GoodStart f c.past w x
  pub entries : (r : ℕ) (v : View) (e : Entered) → c.past.entry r v ≡ Some e → GoodEntry c.past r (c.replicas r).view v e
  pub chain : (r : ℕ) (v w : View) (d e : Entered) → c.past.entry r v ≡ Some d → c.past.entry r w ≡ Some e → Comparable v w
  pub between : (r : ℕ) (v w : View) (e : Entered) (l : List Entry) → c.past.entry r v ≡ Some e → HadLog c.past r w l
      → AtMost w e.last_normal ⊎ AtMost v w
  pub said : (x : Said) → Has c.said x → TrueWord f c x.sender x.view x.word
  pub replies : (p : Reply) → Has c.replies p → TrueReply m f c p
  pub current : (r : ℕ) → r < 2 * f + 1 → HadLog c.past r (c.replicas r).last_normal (c.replicas r).log
  pub own : (r : ℕ) → r < 2 * f + 1 → Own f c r (c.replicas r)
  pub lines : GoodLines f c
  pub clients : (k : ℕ) → GoodClient f c k (c.clients k)
