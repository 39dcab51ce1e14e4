-- Each move of the core is that of the protocol.
use Rattle.std.proofs.Common.{◌≡◌, ℕ, Bool, true, false, Option, Some, None, refl, ap, ◌∙◌, List, [], ◌∷◌, ◌++◌, length}
use Rattle.std.specs.Prelude.{◌==◌, ◌+◌, drop, max}
use Rattle.std.proofs.lemmas.List.{append-nil}
use Rattle.nop_types.specs.Logs.{Log, Whole}
use Rattle.nop_types.specs.Meaning.{Meaning}
use Rattle.nop_types.specs.Execution.{result_at}
use Rattle.nop_types.specs.declared.datagram.Reply.{Reply}
use Rattle.nop_types.specs.declared.request.Request.{Request}
use Rattle.nop_types.specs.declared.request.Entry.{Entry}
use Rattle.nop_types.specs.declared.request.Entry.TheVariants.{NoOp, Req}
use Rattle.nop_types.specs.declared.replica_state.Vote.{Vote}
use Rattle.nop_types.specs.declared.replica_state.Vote.TheVariants.{Settled, Waiting}
use Rattle.nop_types.specs.declared.peer.Body.TheVariants as bodies
use Rattle.nop_types.specs.declared.view.View.{View}
use Rattle.nop_types.specs.Logs as logs
use Rattle.nop_types.specs.PlainChanges.{Change}
use Rattle.nop_types.specs.Slots.{laid}
use Rattle.slot_votes.specs.Synchronisation.{vote_for}
use Rattle.view_change.specs.Gathering as gathering
use Rattle.view_change.specs.Gathering.{Gathering}
use Rattle.replica_state.specs.declared.sending.Sending.{Sending}
use Rattle.replica_state.specs.declared.state.ReplicaState.{ReplicaState}
use Rattle.replica_state.specs.State as core_state
use Rattle.replica_state.specs.Sends as core_sends
use Rattle.replica_state.specs.Sends.{to_all_if, to_leader}
use Rattle.replica_state.specs.Replies as core_replies
use Rattle.replica_state.specs.Replies.{reply_to}
use Rattle.replica_state.specs.Moves as core
use Rattle.replica_state.specs.Moves.{open_gap, enter, overlay}
use Rattle.protocol.specs.Conf.{Effect}
use Rattle.protocol.specs.LocalState.{LocalState}
use Rattle.protocol.specs.Said.{Said, Plain, ViewChange, SyncPrepare}
use Rattle.protocol.specs.Replies as replies
use Rattle.protocol.specs.Moves as moves
use Rattle.refinement.specs.Projection.{local_state_of, said_in, replied_in}
use Rattle.refinement.proofs.Sends.{said_in-append, replied_in-append, said_in-to_all, replied_in-to_all}

-- the core's effect is that of the move
pub record Same (e : core_sends.Effect) (x : Effect) : Type 0 where
  pub state : local_state_of e.0 ≡ x.state
  pub said : said_in e.1 ≡ x.said
  pub replies : replied_in e.1 ≡ x.replies

-- ---- replies

leader_said : (s : ReplicaState) (slot : ℕ) (r : Request) (o : Option (List ℕ)) → said_in (core_replies.leader_reply s slot r o) ≡ []
leader_said s slot r None = refl
leader_said s slot r (Some result) = refl

leader_replied : (s : ReplicaState) (slot : ℕ) (r : Request) (o : Option (List ℕ))
    → replied_in (core_replies.leader_reply s slot r o) ≡ replies.leader_reply (local_state_of s) slot r o
leader_replied s slot r None = refl
leader_replied s slot r (Some result) = refl

module _ {S : Type 0} (m : Meaning S) where
  reply_said_if : (b : Bool) (s : ReplicaState) (slot : ℕ) (r : Request) → said_in (core_replies.reply_if m Whole b s slot r) ≡ []
  reply_said_if true s slot r = leader_said s slot r (result_at m s.log.entries slot)
  reply_said_if false s slot r = refl

  reply_replied_if : (b : Bool) (s : ReplicaState) (slot : ℕ) (r : Request)
      → replied_in (core_replies.reply_if m Whole b s slot r) ≡ replies.reply_if m b (local_state_of s) slot r
  reply_replied_if true s slot r = leader_replied s slot r (result_at m s.log.entries slot)
  reply_replied_if false s slot r = refl

  reply_said : (s : ReplicaState) (slot : ℕ) (r : Request) → said_in (reply_to m Whole s slot r) ≡ []
  unfolding reply_to
  reply_said s slot r = reply_said_if (core_state.leads s) s slot r

  reply_replied : (s : ReplicaState) (slot : ℕ) (r : Request)
      → replied_in (reply_to m Whole s slot r) ≡ replies.reply_to m (local_state_of s) slot r
  unfolding reply_to
  reply_replied s slot r = reply_replied_if (core_state.leads s) s slot r

  entry_said : (s : ReplicaState) (slot : ℕ) (e : Entry) → said_in (core_replies.reply_for m Whole s slot e) ≡ []
  entry_said s slot NoOp = refl
  entry_said s slot (Req r) = reply_said s slot r

  entry_replied : (s : ReplicaState) (slot : ℕ) (e : Entry)
      → replied_in (core_replies.reply_for m Whole s slot e) ≡ replies.reply_for m (local_state_of s) slot e
  entry_replied s slot NoOp = refl
  entry_replied s slot (Req r) = reply_replied s slot r

  replies_said : (s : ReplicaState) (slot : ℕ) (l : List Entry) → said_in (core_replies.replies_to m Whole s slot l) ≡ []
  replies_said s slot [] = refl
  replies_said s slot (e ∷ l) =
      said_in-append (core_replies.reply_for m Whole s slot e) (core_replies.replies_to m Whole s (slot + 1) l)
      ∙ ap (λ (xs : List Said). xs ++ said_in (core_replies.replies_to m Whole s (slot + 1) l)) (entry_said s slot e)
      ∙ replies_said s (slot + 1) l

  replies_replied : (s : ReplicaState) (slot : ℕ) (l : List Entry)
      → replied_in (core_replies.replies_to m Whole s slot l) ≡ replies.replies_to m (local_state_of s) slot l
  replies_replied s slot [] = refl
  replies_replied s slot (e ∷ l) =
      replied_in-append (core_replies.reply_for m Whole s slot e) (core_replies.replies_to m Whole s (slot + 1) l)
      ∙ ap (λ (xs : List Reply). xs ++ replied_in (core_replies.replies_to m Whole s (slot + 1) l)) (entry_replied s slot e)
      ∙ ap (λ (xs : List Reply). replies.reply_for m (local_state_of s) slot e ++ xs) (replies_replied s (slot + 1) l)

  -- the replies for the slots above one
  pub said_above : (s : ReplicaState) (slot : ℕ) → said_in (core_replies.replies_above m Whole s slot) ≡ []
  said_above s slot = replies_said s (slot + 1) (drop slot s.log.entries)

  pub replied_above : (s : ReplicaState) (slot : ℕ)
      → replied_in (core_replies.replies_above m Whole s slot) ≡ replies.replies_above m (local_state_of s) slot
  replied_above s slot = replies_replied s (slot + 1) (drop slot s.log.entries)

  -- ---- moves that reply

  pub take_front_same : (s : ReplicaState) (r : Request) → Same (core.take_front m Whole s r) (moves.take_front m (local_state_of s) r)
  take_front_same s r = record {
    state = refl;
    said = reply_said (core.logged s r) (length s.log.entries + 1) r;
    replies = reply_replied (core.logged s r) (length s.log.entries + 1) r;
  }

  pub fill_same : (s : ReplicaState) (r : Request) → Same (core.fill m Whole s r) (moves.fill m (local_state_of s) r)
  fill_same s r = record {
    state = refl;
    said = reply_said (core.appended s (Req r)) (length s.log.entries + 1) r;
    replies = reply_replied (core.appended s (Req r)) (length s.log.entries + 1) r;
  }

  -- where to keep the own entries up to the sync point is to take all
  pub overlay_same : (s : ReplicaState) (l : Log) → (logs.overlaid Whole l s.log).entries ≡ laid l.entries s.log.entries
      → Same (overlay m Whole s l) (moves.overlay m (local_state_of s) l.sync_point l.entries)
  unfolding overlay
  overlay_same s l same =
      let state : local_state_of (core.overlaid Whole s l) ≡ moves.overlaid (local_state_of s) l.sync_point l.entries =
      ap (λ (k : List Entry). record (moves.overlaid (local_state_of s) l.sync_point l.entries) { log = k }) same in
      let t : ReplicaState = core.overlaid Whole s l in
      let n : ℕ = max (length s.log.entries) t.sync.sync_point in
      let above : List Sending = core_replies.replies_above m Whole t n in
      let vote : List Sending = to_leader s (bodies.SyncRep (length l.entries)) in
      record {
        state = state;
        said = said_in-append above vote ∙ ap (λ (xs : List Said). xs ++ said_in vote) (said_above t n);
        replies =
            replied_in-append above vote
            ∙ append-nil (replied_in above)
            ∙ replied_above t n
            ∙ ap (λ (p : LocalState). replies.replies_above m p n) state;
      }

-- ---- moves of one place

pub open_gap_same : (s : ReplicaState) → Same (open_gap Whole s) (moves.open_gap (local_state_of s))
unfolding open_gap
open_gap_same s = record {
  state = refl;
  said = said_in-to_all (core_state.max_faults s == 0) s (bodies.GapCommit (length s.log.entries + 1));
  replies = replied_in-to_all (core_state.max_faults s == 0) s (bodies.GapCommit (length s.log.entries + 1));
}

pub open_sync_same : (s : ReplicaState) → core_state.PointsMeet s → Same (core.open_sync Whole s) (moves.open_sync (local_state_of s))
open_sync_same s points = record {
  state = refl;
  said =
      said_in-to_all (core_state.max_faults s == 0) s (bodies.SyncPrepare s.log)
      ∙ ap (λ (z : ℕ). moves.say_all (local_state_of s) (SyncPrepare z s.log.entries)) points;
  replies = replied_in-to_all (core_state.max_faults s == 0) s (bodies.SyncPrepare s.log);
}

pub repeat_commit_same : (s : ReplicaState) → Same (core.repeat_commit s) (moves.repeat_commit (local_state_of s))
repeat_commit_same s = record {
  state = refl;
  said = said_in-to_all (core_state.max_faults s == 0) s (bodies.SyncCommit s.sync.sync_point);
  replies = replied_in-to_all (core_state.max_faults s == 0) s (bodies.SyncCommit s.sync.sync_point);
}

commit_said : (s : ReplicaState) (k : ℕ) (v : Vote) → said_in (core.commit_if s k v) ≡ moves.commit_if (local_state_of s) k v
commit_said s k Settled = said_in-to_all (core_state.max_faults s == 0) s (bodies.SyncCommit k)
commit_said s k Waiting = refl

commit_replied : (s : ReplicaState) (k : ℕ) (v : Vote) → replied_in (core.commit_if s k v) ≡ []
commit_replied s k Settled = replied_in-to_all (core_state.max_faults s == 0) s (bodies.SyncCommit k)
commit_replied s k Waiting = refl

pub count_sync_vote_same : (s : ReplicaState) (q k : ℕ) → Same (core.count_sync_vote s q k) (moves.count_sync_vote (local_state_of s) q k)
count_sync_vote_same s q k = record {
  state = refl;
  said = commit_said s k (vote_for s.sync q k);
  replies = commit_replied s k (vote_for s.sync q k);
}

-- ---- a view is entered

-- what a leader begins to gather with, told with this sync point
abbrev own_gathering : ReplicaState → ℕ → Gathering Change
own_gathering s z = gathering.entered s.view (core_state.max_faults s) (record {
  sender = s.number;
  last_normal = s.last_normal;
  next = s.next;
  sync_point = z;
  log = s.log.entries;
})

-- the own log is sent with the own sync point
pub change_said : (s : ReplicaState) → core_state.PointsMeet s
    → said_in (core.change_sent s) ≡ moves.say (local_state_of s) (ViewChange s.last_normal s.next s.sync.sync_point s.log.entries)
change_said s points = ap (λ (z : ℕ). moves.say (local_state_of s) (ViewChange s.last_normal s.next z s.log.entries)) points

enter_as_same : (b : Bool) (s : ReplicaState) → core_state.PointsMeet s → Same (core.enter_as b s) (moves.enter_as b (local_state_of s))
enter_as_same true s points = record {
  state = ap (λ (z : ℕ). record (local_state_of s) { changes = Some (own_gathering s z) }) points;
  said = said_in-to_all (core_state.max_faults s == 0) s bodies.ViewChangeReq;
  replies = replied_in-to_all (core_state.max_faults s == 0) s bodies.ViewChangeReq;
}
enter_as_same false s points =
    let asked : List Sending = to_all_if (core_state.max_faults s == 0) s bodies.ViewChangeReq in
    let vote : List Sending = core.change_sent s in
    record {
      state = refl;
      said =
          said_in-append asked vote
          ∙ ap (λ (xs : List Said). xs ++ said_in vote) (said_in-to_all (core_state.max_faults s == 0) s bodies.ViewChangeReq)
          ∙ ap (λ (xs : List Said). moves.say_all (local_state_of s) Plain ++ xs) (change_said s points);
      replies =
          replied_in-append asked vote
          ∙ ap (λ (xs : List Reply). xs ++ replied_in vote) (replied_in-to_all (core_state.max_faults s == 0) s bodies.ViewChangeReq);
    }

pub enter_same : (s : ReplicaState) (v : View) → core_state.PointsMeet s → Same (enter s v) (moves.enter (local_state_of s) v)
unfolding enter
enter_same s v points = enter_as_same (core_state.leads (core.entered s v)) (core.entered s v) points
