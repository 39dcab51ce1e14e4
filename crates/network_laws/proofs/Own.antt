-- A row keeps its replica's number and configuration, sends under that number alone, and sends messages to replicas of the configuration.
use Rattle.std.proofs.Common.{◌≡◌, ℕ, zero, suc, ◌+◌, Bool, true, false, Option, Some, None, refl, subst, List, [], ◌∷◌, ◌++◌}
use Rattle.std.proofs.Common.{◌≤◌, ◌<◌, arith, map}
use Rattle.std.proofs.lemmas.Bool.{and_parts, ltb-true}
use Rattle.std.specs.Prelude.{⊤, max, not, nat_le, nat_lt, ◌&&◌, ◌==◌}
use Rattle.std.specs.List.{AllByRecursion}
use Rattle.nop_types.specs.CheckpointedLogs.{slot_result}
use Rattle.nop_types.specs.Logs.{Log, Keeping, length_of, above}
use Rattle.nop_types.specs.Meaning.{Meaning}
use Rattle.nop_types.specs.PlainChanges.{plain}
use Rattle.nop_types.specs.Views.{join_of}
use Rattle.nop_types.specs.declared.view.View.{View}
use Rattle.nop_types.specs.declared.replica_state.Vote.{Vote}
use Rattle.nop_types.specs.declared.replica_state.Vote.TheVariants.{Settled, Waiting}
use Rattle.nop_types.specs.declared.request.Request.{Request}
use Rattle.nop_types.specs.declared.request.Entry.{Entry}
use Rattle.nop_types.specs.declared.request.Entry.TheVariants.{NoOp, Req}
use Rattle.nop_types.specs.declared.peer.Peer.{Peer}
use Rattle.nop_types.specs.declared.peer.Body.{Body}
use Rattle.nop_types.specs.declared.peer.Body.TheVariants as bodies
use Rattle.log_merge.specs.Merging.{kept_changes, merged}
use Rattle.log_merge.specs.Starting.{start_of}
use Rattle.oum_receiver.specs.Front.{Front, Nothing, Message, Dropped}
use Rattle.oum_receiver.specs.Receiving.{front_of}
use Rattle.slot_votes.specs.Synchronisation.{vote_for}
use Rattle.replica_state.specs.declared.sending.Sending.{Sending}
use Rattle.replica_state.specs.declared.state.ReplicaState.{ReplicaState}
use Rattle.replica_state.specs.State.{max_faults, leader, leads, is_normal, drains, waits}
use Rattle.replica_state.specs.State.{is_other, may_trim}
use Rattle.replica_state.specs.Sends.{Effect, then_do, when, to_replica, to_leader, to_all, to_all_if}
use Rattle.replica_state.specs.Replies.{reply_to, reply_if, leader_reply, reply_for, replies_to, replies_above}
use Rattle.replica_state.specs.Moves.{ask_if, open_gap, drain_drop, drain_at, drain_by, drain, entered, logged}
use Rattle.replica_state.specs.Moves.{enter_as, enter, change_sent, adopted, adopt, open_with, overlaid, overlay}
use Rattle.replica_state.specs.Moves.{commit_if, appended, begin_session, hear, sync_commit}
use Rattle.replica_state.specs.Moves.{trim, take_front, session_view, obey, count_sync_vote}
use Rattle.replica_state.specs.Repeating.{sync_if, sync}
use Rattle.replica_rows.specs.Rows as rows
use Rattle.replica_rows.specs.Messages.{Arrival, arrive}
use Rattle.replica_rows.proofs.EachRow.{arrive_row}
use Rattle.replica_rows.proofs.EachMove.{Kept, all_behind, then_kept, when_kept, EachMove, each_row}
use Rattle.network_laws.specs.Sends.{IsBy, GoesAmong}

-- sent under a number, and where it is a message, to replicas of so many
record IsOwn (number count : ℕ) (x : Sending) : Type 0 where
  by : IsBy number x
  to : GoesAmong count x

-- who leads a view is one of the replicas
leads_among : (s : ReplicaState) → 1 ≤ s.config.replicas → leader s < s.config.replicas
leads_among s some = omega arith

module _ (number count : ℕ) where
  -- the replica with this number, of so many
  abbrev Is : ReplicaState → Type 0
  Is s = (s.number ≡ number) × (s.config.replicas ≡ count)

  abbrev AllOwn : List Sending → Type 0
  AllOwn sends = AllByRecursion (IsOwn number count) sends

  abbrev Own : Effect → Type 0
  Own e = Kept Is (IsOwn number count) e

  own : (s : ReplicaState) (sends : List Sending) → Is s → AllOwn sends → Own (s, sends)
  own s sends is all = record { state = is; sends = all }

  -- whatever the state of this replica
  record AlwaysOwn (f : ReplicaState → Effect) : Type 0 where
    at : (s : ReplicaState) → Is s → Own (f s)

  then_own : (e : Effect) (f : ReplicaState → Effect) → Own e → (Is e.0 → Own (f e.0)) → Own (then_do e f)
  then_own e f h g = then_kept Is (IsOwn number count) e f h g

  both_own : (a b : List Sending) → AllOwn a → AllOwn b → AllOwn (a ++ b)
  both_own a b f g = all_behind Is (IsOwn number count) a b f g

  -- ---- messages

  leader_own : (s : ReplicaState) (body : Body) → Is s → AllOwn (to_leader s body)
  leader_own s body is = (record { by = is.0; to = subst (λ (n : ℕ). 1 ≤ n → leader s < n) is.1 (leads_among s) }, tt)

  replica_own : (s : ReplicaState) (q : ℕ) (body : Body) → Is s → q < count → AllOwn (to_replica s q body)
  replica_own s q body is among = (record { by = is.0; to = λ some. among }, tt)

  all_if_own : (b : Bool) (s : ReplicaState) (body : Body) → Is s → AllOwn (to_all_if b s body)
  all_if_own true s body is = tt
  all_if_own false s body is = (record { by = is.0; to = tt }, tt)

  all_own : (s : ReplicaState) (body : Body) → Is s → AllOwn (to_all s body)
  all_own s body is = all_if_own (max_faults s == 0) s body is

  module _ {S : Type 0} (m : Meaning S) (k : Keeping) where
    -- ---- replies

    leader_reply_own : (s : ReplicaState) (slot : ℕ) (r : Request) (o : Option (List ℕ)) → Is s → AllOwn (leader_reply s slot r o)
    leader_reply_own s slot r None is = tt
    leader_reply_own s slot r (Some result) is = (record { by = is.0; to = tt }, tt)

    reply_if_own : (b : Bool) (s : ReplicaState) (slot : ℕ) (r : Request) → Is s → AllOwn (reply_if m k b s slot r)
    reply_if_own true s slot r is = leader_reply_own s slot r (slot_result m k s.log slot) is
    reply_if_own false s slot r is = (record { by = is.0; to = tt }, tt)

    reply_own : (s : ReplicaState) (slot : ℕ) (r : Request) → Is s → AllOwn (reply_to m k s slot r)
    unfolding reply_to
    reply_own s slot r is = reply_if_own (leads s) s slot r is

    entry_own : (s : ReplicaState) (slot : ℕ) (e : Entry) → Is s → AllOwn (reply_for m k s slot e)
    entry_own s slot NoOp is = tt
    entry_own s slot (Req r) is = reply_own s slot r is

    replies_own : (s : ReplicaState) (slot : ℕ) (l : List Entry) → Is s → AllOwn (replies_to m k s slot l)
    replies_own s slot [] is = tt
    replies_own s slot (e ∷ l) is =
        both_own (reply_for m k s slot e) (replies_to m k s (slot + 1) l) (entry_own s slot e is) (replies_own s (slot + 1) l is)

    above_own : (s : ReplicaState) (slot : ℕ) → Is s → AllOwn (replies_above m k s slot)
    above_own s slot is = replies_own s (slot + 1) (above k s.log slot) is

    -- ---- drains

    open_gap_own : (s : ReplicaState) → Is s → Own (open_gap k s)
    unfolding open_gap
    open_gap_own s is = record { state = is; sends = all_own s _ is }

    ask_own : (b : Bool) (s : ReplicaState) → Is s → Own (ask_if k b s)
    ask_own true s is = own s [] is tt
    ask_own false s is = record { state = is; sends = leader_own s _ is }

    drop_own : (b : Bool) (again : ReplicaState → Effect) (s : ReplicaState) → AlwaysOwn again → Is s → Own (drain_drop k again b s)
    drop_own true again s rest is = then_own (open_gap k s) again (open_gap_own s is) (rest.at (open_gap k s).0)
    drop_own false again s rest is = ask_own (s.asked == length_of k s.log + 1) s is

    drain_at_own : (again : ReplicaState → Effect) (s : ReplicaState) (b : Bool) (front : Front) → AlwaysOwn again → Is s
        → Own (drain_at m k again s b front)
    drain_at_own again s true (Message r) rest is =
        then_own (take_front m k s r) again (own (logged s r) _ is (reply_own (logged s r) (length_of k s.log + 1) r is))
        (rest.at (logged s r))
    drain_at_own again s true Dropped rest is = drop_own (leads s) again s rest is
    drain_at_own again s true Nothing rest is = own s [] is tt
    drain_at_own again s false front rest is = own s [] is tt

    drain_by_own : (room : ℕ) → AlwaysOwn (drain_by m k room)
    drain_by_own zero = record { at = λ s is. own s [] is tt }
    drain_by_own (suc room) =
        record { at = λ s is. drain_at_own (drain_by m k room) s (drains k s) (front_of s.receiver) (drain_by_own room) is }

    drain_own : (s : ReplicaState) → Is s → Own (drain m k s)
    unfolding drain
    drain_own s is = (drain_by_own _).at s is

    -- the entries that move out of the log go to nobody
    raise_if_own : (b : Bool) (s : ReplicaState) → Is s → Own (when b (λ t. then_do (trim m k t) (drain m k)) s)
    raise_if_own true s is =
        then_own (trim m k s) (drain m k) (record { state = is; sends = (record { by = tt; to = tt }, tt) }) (drain_own (trim m k s).0)
    raise_if_own false s is = own s [] is tt

    and_trim : (e : Effect) → Own e → Own (then_do e (rows.trim_and_drain m k))
    and_trim e h = then_own e (rows.trim_and_drain m k) h (raise_if_own (may_trim e.0) e.0)

    -- ---- views

    enter_as_own : (b : Bool) (s : ReplicaState) → Is s → Own (enter_as b s)
    enter_as_own true s is = record { state = is; sends = all_own s bodies.ViewChangeReq is }
    enter_as_own false s is =
        own s _ is (both_own (to_all s bodies.ViewChangeReq) (change_sent s) (all_own s bodies.ViewChangeReq is) (leader_own s _ is))

    enter_own : (s : ReplicaState) (v : View) → Is s → Own (enter s v)
    unfolding enter
    enter_own s v is = enter_as_own (leads (entered s v)) (entered s v) is

    adopt_own : (s : ReplicaState) (v : View) (x : ℕ) (l : Log) → Is s → Own (adopt m k s v x l)
    unfolding adopt
    adopt_own s v x l is =
        let t : ReplicaState = adopted k s v x l in
        then_own (t, replies_above m k t t.sync.sync_point) (drain m k) (own t _ is (above_own t t.sync.sync_point is)) (drain_own t)

    open_with_own : (s : ReplicaState) (x : ℕ) (l : Log) → Is s → Own (open_with m k s x l)
    open_with_own s x l is =
        then_own (s, to_all s (bodies.StartView x l)) (λ t. adopt m k t t.view x l) (own s _ is (all_own s (bodies.StartView x l) is))
        (adopt_own s s.view x l)

    -- ---- sync points

    overlay_own : (s : ReplicaState) (l : Log) → Is s → Own (overlay m k s l)
    unfolding overlay
    overlay_own s l is =
        let t : ReplicaState = overlaid k s l in
        let least : ℕ = max (length_of k s.log) t.sync.sync_point in
        own t _ is (both_own (replies_above m k t least) _ (above_own t least is) (leader_own s _ is))

    commit_own : (n : ℕ) (s : ReplicaState) → Is s → Own (sync_commit n s)
    unfolding sync_commit
    commit_own n s is = when_kept Is (IsOwn number count) (nat_le n s.sync.prepared) (λ t. obey (hear t) n) s is (λ _. record { state = is; sends = tt })

    commit_row_own : (n : ℕ) (s : ReplicaState) → Is s → Own (rows.sync_commit m k n s)
    unfolding rows.sync_commit
    commit_row_own n s is = and_trim (sync_commit n s) (commit_own n s is)

    commit_if_own : (s : ReplicaState) (n : ℕ) (v : Vote) → Is s → AllOwn (commit_if s n v)
    commit_if_own s n Settled is = all_own s (bodies.SyncCommit n) is
    commit_if_own s n Waiting is = tt

    sync_reply_own : (q n : ℕ) (s : ReplicaState) → Is s → Own (rows.sync_reply m k q n s)
    unfolding rows.sync_reply
    sync_reply_own q n s is = and_trim (count_sync_vote s q n) (record { state = is; sends = commit_if_own s n (vote_for s.sync q n) is })

    sync_if_own : (b : Bool) (s : ReplicaState) → Is s → Own (sync_if k b s)
    sync_if_own true s is = record { state = is; sends = all_own s (bodies.SyncPrepare s.log) is }
    sync_if_own false s is = own s _ is (all_own s (bodies.SyncCommit s.sync.sync_point) is)

    sync_own : (s : ReplicaState) → Is s → Own (sync k s)
    unfolding sync
    sync_own s is =
        when_kept Is (IsOwn number count) (is_normal s.status && (leads s && not (waits s.gap)))
        (λ t. sync_if k (nat_lt t.sync.sync_point (length_of k t.log)) t) s is
        (λ _. sync_if_own (nat_lt s.sync.sync_point (length_of k s.log)) s is)

    sync_row_own : (s : ReplicaState) → Is s → Own (rows.sync m k s)
    unfolding rows.sync
    sync_row_own s is = and_trim (sync k s) (sync_own s is)

    -- ---- all that arrives

    move_owns : EachMove m k Is (λ p. ⊤) (λ p. p.sender < count) (IsOwn number count) (λ s e. Own e)
    move_owns = record {
      ends = λ s e is h. h;
      sync_commit = λ s p n is g. commit_row_own n s is;
      sync_reply = λ s p n is g. sync_reply_own p.sender n s is;
      sync = sync_row_own;
      drain = drain_own;
      queue = λ s p is f. is;
      session = λ s p is f. enter_own (begin_session s p) (session_view s p) is;
      join = λ s p is g. enter_own s (join_of s.view p.view) is;
      next = λ s is e. enter_own s (rows.next_leader s.view) is;
      opens = λ s g is e many. open_with_own s (start_of g.view (map plain g.changes)).next (merged k (kept_changes g.changes)) is;
      gather = λ s p u x l g is f e. is;
      start_again = λ s p is g. replica_own s p.sender _ is g;
      adopt = λ s p x l is g. adopt_own s p.view x l is;
      write_gap = λ s p n is g. record { state = is; sends = leader_own (hear s) (bodies.GapRep n) is };
      add_gap = λ s is may. record { state = is; sends = leader_own (hear s) (bodies.GapRep (length_of k s.log + 1)) is };
      fill = λ s p n r is g may. record { state = is; sends = reply_own (appended (hear s) (Req r)) (length_of k s.log + 1) r is };
      overlay = λ s p l is g high. overlay_own (hear s) l is;
      synced = λ s p is g. replica_own s p.sender _ is g;
      found_again = λ s p n r is g e. replica_own s p.sender (bodies.Found n r) is g;
      gap_told = λ s p n is g. replica_own s p.sender (bodies.GapCommit n) is g;
      open_gap = λ s n is e high. open_gap_own s is;
      vote = λ s g q is e. is;
      unheard = λ s is. is;
      request_again = λ s is. all_own s bodies.ViewChangeReq is;
      change_again = λ s is. leader_own s _ is;
      gap_again = λ s g is e. all_own s (bodies.GapCommit g.slot) is;
      lookup_again = λ s is room. leader_own s _ is;
    }

-- a message that is taken comes from another replica
other_among : (s : ReplicaState) (p : Peer) → is_other s p.sender ≡ true → p.sender < s.config.replicas
other_among s p is =
    ltb-true p.sender s.config.replicas (and_parts (nat_lt p.sender s.config.replicas) (not (p.sender == s.number)) is).0

arrive_own : {S : Type 0} (m : Meaning S) (k : Keeping) (s : ReplicaState) (a : Arrival)
    → Own s.number s.config.replicas (arrive m k s a)
arrive_own m k s a =
    arrive_row m k _ _ _ _ (each_row m k _ _ _ _ _ (move_owns s.number s.config.replicas m k)) s a (refl, refl) (λ p e. tt)
    (λ p e is. other_among s p is)

pub arrive_keeps_number : {S : Type 0} (m : Meaning S) (k : Keeping) (s : ReplicaState) (a : Arrival) → (arrive m k s a).0.number ≡ s.number
arrive_keeps_number m k s a = (arrive_own m k s a).state.0

pub arrive_keeps_count : {S : Type 0} (m : Meaning S) (k : Keeping) (s : ReplicaState) (a : Arrival)
    → (arrive m k s a).0.config.replicas ≡ s.config.replicas
arrive_keeps_count m k s a = (arrive_own m k s a).state.1

own_by : (number count : ℕ) (sends : List Sending) → AllOwn number count sends → AllByRecursion (IsBy number) sends
own_by number count [] h = tt
own_by number count (x ∷ sends) h = (h.0.by, own_by number count sends h.1)

own_to : (number count : ℕ) (sends : List Sending) → AllOwn number count sends → AllByRecursion (GoesAmong count) sends
own_to number count [] h = tt
own_to number count (x ∷ sends) h = (h.0.to, own_to number count sends h.1)

pub arrive_sends_own : {S : Type 0} (m : Meaning S) (k : Keeping) (s : ReplicaState) (a : Arrival)
    → AllByRecursion (IsBy s.number) (arrive m k s a).1
arrive_sends_own m k s a = own_by s.number s.config.replicas (arrive m k s a).1 (arrive_own m k s a).sends

pub arrive_goes_among : {S : Type 0} (m : Meaning S) (k : Keeping) (s : ReplicaState) (a : Arrival)
    → AllByRecursion (GoesAmong s.config.replicas) (arrive m k s a).1
arrive_goes_among m k s a = own_to s.number s.config.replicas (arrive m k s a).1 (arrive_own m k s a).sends
