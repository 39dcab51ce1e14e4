-- A leader opens its view by one move, and takes what is in front.
use Rattle.std.proofs.Common.{◌≡◌, ◌<◌, ℕ, Bool, true, false, Option, Some, None, refl, sym, ap, subst, ◌∙◌, length, List, ◌++◌}
use Rattle.std.proofs.Common.{map}
use Rattle.std.specs.Option.{option_map}
use Rattle.std.specs.Prelude.{◌==◌, nat_lt, take}
use Rattle.std.proofs.lemmas.List.{append-nil, append_assoc, length-map}
use Rattle.std.proofs.lemmas.Bool.{ltb-true}
use Rattle.nop_types.specs.Logs.{Whole}
use Rattle.nop_types.specs.Meaning.{Meaning}
use Rattle.nop_types.specs.declared.datagram.Reply.{Reply}
use Rattle.nop_types.specs.declared.request.Entry.{Entry}
use Rattle.nop_types.specs.declared.peer.Body.TheVariants as bodies
use Rattle.nop_types.specs.declared.peer.Change.{Change}
use Rattle.nop_types.specs.Logs.{Log}
use Rattle.nop_types.specs.PlainChanges.{plain}
use Rattle.log_merge.specs.Merging.{kept_changes, merged}
use Rattle.log_merge.specs.Starting.{start_of}
use Rattle.view_change.specs.Gathering.{Gathering}
use Rattle.replica_state.specs.declared.sending.Sending.{Sending}
use Rattle.replica_state.specs.declared.state.ReplicaState.{ReplicaState}
use Rattle.replica_state.specs.Moves.{adopted, adopt, open_view, open_if_enough, drain}
use Rattle.replica_state.specs.Replies.{replies_above}
use Rattle.replica_state.specs.Sends.{Effect, then_do, when, to_all}
use Rattle.replica_state.specs.State.{max_faults}
use Rattle.protocol.specs.Conf as conf
use Rattle.protocol.specs.Conf.{Conf}
use Rattle.protocol.specs.LocalState.{LocalState}
use Rattle.protocol.specs.Moves as moves
use Rattle.protocol.specs.Replies as replying
use Rattle.protocol.specs.Moves.{MayOpenView, say_all}
use Rattle.protocol.specs.Runs.{OpenView, run}
use Rattle.protocol.specs.Said.{Said, StartView}
use Rattle.refinement.specs.Projection.{local_state_of, plain_gathering, said_in, replied_in}
use Rattle.refinement.specs.Replicas.{Matches, ReplicaReaches}
use Rattle.refinement.proofs.Adopting.{adopted_same, adopted_meet}
use Rattle.refinement.proofs.Composing.{matches_end, move_reaches, nothing_reaches, reaches_then_in_view}
use Rattle.refinement.proofs.Draining.{drain_in_view}
use Rattle.refinement.proofs.Gatherings.{start_entries, start_sync_point}
use Rattle.refinement.proofs.Same.{Same, said_above, replied_above}
use Rattle.refinement.proofs.Splices.{Begins, open_begins}
use Rattle.refinement.proofs.Sends.{said_in-append, replied_in-append, said_in-to_all, replied_in-to_all}

-- moves do the step, and it enters no view
pub record EntersNone {S : Type 0} (m : Meaning S) (f : ℕ) (c : Conf) (r : ℕ) (s : ReplicaState) (e : Effect) : Type 0 where
  pub reaches : ReplicaReaches m f c r s e
  pub view : e.0.view ≡ s.view

module _ {S : Type 0} (m : Meaning S) where
  module _ (s : ReplicaState) (g : Gathering Change) where
    abbrev next : ℕ
    next = (start_of g.view (map plain g.changes)).next

    abbrev log : Log
    log = merged Whole (kept_changes g.changes)

    -- the view is adopted
    abbrev start : ReplicaState
    start = adopted Whole s s.view next log

    abbrev start_sent : List Sending
    start_sent = to_all s (bodies.StartView next log)

    abbrev replies : List Sending
    replies = replies_above m Whole start start.sync.sync_point

    -- before what is in front is taken
    abbrev pub opened : Effect
    opened = (start, start_sent ++ replies)

    -- a view that starts with this log
    abbrev started : ℕ → List Entry → conf.Effect
    started z l = moves.adopt_saying m (say_all (local_state_of s) (StartView next z l)) (local_state_of s) s.view next z l

    started_same : Begins s.log log.entries → Same opened (started log.sync_point log.entries)
    started_same begins =
        let same = adopted_same s s.view next log begins in
        record {
          state = same;
          said =
              said_in-append start_sent replies
              ∙ ap (λ (xs : List Said). xs ++ said_in replies) (said_in-to_all (max_faults s == 0) s (bodies.StartView next log))
              ∙ ap (λ (xs : List Said). say_all (local_state_of s) (StartView next log.sync_point log.entries) ++ xs)
              (said_above m start start.sync.sync_point)
              ∙ append-nil (say_all (local_state_of s) (StartView next log.sync_point log.entries));
          replies =
              replied_in-append start_sent replies
              ∙ ap (λ (xs : List Reply). xs ++ replied_in replies) (replied_in-to_all (max_faults s == 0) s (bodies.StartView next log))
              ∙ replied_above m start start.sync.sync_point
              ∙ ap (λ (p : LocalState). replying.replies_above m p start.sync.sync_point) same;
        }

    -- it is the log that the protocol starts the view with
    started_is : started log.sync_point log.entries ≡ moves.open_view m (local_state_of s) (plain_gathering g)
    started_is = λ i. started (start_sync_point g.changes i) (start_entries g.changes i)

    pub opened_same : Begins s.log (start_of g.view (map plain g.changes)).log
        → Same opened (moves.open_view m (local_state_of s) (plain_gathering g))
    opened_same begins =
        subst (λ (x : conf.Effect). Same opened x) started_is
        (started_same (begins ∙ ap (λ (l : List Entry). take s.log.sync_point l) (sym (start_entries g.changes))))

    pub open_view_is : open_view m Whole g s ≡ then_do opened (drain m Whole)
    unfolding adopt
    open_view_is =
        ap (λ (xs : List Sending). ((drain m Whole start).0, xs)) (sym (append_assoc start_sent replies (drain m Whole start).1))

module _ {S : Type 0} (m : Meaning S) (f : ℕ) (r : ℕ) where
  pub open_view_reaches : (c : Conf) (s : ReplicaState) (g : Gathering Change) → Matches m f c r s
      → MayOpenView (local_state_of s) (plain_gathering g)
      → EntersNone m f c r s (open_view m Whole g s)
  open_view_reaches c s g h may =
      let one = move_reaches m f r c s (opened m s g) (OpenView (plain_gathering g)) h may
      (opened_same m s g (open_begins m f c r s h (plain_gathering g) may))
      (adopted_meet s s.view (next m s g) (log m s g) h.points) in
      let two = drain_in_view m f r (run m f c one.moves) (opened m s g).0 (matches_end m f r c s (opened m s g) h one) in
      subst (EntersNone m f c r s) (sym (open_view_is m s g)) (record {
        reaches =
            reaches_then_in_view m f r c s (opened m s g) (drain m Whole) h one (λ d i. drain_in_view m f r d (opened m s g).0 i);
        view = two.stays.view;
      })

  open_when : (b : Bool) (c : Conf) (s : ReplicaState) (g : Gathering Change) → Matches m f c r s → s.changes ≡ Some g
      → nat_lt g.f (length g.changes) ≡ b → EntersNone m f c r s (when b (open_view m Whole g) s)
  open_when true c s g h gathers e =
      open_view_reaches c s g h (record {
        gathers = ap (λ (o : Option (Gathering Change)). option_map plain_gathering o) gathers;
        enough = subst (λ (n : ℕ). g.f < n) (sym (length-map g.changes plain)) (ltb-true g.f (length g.changes) e);
      })
  open_when false c s g h gathers e = record { reaches = nothing_reaches m f r c s s h refl h.points; view = refl }

  open_by : (o : Option (Gathering Change)) (c : Conf) (s : ReplicaState) → Matches m f c r s → s.changes ≡ o
      → EntersNone m f c r s (open_if_enough m Whole o s)
  open_by None c s h e = record { reaches = nothing_reaches m f r c s s h refl h.points; view = refl }
  open_by (Some g) c s h e = open_when (nat_lt g.f (length g.changes)) c s g h e refl

  -- where enough changes are there
  pub open_if_enough_reaches : (c : Conf) (s : ReplicaState) → Matches m f c r s
      → EntersNone m f c r s (open_if_enough m Whole s.changes s)
  open_if_enough_reaches c s h = open_by s.changes c s h refl
