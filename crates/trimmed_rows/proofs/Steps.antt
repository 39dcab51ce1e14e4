-- The steps of the worked log.
use Rattle.std.proofs.Common.{◌≡◌, ℕ, List, [], ◌∷◌, ◌++◌, Option, None, Some, refl, ap, ◌∙◌, arith}
use Rattle.std.specs.FinMap as finite
use Rattle.nop_types.specs.Checkpoints.{KeepsTo}
use Rattle.nop_types.specs.Execution.{result_at}
use Rattle.nop_types.specs.Logs.{Whole, Trimmed, whole}
use Rattle.nop_types.specs.Meaning.{Meaning}
use Rattle.nop_types.specs.declared.output.Actor.TheVariants.{Replica}
use Rattle.nop_types.specs.declared.output.Dest.TheVariants.{Replicas, One}
use Rattle.nop_types.specs.declared.peer.Body.TheVariants as bodies
use Rattle.nop_types.specs.declared.request.Entry.TheVariants.{Req}
use Rattle.slot_votes.specs.Votes.{with_vote}
use Rattle.oum_receiver.specs.Receiving.{Receiving, opened}
use Rattle.trimming.proofs.Worked.{entries-empty, entries-insert}
use Rattle.replica_state.specs.declared.sending.Sending.{Sending}
use Rattle.replica_state.specs.declared.sending.Sending.TheVariants.{ToReplicas, Trims}
use Rattle.replica_state.specs.declared.state.ReplicaState.{ReplicaState}
use Rattle.replica_state.specs.Moves as moves
use Rattle.replica_state.specs.Moves.{drain, drain_by}
use Rattle.replica_state.specs.Repeating as repeating
use Rattle.replica_state.specs.Replies.{leader_reply, reply_to}
use Rattle.replica_state.specs.Sends.{Effect, then_do}
use Rattle.replica_rows.specs.Messages as messages
use Rattle.replica_rows.specs.Messages.{Arrival, Packet, PeerMessage, arrive}
use Rattle.replica_rows.specs.Rows as rows
use Rattle.trimmed_rows.specs.Premises.{PointsWithin, ArrivesWithin}
use Rattle.trimmed_rows.specs.WorkedSteps.{WorkedSteps, put, get, stands, start, sync_of, round, stamp, says, replies, queued, synced, one}
use Rattle.trimmed_rows.specs.Trimmed.{trimmed, trimmed_arrival, trimmed_effect}
use Rattle.trimmed_rows.proofs.Draining.{stops, takes, asks}
use Rattle.oum_receiver.proofs.Lone.{lone, offered_first, front_lone, taken_lone, advanced_lone, advanced_none, front_none, front_missing}
use Rattle.trimmed_rows.proofs.Rows.{rows_trim}

module _ {S : Type 0} (m : Meaning S) where
  -- of the put alone
  put_result : result_at m (Req put ∷ []) 1 ≡ Some (m.answer m.opening put.op)
  put_result = simp (entries-insert, entries-empty, finite.get-entries)

  takes_put : (r : ℕ) (sends : List Sending)
      → reply_to m Whole (stands r one 2 (opened 1 2) (sync_of 0 0 None) 0) 1 put ++ [] ≡ sends
      → arrive m Whole (start r) (Packet (stamp 1 put)) ≡ (stands r one 2 (opened 1 2) (sync_of 0 0 None) 0, sends)
  unfolding messages.arrive rows.stamped moves.drain reply_to
  takes_put r sends same =
      let before : Receiving → ReplicaState = λ x. stands r (whole 0 []) 1 x (sync_of 0 0 None) 0 in
      let after : Receiving → ReplicaState = λ x. stands r one 2 x (sync_of 0 0 None) 0 in
      ap (λ (x : Receiving). drain m Whole (before x)) (offered_first 1 1 1 put (omega arith))
      ∙ takes m 4095 (before (lone 1 1 1 put)) put refl (front_lone 1 1 put)
      ∙ ap (λ (x : Receiving). then_do (after x, reply_to m Whole (after x) 1 put) (drain_by m Whole 4095)) (taken_lone 1 1 put)
      ∙ ap (λ (e : Effect). (e.0, reply_to m Whole (after (opened 1 2)) 1 put ++ e.1)) (stops m 4094 (after (opened 1 2)) (front_none 1 2))
      ∙ ap (λ (xs : List Sending). (after (opened 1 2), xs)) same

  votes : arrive m Whole (stands 1 one 2 (opened 1 2) (sync_of 0 0 None) 0) (PeerMessage (says 0 (bodies.SyncPrepare one)))
      ≡ (stands 1 one 2 (opened 1 2) (sync_of 0 1 None) 0, ToReplicas (One (Replica 0)) (says 1 (bodies.SyncRep 1)) ∷ [])
  unfolding messages.arrive messages.loads_in messages.on_message rows.sync_prepare moves.overlay moves.drain
  votes =
      let after : Receiving → ReplicaState = λ x. stands 1 one 2 x (sync_of 0 1 None) 0 in
      ap (λ (x : Receiving). then_do (after x, ToReplicas (One (Replica 0)) (says 1 (bodies.SyncRep 1)) ∷ []) (drain m Whole)) (advanced_none 1 2 2)
      ∙ ap (λ (e : Effect). (e.0, ToReplicas (One (Replica 0)) (says 1 (bodies.SyncRep 1)) ∷ e.1)) (stops m 4094 (after (opened 1 2)) (front_none 1 2))

  settles : arrive m Whole (stands 0 one 2 (opened 1 2) (sync_of 0 0 round) 0) (PeerMessage (says 1 (bodies.SyncRep 1)))
      ≡ (
        stands 0 (synced m Whole []) 2 (opened 1 2) (sync_of 1 0 None) 0,
        ToReplicas Replicas (says 0 (bodies.SyncCommit 1)) ∷ Trims 1 (whole 0 (Req put ∷ [])) ∷ [],
      )
  unfolding messages.arrive messages.loads_in messages.on_message rows.sync_reply moves.drain with_vote
  settles =
      let after : ReplicaState = stands 0 (synced m Whole []) 2 (opened 1 2) (sync_of 1 0 None) 0 in
      ap (λ (e : Effect). (e.0, ToReplicas Replicas (says 0 (bodies.SyncCommit 1)) ∷ Trims 1 (whole 0 (Req put ∷ [])) ∷ e.1))
      (stops m 4095 after (front_none 1 2))

  asks_for : arrive m Whole (start 2) (Packet (stamp 2 get))
      ≡ (stands 2 (whole 0 []) 1 (queued 1 2 get) (sync_of 0 0 None) 1, ToReplicas (One (Replica 0)) (says 2 (bodies.SlotLookup 1)) ∷ [])
  unfolding messages.arrive rows.stamped moves.drain
  asks_for =
      let before : Receiving → ReplicaState = λ x. stands 2 (whole 0 []) 1 x (sync_of 0 0 None) 0 in
      ap (λ (x : Receiving). drain m Whole (before x)) (offered_first 1 1 2 get (omega arith))
      ∙ asks m 4095 (before (lone 1 1 2 get)) refl refl (front_missing 1 1 2 get (λ e. omega (arith, e)))

  goes_on : arrive m Whole (stands 2 (whole 0 []) 1 (queued 1 2 get) (sync_of 0 0 None) 1) (PeerMessage (says 0 (bodies.SyncPrepare (synced m Whole []))))
      ≡ (
        stands 2 (synced m Whole (Req get ∷ [])) 3 (opened 1 3) (sync_of 1 1 None) 1,
        ToReplicas (One (Replica 0)) (says 2 (bodies.SyncRep 1)) ∷ replies 2 2 get 0 [] ∷ [],
      )
  unfolding messages.arrive messages.loads_in messages.on_message rows.sync_prepare moves.overlay moves.drain reply_to
  goes_on =
      let middle : Receiving → ReplicaState = λ x. stands 2 (synced m Whole []) 2 x (sync_of 1 1 None) 1 in
      let after : Receiving → ReplicaState = λ x. stands 2 (synced m Whole (Req get ∷ [])) 3 x (sync_of 1 1 None) 1 in
      let said : Sending = ToReplicas (One (Replica 0)) (says 2 (bodies.SyncRep 1)) in
      ap (λ (x : Receiving). then_do (middle x, said ∷ []) (drain m Whole)) (advanced_lone 1 1 2 2 get (omega arith))
      ∙ ap (λ (e : Effect). (e.0, said ∷ e.1)) (takes m 4095 (middle (lone 1 2 2 get)) get refl (front_lone 1 2 get))
      ∙ ap (λ (x : Receiving). then_do (after x, said ∷ replies 2 2 get 0 [] ∷ []) (drain_by m Whole 4095)) (taken_lone 1 2 get)
      ∙ ap (λ (e : Effect). (e.0, said ∷ replies 2 2 get 0 [] ∷ e.1)) (stops m 4094 (after (opened 1 3)) (front_none 1 3))

  pub whole_steps : WorkedSteps m Whole
  unfolding messages.arrive messages.loads_in messages.on_message rows.sync repeating.sync rows.slot_lookup reply_to
  whole_steps = record {
    leader_takes = takes_put 0 _ (ap (λ (o : Option (List ℕ)). leader_reply (stands 0 one 2 (opened 1 2) (sync_of 0 0 None) 0) 1 put o ++ []) put_result);
    follower_takes = takes_put 1 _ refl;
    leader_sends = refl;
    follower_votes = votes;
    leader_settles = settles;
    third_asks = asks_for;
    leader_answers = refl;
    third_goes_on = goes_on;
  }

module _ {S : Type 0} (m : Meaning S) (IsSound : S → Type 0) (keeps : KeepsTo m IsSound) where
  step : (s : ReplicaState) (a : Arrival) (e : Effect) → PointsWithin s → ArrivesWithin m s a → arrive m Whole s a ≡ e
      → arrive m Trimmed (trimmed m s) (trimmed_arrival m a) ≡ trimmed_effect m e
  step s a e w fits same = rows_trim m IsSound keeps s a w fits ∙ ap (trimmed_effect m) same

  within : (r : ℕ) (next : ℕ) (x : Receiving) (asked : ℕ) → PointsWithin (stands r (whole 0 []) next x (sync_of 0 0 None) asked)
  within r next x asked = record { points = refl; sync_point = omega arith; prepared = omega arith; round = λ y e. absurd cc }

  one_within : (r : ℕ) (x : Receiving) → PointsWithin (stands r one 2 x (sync_of 0 0 None) 0)
  one_within r x = record { points = refl; sync_point = omega arith; prepared = omega arith; round = λ y e. absurd cc }

  round_within : PointsWithin (stands 0 one 2 (opened 1 2) (sync_of 0 0 round) 0)
  round_within = record {
    points = refl;
    sync_point = omega arith;
    prepared = omega arith;
    round = λ y e. (let same : 1 ≡ y.len = cc in omega (arith, same), let same : 1 ≡ y.len = cc in omega (arith, same));
  }

  synced_within : PointsWithin (stands 0 (synced m Whole []) 2 (opened 1 2) (sync_of 1 0 None) 0)
  synced_within = record { points = refl; sync_point = omega arith; prepared = omega arith; round = λ y e. absurd cc }

  -- each step over trimmed logs is that over whole ones, trimmed
  pub trimmed_steps : WorkedSteps m Trimmed
  trimmed_steps =
      let steps = whole_steps m in
      record {
        leader_takes = step (start 0) (Packet (stamp 1 put)) _ (within 0 1 (opened 1 1) 0) tt steps.leader_takes;
        follower_takes = step (start 1) (Packet (stamp 1 put)) _ (within 1 1 (opened 1 1) 0) tt steps.follower_takes;
        leader_sends = step _ _ _ (one_within 0 (opened 1 2)) tt steps.leader_sends;
        follower_votes = step _ _ _ (one_within 1 (opened 1 2)) (refl, omega arith) steps.follower_votes;
        leader_settles = step _ _ _ round_within tt steps.leader_settles;
        third_asks = step (start 2) (Packet (stamp 2 get)) _ (within 2 1 (opened 1 1) 0) tt steps.third_asks;
        leader_answers = step _ _ _ synced_within tt steps.leader_answers;
        third_goes_on = step _ _ _ (within 2 1 (queued 1 2 get) 1) (refl, omega arith) steps.third_goes_on;
      }
