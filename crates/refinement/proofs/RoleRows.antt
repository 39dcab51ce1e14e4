-- The rows for messages of the view in which a replica is Normal.
use Rattle.std.proofs.Common.{◌≡◌, ℕ, ◌+◌, ◌*◌, ◌<◌, Bool, true, false, refl, subst}
use Rattle.std.specs.Prelude.{◌&&◌, ◌==◌, not, nat_lt}
use Rattle.std.proofs.lemmas.Bool.{and_parts, eqb-true, ltb-true, eq-eqb, not-true}
use Rattle.nop_types.specs.declared.peer.Body.{Body}
use Rattle.nop_types.specs.declared.peer.Body.TheVariants as bodies
use Rattle.nop_types.specs.declared.replica_state.Phase.TheVariants.{Normal}
use Rattle.nop_types.specs.declared.view.View.{View}
use Rattle.nop_types.specs.Lists.{Has}
use Rattle.nop_types.specs.Logs.{Whole}
use Rattle.nop_types.specs.Meaning.{Meaning}
use Rattle.nop_types.specs.Views.{is_view}
use Rattle.lemmas.proofs.Bools.{not-both}
use Rattle.lemmas.proofs.Views.{is_view-true}
use Rattle.replica_state.specs.declared.state.ReplicaState.{ReplicaState}
use Rattle.replica_state.specs.State.{leader, leads, is_normal, is_current, is_from_leader, is_to_leader, is_other}
use Rattle.replica_rows.specs.Messages.{from_leader, from_follower, by_role, dispatch}
use Rattle.protocol.specs.Conf.{Conf}
use Rattle.protocol.specs.Moves.{MayLead, MayFollow, DidAnother}
use Rattle.protocol.specs.Said.{Word, says}
use Rattle.refinement.specs.Projection.{local_state_of, word_of}
use Rattle.refinement.specs.Replicas.{Matches}
use Rattle.refinement.proofs.Composing.{InView, nothing_in_view}
use Rattle.refinement.proofs.FollowerRows.{gap_commit_in_view, found_in_view, sync_prepare_in_view, sync_commit_in_view}
use Rattle.refinement.proofs.LeaderRows.{slot_lookup_in_view, gap_reply_in_view, sync_reply_in_view}
use Rattle.refinement.proofs.Matching.{own}
use Rattle.refinement.proofs.Staying.{normal_from}

-- the sender is another replica
pub record IsOther (f : ℕ) (s : ReplicaState) (q : ℕ) : Type 0 where
  pub within : q < 2 * f + 1
  pub apart : q ≡ s.number → ⊥

-- a replica is Normal in this view
record IsCurrent (s : ReplicaState) (v : View) : Type 0 where
  view : v ≡ s.view
  normal : s.status ≡ Normal

current_from : (s : ReplicaState) (v : View) → is_current s v ≡ true → IsCurrent s v
current_from s v e =
    let parts = and_parts (is_view v s.view) (is_normal s.status) e in
    record { view = is_view-true v s.view parts.0; normal = normal_from s.status parts.1 }

may_follow : (c : Conf) (s : ReplicaState) (q : ℕ) (v : View) (x : Word) → Has c.said (says q v x) → is_from_leader s v q ≡ true
    → MayFollow c (local_state_of s) x
may_follow c s q v x came e =
    let parts = and_parts (is_current s v) (not (leads s) && (q == leader s)) e in
    let rest = and_parts (not (leads s)) (q == leader s) parts.1 in
    let here = current_from s v parts.0 in
    record {
      normal = here.normal;
      follows = not-true (leads s) rest.0;
      said =
          subst (λ (w : View). Has c.said (says (leader s) w x)) here.view
          (subst (λ (i : ℕ). Has c.said (says i v x)) (eqb-true q (leader s) rest.1) came);
    }

pub other_from : {S : Type 0} (m : Meaning S) (f : ℕ) (c : Conf) (r : ℕ) (s : ReplicaState) (q : ℕ) → Matches m f c r s
    → is_other s q ≡ true → IsOther f s q
other_from m f c r s q h e =
    let parts = and_parts (nat_lt q s.config.replicas) (not (q == s.number)) e in
    record {
      within = subst (λ (n : ℕ). q < n) (own m f c r s h).replicas (ltb-true q s.config.replicas parts.0);
      apart = λ same. not-both (q == s.number) parts.1 (eq-eqb q s.number same);
    }

module _ {S : Type 0} (m : Meaning S) (f : ℕ) (c : Conf) (r : ℕ) (s : ReplicaState) (h : Matches m f c r s) where
  from_leader_in_view : (body : Body) → MayFollow c (local_state_of s) (word_of body) → InView m f c r s (from_leader m Whole body s)
  from_leader_in_view (bodies.GapCommit k) may = gap_commit_in_view m f c r s h k may
  from_leader_in_view (bodies.Found k q) may = found_in_view m f c r s h k q may
  from_leader_in_view (bodies.SyncPrepare l) may = sync_prepare_in_view m f c r s h l may
  from_leader_in_view (bodies.SyncCommit k) may = sync_commit_in_view m f c r s h k may
  from_leader_in_view _ may = nothing_in_view m f r c s s h refl h.points

  from_follower_in_view : (q : ℕ) (body : Body) → MayLead (local_state_of s) → DidAnother f c (local_state_of s) q (word_of body)
      → InView m f c r s (from_follower m Whole q body s)
  from_follower_in_view q (bodies.SlotLookup k) may vote = slot_lookup_in_view m f c r s h q k may
  from_follower_in_view q (bodies.GapRep k) may vote = gap_reply_in_view m f c r s h q k vote
  from_follower_in_view q (bodies.SyncRep k) may vote = sync_reply_in_view m f c r s h q k may vote
  from_follower_in_view q _ may vote = nothing_in_view m f r c s s h refl h.points

  to_leader_in_view : (q : ℕ) (v : View) (body : Body) → IsOther f s q → Has c.said (says q v (word_of body)) → is_to_leader s v ≡ true
      → InView m f c r s (from_follower m Whole q body s)
  to_leader_in_view q v body other came e =
      let parts = and_parts (is_current s v) (leads s) e in
      let here = current_from s v parts.0 in
      from_follower_in_view q body (record { normal = here.normal; leads = parts.1 })
      (record {
        said = subst (λ (w : View). Has c.said (says q w (word_of body))) here.view came;
        within = other.within;
        apart = other.apart;
      })

  by_role_in_view : (a b : Bool) (q : ℕ) (v : View) (body : Body) → IsOther f s q → Has c.said (says q v (word_of body))
      → is_from_leader s v q ≡ a → is_to_leader s v ≡ b → InView m f c r s (by_role m Whole a b q body s)
  by_role_in_view true b q v body other came of to = from_leader_in_view body (may_follow c s q v (word_of body) came of)
  by_role_in_view false true q v body other came of to = to_leader_in_view q v body other came to
  by_role_in_view false false q v body other came of to = nothing_in_view m f r c s s h refl h.points

  -- of another replica
  pub message_in_view : (q : ℕ) (v : View) (body : Body) → IsOther f s q → Has c.said (says q v (word_of body))
      → InView m f c r s (dispatch m Whole q v body s)
  message_in_view q v body other came =
      by_role_in_view (is_from_leader s v q) (is_to_leader s v) q v body other came refl refl
