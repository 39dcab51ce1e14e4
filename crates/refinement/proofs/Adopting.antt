-- What a view starts with is adopted by moves.
use Rattle.std.proofs.Common.{◌≡◌, ℕ, Bool, true, false, refl, sym, ap, subst, ◌∙◌, length}
use Rattle.std.specs.Prelude.{◌==◌, ◌||◌, max, not, nat_le}
use Rattle.std.proofs.lemmas.Bool.{and_parts, eqb-true, leb-true}
use Rattle.nop_types.specs.Logs as logs
use Rattle.nop_types.specs.Logs.{Log, Whole}
use Rattle.nop_types.specs.Meaning.{Meaning}
use Rattle.nop_types.specs.Views.{AtMost, is_view, leader_of}
use Rattle.nop_types.specs.declared.view.View.{View}
use Rattle.nop_types.specs.declared.replica_state.Phase.{Phase}
use Rattle.nop_types.specs.declared.replica_state.Phase.TheVariants.{Normal, Change}
use Rattle.lemmas.proofs.Views.{is_view-same}
use Rattle.replica_state.specs.declared.state.ReplicaState.{ReplicaState}
use Rattle.replica_log.proofs.Adopted.{adopted_point}
use Rattle.replica_state.specs.Moves.{adopted, adopt, drain}
use Rattle.replica_state.specs.Replies.{replies_above}
use Rattle.replica_rows.specs.Rows.{start_view}
use Rattle.replica_state.specs.State.{PointsMeet, is_normal, is_other, is_at_most, may_adopt}
use Rattle.protocol.specs.Conf.{Conf, DidSay}
use Rattle.protocol.specs.LocalState.{LocalState}
use Rattle.protocol.specs.Moves as moves
use Rattle.protocol.specs.Moves.{MayAdopt}
use Rattle.protocol.specs.Replies as replies
use Rattle.protocol.specs.Runs.{Adopt}
use Rattle.protocol.specs.Said.{StartView}
use Rattle.refinement.specs.Projection.{local_state_of}
use Rattle.refinement.specs.Replicas.{Matches, ReplicaReaches}
use Rattle.refinement.proofs.Composing.{move_reaches, reaches_then_in_view, when_reaches}
use Rattle.refinement.proofs.Draining.{drain_in_view}
use Rattle.refinement.proofs.RoleRows.{IsOther, other_from}
use Rattle.refinement.proofs.Same.{said_above, replied_above}
use Rattle.refinement.proofs.Splices.{Begins, adopted_entries, adopt_begins}

at_most_from : (a b : View) → is_at_most a b ≡ true → AtMost a b
at_most_from a b e =
    let parts = and_parts (nat_le a.leader b.leader) (nat_le a.session b.session) e in
    record { leader = leb-true a.leader b.leader parts.0; session = leb-true a.session b.session parts.1 }

change_from : (same : Bool) (p : Phase) → (not same || not (is_normal p)) ≡ true → same ≡ true → p ≡ Change
change_from same Change e t = refl
change_from true Normal e t = absurd cc
change_from false Normal e t = absurd cc

-- ---- the log that is adopted is the one that is told, where the own one up to the sync point begins it

pub adopted_same : (s : ReplicaState) (v : View) (x : ℕ) (l : Log) → Begins s.log l.entries
    → local_state_of (adopted Whole s v x l) ≡ moves.adopted (local_state_of s) v x l.sync_point l.entries
adopted_same s v x l begins =
    let e : (logs.adopted Whole l s.log).entries ≡ l.entries = adopted_entries l s.log begins in
    λ i. record (moves.adopted (local_state_of s) v x l.sync_point l.entries) { log = e i; base = length (e i) }

pub adopted_meet : (s : ReplicaState) (v : View) (x : ℕ) (l : Log) → PointsMeet s → PointsMeet (adopted Whole s v x l)
adopted_meet s v x l points = adopted_point l s.log ∙ ap (λ (n : ℕ). max n l.sync_point) points

module _ {S : Type 0} (m : Meaning S) (f : ℕ) (r : ℕ) where
  pub adopt_reaches : (c : Conf) (s : ReplicaState) (v : View) (x : ℕ) (l : Log) → Matches m f c r s
      → MayAdopt c (local_state_of s) v x l.sync_point l.entries → ReplicaReaches m f c r s (adopt m Whole s v x l)
  unfolding adopt
  adopt_reaches c s v x l h may =
      let t : ReplicaState = adopted Whole s v x l in
      let n : ℕ = t.sync.sync_point in
      let state = adopted_same s v x l (adopt_begins m f c r s h v x l may) in
      reaches_then_in_view m f r c s (t, replies_above m Whole t n) (drain m Whole) h
      (move_reaches m f r c s (t, replies_above m Whole t n) (Adopt v x l.sync_point l.entries) h may (record {
        state = state;
        said = said_above m t n;
        replies = replied_above m t n ∙ ap (λ (p : LocalState). replies.replies_above m p n) state;
      }) (adopted_meet s v x l h.points))
      (λ d g. drain_in_view m f r d t g)

  may_adopt_from : (c : Conf) (s : ReplicaState) (q : ℕ) (v : View) (x : ℕ) (l : Log) → IsOther f s q
      → DidSay c.said q v (StartView x l.sync_point l.entries) → may_adopt Whole s q v l ≡ true
      → MayAdopt c (local_state_of s) v x l.sync_point l.entries
  may_adopt_from c s q v x l other said e =
      let leader = and_parts (q == leader_of v s.config.replicas) _ e in
      let order = and_parts (is_at_most s.view v) _ leader.1 in
      let later = and_parts (not (is_view v s.view) || not (is_normal s.status)) _ order.1 in
      let by : q ≡ leader_of v s.config.replicas = eqb-true q (leader_of v s.config.replicas) leader.0 in
      record {
        said = subst (λ (n : ℕ). DidSay c.said n v (StartView x l.sync_point l.entries)) by said;
        follows = λ same. other.apart (by ∙ sym same);
        at_most = at_most_from s.view v order.0;
        change = λ same. change_from (is_view v s.view) s.status later.0 (is_view-same v s.view (sym same));
      }

  -- told by another replica
  pub start_view_reaches : (c : Conf) (s : ReplicaState) (q : ℕ) (v : View) (x : ℕ) (l : Log) → Matches m f c r s
      → is_other s q ≡ true → DidSay c.said q v (StartView x l.sync_point l.entries)
      → ReplicaReaches m f c r s (start_view m Whole q v x l s)
  unfolding start_view
  start_view_reaches c s q v x l h other said =
      when_reaches m f r c s (may_adopt Whole s q v l) (λ t. adopt m Whole t v x l) h (λ e.
      adopt_reaches c s v x l h (may_adopt_from c s q v x l (other_from m f c r s q h other) said e))
