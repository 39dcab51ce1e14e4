-- The rows of a replica's step table over whole messages: what each kind of input does.
use Rattle.std.specs.Prelude.{ℕ, ◌+◌, ◌-◌, ◌^◌, Bool, true, false, Option, Some, None, not, nat_le, nat_lt, ◌==◌, ◌&&◌}
use Rattle.nop_types.specs.declared.limits.TheConstants.{NUMBER_END}
use Rattle.nop_types.specs.Meaning.{Meaning}
use Rattle.nop_types.specs.Views.{join_of, is_view}
use Rattle.nop_types.specs.declared.view.View.{View}
use Rattle.nop_types.specs.declared.replica_state.Phase.{Phase}
use Rattle.nop_types.specs.declared.replica_state.Phase.TheVariants as phases
use Rattle.nop_types.specs.declared.request.Request.{Request}
use Rattle.nop_types.specs.Logs.{Log, Keeping, length_of}
use Rattle.nop_types.specs.declared.datagram.Stamped.{Stamped}
use Rattle.nop_types.specs.declared.peer.Change.{Change}
use Rattle.nop_types.specs.declared.peer.Body.TheVariants as bodies
use Rattle.slot_votes.specs.Agreement.{Agreement}
use Rattle.replica_log.specs.Answer.{Answer, Below, Found, GapAgain, Begin, answer_of}
use Rattle.replica_log.specs.Answer as answers
use Rattle.view_change.specs.Gathering.{Gathering}
use Rattle.replica_state.specs.declared.state.ReplicaState.{ReplicaState}
use Rattle.replica_state.specs.State.{leads, is_normal, waits, may_trim, may_append, may_adopt}
use Rattle.replica_state.specs.Sends.{Effect, still, then_do, when, to_replica}
use Rattle.replica_state.specs.Moves as moves
use Rattle.replica_state.specs.Repeating as repeating
use Rattle.replica_state.specs.Moves.{
  queue,
  begin_session,
  session_view,
  hear,
  drain,
  trim,
  enter,
  open_if_enough,
  keep_change,
  resend_start,
  adopt,
  write_gap,
  add_gap,
  fill,
  overlay,
  open_gap,
  count_gap_vote,
  count_sync_vote,
  send_synced,
}

-- ---- the sync point rises

-- where it passed that of the log, the log is trimmed, and what waits is taken
abbrev pub trim_and_drain : {S : Type 0} → Meaning S → Keeping → ReplicaState → Effect
trim_and_drain m k s = when (may_trim s) (λ t. then_do (trim m k t) (drain m k)) s

-- ---- a greater view

-- the view is entered; its leader opens it at once where it is alone
unfoldable pub enter_view : {S : Type 0} → Meaning S → Keeping → View → ReplicaState → Effect
enter_view m k v s = then_do (enter s v) (λ t. open_if_enough m k t.changes t)

-- a view is entered, and what waits is taken
abbrev pub enter_and_drain : {S : Type 0} → Meaning S → Keeping → View → ReplicaState → Effect
enter_and_drain m k v s = then_do (enter_view m k v s) (drain m k)

-- ---- a stamped request comes

abbrev pub new_session : {S : Type 0} → Meaning S → Keeping → Stamped → ReplicaState → Effect
new_session m k p s = enter_and_drain m k (session_view s p) (begin_session s p)

abbrev pub stamped_if : {S : Type 0} → Meaning S → Keeping → Bool → Stamped → ReplicaState → Effect
stamped_if m k true p s = new_session m k p s
stamped_if m k false p s = then_do (queue s p) (drain m k)

-- of a greater session than the view's, or not
unfoldable pub stamped : {S : Type 0} → Meaning S → Keeping → Stamped → ReplicaState → Effect
stamped m k p s = stamped_if m k (nat_lt s.view.session p.session) p s

-- ---- messages of view changes

-- the least view above both is entered, where it is another
abbrev pub view_change_request : {S : Type 0} → Meaning S → Keeping → View → ReplicaState → Effect
view_change_request m k v s = when (not (is_view (join_of s.view v) s.view)) (enter_and_drain m k (join_of s.view v)) s

abbrev pub gather : {S : Type 0} → Meaning S → Keeping → Option (Gathering Change) → Change → ReplicaState → Effect
gather m k None c s = still s
gather m k (Some g) c s = then_do (keep_change s g c) (λ t. open_if_enough m k t.changes t)

-- while the view has not started, its leader gathers changes; then it answers a late one
abbrev pub gather_by : {S : Type 0} → Meaning S → Keeping → Phase → Change → ReplicaState → Effect
gather_by m k phases.Change c s = gather m k s.changes c s
gather_by m k phases.Normal c s = resend_start k s c.sender

abbrev pub take_change : {S : Type 0} → Meaning S → Keeping → View → Change → ReplicaState → Effect
take_change m k v c s = when (is_view v s.view && leads s) (gather_by m k s.status c) s

unfoldable pub view_change : {S : Type 0} → Meaning S → Keeping → View → Change → ReplicaState → Effect
view_change m k v c s = then_do (view_change_request m k v s) (take_change m k v c)

unfoldable pub start_view : {S : Type 0} → Meaning S → Keeping → ℕ → View → ℕ → Log → ReplicaState → Effect
start_view m k q v x l s = when (may_adopt k s q v l) (λ t. adopt m k t v x l) s

-- ---- messages of the leader to a follower

abbrev pub gap_commit_if : {S : Type 0} → Meaning S → Keeping → Bool → Bool → ℕ → ReplicaState → Effect
gap_commit_if m k true next n s = then_do (write_gap k (hear s) n) (drain m k)
gap_commit_if m k false true n s = then_do (add_gap k (hear s)) (drain m k)
gap_commit_if m k false false n s = still s

-- in a slot of the log, or in the next one
unfoldable pub gap_commit : {S : Type 0} → Meaning S → Keeping → ℕ → ReplicaState → Effect
gap_commit m k n s = gap_commit_if m k (nat_le n (length_of k s.log)) ((n == length_of k s.log + 1) && may_append k s) n s

unfoldable pub found : {S : Type 0} → Meaning S → Keeping → ℕ → Request → ReplicaState → Effect
found m k n r s = when ((n == length_of k s.log + 1) && may_append k s) (λ t. then_do (fill m k (hear t) r) (drain m k)) s

unfoldable pub sync_prepare : {S : Type 0} → Meaning S → Keeping → Log → ReplicaState → Effect
sync_prepare m k l s =
    when (nat_le (s.next + (length_of k l - length_of k s.log)) NUMBER_END) (λ t. then_do (overlay m k (hear t) l) (drain m k)) s

-- up to a length that is prepared
unfoldable pub sync_commit : {S : Type 0} → Meaning S → Keeping → ℕ → ReplicaState → Effect
sync_commit m k n s = then_do (moves.sync_commit n s) (trim_and_drain m k)

-- ---- messages of a follower to the leader

-- a gap agreement begins where there is a number after it
abbrev pub begin_gap : {S : Type 0} → Meaning S → Keeping → ReplicaState → Effect
begin_gap m k s = when (nat_lt s.next NUMBER_END) (λ t. then_do (open_gap k t) (drain m k)) s

abbrev pub slot_lookup_by : {S : Type 0} → Meaning S → Keeping → Answer → ℕ → ℕ → ReplicaState → Effect
slot_lookup_by m k Below q n s = send_synced k s q
slot_lookup_by m k (Found r) q n s = (s, to_replica s q (bodies.Found n r))
slot_lookup_by m k GapAgain q n s = (s, to_replica s q (bodies.GapCommit n))
slot_lookup_by m k Begin q n s = begin_gap m k s
slot_lookup_by m k answers.Nothing q n s = still s

-- by the answer for the slot
unfoldable pub slot_lookup : {S : Type 0} → Meaning S → Keeping → ℕ → ℕ → ReplicaState → Effect
slot_lookup m k q n s = slot_lookup_by m k (answer_of k s.log (waits s.gap) n) q n s

abbrev pub gap_reply_at : {S : Type 0} → Meaning S → Keeping → Option Agreement → ℕ → ℕ → ReplicaState → Effect
gap_reply_at m k None q n s = still s
gap_reply_at m k (Some g) q n s = when (g.slot == n) (λ t. then_do (count_gap_vote t g q) (drain m k)) s

-- a vote for the gap that waits
unfoldable pub gap_reply : {S : Type 0} → Meaning S → Keeping → ℕ → ℕ → ReplicaState → Effect
gap_reply m k q n s = gap_reply_at m k s.gap q n s

-- a vote for the round under way
unfoldable pub sync_reply : {S : Type 0} → Meaning S → Keeping → ℕ → ℕ → ReplicaState → Effect
sync_reply m k q n s = then_do (count_sync_vote s q n) (trim_and_drain m k)

-- ---- ticks

-- leader numbers do not rise above this one
abbrev pub last_leader : ℕ
last_leader = 2 ^ 32 - 1

abbrev pub next_leader : View → View
next_leader v = record { leader = v.leader + 1; session = v.session }

abbrev pub suspect : {S : Type 0} → Meaning S → Keeping → ReplicaState → Effect
suspect m k s = when (nat_lt s.view.leader last_leader) (enter_and_drain m k (next_leader s.view)) s

-- by whether the replica leads in Normal, and whether it heard of its leader since the last tick
abbrev pub watch_if : {S : Type 0} → Meaning S → Keeping → Bool → Bool → ReplicaState → Effect
watch_if m k true heard s = still s
watch_if m k false true s = still (record s { heard = false })
watch_if m k false false s = suspect m k s

abbrev pub watch : {S : Type 0} → Meaning S → Keeping → ReplicaState → Effect
watch m k s = watch_if m k (is_normal s.status && leads s) s.heard s

-- a leader that is alone has its whole log synchronised at once
unfoldable pub sync : {S : Type 0} → Meaning S → Keeping → ReplicaState → Effect
sync m k s = then_do (repeating.sync k s) (trim_and_drain m k)
