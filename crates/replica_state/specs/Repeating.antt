-- What a replica does at the ticks Resend and Sync: it sends again what was not answered, and has its log synchronised.
use Rattle.std.specs.Prelude.{◌+◌, Bool, true, false, Option, Some, None, not, nat_lt, ◌&&◌}
use Rattle.nop_types.specs.declared.replica_state.Phase.{Phase}
use Rattle.nop_types.specs.declared.replica_state.Phase.TheVariants.{Normal, Change}
use Rattle.nop_types.specs.declared.peer.Body.TheVariants as bodies
use Rattle.nop_types.specs.Logs.{Keeping, length_of}
use Rattle.slot_votes.specs.Agreement.{Agreement}
use Rattle.oum_receiver.specs.Front.{Front, Nothing, Message, Dropped}
use Rattle.oum_receiver.specs.Receiving.{front_of}
use Rattle.replica_state.specs.declared.state.ReplicaState.{ReplicaState}
use Rattle.replica_state.specs.State.{leads, is_normal, waits, has_room}
use Rattle.replica_state.specs.Sends.{Effect, still, then_do, when, to_leader, to_all}
use Rattle.replica_state.specs.Moves.{change_sent, open_sync, repeat_commit}

-- ---- what was not answered

abbrev pub gap_again : Option Agreement → ReplicaState → Effect
gap_again None s = still s
gap_again (Some g) s = (s, to_all s (bodies.GapCommit g.slot))

abbrev pub lookup_again : Keeping → Front → ReplicaState → Effect
lookup_again k Nothing s = still s
lookup_again k (Message r) s = still s
lookup_again k Dropped s = when (has_room k s) (λ t. (t, to_leader t (bodies.SlotLookup (length_of k t.log + 1)))) s

abbrev pub change_again : Bool → ReplicaState → Effect
change_again true s = still s
change_again false s = (s, change_sent s)

-- by the status, and whether the replica leads
abbrev pub resend_by : Keeping → Phase → Bool → ReplicaState → Effect
resend_by k Change leading s = then_do (s, to_all s bodies.ViewChangeReq) (change_again leading)
resend_by k Normal true s = gap_again s.gap s
resend_by k Normal false s = lookup_again k (front_of s.receiver) s

unfoldable pub resend : Keeping → ReplicaState → Effect
resend k s = resend_by k s.status (leads s) s

-- ---- synchronisation

abbrev pub sync_if : Keeping → Bool → ReplicaState → Effect
sync_if k true s = open_sync k s
sync_if k false s = repeat_commit s

-- a leader in Normal without a gap
unfoldable pub sync : Keeping → ReplicaState → Effect
sync k s =
    when (is_normal s.status && (leads s && not (waits s.gap))) (λ t. sync_if k (nat_lt t.sync.sync_point (length_of k t.log)) t) s
