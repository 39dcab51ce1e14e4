-- Words on the state of a replica.
use Rattle.std.specs.Prelude.{◌≡◌, ℕ, ◌/◌, min, cond, Bool, true, false, Option, Some, None, nat_le, nat_lt, not, ◌==◌}
use Rattle.std.specs.Prelude.{◌&&◌, ◌||◌}
use Rattle.nop_types.specs.declared.limits.TheConstants.{NUMBER_END}
use Rattle.nop_types.specs.declared.replica_state.Phase.{Phase}
use Rattle.nop_types.specs.declared.replica_state.Phase.TheVariants.{Normal, Change}
use Rattle.nop_types.specs.declared.replica_state.Vote.{Vote}
use Rattle.nop_types.specs.declared.replica_state.Vote.TheVariants.{Settled, Waiting}
use Rattle.nop_types.specs.Configuration.{Configuration}
use Rattle.nop_types.specs.Views.{leader_of, first_view, is_view}
use Rattle.nop_types.specs.declared.view.View.{View}
use Rattle.nop_types.specs.Logs.{Log, Keeping, empty, length_of}
use Rattle.nop_types.specs.Logs as logs
use Rattle.slot_votes.specs.Agreement.{Agreement, begun}
use Rattle.slot_votes.specs.Votes.{vote_of}
use Rattle.oum_receiver.specs.Receiving as receiving
use Rattle.slot_votes.specs.Synchronisation as synchronisation
use Rattle.replica_state.specs.declared.state.ReplicaState.{ReplicaState}

abbrev pub opening : Configuration → ℕ → ReplicaState
opening config number =
    record {
      config = config;
      number = number;
      view = first_view;
      status = Normal;
      last_normal = first_view;
      log = empty;
      next = 1;
      base = 0;
      receiver = receiving.opened 1 1;
      gap = None;
      sync = synchronisation.opening (config.replicas / 2);
      changes = None;
      asked = 0;
      heard = true;
    }

-- how many others make a quorum with a replica
abbrev pub max_faults : ReplicaState → ℕ
max_faults s = s.config.replicas / 2

-- the replica that leads the view
abbrev pub leader : ReplicaState → ℕ
leader s = leader_of s.view s.config.replicas

abbrev pub leads : ReplicaState → Bool
leads s = leader s == s.number

abbrev pub is_normal : Phase → Bool
is_normal Normal = true
is_normal Change = false

abbrev pub waits : Option Agreement → Bool
waits None = false
waits (Some g) = true

-- an agreement waits for votes, unless nobody has to vote any more
abbrev pub unless_settled : Agreement → Vote → Option Agreement
unless_settled g Settled = None
unless_settled g Waiting = Some g

abbrev pub waiting : Agreement → Option Agreement
waiting g = unless_settled g (vote_of g.f g.votes)

-- in a slot for which nobody voted yet
abbrev pub waiting_in : ℕ → ℕ → Option Agreement
waiting_in slot f = waiting (begun slot f)

abbrev pub has_room : Keeping → ReplicaState → Bool
has_room k s = logs.has_room k s.log

-- the log has room, and there is a next number
abbrev pub may_append : Keeping → ReplicaState → Bool
may_append k s = has_room k s && nat_lt s.next NUMBER_END

-- what is in front of the receiver may be taken
abbrev pub drains : Keeping → ReplicaState → Bool
drains k s = is_normal s.status && (not (waits s.gap) && has_room k s)

-- the sync point passed that of the log
abbrev pub may_trim : ReplicaState → Bool
may_trim s = nat_lt s.log.sync_point s.sync.sync_point

-- the log is sent with the sync point for which votes are counted
abbrev pub PointsMeet : ReplicaState → Type 0
PointsMeet s = s.log.sync_point ≡ s.sync.sync_point

-- how many slots the host has executed: a leader in Normal has the whole log, another what is synchronised
abbrev pub executed_to : Keeping → ReplicaState → ℕ
executed_to k s = cond (is_normal s.status && leads s) (length_of k s.log) (min s.sync.sync_point (length_of k s.log))

-- a replica takes no message of its own
abbrev pub is_other : ReplicaState → ℕ → Bool
is_other s q = nat_lt q s.config.replicas && not (q == s.number)

-- ---- whether a message counts in the view

-- a message of the view in which the replica is Normal
abbrev pub is_current : ReplicaState → View → Bool
is_current s v = is_view v s.view && is_normal s.status

-- of the leader, to a follower
abbrev pub is_from_leader : ReplicaState → View → ℕ → Bool
is_from_leader s v q = is_current s v && (not (leads s) && (q == leader s))

-- of a follower, to the leader
abbrev pub is_to_leader : ReplicaState → View → Bool
is_to_leader s v = is_current s v && leads s

abbrev pub is_at_most : View → View → Bool
is_at_most a b = nat_le a.leader b.leader && nat_le a.session b.session

-- whether a replica adopts what a view starts with
abbrev pub may_adopt : Keeping → ReplicaState → ℕ → View → Log → Bool
may_adopt k s q v l =
    (q == leader_of v s.config.replicas)
    && (is_at_most s.view v
    && ((not (is_view v s.view) || not (is_normal s.status))
    && nat_le s.sync.sync_point (length_of k l)))
