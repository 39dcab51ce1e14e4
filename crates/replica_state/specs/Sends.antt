-- What a replica sends, and what one thing after another does.
use Rattle.std.specs.Prelude.{ℕ, ◌+◌, List, [], ◌∷◌, ◌++◌, Bool, true, false, ◌==◌, ⊤}
use Rattle.nop_types.specs.Logs.{Keeping, Trimmed}
use Rattle.nop_types.specs.Ranges.{ReplyFits, PeerIsIn}
use Rattle.nop_types.specs.declared.output.Dest.TheVariants.{Replicas, One}
use Rattle.nop_types.specs.declared.output.Actor.TheVariants.{Replica}
use Rattle.nop_types.specs.declared.peer.Peer.{Peer}
use Rattle.nop_types.specs.declared.peer.Body.{Body}
use Rattle.replica_state.specs.declared.sending.Sending.{Sending}
use Rattle.replica_state.specs.declared.sending.Sending.TheVariants.{ToClient, ToReplicas, Trims}
use Rattle.replica_state.specs.declared.state.ReplicaState.{ReplicaState}
use Rattle.replica_state.specs.State.{max_faults, leader}

-- the state afterwards, and what is sent
abbrev pub Effect : Type 0
Effect = ReplicaState × List Sending

abbrev pub still : ReplicaState → Effect
still s = (s, [])

-- one after the other
abbrev pub then_do : Effect → (ReplicaState → Effect) → Effect
then_do (s, sends) f = ((f s).0, sends ++ (f s).1)

-- where the test holds; else nothing
abbrev pub when : Bool → (ReplicaState → Effect) → ReplicaState → Effect
when true f s = f s
when false f s = still s

-- ---- messages to other replicas

-- a message says who sends it and in which view
abbrev pub message : ReplicaState → Body → Peer
message s body = record { sender = s.number; view = s.view; body = body }

abbrev pub to_replica : ReplicaState → ℕ → Body → List Sending
to_replica s q body = ToReplicas (One (Replica q)) (message s body) ∷ []

abbrev pub to_leader : ReplicaState → Body → List Sending
to_leader s body = to_replica s (leader s) body

abbrev pub to_all_if : Bool → ReplicaState → Body → List Sending
to_all_if true s body = []
to_all_if false s body = ToReplicas Replicas (message s body) ∷ []

-- where a replica is alone, this is sent to nobody
abbrev pub to_all : ReplicaState → Body → List Sending
to_all s body = to_all_if (max_faults s == 0) s body

-- ---- ranges and numbers

-- of a replica that keeps its logs whole or trimmed; of entries that move out of its log nothing is said
abbrev pub SendingIsIn : Keeping → Sending → Type 0
SendingIsIn k (ToClient r) = ReplyFits r
SendingIsIn k (ToReplicas dest p) = PeerIsIn k p
SendingIsIn k (Trims first entries) = ⊤

abbrev pub SendingFits : Sending → Type 0
SendingFits x = SendingIsIn Trimmed x

-- how many messages go to other replicas
abbrev pub message_count : List Sending → ℕ
message_count [] = 0
message_count (ToClient r ∷ sends) = message_count sends
message_count (ToReplicas dest p ∷ sends) = message_count sends + 1
message_count (Trims first entries ∷ sends) = message_count sends
