-- The messages among what a replica sends, under which number it sends, and to whom.
use Rattle.std.specs.Prelude.{◌≡◌, ℕ, ◌<◌, ◌≤◌, List, [], ◌∷◌, ⊤}
use Rattle.nop_types.specs.declared.output.Actor.TheVariants as actors
use Rattle.nop_types.specs.declared.output.Dest.{Dest}
use Rattle.nop_types.specs.declared.output.Dest.TheVariants.{Replicas, One}
use Rattle.nop_types.specs.declared.peer.Peer.{Peer}
use Rattle.replica_state.specs.declared.sending.Sending.{Sending}
use Rattle.replica_state.specs.declared.sending.Sending.TheVariants.{ToClient, ToReplicas, Trims}

-- the peer messages, in order
abbrev pub peers_in : List Sending → List Peer
peers_in [] = []
peers_in (ToClient r ∷ sends) = peers_in sends
peers_in (Trims first entries ∷ sends) = peers_in sends
peers_in (ToReplicas dest p ∷ sends) = p ∷ peers_in sends

-- a reply or a message names this replica as the one that sends it
abbrev pub IsBy : ℕ → Sending → Type 0
IsBy r (ToClient reply) = reply.replica ≡ r
IsBy r (ToReplicas dest p) = p.sender ≡ r
IsBy r (Trims first entries) = ⊤

-- all replicas, or one of this number of them, if there are any
abbrev pub IsAmong : ℕ → Dest → Type 0
IsAmong n Replicas = ⊤
IsAmong n (One (actors.Replica i)) = 1 ≤ n → i < n
IsAmong n _ = ⊥

-- a message goes to replicas of this number of them; of a reply nothing is said
abbrev pub GoesAmong : ℕ → Sending → Type 0
GoesAmong n (ToClient reply) = ⊤
GoesAmong n (ToReplicas dest p) = IsAmong n dest
GoesAmong n (Trims first entries) = ⊤
