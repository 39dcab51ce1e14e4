-- What came to an observer of a run.
use Rattle.std.specs.Prelude.{◌≡◌, ℕ, List, map}
use Rattle.nop_types.specs.Configuration.{Configuration}
use Rattle.nop_types.specs.Given.{Given}
use Rattle.nop_types.specs.Lists.{Has}
use Rattle.nop_types.specs.Meaning.{Meaning}
use Rattle.network.specs.Network.{Sent}
use Rattle.network_laws.specs.Network.{MayCome}
use Rattle.observer.specs.ObserverSteps.{Observer, after, opening}

-- the bytes of all datagrams, the oldest first
abbrev pub bytes_of : List Sent → List (List ℕ)
bytes_of sent = map (λ s. s.bytes) sent

-- an observer of this number, after some inputs: each packet among them was sent, or spells no datagram
pub record Received {S : Type 0} (m : Meaning S) (config : Configuration) (sent : List (List ℕ)) (number : ℕ) (s : Observer) : Type 0 where
  pub inputs : List Given
  pub came : (x : Given) → Has inputs x → MayCome sent x
  pub is : after m (opening config number) inputs ≡ s
