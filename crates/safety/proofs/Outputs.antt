-- The bytes of the datagrams that an actor sends.
use Rattle.std.proofs.Common.{◌≡◌, ℕ, refl, ap, ◌∙◌, List, [], ◌∷◌, ◌++◌}
use Rattle.std.proofs.lemmas.List.{map-append}
use Rattle.nop_types.specs.declared.output.Actor.{Actor}
use Rattle.nop_types.specs.declared.output.Out.{Out}
use Rattle.nop_types.specs.declared.output.Out.TheVariants as outs
use Rattle.nop_types.specs.Lists.{Has}
use Rattle.network.specs.Network.{Sent, sends_of}
use Rattle.network_laws.specs.Network.{bytes_in}
use Rattle.whole_world.proofs.Mapped.{Has-map}
use Rattle.safety.specs.Following.{bytes_of}

pub bytes_of_sends : (from : Actor) (xs : List Out) → bytes_of (sends_of from xs) ≡ bytes_in xs
bytes_of_sends from [] = refl
bytes_of_sends from (outs.Send dest bytes ∷ xs) = ap (λ (t : List (List ℕ)). bytes ∷ t) (bytes_of_sends from xs)
bytes_of_sends from (_ ∷ xs) = bytes_of_sends from xs

-- the bytes of the network after a step
pub bytes_after : (sent : List Sent) (from : Actor) (xs : List Out) → bytes_of (sent ++ sends_of from xs) ≡ bytes_of sent ++ bytes_in xs
bytes_after sent from xs =
    map-append (λ (s : Sent). s.bytes) sent (sends_of from xs) ∙ ap (λ (t : List (List ℕ)). bytes_of sent ++ t) (bytes_of_sends from xs)

-- each datagram of the network has its bytes there
pub bytes_there : (sent : List Sent) (s : Sent) → Has sent s → Has (bytes_of sent) s.bytes
bytes_there sent s h = Has-map (λ (t : Sent). t.bytes) sent s h
