-- Which actor a word names.
use Rattle.std.specs.Prelude.{ℕ, ◌^◌, List, [], ◌∷◌, nat_lt, ◌==◌, if◌then◌else◌, Option, Some, None, codes}
use Rattle.nop_types.specs.Configuration.{Configuration}
pub use Rattle.nop_types.specs.Actors.{number_of}
use Rattle.nop_types.specs.declared.output.Actor.{Actor}
use Rattle.nop_types.specs.declared.output.Actor.TheVariants.{Replica, Sequencer, Client, Controller, Observer}
use Rattle.line_fields.specs.Fields.{actor_of, number_of as number_in}

abbrev pub client_at : Option ℕ → Option Actor
client_at None = None
client_at (Some n) = if nat_lt n (2 ^ 32) then Some (Client n) else None

abbrev pub client_named : List ℕ → Option Actor
client_named digits = client_at (number_in digits)

-- the letter c, and the number of any client
abbrev pub any_client : List ℕ → Option Actor
any_client [] = None
any_client (letter ∷ digits) = if letter == 99 then client_named digits else None

abbrev pub actor_or : Option Actor → List ℕ → Option Actor
actor_or (Some actor) word = Some actor
actor_or None word = any_client word

-- an actor of a configuration, or any client
abbrev pub named : Configuration → List ℕ → Option Actor
named config word = actor_or (actor_of config word) word

-- the command that runs an actor
abbrev pub command_name : Actor → List ℕ
command_name (Replica i) = codes "node"
command_name (Sequencer i) = codes "sequencer"
command_name (Client i) = codes "client"
command_name (Controller i) = codes "controller"
command_name (Observer i) = codes "observer"
