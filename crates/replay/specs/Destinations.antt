-- Where a datagram may go in a configuration.
use Rattle.std.specs.Prelude.{⊤}
use Rattle.nop_types.specs.Configuration.{Configuration}
use Rattle.nop_types.specs.declared.output.Dest.{Dest}
use Rattle.nop_types.specs.declared.output.Dest.TheVariants.{Replicas, Sequencers, One}
use Rattle.line_fields.specs.Fields.{IsActorOf}

-- to all replicas, all sequencers, or an actor of the configuration
abbrev pub IsDestOf : Configuration → Dest → Type 0
IsDestOf c Replicas = ⊤
IsDestOf c Sequencers = ⊤
IsDestOf c (One actor) = IsActorOf c actor
