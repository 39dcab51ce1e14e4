-- What sequencers stamped.
use Rattle.std.specs.Prelude.{ℕ, List}
use Rattle.nop_types.specs.declared.request.Request.{Request}
use Rattle.nop_types.specs.declared.datagram.Stamped.{Stamped}
use Rattle.nop_types.specs.Lists.{Has}

-- among the packets one has this session, number and request
abbrev pub WasStamped : List Stamped → ℕ → ℕ → Request → Type 0
WasStamped packets session number request = Has packets (record { session = session; number = number; request = request })
