-- The service that words name.
use Rattle.std.specs.Prelude.{ℕ, List, Option, Some, None, nat_le, ◌&&◌, if◌then◌else◌}
use Rattle.nop_types.specs.Configuration.{Configuration, is_configuration}
use Rattle.nop_types.specs.declared.limits.TheConstants.{MAX_CONTROLLERS}
use Rattle.oum_codec.specs.Numbers.{◌>>=◌}
use Rattle.line_fields.specs.Fields.{number_of, number_below}
use Rattle.client_call.specs.declared.call.Service.{Service}

-- the number, if it is in the range
abbrev pub in_range : ℕ → ℕ → ℕ → Option ℕ
in_range least most n = if nat_le least n && nat_le n most then Some n else None

abbrev pub number_in : ℕ → ℕ → List ℕ → Option ℕ
number_in least most word = do
  n ← number_of word
  in_range least most n

-- a service, if there can be so many actors
abbrev pub service_at : ℕ → Configuration → Option Service
service_at base config = if is_configuration config then Some (record { base = base; config = config }) else None

abbrev pub service_of : List ℕ → List ℕ → List ℕ → Option Service
service_of port replicas sequencers = do
  base ← number_in 1024 65000 port
  r ← number_below 256 replicas
  s ← number_below 256 sequencers
  service_at base (record { replicas = r; sequencers = s; clients = 1; controllers = MAX_CONTROLLERS; observers = 0 })
