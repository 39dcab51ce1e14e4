-- How many actors there are.
use Rattle.std.specs.Prelude.{ℕ, Bool, ◌%◌, ◌==◌, ◌&&◌, nat_lt, nat_le}
use Rattle.nop_types.specs.declared.limits.TheConstants.{MAX_REPLICAS, MAX_SEQUENCERS, MAX_CLIENTS, MAX_CONTROLLERS, MAX_OBSERVERS}

pub record Configuration : Type 0 where
  pub replicas : ℕ
  pub sequencers : ℕ
  pub clients : ℕ
  pub controllers : ℕ
  pub observers : ℕ

-- an odd number of replicas, and each count within its limit; there may be no observers
abbrev pub is_configuration : Configuration → Bool
is_configuration c =
    (c.replicas % 2 == 1) && (nat_le c.replicas
    MAX_REPLICAS && (nat_lt 0 c.sequencers && (nat_le c.sequencers
    MAX_SEQUENCERS && (nat_lt 0 c.clients && (nat_le c.clients
    MAX_CLIENTS && (nat_lt 0 c.controllers && (nat_le c.controllers
    MAX_CONTROLLERS && nat_le c.observers MAX_OBSERVERS)))))))
