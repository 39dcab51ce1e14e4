-- How many actors a configuration has.
use Rattle.std.proofs.Common.{◌≡◌, ◌+◌, ◌*◌, ◌≤◌, arith}
use Rattle.std.specs.Prelude.{◌==◌, ◌%◌, ◌/◌, IsTrue}
use Rattle.std.proofs.lemmas.Bool.{and_parts, eqb-true}
use Rattle.nop_types.specs.declared.limits.TheConstants.{MAX_CONTROLLERS}
use Rattle.nop_types.specs.Configuration.{Configuration, is_configuration}

-- with f, the half of the replicas
pub record Counts (config : Configuration) : Type 0 where
  pub replicas : config.replicas ≡ 2 * (config.replicas / 2) + 1
  pub clients : config.clients ≤ 16
  pub controllers : config.controllers ≤ MAX_CONTROLLERS

pub counts_from : (config : Configuration) → IsTrue (is_configuration config) → Counts config
counts_from c e =
    let odd = eqb-true (c.replicas % 2) 1 (and_parts (c.replicas % 2 == 1) _ e).0 in
    record { replicas = omega (arith, odd); clients = grind (arith, e); controllers = grind (arith, e) }
