-- How many actors a configuration may have.
use Rattle.std.proofs.Common.{◌≤◌, arith, ◌≡◌, ◌<◌, ℕ, true}
use Rattle.std.specs.Prelude.{IsTrue}
use Rattle.nop_types.specs.declared.limits.TheConstants.{MAX_REPLICAS}
use Rattle.nop_types.specs.Configuration.{Configuration, is_configuration}

pub is_configuration-few_replicas : (config : Configuration) → IsTrue (is_configuration config) → config.replicas ≤ MAX_REPLICAS
is_configuration-few_replicas config is = grind (arith, is)

pub few_observers : (config : Configuration) (n : ℕ) → is_configuration config ≡ true → n < config.observers → n ≤ 3
few_observers config n is less = grind (arith, is, less)
