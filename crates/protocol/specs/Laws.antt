-- What is claimed of the protocol.
use Rattle.std.specs.Prelude.{◌≡◌, ℕ, ◌+◌, ◌*◌, List}
use Rattle.nop_types.specs.Configuration.{Configuration}
use Rattle.nop_types.specs.Meaning.{Meaning}
use Rattle.nop_types.specs.Views.{AtMost}
use Rattle.protocol.specs.Conf.{Conf, opening}
use Rattle.protocol.specs.Evolves.{Evolves}
use Rattle.protocol.specs.Invariant.{Inv}
use Rattle.protocol.specs.Runs.{Move, run, MayAll}

-- of 2 f + 1 replicas
abbrev pub OpeningMeets : {S : Type 0} → Meaning S → Type 0
OpeningMeets m = (f : ℕ) (config : Configuration) → config.replicas ≡ 2 * f + 1 → Inv m f (opening config)

abbrev pub EvolvesToItself : {S : Type 0} → Meaning S → Type 0
EvolvesToItself m = (f : ℕ) (c : Conf) → Inv m f c → Evolves f c c

abbrev pub EvolvesOn : Type 0
EvolvesOn = (f : ℕ) (a b c : Conf) → Evolves f a b → Evolves f b c → Evolves f a c

-- whatever moves are made, each where it may be made
abbrev pub MovesKeep : {S : Type 0} → Meaning S → Type 0
MovesKeep m = (f : ℕ) (c : Conf) (xs : List Move) → Inv m f c → MayAll m f c xs
    → Inv m f (run m f c xs) × Evolves f c (run m f c xs)

-- no replica's view is lower than it was, nor its last normal view
pub record ViewsRise (c d : Conf) : Type 0 where
  pub view : (r : ℕ) → AtMost (c.replicas r).view (d.replicas r).view
  pub last_normal : (r : ℕ) → AtMost (c.replicas r).last_normal (d.replicas r).last_normal

abbrev pub ViewsNeverFall : {S : Type 0} → Meaning S → Type 0
ViewsNeverFall m = (f : ℕ) (c : Conf) (xs : List Move) → Inv m f c → MayAll m f c xs → ViewsRise c (run m f c xs)
