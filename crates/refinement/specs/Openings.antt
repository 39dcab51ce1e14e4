-- Where the protocol and the actors begin.
use Rattle.std.specs.Prelude.{◌≡◌, ◌<◌, ◌+◌, ◌*◌, ℕ, []}
use Rattle.nop_types.specs.Configuration.{Configuration}
use Rattle.nop_types.specs.Meaning.{Meaning}
use Rattle.client_quorum.specs.ClientSteps as client
use Rattle.replica_state.specs.State as replica
use Rattle.sequencer.specs.SequencerSteps as sequencer
use Rattle.session_control.specs.ControllerSteps as controller
use Rattle.protocol.specs.Conf.{opening}
use Rattle.refinement.specs.Controllers.{control_of}
use Rattle.refinement.specs.Ranges.{AllFit}
use Rattle.refinement.specs.Replicas.{Matches}

-- the protocol's opening has each actor in its opening state, clients without an op that waits; nothing was sent that is out of its ranges
pub record OpensAs {S : Type 0} (m : Meaning S) (f : ℕ) (config : Configuration) : Type 0 where
  pub replicas : (r : ℕ) → r < 2 * f + 1 → Matches m f (opening config) r (replica.opening config r)
  pub sequencers : (j : ℕ) → (opening config).sequencers j ≡ sequencer.opening j
  pub clients : (k : ℕ) → (opening config).clients k ≡ client.opening config k []
  pub controllers : (k : ℕ) → (opening config).controllers k ≡ control_of (controller.opening config k)
  pub sent : AllFit (opening config)

abbrev pub OpeningsMatch : {S : Type 0} → Meaning S → Type 0
OpeningsMatch m = (f : ℕ) (config : Configuration) → config.replicas ≡ 2 * f + 1 → OpensAs m f config
