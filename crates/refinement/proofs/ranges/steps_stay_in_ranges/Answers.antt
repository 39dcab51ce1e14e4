use Rattle.refinement.proofs.ClientRanges.{clients_stay_in_ranges}
use Rattle.refinement.proofs.ControllerRanges.{controllers_stay_in_ranges}
use Rattle.refinement.proofs.SentRanges.{replicas_stay_in_ranges}
use Rattle.refinement.proofs.SequencerRanges.{sequencers_stay_in_ranges}
use Rattle.refinement.proofs.ranges.steps_stay_in_ranges.Goals as goal

pub returns-clause-clients : goal.returns-clause-clients
returns-clause-clients g c = clients_stay_in_ranges

pub returns-clause-sequencers : goal.returns-clause-sequencers
returns-clause-sequencers g c = λ m. sequencers_stay_in_ranges m

pub returns-clause-controllers : goal.returns-clause-controllers
returns-clause-controllers g c = controllers_stay_in_ranges

pub returns-clause-replicas : goal.returns-clause-replicas
returns-clause-replicas g c = λ m. replicas_stay_in_ranges m
