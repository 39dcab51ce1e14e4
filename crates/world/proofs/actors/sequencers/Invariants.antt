use Rattle.std.proofs.Common.{◌≡◌}
use Rattle.std.specs.Prelude.{map}
use Rattle.sequencer.specs.SequencerSteps as sequencer
use Rattle.world.specs.SeatOutcomes.{seated_of}
use Rattle.world.specs.WorldSteps.{numbered_seats}
use Rattle.world.proofs.actors.sequencers.Given as goal

abbrev pub invariant-loop-number : goal.invariant-loop-number
invariant-loop-number l = map (seated_of (λ s. s.state)) l.seats.items ≡ numbered_seats sequencer.opening l.number
