-- A round as the code keeps it.
use Rattle.slot_votes.specs.declared.synchronisation.Round as code
use Rattle.slot_votes.specs.Synchronisation.{Round}

abbrev pub round_given : code.Round → Round
round_given x = record { len = x.len; votes = x.votes }
