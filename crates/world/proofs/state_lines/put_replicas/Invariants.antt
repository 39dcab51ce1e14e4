use Rattle.std.proofs.Common.{◌≡◌, ◌++◌, drop}
use Rattle.std.specs.Prelude.{map}
use Rattle.world.specs.SeatOutcomes.{seated_of}
use Rattle.world.specs.StateLines.{replicas_text}
use Rattle.world.proofs.state_lines.put_replicas.Given as goal

-- what was put and what is left are all
abbrev pub invariant-loop-i : goal.invariant-loop-i
invariant-loop-i g l = l.to.items ++ replicas_text l.archive l.i (map (seated_of (λ r. r.state)) (drop l.i l.seats))
    ≡ l.initial.to.items ++ replicas_text l.archive 0 (map (seated_of (λ r. r.state)) l.seats)
