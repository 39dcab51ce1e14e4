use Rattle.std.proofs.Common.{◌≡◌, ◌++◌, drop}
use Rattle.std.specs.Prelude.{map}
use Rattle.world.specs.SeatOutcomes.{seated_of}
use Rattle.world.specs.StateLines.{observers_text}
use Rattle.world.proofs.state_lines.put_observers.Given as goal

-- what was put and what is left are all
abbrev pub invariant-loop-i : goal.invariant-loop-i
invariant-loop-i g l = l.to.items ++ observers_text l.i (map (seated_of (λ o. o.state)) (drop l.i l.seats))
    ≡ l.initial.to.items ++ observers_text 0 (map (seated_of (λ o. o.state)) l.seats)
