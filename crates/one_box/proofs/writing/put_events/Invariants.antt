use Rattle.std.proofs.Common.{◌≡◌, ◌++◌, take}
use Rattle.std.specs.List.{All, flat_map}
use Rattle.printed_runs.specs.Printing.{event_line}
use Rattle.one_box.specs.Text.{IsReadBack}
use Rattle.one_box.proofs.writing.put_events.Given as goal

-- so many events were put, and the line of each means it
abbrev pub invariant-loop-event : goal.invariant-loop-event
invariant-loop-event l =
    (l.to.items ≡ l.initial.to.items ++ flat_map event_line (take l.event-index l.events))
    × All IsReadBack (take l.event-index l.events)
