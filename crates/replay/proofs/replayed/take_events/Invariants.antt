use Rattle.std.proofs.Common.{◌≡◌, ◌≤◌, ◌<◌}
use Rattle.std.specs.Prelude.{IsSome}
use Rattle.nop_types.specs.declared.limits.TheConstants.{MAX_LINES}
use Rattle.replay.specs.Progress.{GoesOn}
use Rattle.replay.proofs.replayed.take_events.Given as goal

abbrev pub ghost-next_event : goal.ghost-next_event
ghost-next_event g a = g.start

abbrev pub invariant-loop-turn : goal.invariant-loop-turn
invariant-loop-turn g l =
    record {
      going : GoesOn g.H.Host.meaning g.start (g.S.Source.left l.source) (g.K.Sink.held l.sink) l.pending.items l.reader l.world.state;
      opened : IsSome l.reader.header;
      lines : l._turn < l.reader.line;
      most : l.reader.line ≤ MAX_LINES;
      reads : g.S.Source.fault_count l.source ≡ g.S.Source.fault_count l.fn.source;
      count : g.K.Sink.fault_count l.sink ≡ g.K.Sink.fault_count l.fn.sink;
    }
