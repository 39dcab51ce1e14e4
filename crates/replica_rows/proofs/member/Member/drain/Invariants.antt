use Rattle.std.proofs.Common.{◌≡◌, ◌≤◌}
use Rattle.nop_types.specs.Logs.{Trimmed, unsynced}
use Rattle.replica_rows.specs.Within.{Runs}
use Rattle.replica_state.specs.Sends.{then_do}
use Rattle.replica_state.specs.Moves.{drain}
use Rattle.replica_rows.proofs.member.Member.drain.Given as goal

-- draining from here is draining from the start, and each turn fills a slot above the sync point
abbrev pub invariant-loop : goal.invariant-loop
invariant-loop g l =
    record {
      runs : Runs g.H.Host l.self.state l.self.executor;
      goes : then_do (l.self.state, l.self.sends) (drain g.H.Host.meaning Trimmed) ≡ then_do (l.initial.self.state, l.initial.self.sends)
          (drain g.H.Host.meaning Trimmed);
      filled : l.counter ≤ unsynced Trimmed l.self.state.log;
    }
