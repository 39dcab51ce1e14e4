use Rattle.std.proofs.Common.{◌≡◌, ◌≤◌, ◌++◌}
use Rattle.nop_types.specs.Logs.{Trimmed, length_of}
use Rattle.executor.specs.Running.{reached}
use Rattle.replica_rows.specs.Within.{Runs}
use Rattle.replica_state.specs.Replies.{replies_above}
use Rattle.replica_rows.proofs.member.Member.replies_above.Given as goal

-- what was replied, and the replies for the slots that are left
abbrev pub invariant-loop-at : goal.invariant-loop-at
invariant-loop-at g l =
    record {
      runs : Runs g.H.Host l.self.state l.self.executor;
      state : l.self.state ≡ l.initial.self.state;
      ends : l.at-end ≡ length_of Trimmed l.self.state.log;
      kept : l.self.state.log.sync_point ≤ l.at;
      behind : reached l.self.executor ≤ l.at;
      replied :
          l.self.sends ++ replies_above g.H.Host.meaning Trimmed l.initial.self.state l.at
          ≡ l.initial.self.sends ++ replies_above g.H.Host.meaning Trimmed l.initial.self.state l.slot;
    }
