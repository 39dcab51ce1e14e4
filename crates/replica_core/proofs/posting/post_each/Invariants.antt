use Rattle.std.proofs.Common.{◌≡◌, ◌+◌, ◌++◌}
use Rattle.replica_state.specs.Sends.{message_count}
use Rattle.replica_core.specs.Posting.{posted}
use Rattle.replica_core.proofs.posting.post_each.Given as goal

-- what came so far is posted, and the rest is left
abbrev pub invariant-loop-sending : goal.invariant-loop-sending
invariant-loop-sending l = record {
  number : l.number ≡ l.messages + message_count l.yielded;
  out : l.out ≡ l.fn.out ++ posted l.messages l.yielded;
  left : l.yielded ++ l.sending-iterator.rest.items ≡ l.fn.sends.items;
}
