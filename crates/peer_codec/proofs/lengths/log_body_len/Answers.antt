use Rattle.std.proofs.Common.{arith}
use Rattle.nop_types.specs.BorrowedLogs.{log_of}
use Rattle.peer_codec.proofs.SpelledLengths.{view_change_len, start_view_len}
use Rattle.peer_codec.proofs.lengths.log_body_len.Goals as goal

pub returns-in-ViewChange-clause-exact : goal.returns-in-ViewChange-clause-exact
returns-in-ViewChange-clause-exact c =
    let b = c.in-ViewChange in
    let len = view_change_len b.last_normal b.next (log_of b.log) in
    rw b.is (omega (arith, len, c.log_len.ensures.exact))

pub returns-in-StartView-clause-exact : goal.returns-in-StartView-clause-exact
returns-in-StartView-clause-exact c =
    let b = c.in-StartView in
    let len = start_view_len b.next (log_of b.log) in
    rw b.is (omega (arith, len, c.log_len-in-StartView.ensures.exact))
