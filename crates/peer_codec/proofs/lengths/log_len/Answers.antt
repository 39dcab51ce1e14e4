use Rattle.std.proofs.Common.{arith}
use Rattle.nop_types.specs.BorrowedLogs.{log_of}
use Rattle.peer_codec.proofs.SpelledLengths.{log_len}
use Rattle.peer_codec.proofs.lengths.log_len.Goals as goal

pub returns-clause-exact : goal.returns-clause-exact
returns-clause-exact c = omega (arith, log_len (log_of c.args.log), c.optional_len.ensures.exact, c.entries_len.ensures.exact)
