use Rattle.std.proofs.Common.{length}
use Rattle.op_table.proofs.to_words.+by_kind.Given as goal

abbrev pub decreases-by_kind : goal.decreases-by_kind
decreases-by_kind l = length l.rows.now
