use Rattle.std.proofs.Common.{length}
use Rattle.op_table.proofs.from_words.+by_name.Given as goal

abbrev pub decreases-by_name : goal.decreases-by_name
decreases-by_name l = length l.rows.now
