use Rattle.std.proofs.Common.{length}
use Rattle.op_table.proofs.to_words.+result_in.Given as goal

abbrev pub decreases-result_in : goal.decreases-result_in
decreases-result_in l = length l.rows.now
