use Rattle.std.proofs.Common.{length}
use Rattle.op_table.proofs.from_words.+fields.Given as goal

abbrev pub decreases-fields : goal.decreases-fields
decreases-fields l = length l.shapes.now
