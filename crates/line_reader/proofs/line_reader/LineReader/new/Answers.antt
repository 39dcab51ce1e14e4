use Rattle.std.proofs.Common.{arith, false}
use Rattle.line_reader.proofs.Firsts.{undecided_empty}
use Rattle.line_reader.proofs.line_reader.LineReader.new.Goals as goal

pub invariant_of-result : goal.invariant_of-result
invariant_of-result c = record {
  first = rw c.new.ensures.items (undecided_empty c.args.most 0 false);
  within = omega arith;
}
