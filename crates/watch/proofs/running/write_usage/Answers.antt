use Rattle.watch.specs.Ending.{usage_line}
use Rattle.watch.proofs.running.write_usage.Goals as goal

pub returns-clause-err : goal.returns-clause-err
unfolding usage_line
returns-clause-err g c = rw c.as_bytes.ensures.value at c.write_all.ensures.err
