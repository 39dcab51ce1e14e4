use Rattle.std.proofs.Common.{◌≡◌, ◌++◌}
use Rattle.desk.specs.Submitters.{labelled}
use Rattle.desk.proofs.submitter.tell_for.Given as goal

abbrev pub invariant-loop-out : goal.invariant-loop-out
invariant-loop-out l =
    l.told.items ++ labelled l.core l.ticket l.out-iterator.rest.items ≡ l.fn.told.items ++ labelled l.core l.ticket l.fn.outs.items
