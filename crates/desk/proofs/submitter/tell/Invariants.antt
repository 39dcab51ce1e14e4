use Rattle.std.proofs.Common.{◌≡◌, ◌++◌}
use Rattle.desk.specs.Submitters.{held_by, labels}
use Rattle.desk.proofs.submitter.tell.Given as goal

-- what is held and told with the rest is that with all
abbrev pub invariant-loop-out : goal.invariant-loop-out
invariant-loop-out l =
    record {
      held : held_by l.held l.out-iterator.rest.items ≡ held_by l.fn.held l.fn.outs.items;
      told : l.told.items ++ labels l.core l.held l.out-iterator.rest.items ≡ l.fn.told.items ++ labels l.core l.fn.held l.fn.outs.items;
    }
