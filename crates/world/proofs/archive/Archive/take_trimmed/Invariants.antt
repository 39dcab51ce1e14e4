use Rattle.std.proofs.Common.{◌≡◌, ◌++◌}
use Rattle.world.specs.Archive.{with_outs}
use Rattle.world.specs.Untrimmed.{untrimmed}
use Rattle.world.proofs.archive.Archive.take_trimmed.Given as goal

-- the archive with what is left is that with all, and so is the rest
abbrev pub invariant-loop-out : goal.invariant-loop-out
invariant-loop-out l =
    record {
      archive : with_outs l.self l.out-iterator.rest.items ≡ with_outs l.fn.self l.fn.outs;
      rest : l.rest ++ untrimmed l.out-iterator.rest.items ≡ untrimmed l.fn.outs;
    }
