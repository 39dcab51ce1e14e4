use Rattle.std.proofs.Common.{◌≡◌}
use Rattle.world.specs.Archive.{with_outs}
use Rattle.world.proofs.archive.Archive.keep_all.Given as goal

-- the archive with what is left is that with all
abbrev pub invariant-loop-out : goal.invariant-loop-out
invariant-loop-out l = with_outs l.self l.out-iterator.rest.items ≡ with_outs l.fn.self l.fn.outs.items
