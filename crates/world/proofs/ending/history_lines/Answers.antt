use Rattle.std.proofs.Common.{rules}
use Rattle.nop_types.specs.Lists.{IsPrefixOf}
use Rattle.world.proofs.ending.history_lines.Goals as goal

pub returns-in_err-member_line-clause-err : goal.returns-in_err-member_line-clause-err
returns-in_err-member_line-clause-err c =
    let all : IsPrefixOf c.args.to.now.items c.member_line.new.to.items =
    rw c.in_err-member_line.ensures.err c.loop-i.invariant.begins in
    search rules
