use Rattle.world.proofs.StateLines.{entries_next, entries_end}
use Rattle.world.proofs.state_lines.put_entries.Goals as goal

pub loop-i-preserved : goal.loop-i-preserved
loop-i-preserved c =
    entries_next c.args.replica c.loop-i.i c.args.entries.now c.index-entries-i.result c.loop-i.to.items c.entry_line.new.to.items _
    c.loop-i-test.true c.index-entries-i.is c.in_ok-entry_line.ensures.ok c.loop-i.invariant

pub returns : goal.returns
returns c = entries_end c.args.replica c.loop-i.i c.args.entries.now c.loop-i.to.items _ c.loop-i-test.false c.loop-i.invariant
