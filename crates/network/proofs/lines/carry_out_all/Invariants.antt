use Rattle.std.proofs.Common.{◌≡◌, ◌++◌, take, length}
use Rattle.network.specs.LineCounts.{Grows}
use Rattle.network.specs.Network.{sends_of, lines_from}
use Rattle.network.proofs.lines.carry_out_all.Given as goal

-- the outputs so far were carried out
abbrev pub invariant-loop-out : goal.invariant-loop-out
invariant-loop-out l =
    record {
      network : l.network ≡ l.initial.network ++ sends_of l.from (take l.out-index l.outs);
      lines : Grows l.initial.tally l.tally (lines_from l.from (length l.initial.network) (take l.out-index l.outs));
    }
