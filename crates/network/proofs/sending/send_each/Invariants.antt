use Rattle.std.proofs.Common.{◌≡◌, ◌++◌, take}
use Rattle.network.specs.Network.{sends_of}
use Rattle.network.proofs.sending.send_each.Given as goal

-- the datagrams of the outputs so far were sent
abbrev pub invariant-loop-out : goal.invariant-loop-out
invariant-loop-out l = l.network ≡ l.initial.network ++ sends_of l.from (take l.out-index l.outs)
