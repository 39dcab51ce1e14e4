use Rattle.order_search.specs.Reads.{AreReads}
use Rattle.order_search.proofs.reads.reads_of.Given as goal
use Rattle.pairs.specs.Said.{said_by}

abbrev pub invariant-loop-i : goal.invariant-loop-i
invariant-loop-i g l = AreReads g.P.Service.Host.meaning (said_by l.claims) l.i l.reads.items
