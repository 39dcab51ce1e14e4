use Rattle.std.proofs.Common.{rules}
use Rattle.executor.proofs.UndoLemmas.{leaves}
use Rattle.executor.proofs.moves.leave.Goals as goal

pub returns-in-Some-clause-execution : goal.returns-in-Some-clause-execution
returns-in-Some-clause-execution g c = search (rules, leaves)
