use Rattle.executor.proofs.UndoLemmas.{goes_back, entered_kept}
use Rattle.executor.proofs.laws.entry_is_undone.Goals as goal

pub returns-clause-undone : goal.returns-clause-undone
returns-clause-undone g c = goes_back g.H.Host.meaning g.H.Host.undo_of g.H.Host.undone g.met.H.Host.undoes

pub returns-clause-stays : goal.returns-clause-stays
returns-clause-stays g c = entered_kept g.H.Host.meaning
