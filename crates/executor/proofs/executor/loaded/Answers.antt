use Rattle.std.proofs.Common.{Some}
use Rattle.executor.proofs.UndoLemmas.{beginning_kept}
use Rattle.executor.proofs.executor.loaded.Goals as goal

pub returns-clause-kept : goal.returns-clause-kept
returns-clause-kept g c = beginning_kept g.H.Host.meaning (Some c.args.checkpoint.now) c.host.ensures.fits
