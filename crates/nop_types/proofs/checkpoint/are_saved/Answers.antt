use Rattle.std.proofs.Common.{arith}
use Rattle.std.proofs.lemmas.Grind.{common_steps}
use Rattle.nop_types.proofs.SavedClients.{saved_more}
use Rattle.nop_types.proofs.checkpoint.are_saved.Goals as goal

pub loop-saved-preserved : goal.loop-saved-preserved
loop-saved-preserved c = (
  grind (arith, common_steps),
  saved_more c.args.clients.now c.loop-saved.saved-index c.saved-item.result c.loop-saved-test.true c.saved-item.is
      c.typed.ensures c.loop-saved.invariant.1,
)
