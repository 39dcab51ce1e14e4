use Rattle.std.proofs.Common.{ap, is_some}
use Rattle.std.specs.Prelude.{◌==◌}
use Rattle.std.specs.FinMap as finite
use Rattle.oum_receiver.proofs.Counts.{len_without}
use Rattle.oum_receiver.proofs.Stamps.{front_found}
use Rattle.oum_receiver.proofs.laws.message_leaves_the_queue.Goals as goal

pub returns : goal.returns
returns c =
    λ r request is.
    len_without r.queued r.next (ap is_some (front_found (finite.len r.queued == 0) (finite.get r.queued r.next) request is))
