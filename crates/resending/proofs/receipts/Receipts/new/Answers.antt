use Rattle.std.proofs.Common.{◌≡◌, refl}
use Rattle.std.proofs.lemmas.List.Elements.{All-replicate}
use Rattle.resending.specs.Receiving.{no_receipt}
use Rattle.resending.specs.declared.lanes.TheConstants.{LANES}
use Rattle.resending.specs.declared.receipts.Receipt.{Receipt}
use Rattle.resending.proofs.receipts.Receipts.new.Goals as goal

pub returns-clause-lanes : goal.returns-clause-lanes
returns-clause-lanes c = All-replicate (λ (r : Receipt). r ≡ no_receipt) LANES no_receipt refl
