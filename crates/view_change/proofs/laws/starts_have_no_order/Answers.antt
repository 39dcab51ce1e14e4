use Rattle.nop_types.specs.Logs.{Trimmed}
use Rattle.log_merge.proofs.Orders.{next_of_permuted, kept_of_permuted}
use Rattle.view_change.proofs.laws.starts_have_no_order.Goals as goal

pub returns : goal.returns
returns c w cs ds distinct same i = record {
  next = next_of_permuted cs ds same w i;
  log = kept_of_permuted cs ds same Trimmed distinct i;
}
