-- The lanes are acknowledged one by one.
use Rattle.std.proofs.Common.{◌≡◌, ℕ, ◌+◌, List, ap, ◌∙◌}
use Rattle.resending.specs.Receiving.{no_receipt, settled, with_answer}
use Rattle.resending.specs.declared.receipts.Receipt.{Receipt}
use Rattle.resending.specs.declared.receipts.Receipts.{Receipts}
use Rattle.udp_ports.proofs.EachDone.{first_done, one_done}

pub one_settled : (all now : Receipts) (lane : ℕ) → now ≡ record all { lanes = first_done settled lane all.lanes }
    → with_answer lane now ≡ record all { lanes = first_done settled (lane + 1) all.lanes }
one_settled all now lane e =
    ap (with_answer lane) e ∙ ap (λ (lanes : List Receipt). record all { lanes = lanes }) (one_done settled all.lanes lane no_receipt)
