use Rattle.std.proofs.Common.{◌≡◌, take}
use Rattle.std.specs.Prelude.{map}
use Rattle.nop_types.specs.Checkpoints.{saved_account}
use Rattle.client_table.proofs.accounts.Accounts.saved.Given as goal

-- the clients up to the place are saved
abbrev pub invariant-loop-entry : goal.invariant-loop-entry
invariant-loop-entry l =
    map saved_account l.clients.items ≡ take l.entry-index l.self
