use Rattle.std.proofs.Common.{◌≡◌, take}
use Rattle.std.specs.Prelude.{map}
use Rattle.nop_types.specs.Checkpoints.{saved_account}
use Rattle.nop_types.proofs.checkpoint.Checkpoint.try_clone_clients.Given as goal

-- the clients that were copied so far
abbrev pub invariant-loop-client : goal.invariant-loop-client
invariant-loop-client l = map saved_account l.clients.items ≡ map saved_account (take l.client-index l.client-items)
