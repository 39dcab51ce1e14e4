use Rattle.std.proofs.Common.{length}
use Rattle.std.specs.Prelude.{map, nat_le, ◌&&◌}
use Rattle.std.proofs.lemmas.Bool.{and_parts}
use Rattle.nop_types.specs.declared.limits.TheConstants.{MAX_HOST_BYTES, MAX_SERVED}
use Rattle.nop_types.specs.Checkpoints.{saved_account, are_saved}
use Rattle.nop_types.proofs.checkpoint.Checkpoint.into_parts.Goals as goal

pub returns-clause-saved : goal.returns-clause-saved
returns-clause-saved c =
    let clients = map saved_account c.self.inside.clients.items in
    let within = and_parts (nat_le (length c.self.inside.host) MAX_HOST_BYTES) (nat_le (length clients) MAX_SERVED && are_saved 0 clients)
    c.self.invariant.limits in
    (and_parts (nat_le (length clients) MAX_SERVED) (are_saved 0 clients) within.1).1
