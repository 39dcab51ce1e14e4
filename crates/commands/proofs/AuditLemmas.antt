-- An audit that was not begun.
use Rattle.std.proofs.Common.{ℕ, true, List, Option, Some, None}
use Rattle.audit.proofs.Ends.{unwritten}
use Rattle.audit.specs.Outcome.{WrotePrefix}
use Rattle.nop_types.specs.Meaning.{Meaning}
use Rattle.commands.specs.Audits.{AuditEnds, PassesTrace}
use Rattle.commands.specs.declared.status.Status.TheVariants as statuses

pub unaudited : {S : Type 0} (m : Meaning S) (bytes h : Option (List ℕ)) → AuditEnds m bytes bytes h h statuses.NoMemory
unaudited m bytes h = unwritten m bytes h

pub never_refuted : {S : Type 0} (m : Meaning S) (bytes : Option (List ℕ)) → PassesTrace m bytes statuses.NoMemory
never_refuted m None = tt
never_refuted m (Some bytes) = λ trace is. cc
