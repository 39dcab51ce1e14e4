use Rattle.execution_laws.proofs.Tables.{accounts_are_of_log, kept_at_most}
use Rattle.execution_laws.proofs.execution.accounts_are_of_log.Goals as goal

pub returns-clause-ids : goal.returns-clause-ids
returns-clause-ids g c = accounts_are_of_log

pub returns-clause-at_most : goal.returns-clause-at_most
returns-clause-at_most g c = kept_at_most
