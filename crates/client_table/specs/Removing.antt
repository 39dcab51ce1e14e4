-- What undoes a kept result, as the code has it.
use Rattle.client_table.specs.declared.account.Removed as code
use Rattle.client_table.specs.Dropping.{results_of}
use Rattle.client_table.specs.Table.{Removed}

abbrev pub removed_of : code.Removed → Removed
removed_of r = record { greatest = r.greatest; dropped = results_of r.dropped }
