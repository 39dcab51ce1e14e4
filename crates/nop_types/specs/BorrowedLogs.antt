-- A log without where its parts lie in memory.
use Rattle.std.specs.Option.{option_copied}
use Rattle.nop_types.specs.declared.log.LogRef.{LogRef}
use Rattle.nop_types.specs.Logs.{Log}

abbrev pub log_of : LogRef → Log
log_of l = record { sync_point = l.sync_point; checkpoint = option_copied l.checkpoint; entries = l.entries.now }
