-- A log in two parts, without where they lie in memory.
use Rattle.std.specs.Prelude.{List, ◌++◌}
use Rattle.nop_types.specs.declared.request.Entry.{Entry}
use Rattle.world.specs.declared.main_log.LogParts.{LogParts}

abbrev pub parts_of : LogParts → List Entry
parts_of l = l.synchronised.now ++ l.kept.now
